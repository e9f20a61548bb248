pub mod Incoming
pub mod Grounds
pub mod Verdicts
pub mod Laws
