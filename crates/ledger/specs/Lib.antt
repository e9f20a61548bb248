pub mod Decisions
pub mod Calls
pub mod Laws
pub mod Lost
