pub mod Choice
pub mod Parties
pub mod Laws
