pub mod Covered
pub mod Groups
pub mod Lowest
pub mod Parties
pub mod Rule
pub mod Seated
pub mod Taken
pub mod Undo
