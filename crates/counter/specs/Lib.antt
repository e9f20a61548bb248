pub mod Requests
pub mod Tasks
pub mod Answers
