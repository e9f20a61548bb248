pub mod Worlds
pub mod Falls
pub mod Places
pub mod Answers
pub mod Promises
pub mod Lost
pub mod Promised
pub mod Runs
