pub mod Plays
pub mod Cases
