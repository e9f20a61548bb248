pub mod Lowest
pub mod Judging
