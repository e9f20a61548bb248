pub mod Anything
pub mod Around
pub mod Bitwise
pub mod Blocks
pub mod Counts
pub mod Places
pub mod Runs
pub mod Same
