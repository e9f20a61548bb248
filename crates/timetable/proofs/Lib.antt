pub mod Ordered
pub mod Same
