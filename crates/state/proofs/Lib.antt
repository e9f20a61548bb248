pub mod Same
pub mod Searches
pub mod Held
pub mod Opens
