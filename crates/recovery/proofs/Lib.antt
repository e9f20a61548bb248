pub mod Sounding
pub mod Journals
pub mod Rises
pub mod Sizes
pub mod Redone
pub mod Alone
