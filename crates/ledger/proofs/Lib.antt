pub mod Gifts
pub mod Memory
pub mod Decided
pub mod Undone
pub mod Missing
