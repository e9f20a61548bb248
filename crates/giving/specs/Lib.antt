pub mod Refusals
pub mod Channels
pub mod Posts
pub mod Receipts
pub mod Calls
pub mod Others
