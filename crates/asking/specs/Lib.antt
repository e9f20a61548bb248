pub mod Told
pub mod Turns
pub mod Minds
pub mod Events
pub mod Ticks
pub mod Replies
pub mod Laws
pub mod Rounds
