pub mod Comings
pub mod Lives
pub mod Seen
pub mod Restarts
pub mod Turns
pub mod Rises
pub mod Found
