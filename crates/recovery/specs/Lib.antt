pub mod Rising
pub mod Runs
pub mod Laws
pub mod Alone
pub mod Replays
pub mod Machines
