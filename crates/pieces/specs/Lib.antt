pub mod Stretches
pub mod Parts
pub mod Memory
pub mod Cuts
pub mod Counts
pub mod Laws
