pub mod Narrow
pub mod Said
pub mod Packets
pub mod Lives
