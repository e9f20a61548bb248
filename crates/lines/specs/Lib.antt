pub mod Bytes
pub mod Fields
pub mod Reading
pub mod Frames
pub mod Hex
pub mod Laws
