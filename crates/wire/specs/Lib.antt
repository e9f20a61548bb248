pub mod Minds
pub mod Nets
pub mod Laws
