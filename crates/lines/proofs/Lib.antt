pub mod Layouts
pub mod Numbers
pub mod Pieces
pub mod ByKind
pub mod Bodies
pub mod Laws
pub mod Digits
