pub mod Commands
pub mod Cuts
pub mod MadeUps
pub mod Numbers
