pub mod States
pub mod Changes
pub mod Views
pub mod Ready
