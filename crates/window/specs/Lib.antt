pub mod Views
pub mod Indexed
