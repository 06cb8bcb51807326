pub mod Ran
pub mod Reached
