pub mod Ran
pub mod Spread
