pub mod Moved
pub mod Between
pub mod Back
pub mod Running
