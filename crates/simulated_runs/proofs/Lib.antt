pub mod Calling
pub mod Counting
