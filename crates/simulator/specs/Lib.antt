pub mod Answers
pub mod Tries
