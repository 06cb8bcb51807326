pub mod Runs
pub mod Ranges
pub mod Pieces
pub mod Answers
