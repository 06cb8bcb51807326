pub mod Below
pub mod Bounds
pub mod Begins
pub mod Answering
pub mod Round
