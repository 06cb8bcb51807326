pub mod Faults
pub mod Listening
