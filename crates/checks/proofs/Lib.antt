pub mod Sending
pub mod Swept
pub mod Questions
pub mod Banded
pub mod Listening
pub mod Answers
pub mod Earlier
pub mod Single
