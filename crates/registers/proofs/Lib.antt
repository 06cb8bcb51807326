pub mod Runs
pub mod Frames
pub mod Written
pub mod Puts
pub mod PutParts
pub mod PartsRead
