pub mod Moved
pub mod Back
pub mod Bounds
pub mod InPart
pub mod Ending
pub mod Onward
pub mod Turns
pub mod Begins
