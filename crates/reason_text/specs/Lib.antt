pub mod ReasonText
pub mod Lines
pub mod Bounds
pub mod Cases
