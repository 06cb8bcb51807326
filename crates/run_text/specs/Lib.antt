pub mod RunText
pub mod Cases
