pub mod OpeningText
pub mod Cases
