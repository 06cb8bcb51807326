pub mod PlaceText
pub mod Cases
