pub mod RunTo
pub mod RunToSaid
pub mod RefusedCases
