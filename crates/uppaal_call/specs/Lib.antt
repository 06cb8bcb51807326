pub mod LaidText
pub mod CallCases
