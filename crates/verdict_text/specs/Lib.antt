pub mod VerdictText
pub mod Cases
