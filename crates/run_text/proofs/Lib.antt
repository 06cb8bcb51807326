pub mod Together
pub mod OffsetsTold
