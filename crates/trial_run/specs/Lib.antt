pub mod OffsetList
pub mod Cases
