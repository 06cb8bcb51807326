pub mod ByOp
pub mod Pairs
pub mod Start
pub mod Message
