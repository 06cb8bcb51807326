pub mod Skim
pub mod EdgeItems
pub mod Sequence
