pub mod Rest
pub mod Ops
pub mod Held
pub mod Trials
pub mod Steps
pub mod Sums
pub mod Moves
pub mod Effects
