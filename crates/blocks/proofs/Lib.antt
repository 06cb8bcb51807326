pub mod Runs
pub mod Parts
pub mod Arcs
pub mod Blocks
