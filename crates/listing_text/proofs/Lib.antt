pub mod Named
pub mod Heads
