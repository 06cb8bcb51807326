pub mod Naming
pub mod Guarding
pub mod Stepping
pub mod Keeping
