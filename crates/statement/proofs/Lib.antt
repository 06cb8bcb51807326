pub mod Chain
pub mod Carries
