pub mod Passages
pub mod Copied
pub mod Planned
