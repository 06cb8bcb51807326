pub mod Collected
pub mod Listing
pub mod Bounds
