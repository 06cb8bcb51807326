pub mod Placed
pub mod Stored
pub mod Channels
pub mod Sought
pub mod Relabelled
pub mod Grown
pub mod Numbered
