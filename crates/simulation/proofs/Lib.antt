pub mod Ends
pub mod Enough
pub mod Counts
pub mod Turns
pub mod Pieces
pub mod Tried
