pub mod Over
pub mod Named
pub mod Edges
pub mod Processes
pub mod Lengths
pub mod Rooms
