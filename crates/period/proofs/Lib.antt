pub mod Walks
pub mod Joining
pub mod Longer
pub mod Likeness
pub mod Searches
pub mod Telling
pub mod Divided
pub mod Rounds
