pub mod Walking
pub mod Searching
pub mod Rounds
pub mod Telling
