pub mod Stays
pub mod Telling
