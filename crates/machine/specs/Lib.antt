pub mod Running
pub mod Chosen
