pub mod Kinds
pub mod Place
