pub mod Front
pub mod ReadBack
pub mod Promised
pub mod Final
pub mod Refuses
