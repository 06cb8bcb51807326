pub mod Front
pub mod Laid
