pub mod Ranges
pub mod Walk
pub mod Passing
pub mod Told
pub mod ToldSaid
