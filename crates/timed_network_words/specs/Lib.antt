pub mod Laid
pub mod LaidSaid
