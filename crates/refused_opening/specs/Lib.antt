pub mod Counting
pub mod Promised
pub mod PromisedSaid
