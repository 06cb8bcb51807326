-- What is said of tests, lists, numbers of two bytes, sums and places in bytes, whatever they are about. Every folder cites it; there is no law of
-- document 01 here.
pub mod Bools
pub mod Members
pub mod Words
pub mod Walk
pub mod Sums
