pub mod Words
pub mod Columns
pub mod Numbers
pub mod Cases
