pub mod Appended
pub mod Numerals
pub mod Lines
pub mod Blanks
pub mod Reading
