pub mod Fours
pub mod Counted
pub mod Outs
pub mod Cutting
pub mod Telling
pub mod Promised
