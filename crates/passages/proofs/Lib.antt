pub mod Laying
pub mod Bounds
pub mod Planning
