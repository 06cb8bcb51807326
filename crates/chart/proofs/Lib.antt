pub mod Painting
pub mod Drawing
pub mod Laying
