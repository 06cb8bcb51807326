pub mod Laying
pub mod Nodes
pub mod Sizes
pub mod Standing
pub mod Programs
pub mod Callers
