pub mod Staying
pub mod Naming
pub mod EdgeReasons
pub mod Laying
