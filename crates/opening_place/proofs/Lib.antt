pub mod Stopped
pub mod Why
