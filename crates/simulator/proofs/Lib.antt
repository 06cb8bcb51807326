pub mod Waiting
pub mod Still
pub mod Passing
pub mod Attempts
pub mod Ticking
pub mod Turning
pub mod Idling
pub mod Looping
