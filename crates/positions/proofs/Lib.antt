pub mod Walking
pub mod Asking
pub mod Lighter
pub mod Answering
pub mod Calling
