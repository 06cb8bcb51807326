pub mod Answering
pub mod Translating
pub mod RunCalls
pub mod Spreading
