pub mod Signing
pub mod Wording
pub mod Deciding
pub mod Lining
