pub mod Filled
pub mod Going
