pub mod Header
pub mod Accepting
pub mod Numbered
pub mod Whole
pub mod Told
pub mod Named
