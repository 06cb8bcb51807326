pub mod ByKind
pub mod ByAction
pub mod Found
pub mod Callers
