pub mod Budgets
pub mod Exporting
pub mod Working
pub mod Room
