pub mod Recurrence
pub mod RecurrenceCases
pub mod Rows
pub mod PairCases
pub mod PairSaid
