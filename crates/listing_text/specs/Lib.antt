pub mod StatementText
pub mod ListingText
pub mod ListingCases
