pub mod Airtime
pub mod Lent
pub mod Called
pub mod SiteCases
pub mod SiteSaid
