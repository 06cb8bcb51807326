pub mod Numbers
pub mod SiteNumbers
pub mod NumbersSaid
pub mod Versions
pub mod Listeners
pub mod CallsSaid
pub mod Names
