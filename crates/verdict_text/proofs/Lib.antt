pub mod Meetings
pub mod Margins
pub mod Together
