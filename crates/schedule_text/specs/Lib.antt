pub mod ScheduleText
pub mod PrintedCases
