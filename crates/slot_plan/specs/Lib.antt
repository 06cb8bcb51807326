pub mod Plan
pub mod PlanSchedule
pub mod PlanCases
pub mod PlanSaid
