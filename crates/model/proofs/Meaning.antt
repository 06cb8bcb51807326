-- Acceptance means it, on every path that keeps to the schedule, whether a run made it or not.
-- To cite: `Law.meant` (a component in its send window below the horizon has exactly one partner).
pub mod Step
pub mod Path
pub mod Heard
pub mod Pass
pub mod Present
pub mod Stays
pub mod Law
