pub mod VerdictCalled
pub mod Stops
pub mod StopSaid
