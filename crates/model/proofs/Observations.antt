-- The observations as bytes.
-- To cite: `All.observations_read_at` and `All.observations_read` (what the calls `run_apart` and `run` wrote, read back 36 bytes at a time, are the run's observations with their ticks).
pub mod Size
pub mod One
pub mod All
