-- Every later horizon (document 02, wish 14): where a state of all components comes again, the schedule goes on for ever as it went between the
-- two, 10 to 12 are passed to every horizon, and demand 3 holds.
-- To cite: `Every.endless` (with a pair, every horizon), `Every.shorter` (every horizon up to the table's own), `Count.count_step` (how many
-- passages), `Joint.none_by_rows`, `Joint.pair_by_rows` (the pair from three walks along the passages), `Parts` (a run to a horizon in parts, each a
-- period long, by the rows of the table's own schedule).
pub mod Move
pub mod Seam
pub mod Apart
pub mod Grow
pub mod Cut
pub mod Every
pub mod Count
pub mod Orbit
pub mod Found
pub mod Search
pub mod Upcoming
pub mod Joint
pub mod Counted
pub mod Index
pub mod Place
pub mod Agree
pub mod Calls
pub mod Beyond
pub mod ByRows
pub mod Shift
pub mod ShiftRun
pub mod Horizons
pub mod Sleeps
pub mod Turned
pub mod OwnCount
pub mod Parts
