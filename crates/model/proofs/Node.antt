-- The node's side of demand 3: which phase of which passage a node is in, and where finishing its statement leads.
-- To cite: `Phase.phase_at` (by what it stands at, the phase and the next one); `Passage` for the start and the registers at each
-- entry, `Schedule` for late and due by the schedule.
pub mod Choosing
pub mod Ageing
pub mod Working
pub mod Phase
pub mod Facts
pub mod Listening
pub mod Passage
pub mod Refused
pub mod Schedule
