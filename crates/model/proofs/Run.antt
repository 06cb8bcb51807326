-- Nodes and network together: every state of a run is held against the schedule, and so demand 3 holds.
-- To cite: `Apart.promised_apart` (demand 3 for nodes that wake apart, for every list of choices), `Together.together` and `Promise.promised` (its
-- case without offsets), `CallsApart` (the calls at a spread, and without), `Tied.Tied` (what holds of each state), `Few.few` (no more observations than passages),
-- `Ends.end_numbers` (the four ends), `Finished.finishes_apart` and `Finished.finishes_together` (the tick in each observation), `FinishTicks` (lists
-- of them).
pub mod Tied
pub mod Start
pub mod Node
pub mod Tick
pub mod Move
pub mod Statement
pub mod Listener
pub mod Send
pub mod Count
pub mod Path
pub mod Due
pub mod Choices
pub mod Promise
pub mod Few
pub mod Ends
pub mod OwnClock
pub mod Apart
pub mod Together
pub mod CallsApart
pub mod FinishTicks
pub mod Finished
