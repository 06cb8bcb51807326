-- The network's side of demand 3: along a schedule the network can always go on, and the path that it has gone says what is asked of it.
-- To cite: `Rules.step_is` (a step is what document 01's rules allow), `Ahead.partner` (a sender has its listener, in
-- the nodes' own clocks), `Order.comes_sorted` and `Whole.path_of` (the works that came, in the order of their ticks, are a path),
-- `Witness.passing_witness` (the path, read off). Lanes and the steps out stay inside.
pub mod Rules
pub mod Passage
pub mod Opening
pub mod Links
pub mod Lanes
pub mod Ways
pub mod Steps
pub mod Outs
pub mod Events
pub mod Reached
pub mod Says
pub mod Start
pub mod Passing
pub mod Partners
pub mod Witness
pub mod Order
pub mod Fill
pub mod Whole
pub mod Ahead
