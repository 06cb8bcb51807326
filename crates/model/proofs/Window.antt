-- The window of an edge, the edge taken and the passage opened, each without its search.
-- To cite: `Interval.is_window` (ready and end are the least and the last tick that hold), `Choice.choice_is` and `choice_none` (least ready, then lowest
-- number), `Looked.looked_is` and `looked_enough` (how many edges are looked at; the others change nothing), `Opening.opening_is` (what an accepted opening says of its passage, and the converse).
pub mod Interval
pub mod Choice
pub mod Looked
pub mod Opening
