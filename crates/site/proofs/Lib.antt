-- Four networks under one airtime limit (document 02, wish 13).
-- To cite: `Sequence.in_use_law` (the airtime in use over any sequence of calls), `Every.every` (what one call does, for every struct: no other place changes,
-- a refused call changes no place, and 26 to 28 each exactly in its case), `Loading.as_checked` (a table's refusal is that of `check`), `Refusals.told_load` (no table is
-- refused with 0), `Size.airtime_most` (no airtime is too large for four bytes).
pub mod Law
pub mod Size
pub mod Refusals
pub mod Rowing
pub mod Keeping
pub mod Loading
pub mod Calls
pub mod Sequence
pub mod Every
