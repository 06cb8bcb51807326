-- The table's reader: it accepts exactly the bytes of tables in the limits, and what it accepts stands where it is looked for.
-- To cite: `RoundTrip.law` (reading gives t exactly if t is in the limits and the bytes are its bytes), `Located.located` and `valid_located` (the parts
-- of an accepted table, by place), `Limits.read_limits` (for any numbers, bytes or not), `Bands` (the bands written and read back), `Versions.same_check`
-- and the laws beside it (each call answers bytes that begin with 1 as document 01's own definitions do), `Versions.same_reading_12` and
-- `same_program_12` (tables of versions 1 and 2 are read, and translated, as before budgets).
pub mod Parts
pub mod Fixed
pub mod Items
pub mod Edges
pub mod Components
pub mod Bands
pub mod RoundTrip
pub mod Written
pub mod ArcPlaces
pub mod Located
pub mod PartLimits
pub mod Limits
pub mod Versions
