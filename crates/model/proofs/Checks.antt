-- Checks 10 to 12, and what acceptance is.
-- To cite: `Acceptance.accepted_at_is` and `accepted_is` (demand 2 as one statement, at a spread and without), `Lower.check_lower` (accepted at every
-- smaller spread), `Independence.independent` (10 to 12 pass exactly if no global scheduler is needed, tick by
-- tick), `Heard.checked_is` (what they say of each passage), `Told.told_at_is` and `told_is` (11, 15, 16 and 17, each exactly by ticks, for a
-- table's bytes, at a spread and without; of a schedule `Hearings.refused_is`), `Offsets.hears_apart` (what is near, by offsets),
-- `Merged.same_tables` (the tables accepted are those of before the four were told apart).
pub mod Heard
pub mod Independence
pub mod Lower
pub mod Acceptance
pub mod Hearings
pub mod Numbers
pub mod Told
pub mod Offsets
pub mod Merged
