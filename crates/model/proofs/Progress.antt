-- Something happens: no run is stuck before the horizon.
-- To cite: `Shown.happens` and `answers` (every run can be carried on to the horizon, with every observation due, within the limit of choices),
-- `Count.carried_few` (how many choices a run carries out).
pub mod Weight
pub mod Block
pub mod Node
pub mod Move
pub mod Tick
pub mod Run
pub mod Count
pub mod Shown
