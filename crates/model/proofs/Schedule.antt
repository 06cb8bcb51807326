-- The schedule without its loop: chains of passages in the order of opening, with their messages.
-- To cite: `Exactly.is_schedule` (the schedule is accepted as S exactly if S is a schedule as specs/Chains.antt says it); of each passage `Passages.entered`.
-- Of its chart: `Charted.covered` and `once` (each tick below the horizon is in exactly one cell), `Charted.shows_send` to `shows_space` (what each cell shows).
-- Of the passage at a tick: `Reasoned.named` (it is there and alone), `Reasoned.reason_true` and `reason_only` (each edge has exactly the reason given);
-- `Answered.reasons_true` (both, of any bytes; the edge taken is told); `Replayed.Ahead` (clocks and variables found again along the passages of a component).
-- Of budgets: `Budgets.no_budgets` and `same_choice_of` (versions 1 and 2 have none, and choose as they did), `Budgets.spanned` (every passage's window is as
-- long as its edge's budget).
-- Of a batch of questions: `Positioned.last_named` and `read_is` (one walk names the passages, and how far it reads); `Batched.batch_true` (what is answered,
-- without the walk), `Batched.same_as_reasons` (the passages are those of the reasons).
pub mod Soonest
pub mod Messages
pub mod Own
pub mod Loop
pub mod Scheduled
pub mod Passages
pub mod Retrace
pub mod Exactly
pub mod Charted
pub mod Replayed
pub mod Reasoned
pub mod Answered
pub mod Budgets
pub mod Positioned
pub mod Batched
