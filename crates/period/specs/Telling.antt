-- The answer of the call.
use Rattle.std.specs.Prelude.{◌≡◌, true, false, ℕ, Option, Some, None}
use Rattle.model.specs.declared.Verdict.TheVariants.{Refused}
use Rattle.recurrence.specs.declared.Pair.{Pair}
use Rattle.recurrence.specs.Recurrence.{RecurrenceCall}
use Rattle.period.specs.declared.Repeating.{Repeating}

-- refused, and no pair
pub record Refuses (r : Repeating) (n c : ℕ) : Type 0 where
  pub verdict : r.verdict ≡ Refused n c
  pub pair : r.pair ≡ None

-- number by number
abbrev pub PairTold : RecurrenceCall → Option Pair → Type 0
PairTold call None = (call.found ≡ false) × (call.from ≡ 0) × (call.to ≡ 0)
PairTold call (Some p) = (call.found ≡ true) × (call.from ≡ p.from) × (call.to ≡ p.to)

pub record Tells (call : RecurrenceCall) (r : Repeating) : Type 0 where
  pub verdict : r.verdict ≡ call.verdict
  pub pair : PairTold call r.pair
