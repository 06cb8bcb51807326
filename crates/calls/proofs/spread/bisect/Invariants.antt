-- `calls::spread::bisect` meets its contract. Assumes nothing.
use mathlib.Core.Path.{◌≡◌}
use Prim.Native.Nat.{◌-◌, ◌≤◌, ◌<◌}
use Rattle.model.specs.declared.Verdict.TheVariants.{Accepted}
use Rattle.model.specs.Calls.{check_call_at}
use Rattle.calls.proofs.spread.bisect.Given as goal

-- accepted at the one, not at the other
abbrev pub invariant-loop-fits : goal.invariant-loop-fits
invariant-loop-fits l =
    (check_call_at l.fits l.table ≡ Accepted) × (check_call_at l.fails l.table ≡ Accepted → ⊥) × (l.fits < l.fails) × (l.fails ≤ 1001)

abbrev pub decreases-loop-fits : goal.decreases-loop-fits
decreases-loop-fits l = l.fails - l.fits
