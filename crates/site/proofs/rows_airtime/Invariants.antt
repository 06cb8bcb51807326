-- `site::rows_airtime` meets its contract. Assumes nothing.
use mathlib.Core.Path.{◌≡◌}
use Prim.Native.Nat.{◌-◌, ◌*◌, ◌≤◌}
use Rattle.site.proofs.Rowing.{airtime_from}
use Rattle.site.proofs.rows_airtime.Given as goal

abbrev pub invariant-loop-i : goal.invariant-loop-i
invariant-loop-i l = (l.i ≤ l.count) × (l.sum ≡ airtime_from l.table l.horizon l.rows l.i (l.count - l.i)) × (l.sum ≤ (l.count - l.i) * 200001)
