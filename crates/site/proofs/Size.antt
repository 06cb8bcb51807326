-- An airtime fits four bytes: it is at most 61,441,024. Assumes nothing.
use mathlib.Core.Bool.{Bool, true, false, cond}
use mathlib.Core.List.{List}
use Prim.Native.Nat.{ℕ, suc, ◌+◌, ◌-◌, ◌*◌, ◌≤◌}
use native.Mathlib.Omega.{arith}
use lib.ListN.{length}
use Rattle.model.specs.Lists.{All, empty, more}
use Rattle.model.specs.Table.{Table}
use Rattle.model.specs.Schedule.{Passage}
use Rattle.model.specs.Checks.{is_send}
use Rattle.site.specs.Airtime.{airtime}

-- windows no longer than that: no more than so much for each passage
pub airtime_most : (T : Table) (H w : ℕ) {S : List Passage} → All (λ v. v.end - v.ready ≤ w) S → airtime T H S ≤ length S * suc w
unfolding airtime
airtime_most T H w empty = omega arith
airtime_most T H w (more {x = v} {xs = vs} h a) = go (airtime_most T H w a) (is_send T H v)
  where
    go : airtime T H vs ≤ length vs * suc w → (t : Bool) → cond t (suc (v.end - v.ready)) 0 + airtime T H vs ≤ suc (length vs) * suc w
    go ih true = omega (arith, ih)
    go ih false = omega (arith, ih)
