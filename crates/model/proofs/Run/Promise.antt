-- Demand 3: what it says holds of every run of an accepted table's programs. Assumes nothing.
use mathlib.Core.Path.{◌≡◌}
use mathlib.Core.List.{List, []}
use Prim.Native.Nat.{ℕ}
use native.Mathlib.Omega.{arith}
use Rattle.model.specs.Lists.{accepted}
use Rattle.model.specs.Table.{Read}
use Rattle.model.specs.Limits.{InLimits}
use Rattle.model.specs.Schedule.{Passage}
use Rattle.model.specs.Checks.{accepted_schedule_of}
use Rattle.model.specs.Demand3.{Demand3, Promise}
use Rattle.model.proofs.Reader.Limits.{read_limits}
use Rattle.model.proofs.Run.Tied.{Given, given}
use Rattle.model.proofs.Run.Apart.{works_sorted, demand_apart}
use Rattle.model.proofs.Run.Together.{together}

-- a schedule to a horizon that 10 to 12 accept, of a table in the limits: nodes that start together are nodes without offsets
pub demand : {t : Read} {H : ℕ} {S : List Passage} (G : Given t H S []) (cs : List ℕ) → Demand3 t H S cs
demand {t} {H} {S} G cs = together t H S cs (omega (arith, G.limits.least_components)) (works_sorted G cs) (demand_apart G cs)

-- for every table in the limits that is accepted, and every list of choices
pub promise : (t : Read) (S : List Passage) → InLimits t → accepted_schedule_of t ≡ accepted S → (cs : List ℕ) → Demand3 t t.horizon S cs
promise t S h e cs = demand (given t S h e) cs

-- demand 3, for every list of numbers that is read as a table and accepted, and every list of choices
pub promised : Promise
promised bytes t S r e cs = promise t S (read_limits bytes t r) e cs
