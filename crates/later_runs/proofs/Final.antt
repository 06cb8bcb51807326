-- The last tick at which all components enter, with an earlier one in the same states: a period later lies at the table's horizon or beyond it. Assumes
-- nothing.
use mathlib.Core.Path.{◌≡◌, refl}
use mathlib.Core.Bool.{Bool, true, false}
use mathlib.Core.List.{List}
use Prim.Native.Nat.{ℕ, ◌+◌, ◌≤◌, ◌<◌}
use native.Mathlib.Omega.{arith}
use borrow.Author.Tests.{ltb-true, ltb-false}
use lib.Dec.{ltb}
use Rattle.model.specs.Table.{Table}
use Rattle.model.specs.Schedule.{Passage}
use Rattle.model.specs.Chains.{IsSchedule}
use Rattle.recurrence.specs.Recurrence.{Recurs}
use Rattle.recurrence.proofs.Every.{again_of}
use Rattle.recurrence.proofs.Count.{forth}
use Rattle.recurrence.proofs.Search.{JointTick}

pub last_is_final : (limit : ℕ) (T : Table) (H : ℕ) (S : List Passage) (s : IsSchedule limit T H S) (a P : ℕ) → 0 < P → Recurs T H S a (a + P)
    → ((x : ℕ) → a + P < x → x < H → JointTick limit T H S s x → ⊥) → H ≤ a + P + P
last_is_final limit T H S s a P longer r none = go (ltb (a + P + P) H) refl
  where
    go : (b : Bool) → ltb (a + P + P) H ≡ b → H ≤ a + P + P
    go false e = ltb-false (a + P + P) H e
    go true e =
        let below = ltb-true (a + P + P) H e in
        absurd (none (a + P + P) (omega arith) below (λ c i. (let k = r.enters c i in (k.0, forth limit T H S s a P r.below longer (again_of T H S a P r) (a + P) c k.0 (omega arith) below k.2))))
