-- What hangs on an edge's kind: the action. Assumes nothing.
use mathlib.Core.Path.{◌≡◌, ap}
use Prim.Native.Nat.{ℕ, suc, ◌-◌, ◌≤◌}
use native.Mathlib.Omega.{arith}
use Rattle.model.specs.declared.Action.TheVariants.{Receive}
use Rattle.model.specs.Places.{action_at}

-- a kind from 2 on
pub receive_action : (kind n : ℕ) → 2 ≤ kind → action_at kind n ≡ Receive
receive_action kind n h = let two : kind ≡ suc (suc (kind - 2)) = omega arith in ap (λ (k : ℕ). action_at k n) two
