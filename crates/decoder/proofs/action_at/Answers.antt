-- `decoder::action_at` meets its contract. Assumes nothing.
use mathlib.Core.Path.{sym, ap}
use Prim.Native.Nat.{ℕ, ◌≤◌}
use native.Mathlib.Omega.{arith}
use lib.ListN.{get_or}
use Rattle.model.specs.declared.Action.TheVariants.{Send}
use Rattle.model.specs.Places.{arc_at, items_place}
use Rattle.decoder.proofs.ByKind.{receive_action}
use Rattle.decoder.proofs.action_at.Goals as goal

pub returns-in-0 : goal.returns-in-0
unfolding arc_at
returns-in-0 c = rw c.in-0.is

pub returns-in-1 : goal.returns-in-1
unfolding arc_at
returns-in-1 c = let h = c.args.bytes.now in rw c.in-1.is (ap (λ (i : ℕ). Send (get_or h i 0)) c.items_place.ensures.0)

pub returns-in_default : goal.returns-in_default
unfolding arc_at
returns-in_default c =
    let h = c.args.bytes.now in
    let two : 2 ≤ get_or h 0 0 = omega arith in
    sym (receive_action (get_or h 0 0) (get_or h (items_place c.args.budgets h) 0) two)
