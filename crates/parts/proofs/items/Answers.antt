-- `parts::items` meets its contract. Assumes nothing.
use Prim.Native.Nat.{◌≤◌}
use native.Mathlib.Omega.{arith}
use lib.ListN.{drop}
use Rattle.parts.proofs.Sequence.{moved}
use Rattle.parts.proofs.EdgeItems.{items_internal, items_send, items_receive}
use Rattle.parts.proofs.items.Goals as goal

pub returns-in-0 : goal.returns-in-0
returns-in-0 c = let a = c.args in moved (items_internal a.sizes a.kind a.count (drop a.at a.component.now) c.in-0.is) c.parts.ensures

pub returns-in-1 : goal.returns-in-1
returns-in-1 c = let a = c.args in moved (items_send a.sizes a.kind a.count (drop a.at a.component.now) c.in-1.is) c.channel.ensures

pub returns-in_default : goal.returns-in_default
returns-in_default c =
    let a = c.args in
    let two : 2 ≤ a.kind = omega arith in
    moved (items_receive a.sizes a.kind a.count (drop a.at a.component.now) two) c.pairs.ensures
