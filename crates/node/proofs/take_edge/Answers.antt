-- `node::take_edge` meets its contract. Assumes nothing.
use mathlib.Core.Path.{◌≡◌, sym, ap, ◌∙◌}
use Prim.Native.Nat.{◌+◌}
use native.Mathlib.Omega.{arith}
use borrow.Author.Tests.{not-true, not-false}
use Rattle.node.proofs.Effects.{taken_some, taken_none}
use borrow.Author.Rules.{rules}
use Rattle.node.proofs.take_edge.Goals as goal

pub returns-then-not-kept : goal.returns-then-not-kept
returns-then-not-kept c =
    let a = c.args in
    sym (taken_none a.part.now a.registers (not-true _ c.if-not-kept.true))

pub returns : goal.returns
returns c =
    let old = c in
    let new = old in
    let place = new in
    let if1 = place in
    let a = if1.args in
    sym
    (taken_some a.part.now a.registers (not-false _ if1.if-not-kept.false)
    ∙ rw (place.block_place.ensures, place.wide-2.ensures.0, place.wide.ensures.0, place.byte_at.ensures, old.wide64-2.ensures.0, c.wide64-3.ensures.0, new.left_of-d.ensures, new.wide64.ensures.0))
