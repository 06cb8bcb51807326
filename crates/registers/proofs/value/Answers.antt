-- `registers::value` meets its contract. Assumes nothing.
use Prim.Native.Nat.{◌+◌, ◌*◌}
use lib.ListN.{get_or}
use lib.IntN.{pos}
use mir.ValLaws.{to_z-of_z}
use mir.Val.{SFits}
use mir.Syntax.{w16}
use Rattle.registers.specs.Words.{held_in}
use Rattle.registers.proofs.PartsRead.{value_read, value_none}
use native.Mathlib.Omega.{arith}
use mathlib.Core.Path.{◌≡◌, ◌∙◌}
use borrow.Author.Rules.{rules}
use Rattle.registers.proofs.value.Goals as goal

pub returns-then-a-small : goal.returns-then-a-small
returns-then-a-small c =
    let s = c in
    let a = s.args in
    let n : c.small.result ≡ (held_in a.words.now a.c).variables = c.small.ensures ∙ rw c.word.ensures in
    let fits : SFits w16 (get_or a.values.now (a.c * 4 + c.wide.result) (pos 0)) = search rules in
    rw (to_z-of_z w16 (get_or a.values.now (a.c * 4 + c.wide.result) (pos 0)) fits, c.wide.ensures.0) (value_read a.values.now a.c (held_in a.words.now a.c).variables a.a s.requires.2.variables (omega (arith, n, c.if-a-small.true)))

pub returns : goal.returns
returns c =
    let s = c in
    let a = s.args in
    let n : c.small.result ≡ (held_in a.words.now a.c).variables = c.small.ensures ∙ rw c.word.ensures in
    value_none a.values.now a.c (held_in a.words.now a.c).variables a.a (omega (arith, n, c.if-a-small.false))
