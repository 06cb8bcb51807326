-- `statement::update_statement` meets its contract. Assumes nothing.
use mir.ValLaws.{to_z-of_z}
use mir.Val.{to_z, of_z}
use mir.Syntax.{w16}
use Rattle.node.proofs.Steps.{values_past, added_fits, value_set_is, value_added}
use Rattle.statement.proofs.Carries.{carried_same, carried_values}
use Rattle.model.specs.Reader.{byte, word, complement}
use lib.Seq.{get_or-take}
use lib.ListN.{set, get_or}
use lib.IntN.{pos, ◌+ℤ◌}
use Prim.Native.Nat.{◌<◌}
use Rattle.registers.specs.Words.{values_in, node_in, held_in}
use native.Mathlib.Omega.{arith}
use mathlib.Core.Path.{◌≡◌, refl, ◌∙◌}
use borrow.Author.Rules.{sfits_of}
use Rattle.statement.proofs.update_statement.Goals as goal

pub returns-then-small-a : goal.returns-then-small-a
returns-then-small-a c =
    let s = c in
    let a = s.args in
    let p = s.requires in
    let n : c.small.result ≡ (held_in a.words.now a.c).variables = c.small.ensures ∙ rw c.word.ensures in
    carried_same a.statement.now a.words.now a.values.now a.c p.0 (values_past a.statement.now (held_in a.words.now a.c) (node_in a.words.now a.values.now a.c) p.0 p.1 p.2 (omega (arith, n, c.if-small-a.true)))

pub sum-sum-requires : goal.sum-sum-requires
sum-sum-requires c =
    let s = c in
    let a = s.args in
    let p = s.requires in
    let n : c.small.result ≡ (held_in a.words.now a.c).variables = c.small.ensures ∙ rw c.word.ensures in
    let there : byte a.statement.now 1 < (held_in a.words.now a.c).variables = omega (arith, n, c.if-small-a.false) in
    rw (to_z-of_z w16 c.value-before.result (sfits_of c.value-before.type_inv), to_z-of_z w16 c.signed_at-operand.result (sfits_of c.signed_at-operand.type_inv), c.signed_at-operand.ensures, c.value-before.ensures, get_or-take (held_in a.words.now a.c).variables (values_in a.values.now a.c) (byte a.statement.now 1) (pos 0) there)
    (added_fits a.statement.now (held_in a.words.now a.c) (node_in a.words.now a.values.now a.c) p.0 (omega (arith, p.1, p.2, c.if-statement-eq-SET.false)) there p.6)

pub returns-then-statement-eq-SET : goal.returns-then-statement-eq-SET
returns-then-statement-eq-SET c =
    let s = c in
    let a = s.args in
    let p = s.requires in
    let n : c.small.result ≡ (held_in a.words.now a.c).variables = c.small.ensures ∙ rw c.word.ensures in
    let there : byte a.statement.now 1 < (held_in a.words.now a.c).variables = omega (arith, n, c.if-small-a.false) in
    let e : to_z w16 (of_z w16 c.signed_at-operand.result) ≡ complement (word a.statement.now 2) = to_z-of_z w16 c.signed_at-operand.result (sfits_of c.signed_at-operand.type_inv) ∙ c.signed_at-operand.ensures in
    let xs = set (values_in a.values.now a.c) (byte a.statement.now 1) (complement (word a.statement.now 2)) in
    carried_values a.statement.now a.words.now a.values.now a.c p.0 xs (value_set_is a.statement.now (held_in a.words.now a.c) (node_in a.words.now a.values.now a.c) p.0 xs there c.if-statement-eq-SET.true refl)
    (rw e at (c.put_value.ensures a.words.now))

pub returns-else-statement-eq-SET : goal.returns-else-statement-eq-SET
returns-else-statement-eq-SET c =
    let s = c in
    let a = s.args in
    let p = s.requires in
    let n : c.small.result ≡ (held_in a.words.now a.c).variables = c.small.ensures ∙ rw c.word.ensures in
    let there : byte a.statement.now 1 < (held_in a.words.now a.c).variables = omega (arith, n, c.if-small-a.false) in
    let e : to_z w16 (of_z w16 c.sum-sum.result) ≡ get_or (values_in a.values.now a.c) (byte a.statement.now 1) (pos 0) +ℤ complement (word a.statement.now 2) =
    to_z-of_z w16 c.sum-sum.result (sfits_of c.sum-sum.type_inv) ∙ (c.sum-sum.ensures ∙ rw (to_z-of_z w16 c.value-before.result (sfits_of c.value-before.type_inv), to_z-of_z w16 c.signed_at-operand.result (sfits_of c.signed_at-operand.type_inv), c.signed_at-operand.ensures, c.value-before.ensures, get_or-take (held_in a.words.now a.c).variables (values_in a.values.now a.c) (byte a.statement.now 1) (pos 0) there)) in
    let xs = set (values_in a.values.now a.c) (byte a.statement.now 1) (get_or (values_in a.values.now a.c) (byte a.statement.now 1) (pos 0) +ℤ complement (word a.statement.now 2)) in
    carried_values a.statement.now a.words.now a.values.now a.c p.0 xs (value_added a.statement.now (held_in a.words.now a.c) (node_in a.words.now a.values.now a.c) p.0 xs there (omega (arith, p.1, p.2, c.if-statement-eq-SET.false)) refl)
    (rw e at (c.put_value-else-statement-eq-SET.ensures a.words.now))
