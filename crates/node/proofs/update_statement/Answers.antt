-- `node::update_statement` meets its contract. Assumes nothing.
use lib.IntN.{pos, ◌+ℤ◌}
use lib.ListN.{get_or}
use mir.Syntax.{w16}
use mir.Val.{SFits, to_z, of_z}
use mir.ValLaws.{to_z-of_z}
use mathlib.Core.Path.{◌≡◌, ◌∙◌}
use mathlib.Core.Logic.{⊎_elim}
use Prim.Native.Nat.{◌<◌}
use native.Mathlib.Omega.{arith}
use Rattle.model.specs.Reader.{byte, word, complement}
use Rattle.node.proofs.Steps.{added_fits}
use Rattle.node.proofs.Effects.{no_value_is, set_is, added_is}
use borrow.Author.Rules.{rules, sfits_of}
use Rattle.node.proofs.update_statement.Goals as goal
use Rattle.node.proofs.update_statement.Goals.{then-statement-eq-SET, else-statement-eq-SET}

pub returns-then-held-a : goal.returns-then-held-a
returns-then-held-a c =
    let s = c in
    let a = s.args in
    no_value_is a.statement.now a.held a.registers s.requires.1 s.requires.2 c.if-held-a.true

pub sum-requires : goal.sum-requires
sum-requires c =
    let s = c in
    let a = s.args in
    let fits : SFits w16 (get_or a.registers.values c.wide-else-statement-eq-SET.result (pos 0)) = search rules in
    rw (to_z-of_z w16 (get_or a.registers.values c.wide-else-statement-eq-SET.result (pos 0)) fits, to_z-of_z w16 c.signed_at-operand.result (sfits_of c.signed_at-operand.type_inv), c.signed_at-operand.ensures, c.wide-else-statement-eq-SET.ensures.0)
    (added_fits a.statement.now a.held a.registers s.requires.0 (omega arith) (omega arith) s.requires.4)

pub returns : goal.returns
returns c =
    let s = c in
    let a = s.args in
    let there : byte a.statement.now 1 < a.held.variables = omega arith in
    let read = to_z-of_z w16 c.signed_at-operand.result (sfits_of c.signed_at-operand.type_inv) in
    elim c.if-statement-eq-SET.branch [
      | then-statement-eq-SET w ↦
          set_is a.statement.now a.held a.registers c.if-statement-eq-SET.values there w.if-statement-eq-SET.true (w.values-is ∙ rw (w.wide.ensures.0, read, c.signed_at-operand.ensures))
      | else-statement-eq-SET w ↦
          let index = w.wide-else-statement-eq-SET in
          let fits : SFits w16 (get_or a.registers.values index.result (pos 0)) = search rules in
          let old = to_z-of_z w16 (get_or a.registers.values index.result (pos 0)) fits in
          let new : to_z w16 (of_z w16 w.sum.result) ≡ get_or a.registers.values (byte a.statement.now 1) (pos 0) +ℤ complement (word a.statement.now 2) =
          to_z-of_z w16 w.sum.result (sfits_of w.sum.type_inv) ∙ w.sum.ensures ∙ rw (old, read, c.signed_at-operand.ensures, index.ensures.0) in
          added_is a.statement.now a.held a.registers c.if-statement-eq-SET.values there (omega (arith, w.if-statement-eq-SET.false)) (w.values-is ∙ rw (w.wide-else-statement-eq-SET-2.ensures.0, new))
    ]
