-- `node::by_value` meets its contract. Assumes nothing.
use mir.ValLaws.{to_z-of_z}
use mir.Syntax.{w16}
use borrow.Author.Tests.{eq-eqb, ne_eqb}
use Rattle.model.specs.Reader.{byte}
use mathlib.Core.Path.{◌∙◌}
use borrow.Author.Rules.{rules, sfits_of}
use Rattle.node.proofs.by_value.Goals as goal

pub returns-then-statement-eq-DATA_LOW : goal.returns-then-statement-eq-DATA_LOW
returns-then-statement-eq-DATA_LOW c =
    let s = c in
    let a = s.args in
    c.met.ensures
    ∙ rw (to_z-of_z w16 c.signed_at-bound.result (sfits_of c.signed_at-bound.type_inv), to_z-of_z w16 a.value s.ranges.value, c.signed_at-bound.ensures, eq-eqb (byte a.statement.now 0) 13 c.if-statement-eq-DATA_LOW.true)

pub returns : goal.returns
returns c =
    let s = c in
    let a = s.args in
    c.met-2.ensures
    ∙ rw (to_z-of_z w16 c.signed_at-bound.result (sfits_of c.signed_at-bound.type_inv), to_z-of_z w16 a.value s.ranges.value, c.signed_at-bound.ensures, ne_eqb (byte a.statement.now 0) 13 c.if-statement-eq-DATA_LOW.false)
