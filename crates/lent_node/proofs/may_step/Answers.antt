-- `lent_node::may_step` meets its contract. Assumes nothing.
use mathlib.Core.Path.{sym, ◌∙◌}
use borrow.Author.Tests.{not-true, not-false}
use Rattle.lent_node.proofs.Tests.{held, within, too_long, no_places, no_room, an_addition, no_addition}
use borrow.Author.Rules.{rules}
use Rattle.lent_node.proofs.may_step.Goals as goal

pub returns-then-part-gt65535 : goal.returns-then-part-gt65535
returns-then-part-gt65535 c =
    let a = c.args in
    too_long a.part.now a.held a.registers (search rules)

pub returns-then-not-places_fit : goal.returns-then-not-places_fit
returns-then-not-places_fit c =
    let a = c.args in
    no_places a.part.now a.held a.registers (search rules) (sym c.places_fit.ensures ∙ not-true _ c.if-not-places_fit.true-raw)

pub returns-then-not-registers_fit : goal.returns-then-not-registers_fit
returns-then-not-registers_fit c =
    let a = c.args in
    no_room a.part.now a.held a.registers (search rules) (sym c.places_fit.ensures ∙ not-false _ c.if-not-places_fit.false-raw) (sym c.registers_fit.ensures ∙ not-true _ c.if-not-registers_fit.true-raw)

pub may_finish-requires : goal.may_finish-requires
may_finish-requires c =
    let a = c.args in
    (search rules, held a.held (sym c.places_fit.ensures ∙ not-false _ c.if-not-places_fit.false-raw), within a.registers (sym c.registers_fit.ensures ∙ not-false _ c.if-not-registers_fit.false-raw))

pub returns-then-op_at-eq-ADD : goal.returns-then-op_at-eq-ADD
returns-then-op_at-eq-ADD c =
    let a = c.args in
    an_addition a.part.now a.held a.registers (search rules) (sym c.places_fit.ensures ∙ not-false _ c.if-not-places_fit.false-raw) (sym c.registers_fit.ensures ∙ not-false _ c.if-not-registers_fit.false-raw) _ c.op_at.ensures c.if-op_at-eq-ADD.true c.may_finish.ensures

pub returns : goal.returns
returns c =
    let a = c.args in
    no_addition a.part.now a.held a.registers (search rules) (sym c.places_fit.ensures ∙ not-false _ c.if-not-places_fit.false-raw) (sym c.registers_fit.ensures ∙ not-false _ c.if-not-registers_fit.false-raw) c.op_at.ensures c.if-op_at-eq-ADD.false
