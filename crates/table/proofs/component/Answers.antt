-- `table::component` meets its contract. Assumes nothing.
use mathlib.Core.Path.{sym, ◌∙◌}
use native.Mathlib.Omega.{arith}
use Rattle.table.proofs.Pieces.{head_short, head_bad, head_good}
use Rattle.table.proofs.component.Goals as goal

pub returns-then-bytes-lt-COMPONENT_HEADER : goal.returns-then-bytes-lt-COMPONENT_HEADER
returns-then-bytes-lt-COMPONENT_HEADER c = let a = c.args in sym (head_short a.heading a.bytes.now c.if-bytes-lt-COMPONENT_HEADER.true)

pub returns-then-not-head_fine : goal.returns-then-not-head_fine
returns-then-not-head_fine c = let a = c.args in sym (head_bad a.heading a.bytes.now (omega arith) (sym c.head_fine.ensures ∙ c.if-not-head_fine.true))

pub returns : goal.returns
returns c =
    let a = c.args in
    c.body.ensures ∙ sym (head_good a.heading a.bytes.now (omega arith) (sym c.head_fine.ensures ∙ c.if-not-head_fine.false))
