-- `uppaal_parts::ranges::pass_update` meets its contract. Assumes nothing.
use Rattle.uppaal_parts.specs.Marks.{total_of}
use native.Mathlib.Omega.{arith}
use Rattle.uppaal_parts.proofs.Totals.{pass_told, pass_left}
use Rattle.uppaal_parts.proofs.ranges.pass_update.Goals as goal

pub returns-then-u-variable : goal.returns-then-u-variable
returns-then-u-variable c =
    let a = c.args in
    (pass_told a.variable a.bytes.now c.update_at-u.result c.word_at-bits.result (total_of a.t.known a.t.sum) (total_of c.after_update.result.known c.after_update.result.sum) c.update_at-u.ensures c.word_at-bits.ensures c.if-u-variable.true c.after_update.ensures.0, c.after_update.ensures.1, c.after_update.ensures.2)

pub returns : goal.returns
returns c =
    let a = c.args in
    (pass_left a.variable a.bytes.now c.update_at-u.result (total_of a.t.known a.t.sum) c.update_at-u.ensures c.if-u-variable.false, omega arith, omega arith)
