-- `table::read_at` meets its contract. Assumes nothing.
use mathlib.Core.Path.{◌∙◌}
use native.Mathlib.Omega.{arith}
use Rattle.table.proofs.Answered.{at_narrow, at_wide, at_header, at_parts}
use Rattle.table.proofs.read_at.Goals as goal

pub returns-then-spread-le1000 : goal.returns-then-spread-le1000
returns-then-spread-le1000 c =
    let a = c.args in
    at_narrow a.spread a.table.now (omega (arith, c.if-spread-le1000.true)) c.read-r.result c.read-r.ensures

pub returns-in-Accepted : goal.returns-in-Accepted
returns-in-Accepted c =
    let a = c.args in
    let r = c.read-r in
    c.refused.ensures
    ∙ at_wide a.spread a.table.now (omega (arith, c.if-spread-le1000.false)) r.result r.ensures c.in-Accepted.is

pub returns-then-number-le3 : goal.returns-then-number-le3
returns-then-number-le3 c =
    let a = c.args in
    let r = c.read-r in
    c.refused-then-number-le3.ensures
    ∙ at_header a.spread a.table.now (omega (arith, c.if-spread-le1000.false)) r.result r.ensures c.in-Refused.is (omega (arith, c.if-number-le3.true))

pub returns-else-number-le3 : goal.returns-else-number-le3
returns-else-number-le3 c =
    let a = c.args in
    let r = c.read-r in
    c.refused-else-number-le3.ensures
    ∙ at_parts a.spread a.table.now (omega (arith, c.if-spread-le1000.false)) r.result r.ensures c.in-Refused.is (omega (arith, c.if-number-le3.false))
