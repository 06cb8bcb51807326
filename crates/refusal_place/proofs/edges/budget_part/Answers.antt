-- `refusal_place::edges::budget_part` meets its contract. Assumes nothing.
use Rattle.refusal_place.proofs.Sequence.{budget_told, budget_passed}
use Rattle.refusal_place.proofs.edges.budget_part.Goals as goal

pub returns-then-sizes : goal.returns-then-sizes
returns-then-sizes c =
    let a = c.args in
    (budget_told a.table.now a.end a.sizes a.c a.e c.of_edge.result a.w c.one_part.result c.if-sizes.true c.of_edge.ensures c.one_part.ensures.0, c.one_part.ensures.1)

pub returns : goal.returns
returns c =
    let s = c in
    let a = s.args in
    (budget_passed a.table.now a.end a.sizes a.c a.e a.w c.if-sizes.false, s.requires.0)
