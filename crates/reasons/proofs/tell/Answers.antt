-- `reasons::tell` meets its contract. Assumes nothing.
use native.Mathlib.Omega.{arith}
use Rattle.schedule.proofs.Tables.{header}
use Rattle.reasons.proofs.Laying.{too_few, laid}
use Rattle.reasons.proofs.tell.Goals as goal

pub budgeted-budgets-requires : goal.budgeted-budgets-requires
budgeted-budgets-requires c = let s = c in omega (arith, header s.args.table.now c.type_inv.table s.requires.valid)

pub count_edges-size-requires : goal.count_edges-size-requires
count_edges-size-requires c = let s = c in (s.requires.valid, s.requires.present, s.requires.start, c.budgeted-budgets.ensures)

pub returns-then-told-size : goal.returns-then-told-size
returns-then-told-size c =
    let s = c in
    (too_few s.args.table.now c.type_inv.table s.args.asked s.requires s.args.told.now c.count_edges-size.result c.count_edges-size.ensures.0 c.refused.result (omega (arith, c.if-told-size.true)) (c.refused.ensures.0, c.refused.ensures.1, c.refused.ensures.2), omega (arith, c.refused.ensures.1), omega (arith, c.refused.ensures.2))

pub put_reasons-requires : goal.put_reasons-requires
put_reasons-requires c =
    let s = c in
    (s.requires.valid, s.requires.present, s.requires.start, s.requires.location, omega (arith, s.requires.small), omega (arith, c.if-told-size.false, c.count_edges-size.ensures.0), c.budgeted-budgets.ensures)

pub returns : goal.returns
returns c =
    let s = c in
    (laid s.args.table.now c.type_inv.table s.args.asked s.requires s.args.told.now c.count_edges-size.result c.count_edges-size.ensures.0 _ (omega (arith, c.if-told-size.false)) c.put_reasons.ensures, s.requires.few, c.count_edges-size.ensures.1)
