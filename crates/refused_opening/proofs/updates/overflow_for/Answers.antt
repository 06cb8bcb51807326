-- `refused_opening::updates::overflow_for` meets its contract. Assumes nothing.
use borrow.Author.Tests.{eq-eqb, ne_eqb}
use Rattle.model.specs.Table.{header_of}
use Rattle.model.specs.Places.{read_of, component_in}
use Rattle.window.specs.Views.{entry_of}
use Rattle.schedule.proofs.Tables.{limits_of}
use Rattle.refused_opening.proofs.Cutting.{overflow_cut}
use Rattle.refused_opening.proofs.updates.overflow_for.Goals as goal

pub returns-then-number-ne9 : goal.returns-then-number-ne9
returns-then-number-ne9 c = rw (ne_eqb c.args.number 9 c.if-number-ne9.true)

pub returns : goal.returns
returns c =
    let s = c in
    let a = s.args in
    let C = component_in a.table.now a.c in
    let o = overflow_cut (header_of (read_of a.table.now)) C (limits_of a.table.now c.type_inv.table s.requires.0 a.c s.requires.1) (entry_of a.at) s.requires.3 in
    rw (eq-eqb a.number 9 c.if-number-ne9.false, ← o) c.overflow_there.ensures
