-- `period::states::alike` meets its contract. Assumes nothing.
use mathlib.Core.Path.{sym, ◌∙◌}
use Prim.Native.Nat.{◌≤◌}
use native.Mathlib.Omega.{arith}
use borrow.Author.Tests.{not-true, not-false}
use Rattle.model.proofs.Basics.Bools.{clash}
use Rattle.schedule.proofs.Tables.{some_components}
use Rattle.period.proofs.Joining.{no_state}
use Rattle.period.proofs.Likeness.{room, agree_alike, alike_places, alike_numbers}
use Rattle.period.proofs.states.alike.Goals as goal

pub places_agree-requires : goal.places_agree-requires
places_agree-requires c =
    let some : 1 ≤ c.args.components =
    (let e = c in
    omega (arith, e.requires.2, some_components e.args.table.now c.type_inv.table e.requires.0.placed.valid)) in
    let e = c in
    let a = e.args in
    let p = e.requires in
    let full = room a.table.now a.rows.now a.count p.0 a.components p.2 some in
    (p.0.placed.fits, p.0.placed.few, full a.first.row p.5, full a.second.row p.6)

pub returns-then-not-places_agree : goal.returns-then-not-places_agree
returns-then-not-places_agree c =
    let some : 1 ≤ c.args.components =
    (let e = c in
    omega (arith, e.requires.2, some_components e.args.table.now c.type_inv.table e.requires.0.placed.valid)) in
    let e = c in
    let a = e.args in
    let p = e.requires in
    no_state (λ q. clash (sym (not-true c.places_agree.result c.if-not-places_agree.true-raw) ∙ c.places_agree.ensures.1 (alike_places a.table.now a.rows.now a.count p.0 a.components p.2 some a.first a.second p.3 p.4 p.5 p.6 q)))

pub numbers_agree-requires : goal.numbers_agree-requires
numbers_agree-requires c = let p = c.requires in (p.0.placed.valid, p.1, p.2)

pub returns : goal.returns
returns c =
    let some : 1 ≤ c.args.components =
    (let e = c in
    omega (arith, e.requires.2, some_components e.args.table.now c.type_inv.table e.requires.0.placed.valid)) in
    let e = c in
    let a = e.args in
    let p = e.requires in
    let k = some in (
      λ q. agree_alike a.table.now a.rows.now a.count p.0 a.components p.2 k a.first a.second p.3 p.4 p.5 p.6 (c.places_agree.ensures.0 (not-false c.places_agree.result c.if-not-places_agree.false-raw)) (c.numbers_agree.ensures.0 q),
      λ q. c.numbers_agree.ensures.1 (alike_numbers a.table.now a.rows.now a.count p.0 a.components p.2 k a.first a.second p.3 p.4 p.5 p.6 q),
    )
