-- `refused_opening::reasons::reasons_for` meets its contract. Assumes nothing.
use mathlib.Core.Path.{◌≡◌, sym, ap, ◌∙◌}
use mathlib.Core.Bool.{cond}
use Prim.Native.Nat.{◌+◌, ◌*◌}
use native.Mathlib.Omega.{arith}
use borrow.Author.Tests.{eq-eqb, ne_eqb}
use Rattle.model.specs.Reader.{location_at}
use Rattle.model.specs.Table.{header_of, location_of}
use Rattle.model.specs.Places.{read_of, component_in, location_place}
use Rattle.decoder.proofs.Found.{found}
use Rattle.window.specs.Views.{entry_of}
use Rattle.window.proofs.Rests.{tail_long}
use Rattle.window.proofs.Ready.{Entered, entered}
use Rattle.opening_place.specs.Opening.{reasons}
use Rattle.schedule.specs.Going.{cut}
use Rattle.schedule.proofs.Tables.{limits_of}
use Rattle.refused_opening.specs.Counting.{reasons_among}
use Rattle.refused_opening.proofs.Cutting.{reasons_cut}
use Rattle.refused_opening.proofs.reasons.reasons_for.Goals as goal

pub returns-then-number-ne8 : goal.returns-then-number-ne8
returns-then-number-ne8 c =
    rw (ne_eqb c.args.number 8 c.if-number-ne8.true, c.none_counted.ensures.0, c.none_counted.ensures.1, c.none_counted.ensures.2)

pub overflow_add-there : goal.overflow_add-there
overflow_add-there c =
    let known : Entered c.args.table.now c.args.c c.args.start =
    (let s = c in entered s.args.table.now s.args.c s.args.start (λ i. (c.type_inv.table i).fits) s.requires.0 s.requires.1 s.requires.2) in
    omega (arith, known.stands.fits)

pub overflow_add-there-2 : goal.overflow_add-there-2
overflow_add-there-2 c =
    let known : Entered c.args.table.now c.args.c c.args.start =
    (let s = c in entered s.args.table.now s.args.c s.args.start (λ i. (c.type_inv.table i).fits) s.requires.0 s.requires.1 s.requires.2) in
    omega (arith, known.stands.location_fits c.args.at.location c.requires.3, c.wide.ensures.0)

pub slice_bounds-location_at-count : goal.slice_bounds-location_at-count
slice_bounds-location_at-count c =
    let known : Entered c.args.table.now c.args.c c.args.start =
    (let s = c in entered s.args.table.now s.args.c s.args.start (λ i. (c.type_inv.table i).fits) s.requires.0 s.requires.1 s.requires.2) in
    omega (arith, known.stands.location_fits c.args.at.location c.requires.3, c.wide.ensures.0)

pub slice_bounds-location_at-start : goal.slice_bounds-location_at-start
slice_bounds-location_at-start c =
    let known : Entered c.args.table.now c.args.c c.args.start =
    (let s = c in entered s.args.table.now s.args.c s.args.start (λ i. (c.type_inv.table i).fits) s.requires.0 s.requires.1 s.requires.2) in
    omega (arith, known.stands.location_fits c.args.at.location c.requires.3, c.wide.ensures.0)

pub location_at-location-requires : goal.location_at-location-requires
location_at-location-requires c =
    let known : Entered c.args.table.now c.args.c c.args.start =
    (let s = c in entered s.args.table.now s.args.c s.args.start (λ i. (c.type_inv.table i).fits) s.requires.0 s.requires.1 s.requires.2) in
    let s = c in
    tail_long s.args.table.now (s.args.start + 7 + c.wide.result * 3) 3 (omega (arith, known.stands.location_fits s.args.at.location s.requires.3, c.wide.ensures.0))

pub count_edges-requires : goal.count_edges-requires
count_edges-requires c =
    let known : Entered c.args.table.now c.args.c c.args.start =
    (let s = c in entered s.args.table.now s.args.c s.args.start (λ i. (c.type_inv.table i).fits) s.requires.0 s.requires.1 s.requires.2) in
    let location-is : c.location_at-location.result ≡ location_of (component_in c.args.table.now c.args.c) c.args.at.location =
    (let s = c in
    let a = s.args in
    let there : a.start + 7 + c.wide.result * 3 ≡ location_place a.start a.at.location = rw c.wide.ensures.0 in
    found location_at a.table.now _ _ there c.location_at-location.ensures ∙ known.stands.location a.at.location s.requires.3) in
    let s = c in
    (s.requires.0, s.requires.1, s.requires.2, rw location-is (known.clock s.args.at.location s.requires.3))

pub returns : goal.returns
returns c =
    let known : Entered c.args.table.now c.args.c c.args.start =
    (let s = c in entered s.args.table.now s.args.c s.args.start (λ i. (c.type_inv.table i).fits) s.requires.0 s.requires.1 s.requires.2) in
    let location-is : c.location_at-location.result ≡ location_of (component_in c.args.table.now c.args.c) c.args.at.location =
    (let s = c in
    let a = s.args in
    let there : a.start + 7 + c.wide.result * 3 ≡ location_place a.start a.at.location = rw c.wide.ensures.0 in
    found location_at a.table.now _ _ there c.location_at-location.ensures ∙ known.stands.location a.at.location s.requires.3) in
    let s = c in
    let a = s.args in
    let C = component_in a.table.now a.c in
    c.count_edges.ensures
    ∙ ap (λ l. reasons_among l (entry_of a.at) C.arcs) location-is
    ∙ reasons_cut (header_of (read_of a.table.now)) C (limits_of a.table.now c.type_inv.table s.requires.0 a.c s.requires.1) (entry_of a.at) s.requires.3
    ∙ sym (ap (λ b. cond b (reasons C (cut C (entry_of a.at))) (record { leaving = 0; blocked = 0; windowless = 0 })) (eq-eqb a.number 8 c.if-number-ne8.false))
