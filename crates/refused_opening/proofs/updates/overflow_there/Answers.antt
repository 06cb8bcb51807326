-- `refused_opening::updates::overflow_there` meets its contract. Assumes nothing.
use mathlib.Core.Path.{◌≡◌, refl, sym, ap, subst, ◌∙◌}
use mathlib.Core.Option.{some}
use Prim.Native.Nat.{◌+◌, ◌*◌, ◌≤◌, ◌<◌}
use native.Mathlib.Omega.{arith}
use borrow.Author.Tests.{lt-ltb, le-ltb}
use lib.ListN.{length, get_or-replicate}
use Rattle.model.specs.Table.{Arc}
use Rattle.model.specs.Places.{arc_place, start_of, component_in}
use Rattle.model.specs.Window.{choice}
use Rattle.model.proofs.Window.Choice.{choice_taken}
use Rattle.window.specs.Indexed.{Indexed}
use Rattle.window.specs.Views.{entry_of, option_of}
use Rattle.window.proofs.Ready.{Entered, entered, arc-head, arc_asked, arc_is}
use Rattle.rows.proofs.Placed.{known_bytes, valid_small}
use Rattle.schedule.proofs.Tables.{header, few_components}
use Rattle.opening_place.specs.Opening.{first_out, overflow_with, overflow}
use Rattle.refused_opening.proofs.Cutting.{none_taken, one_taken}
use Rattle.refused_opening.proofs.updates.overflow_there.Goals as goal

pub budgeted-budgets-requires : goal.budgeted-budgets-requires
budgeted-budgets-requires c = let s = c in omega (arith, header s.args.table.now c.type_inv.table s.requires.0)

pub put_edges-requires : goal.put_edges-requires
put_edges-requires c =
    let s = c in
    let bs = s.args.table.now in
    let few = few_components bs c.type_inv.table s.requires.0 in (
      s.requires.0,
      omega (arith, c.wide.ensures.0, s.requires.1),
      s.requires.2 ∙ ap (start_of bs) (sym c.wide.ensures.0),
      omega (arith, c.wide.ensures.0, s.requires.1, few),
      omega (arith, c.wide.ensures.0, s.requires.1, few),
      valid_small bs (known_bytes bs c.type_inv.table) s.requires.0,
      λ q h. get_or-replicate 640 (c.wide.result * 80 + q) 32 0 (omega (arith, h, c.wide.ensures.0, s.requires.1, few)),
      c.budgeted-budgets.ensures,
    )

pub choose-found-requires : goal.choose-found-requires
choose-found-requires c =
    let s = c in
    (s.requires.0, s.requires.1, s.requires.2, s.requires.3, subst (λ n. Indexed s.args.table.now c.put_edges.new.index n s.args.start) c.wide.ensures.0 c.put_edges.ensures.noted, c.budgeted-budgets.ensures)

pub returns-then-chosen-gt65535 : goal.returns-then-chosen-gt65535
returns-then-chosen-gt65535 c =
    let a = c.args in
    let none-there = none_taken (component_in a.table.now a.c) (entry_of a.at) (sym c.choose-found.ensures.picks ∙ rw (le-ltb c.choose-found.result.choice.ready 65536 (omega (arith, c.if-chosen-gt65535.true))) refl) in
    rw none-there

pub slice_bounds-first_out-count : goal.slice_bounds-first_out-count
slice_bounds-first_out-count c =
    let known : Entered c.args.table.now c.args.c c.args.start =
    (let s = c in entered s.args.table.now s.args.c s.args.start (λ i. (c.type_inv.table i).fits) s.requires.0 s.requires.1 s.requires.2) in
    let kept_there : (c.choose-found.result.choice.place ≡ arc_place c.args.table.now c.args.start c.choose-found.result.choice.edge) × (c.choose-found.result.choice.edge < 256) × (c.choose-found.result.choice.end ≤ 65535) =
    (c.choose-found.ensures.keeps (omega (arith, c.if-chosen-gt65535.false))) in
    let choice-is : choice (component_in c.args.table.now c.args.c) (entry_of c.args.at) ≡ some (record { edge = c.choose-found.result.choice.edge; ready = c.choose-found.result.choice.ready; end = c.choose-found.result.choice.end }) =
    (sym c.choose-found.ensures.picks ∙ rw (lt-ltb c.choose-found.result.choice.ready 65536 (omega (arith, c.if-chosen-gt65535.false))) refl) in
    let edge-there : c.choose-found.result.choice.edge < length (component_in c.args.table.now c.args.c).arcs =
    (let a = c.args in (choice_taken (component_in a.table.now a.c) (entry_of a.at) choice-is).there) in
    let head : c.choose-found.result.choice.place + 7 ≤ length c.args.table.now =
    (let a = c.args in
    arc-head a.table.now a.c a.start known c.choose-found.result.choice.place c.choose-found.result.choice.edge kept_there.0 edge-there) in
    omega (arith, head)

pub slice_bounds-first_out-start : goal.slice_bounds-first_out-start
slice_bounds-first_out-start c =
    let known : Entered c.args.table.now c.args.c c.args.start =
    (let s = c in entered s.args.table.now s.args.c s.args.start (λ i. (c.type_inv.table i).fits) s.requires.0 s.requires.1 s.requires.2) in
    let kept_there : (c.choose-found.result.choice.place ≡ arc_place c.args.table.now c.args.start c.choose-found.result.choice.edge) × (c.choose-found.result.choice.edge < 256) × (c.choose-found.result.choice.end ≤ 65535) =
    (c.choose-found.ensures.keeps (omega (arith, c.if-chosen-gt65535.false))) in
    let choice-is : choice (component_in c.args.table.now c.args.c) (entry_of c.args.at) ≡ some (record { edge = c.choose-found.result.choice.edge; ready = c.choose-found.result.choice.ready; end = c.choose-found.result.choice.end }) =
    (sym c.choose-found.ensures.picks ∙ rw (lt-ltb c.choose-found.result.choice.ready 65536 (omega (arith, c.if-chosen-gt65535.false))) refl) in
    let edge-there : c.choose-found.result.choice.edge < length (component_in c.args.table.now c.args.c).arcs =
    (let a = c.args in (choice_taken (component_in a.table.now a.c) (entry_of a.at) choice-is).there) in
    let head : c.choose-found.result.choice.place + 7 ≤ length c.args.table.now =
    (let a = c.args in
    arc-head a.table.now a.c a.start known c.choose-found.result.choice.place c.choose-found.result.choice.edge kept_there.0 edge-there) in
    omega (arith, head)

pub first_out-requires : goal.first_out-requires
first_out-requires c =
    let known : Entered c.args.table.now c.args.c c.args.start =
    (let s = c in entered s.args.table.now s.args.c s.args.start (λ i. (c.type_inv.table i).fits) s.requires.0 s.requires.1 s.requires.2) in
    let kept_there : (c.choose-found.result.choice.place ≡ arc_place c.args.table.now c.args.start c.choose-found.result.choice.edge) × (c.choose-found.result.choice.edge < 256) × (c.choose-found.result.choice.end ≤ 65535) =
    (c.choose-found.ensures.keeps (omega (arith, c.if-chosen-gt65535.false))) in
    let choice-is : choice (component_in c.args.table.now c.args.c) (entry_of c.args.at) ≡ some (record { edge = c.choose-found.result.choice.edge; ready = c.choose-found.result.choice.ready; end = c.choose-found.result.choice.end }) =
    (sym c.choose-found.ensures.picks ∙ rw (lt-ltb c.choose-found.result.choice.ready 65536 (omega (arith, c.if-chosen-gt65535.false))) refl) in
    let edge-there : c.choose-found.result.choice.edge < length (component_in c.args.table.now c.args.c).arcs =
    (let a = c.args in (choice_taken (component_in a.table.now a.c) (entry_of a.at) choice-is).there) in
    let a = c.args in
    arc_asked a.table.now a.c a.start known c.choose-found.result.choice.place c.choose-found.result.choice.edge kept_there.0 edge-there _ c.budgeted-budgets.ensures

pub returns-in_err-update : goal.returns-in_err-update
returns-in_err-update c =
    let known : Entered c.args.table.now c.args.c c.args.start =
    (let s = c in entered s.args.table.now s.args.c s.args.start (λ i. (c.type_inv.table i).fits) s.requires.0 s.requires.1 s.requires.2) in
    let kept_there : (c.choose-found.result.choice.place ≡ arc_place c.args.table.now c.args.start c.choose-found.result.choice.edge) × (c.choose-found.result.choice.edge < 256) × (c.choose-found.result.choice.end ≤ 65535) =
    (c.choose-found.ensures.keeps (omega (arith, c.if-chosen-gt65535.false))) in
    let choice-is : choice (component_in c.args.table.now c.args.c) (entry_of c.args.at) ≡ some (record { edge = c.choose-found.result.choice.edge; ready = c.choose-found.result.choice.ready; end = c.choose-found.result.choice.end }) =
    (sym c.choose-found.ensures.picks ∙ rw (lt-ltb c.choose-found.result.choice.ready 65536 (omega (arith, c.if-chosen-gt65535.false))) refl) in
    let edge-there : c.choose-found.result.choice.edge < length (component_in c.args.table.now c.args.c).arcs =
    (let a = c.args in (choice_taken (component_in a.table.now a.c) (entry_of a.at) choice-is).there) in
    let overflow-is : overflow (component_in c.args.table.now c.args.c) (entry_of c.args.at) ≡ overflow_with c.choose-found.result.choice.edge (option_of c.first_out.result) =
    (let a = c.args in
    one_taken (component_in a.table.now a.c) (entry_of a.at) choice-is
    (c.first_out.ensures ∙ ap (λ (x : Arc). first_out 0 x.updates a.at.values) (arc_is a.table.now a.c a.start known c.choose-found.result.choice.place c.choose-found.result.choice.edge kept_there.0 edge-there _ c.budgeted-budgets.ensures))) in
    rw c.from_residual.ensures (sym (overflow-is ∙ ap (λ r. overflow_with c.choose-found.result.choice.edge (option_of r)) c.in_err-update.was))

pub overflow_cast-result : goal.overflow_cast-result
overflow_cast-result c =
    let kept_there : (c.choose-found.result.choice.place ≡ arc_place c.args.table.now c.args.start c.choose-found.result.choice.edge) × (c.choose-found.result.choice.edge < 256) × (c.choose-found.result.choice.end ≤ 65535) =
    (c.choose-found.ensures.keeps (omega (arith, c.if-chosen-gt65535.false))) in
    omega (arith, kept_there.1)

pub returns : goal.returns
returns c =
    let known : Entered c.args.table.now c.args.c c.args.start =
    (let s = c in entered s.args.table.now s.args.c s.args.start (λ i. (c.type_inv.table i).fits) s.requires.0 s.requires.1 s.requires.2) in
    let kept_there : (c.choose-found.result.choice.place ≡ arc_place c.args.table.now c.args.start c.choose-found.result.choice.edge) × (c.choose-found.result.choice.edge < 256) × (c.choose-found.result.choice.end ≤ 65535) =
    (c.choose-found.ensures.keeps (omega (arith, c.if-chosen-gt65535.false))) in
    let choice-is : choice (component_in c.args.table.now c.args.c) (entry_of c.args.at) ≡ some (record { edge = c.choose-found.result.choice.edge; ready = c.choose-found.result.choice.ready; end = c.choose-found.result.choice.end }) =
    (sym c.choose-found.ensures.picks ∙ rw (lt-ltb c.choose-found.result.choice.ready 65536 (omega (arith, c.if-chosen-gt65535.false))) refl) in
    let edge-there : c.choose-found.result.choice.edge < length (component_in c.args.table.now c.args.c).arcs =
    (let a = c.args in (choice_taken (component_in a.table.now a.c) (entry_of a.at) choice-is).there) in
    let overflow-is : overflow (component_in c.args.table.now c.args.c) (entry_of c.args.at) ≡ overflow_with c.choose-found.result.choice.edge (option_of c.first_out.result) =
    (let a = c.args in
    one_taken (component_in a.table.now a.c) (entry_of a.at) choice-is
    (c.first_out.ensures ∙ ap (λ (x : Arc). first_out 0 x.updates a.at.values) (arc_is a.table.now a.c a.start known c.choose-found.result.choice.place c.choose-found.result.choice.edge kept_there.0 edge-there _ c.budgeted-budgets.ensures))) in
    sym (overflow-is ∙ ap (λ r. overflow_with c.choose-found.result.choice.edge (option_of r)) c.in_ok-update.was)
