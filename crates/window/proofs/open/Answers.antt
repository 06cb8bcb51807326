-- `window::open` meets its contract. Assumes nothing.
use mathlib.Core.Path.{◌≡◌, sym, ap, ◌∙◌}
use native.Mathlib.Omega.{arith}
use Rattle.model.specs.Table.{arc_of}
use Rattle.model.specs.Places.{component_in}
use Rattle.model.specs.Window.{updated}
use Rattle.window.specs.Views.{entry_of, option_of}
use Rattle.window.proofs.Considering.{pick_from, pick_none}
use Rattle.window.proofs.Choosing.{Took, took, open_none, open_out, open_ranged}
use Rattle.window.proofs.Ready.{Entered, entered, arc-head, arc_asked, arc_is}
use Rattle.window.proofs.open.Goals as goal

pub returns-then-chosen-gt65535 : goal.returns-then-chosen-gt65535
returns-then-chosen-gt65535 c =
    let a = c.args in
    let e = sym (pick_none c.choose-found.result.choice (omega (arith, c.if-chosen-gt65535.true))) ∙ c.choose-found.ensures.picks in record { opens = open_none a.c (component_in a.table.now a.c) (entry_of a.at) e; placed = tt }

pub slice_bounds-edge_update-count : goal.slice_bounds-edge_update-count
slice_bounds-edge_update-count c =
    let known : Entered c.args.table.now c.args.c c.args.start =
    (let s = c in entered s.args.table.now s.args.c s.args.start (λ i. (c.type_inv.table i).fits) s.requires.0 s.requires.1 s.requires.2) in
    let taken : Took c.args.table.now c.args.c c.args.start (entry_of c.args.at) c.choose-found.result.choice =
    (let a = c.args in
    took a.table.now a.c a.start (entry_of a.at) c.choose-found.result.choice (omega (arith, c.if-chosen-gt65535.false)) c.choose-found.ensures.picks c.choose-found.ensures.keeps) in
    let a = c.args in
    let k = taken in
    omega (arith, arc-head a.table.now a.c a.start known c.choose-found.result.choice.place c.choose-found.result.choice.edge k.place k.inside)

pub slice_bounds-edge_update-start : goal.slice_bounds-edge_update-start
slice_bounds-edge_update-start c =
    let known : Entered c.args.table.now c.args.c c.args.start =
    (let s = c in entered s.args.table.now s.args.c s.args.start (λ i. (c.type_inv.table i).fits) s.requires.0 s.requires.1 s.requires.2) in
    let taken : Took c.args.table.now c.args.c c.args.start (entry_of c.args.at) c.choose-found.result.choice =
    (let a = c.args in
    took a.table.now a.c a.start (entry_of a.at) c.choose-found.result.choice (omega (arith, c.if-chosen-gt65535.false)) c.choose-found.ensures.picks c.choose-found.ensures.keeps) in
    let a = c.args in
    let k = taken in
    omega (arith, arc-head a.table.now a.c a.start known c.choose-found.result.choice.place c.choose-found.result.choice.edge k.place k.inside)

pub edge_update-requires : goal.edge_update-requires
edge_update-requires c =
    let known : Entered c.args.table.now c.args.c c.args.start =
    (let s = c in entered s.args.table.now s.args.c s.args.start (λ i. (c.type_inv.table i).fits) s.requires.0 s.requires.1 s.requires.2) in
    let taken : Took c.args.table.now c.args.c c.args.start (entry_of c.args.at) c.choose-found.result.choice =
    (let a = c.args in
    took a.table.now a.c a.start (entry_of a.at) c.choose-found.result.choice (omega (arith, c.if-chosen-gt65535.false)) c.choose-found.ensures.picks c.choose-found.ensures.keeps) in
    let a = c.args in
    let k = taken in
    arc_asked a.table.now a.c a.start known c.choose-found.result.choice.place c.choose-found.result.choice.edge k.place k.inside a.budgets c.requires.5

pub returns-then-is_none : goal.returns-then-is_none
returns-then-is_none c =
    let taken : Took c.args.table.now c.args.c c.args.start (entry_of c.args.at) c.choose-found.result.choice =
    (let a = c.args in
    took a.table.now a.c a.start (entry_of a.at) c.choose-found.result.choice (omega (arith, c.if-chosen-gt65535.false)) c.choose-found.ensures.picks c.choose-found.ensures.keeps) in
    let known : Entered c.args.table.now c.args.c c.args.start =
    (let s = c in entered s.args.table.now s.args.c s.args.start (λ i. (c.type_inv.table i).fits) s.requires.0 s.requires.1 s.requires.2) in
    let changed : option_of c.edge_update.result
    ≡ updated (arc_of (component_in c.args.table.now c.args.c) c.choose-found.result.choice.edge).updates c.args.at.values =
    (let a = c.args in
    let k = taken in
    c.edge_update.ensures ∙ ap (λ x. updated x.updates a.at.values) (arc_is a.table.now a.c a.start known c.choose-found.result.choice.place c.choose-found.result.choice.edge k.place k.inside a.budgets c.requires.5)) in
    let a = c.args in
    let k = taken in
    record { opens = open_out a.c (component_in a.table.now a.c) (entry_of a.at) (pick_from c.choose-found.result.choice) k.pick c.edge_update.result c.if-is_none.ensures changed; placed = tt }

pub overflow_cast-result : goal.overflow_cast-result
overflow_cast-result c =
    let taken : Took c.args.table.now c.args.c c.args.start (entry_of c.args.at) c.choose-found.result.choice =
    (let a = c.args in
    took a.table.now a.c a.start (entry_of a.at) c.choose-found.result.choice (omega (arith, c.if-chosen-gt65535.false)) c.choose-found.ensures.picks c.choose-found.ensures.keeps) in
    omega (arith, taken.byte)

pub returns : goal.returns
returns c =
    let taken : Took c.args.table.now c.args.c c.args.start (entry_of c.args.at) c.choose-found.result.choice =
    (let a = c.args in
    took a.table.now a.c a.start (entry_of a.at) c.choose-found.result.choice (omega (arith, c.if-chosen-gt65535.false)) c.choose-found.ensures.picks c.choose-found.ensures.keeps) in
    let known : Entered c.args.table.now c.args.c c.args.start =
    (let s = c in entered s.args.table.now s.args.c s.args.start (λ i. (c.type_inv.table i).fits) s.requires.0 s.requires.1 s.requires.2) in
    let changed : option_of c.edge_update.result
    ≡ updated (arc_of (component_in c.args.table.now c.args.c) c.choose-found.result.choice.edge).updates c.args.at.values =
    (let a = c.args in
    let k = taken in
    c.edge_update.ensures ∙ ap (λ x. updated x.updates a.at.values) (arc_is a.table.now a.c a.start known c.choose-found.result.choice.place c.choose-found.result.choice.edge k.place k.inside a.budgets c.requires.5)) in
    let a = c.args in
    let k = taken in
    record { opens = open_ranged a.c (component_in a.table.now a.c) (entry_of a.at) (pick_from c.choose-found.result.choice) k.pick c.edge_update.result c.if-is_none.ensures changed; placed = (k.inside, k.place, omega (arith, c.if-chosen-gt65535.false), k.end) }
