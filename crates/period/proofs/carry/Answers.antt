-- `period::carry` meets its contract. Assumes nothing.
use mathlib.Core.Path.{◌≡◌, refl, sym, ap, subst}
use Prim.Native.Nat.{ℕ, ◌+◌, ◌≤◌, ◌<◌}
use native.Mathlib.Omega.{arith}
use lib.ListN.{set}
use Rattle.model.specs.Lists.{All}
use Rattle.model.specs.Places.{read_of}
use Rattle.model.specs.Schedule.{passage_arc}
use Rattle.rows.specs.Rows.{num, row_passage}
use Rattle.replay.specs.Growing.{Grown}
use Rattle.period.specs.Walking.{entry_at, On}
use Rattle.schedule.proofs.Tables.{few_components}
use Rattle.period.proofs.Walks.{present, known, entered_then, on_next}
use Rattle.period.proofs.carry.Invariants.{walker}
use Rattle.period.proofs.carry.Goals as goal

pub loop-row-init : goal.loop-row-init
loop-row-init c = (c.requires.1, c.requires.2)

pub index-component-requires : goal.index-component-requires
index-component-requires c =
    let a = c.args in
    let p = c.requires in
    let l = c.loop-row in
    omega (arith, (known a.table.now a.rows.now a.count p.0 (walker l.row l.entries) l.invariant.0 (omega (arith, c.loop-row-test.true, p.3))).fits)

pub offset_bounds-entries-component : goal.offset_bounds-entries-component
offset_bounds-entries-component c =
    let small : c.index-component.result < 8 =
    (let e = c in
    let a = e.args in
    let o = c.loop-row in
    omega (arith, c.index-component.ensures, present a.table.now a.rows.now a.count e.requires.0 (walker o.row o.entries) o.invariant.0 (omega (arith, c.loop-row-test.true, e.requires.3)), few_components a.table.now c.type_inv.table e.requires.0.placed.valid)) in
    omega (arith, small)

pub bounds-entries-component : goal.bounds-entries-component
bounds-entries-component c =
    let small : c.index-component.result < 8 =
    (let e = c in
    let a = e.args in
    let o = c.loop-row in
    omega (arith, c.index-component.ensures, present a.table.now a.rows.now a.count e.requires.0 (walker o.row o.entries) o.invariant.0 (omega (arith, c.loop-row-test.true, e.requires.3)), few_components a.table.now c.type_inv.table e.requires.0.placed.valid)) in
    small

pub grown-next-requires : goal.grown-next-requires
grown-next-requires c =
    let a = c.args in
    let p = c.requires in
    let bs = a.table.now in
    let l = a.rows.now in
    let o = c.loop-row in
    let w = walker o.row o.entries in
    let h : o.row < a.count = omega (arith, c.loop-row-test.true, p.3) in
    let i : c.index-component.result ≡ num l w.row 0 = c.index-component.ensures in
    let k = known bs l a.count p.0 w o.invariant.0 h in
    let t = entered_then bs l a.count p.0 w o.invariant.0 h in (
      k,
      omega (arith, t, k.row.early, k.row.window, ap (λ (x : ℕ). (entry_at w x).tick) i),
      subst (λ (x : ℕ). All (λ y. y ≤ (entry_at w x).tick) (entry_at w x).clocks) (sym i) (o.invariant.0.each (num l w.row 0) (present bs l a.count p.0 w o.invariant.0 h)).young,
      p.4,
    )

pub offset_bounds-entries-component-in-loop-row : goal.offset_bounds-entries-component-in-loop-row
offset_bounds-entries-component-in-loop-row c =
    let small : c.index-component.result < 8 =
    (let e = c in
    let a = e.args in
    let o = c.loop-row in
    omega (arith, c.index-component.ensures, present a.table.now a.rows.now a.count e.requires.0 (walker o.row o.entries) o.invariant.0 (omega (arith, c.loop-row-test.true, e.requires.3)), few_components a.table.now c.type_inv.table e.requires.0.placed.valid)) in
    omega (arith, small)

pub bounds-entries-component-in-loop-row : goal.bounds-entries-component-in-loop-row
bounds-entries-component-in-loop-row c =
    let small : c.index-component.result < 8 =
    (let e = c in
    let a = e.args in
    let o = c.loop-row in
    omega (arith, c.index-component.ensures, present a.table.now a.rows.now a.count e.requires.0 (walker o.row o.entries) o.invariant.0 (omega (arith, c.loop-row-test.true, e.requires.3)), few_components a.table.now c.type_inv.table e.requires.0.placed.valid)) in
    small

pub loop-row-preserved : goal.loop-row-preserved
loop-row-preserved c =
    let a = c.args in
    let p = c.requires in
    let bs = a.table.now in
    let l = a.rows.now in
    let o = c.loop-row in
    let w = walker o.row o.entries in
    let h : o.row < a.count = omega (arith, c.loop-row-test.true, p.3) in
    let i : c.index-component.result ≡ num l w.row 0 = c.index-component.ensures in
    let g = subst (λ (x : ℕ). Grown (passage_arc (read_of bs).table (row_passage l w.row)) (num l w.row 5) (entry_at w x) c.grown-next.result) i c.grown-next.ensures in (
      subst (λ (x : ℕ). On bs a.count (walker (w.row + 1) (set w.entries x c.grown-next.result))) (sym i)
          (on_next bs l a.count p.0 w o.invariant.0 h c.type_inv.table (few_components bs c.type_inv.table p.0.placed.valid) c.grown-next.result g),
      omega (arith, c.loop-row-test.true),
    )

pub returns : goal.returns
returns c =
    let l = c.loop-row in
    let end : l.row ≡ c.args.until = omega (arith, l.invariant.1, c.loop-row-test.false) in
    (subst (λ (i : ℕ). On c.args.table.now c.args.count (walker i l.entries)) end l.invariant.0, refl)
