-- `period::last_like` meets its contract. Assumes nothing.
use mathlib.Core.Path.{◌≡◌, sym, subst, ◌∙◌}
use Prim.Native.Nat.{ℕ, ◌≤◌, ◌<◌}
use native.Mathlib.Omega.{arith}
use Rattle.model.proofs.Basics.Bools.{clash}
use Rattle.schedule.proofs.Tables.{some_components, few_components}
use Rattle.period.proofs.Likeness.{room}
use Rattle.period.proofs.Searches.{not_beyond, none_before, last_kept, last_found}
use Rattle.period.specs.Searching.{LastBefore, Like}
use Rattle.period.proofs.last_like.Goals as goal
use Rattle.period.proofs.last_like.Goals.{then-alike, else-alike}

pub loop-here-init : goal.loop-here-init
loop-here-init c =
    let e = c in
    let a = e.args in
    let p = e.requires in
    (p.4, omega (arith, p.8), p.6, none_before (Like a.table.now a.rows.now a.count a.components a.last.row) a.first.row p.8)

pub alike-requires : goal.alike-requires
alike-requires c =
    let p = c.requires in
    let l = c.loop-here in
    (p.0, p.1, p.2, l.invariant.0, p.5, l.invariant.2, p.7)

pub next_joint-here-requires : goal.next_joint-here-requires
next_joint-here-requires c =
    let last-there : (c.args.last.row < c.args.count) × (c.args.components ≤ 8) =
    (let e = c in
    let a = e.args in
    let p = e.requires in
    let k = some_components a.table.now c.type_inv.table p.0.placed.valid in
    let r = room a.table.now a.rows.now a.count p.0 a.components p.2 (omega (arith, k, p.2)) a.last.row p.7 in
    (omega (arith, r, k, p.2), omega (arith, p.2, few_components a.table.now c.type_inv.table p.0.placed.valid))) in
    let p = c.requires in
    let l = c.loop-here in
    let t = last-there in
    (p.0, l.invariant.0, omega (arith, c.loop-here-test.true, t.0), t.1, p.3)

pub loop-here-smaller : goal.loop-here-smaller
loop-here-smaller c = omega (arith, c.loop-here-test.true, c.next_joint-here.ensures.1.from)

pub loop-here-preserved : goal.loop-here-preserved
loop-here-preserved c =
    let last-there : (c.args.last.row < c.args.count) × (c.args.components ≤ 8) =
    (let e = c in
    let a = e.args in
    let p = e.requires in
    let k = some_components a.table.now c.type_inv.table p.0.placed.valid in
    let r = room a.table.now a.rows.now a.count p.0 a.components p.2 (omega (arith, k, p.2)) a.last.row p.7 in
    (omega (arith, r, k, p.2), omega (arith, p.2, few_components a.table.now c.type_inv.table p.0.placed.valid))) in
    let e = c in
    let a = e.args in
    let p = e.requires in
    let l = c.loop-here in
    let like = Like a.table.now a.rows.now a.count a.components a.last.row in
    let within = not_beyond a.rows.now a.count a.components l.here.row c.next_joint-here.result.row a.last.row c.next_joint-here.ensures.1 c.loop-here-test.true p.7 in (
      c.next_joint-here.ensures.0,
      within,
      c.next_joint-here.ensures.1.there (omega (arith, within, last-there.0)),
      elim c.if-alike.branch [
        | then-alike w ↦ subst (LastBefore like c.next_joint-here.result.row) (sym w.like-is)
            (last_found a.rows.now a.count a.components like (λ j p. p.0) l.here.row c.next_joint-here.result.row c.next_joint-here.ensures.1 (l.invariant.2, c.alike.ensures.0 w.if-alike.true))
        | else-alike w ↦ subst (LastBefore like c.next_joint-here.result.row) (sym w.like-is)
            (last_kept a.rows.now a.count a.components like (λ j p. p.0) l.here.row c.next_joint-here.result.row c.next_joint-here.ensures.1 (λ z. clash (sym w.if-alike.false ∙ c.alike.ensures.1 z.1)) l.like l.invariant.3)
      ],
    )

pub returns : goal.returns
returns c =
    let a = c.args in
    let l = c.loop-here in
    let end : l.here.row ≡ a.last.row = omega (arith, l.invariant.1, c.loop-here-test.false) in
    subst (λ (h : ℕ). LastBefore (Like a.table.now a.rows.now a.count a.components a.last.row) h l.like) end l.invariant.3
