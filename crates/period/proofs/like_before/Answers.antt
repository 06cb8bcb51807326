-- `period::like_before` meets its contract. Assumes nothing.
use mathlib.Core.Path.{sym, subst, subst₂}
use Prim.Native.Nat.{ℕ, ◌≤◌, ◌<◌}
use native.Mathlib.Omega.{arith}
use Rattle.schedule.proofs.Tables.{some_components, few_components}
use Rattle.recurrence.proofs.Joint.{RowsAlike}
use Rattle.period.specs.Walking.{schedule_in, Joins}
use Rattle.period.specs.Searching.{LastLike}
use Rattle.period.proofs.Searches.{none_like, near_like}
use Rattle.period.proofs.like_before.Goals as goal

pub last_there-requires : goal.last_there-requires
last_there-requires c =
    let number-of : (1 ≤ c.args.components) × (c.args.components ≤ 8) =
    (let e = c in
    let v = e.requires.0.placed.valid in
    (omega (arith, e.requires.2, some_components e.args.table.now c.type_inv.table v), omega (arith, e.requires.2, few_components e.args.table.now c.type_inv.table v))) in
    let p = c.requires in
    let n = number-of in
    (p.0.placed.fits, p.0.placed.few, n.0, n.1, p.6)

pub returns-in_err-near : goal.returns-in_err-near
returns-in_err-near c =
    let number-of : (1 ≤ c.args.components) × (c.args.components ≤ 8) =
    (let e = c in
    let v = e.requires.0.placed.valid in
    (omega (arith, e.requires.2, some_components e.args.table.now c.type_inv.table v), omega (arith, e.requires.2, few_components e.args.table.now c.type_inv.table v))) in
    let a = c.args in
    let p = c.requires in
    rw c.from_residual.ensures (none_like a.table.now a.rows.now a.count p.0 a.components p.2 number-of.0 a.last p.6 c.in_err-near.ensures)

pub carry-here-requires : goal.carry-here-requires
carry-here-requires c =
    let number-of : (1 ≤ c.args.components) × (c.args.components ≤ 8) =
    (let e = c in
    let v = e.requires.0.placed.valid in
    (omega (arith, e.requires.2, some_components e.args.table.now c.type_inv.table v), omega (arith, e.requires.2, few_components e.args.table.now c.type_inv.table v))) in
    let there : c.args.last < c.args.count =
    (omega (arith, (c.requires.6 0 (omega (arith, number-of.0))).0)) in
    let p = c.requires in
    (p.0, p.4, omega (arith, p.7), omega (arith, c.in_ok-near.ensures.0, there), p.3)

pub carry-there-requires : goal.carry-there-requires
carry-there-requires c =
    let number-of : (1 ≤ c.args.components) × (c.args.components ≤ 8) =
    (let e = c in
    let v = e.requires.0.placed.valid in
    (omega (arith, e.requires.2, some_components e.args.table.now c.type_inv.table v), omega (arith, e.requires.2, few_components e.args.table.now c.type_inv.table v))) in
    let there : c.args.last < c.args.count =
    (omega (arith, (c.requires.6 0 (omega (arith, number-of.0))).0)) in
    let p = c.requires in
    (p.0, c.carry-here.ensures.0, omega (arith, c.carry-here.ensures.1, c.in_ok-near.ensures.0), omega (arith, there), p.3)

pub alike-requires : goal.alike-requires
alike-requires c =
    let a = c.args in
    let p = c.requires in
    let j = c.in_ok-near.ensures.1.0 in (
      p.0,
      p.1,
      p.2,
      c.carry-here.ensures.0,
      c.carry-there.ensures.0,
      subst (Joins a.rows.now a.count a.components) (sym c.carry-here.ensures.1) j,
      subst (Joins a.rows.now a.count a.components) (sym c.carry-there.ensures.1) p.6,
    )

pub returns-then-alike : goal.returns-then-alike
returns-then-alike c =
    let number-of : (1 ≤ c.args.components) × (c.args.components ≤ 8) =
    (let e = c in
    let v = e.requires.0.placed.valid in
    (omega (arith, e.requires.2, some_components e.args.table.now c.type_inv.table v), omega (arith, e.requires.2, few_components e.args.table.now c.type_inv.table v))) in
    let a = c.args in
    let p = c.requires in
    near_like a.table.now a.rows.now a.count p.0 a.components p.2 number-of.0 a.last p.6 c.in_ok-near.near c.in_ok-near.ensures
    (subst₂ (RowsAlike (schedule_in a.table.now) a.components) c.carry-here.ensures.1 c.carry-there.ensures.1 (c.alike.ensures.0 c.if-alike.true))

pub last_like-requires : goal.last_like-requires
last_like-requires c =
    let a = c.args in
    let p = c.requires in
    (p.0, p.1, p.2, p.3, p.4, c.carry-there.ensures.0, p.5, subst (Joins a.rows.now a.count a.components) (sym c.carry-there.ensures.1) p.6, p.7)

pub returns : goal.returns
returns c =
    let a = c.args in
    subst (λ (z : ℕ). LastLike a.table.now a.rows.now a.count a.components z c.last_like.result) c.carry-there.ensures.1 c.last_like.ensures
