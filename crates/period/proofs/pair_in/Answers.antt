-- `period::pair_in` meets its contract. Assumes nothing.
use mathlib.Core.Path.{◌≡◌, sym, ap₂, subst, ◌∙◌}
use Prim.Native.Nat.{ℕ, ◌-◌, ◌≤◌}
use native.Mathlib.Omega.{arith}
use Rattle.model.specs.Table.{size}
use Rattle.model.specs.Places.{read_of}
use Rattle.rows.specs.Rows.{num}
use Rattle.schedule.proofs.Tables.{counted, header, some_components, few_components}
use Rattle.period.specs.Walking.{Joins}
use Rattle.period.proofs.Longer.{least-horizon}
use Rattle.period.proofs.Likeness.{starts_joined}
use Rattle.period.proofs.Searches.{no_pair, distant, one-pair}
use Rattle.period.proofs.pair_in.Goals as goal

pub bounds-table-3 : goal.bounds-table-3
bounds-table-3 c = let e = c in omega (arith, header e.args.table.now c.type_inv.table e.requires.0.placed.valid)

pub budgeted-budgets-requires : goal.budgeted-budgets-requires
budgeted-budgets-requires c = let e = c in omega (arith, header e.args.table.now c.type_inv.table e.requires.0.placed.valid)

pub start-first-requires : goal.start-first-requires
start-first-requires c = let p = c.requires in (p.0, p.1)

pub last_joint-last-requires : goal.last_joint-last-requires
last_joint-last-requires c =
    let all : c.wide-components.result ≡ size (read_of c.args.table.now).table =
    (let e = c in c.wide-components.ensures.0 ∙ counted e.args.table.now c.type_inv.table e.requires.0.placed.valid) in
    let least : 1 ≤ c.wide-components.result =
    (let e = c in omega (arith, all, some_components e.args.table.now c.type_inv.table e.requires.0.placed.valid)) in
    let e = c in
    let a = e.args in
    let v = e.requires.0.placed.valid in (
      e.requires.0.placed.fits,
      e.requires.0.placed.few,
      least,
      omega (arith, all, few_components a.table.now c.type_inv.table v),
      starts_joined a.table.now a.rows.now a.count e.requires.0 c.wide-components.result all least,
    )

pub like_before-requires : goal.like_before-requires
like_before-requires c =
    let all : c.wide-components.result ≡ size (read_of c.args.table.now).table =
    (let e = c in c.wide-components.ensures.0 ∙ counted e.args.table.now c.type_inv.table e.requires.0.placed.valid) in
    let least : 1 ≤ c.wide-components.result =
    (let e = c in omega (arith, all, some_components e.args.table.now c.type_inv.table e.requires.0.placed.valid)) in
    let first-row : Joins c.args.rows.now c.args.count c.wide-components.result c.start-first.result.row =
    (let e = c in
    let a = e.args in
    subst (Joins a.rows.now a.count c.wide-components.result) (sym c.start-first.ensures.1) (starts_joined a.table.now a.rows.now a.count e.requires.0 c.wide-components.result all least)) in
    let p = c.requires in
    (p.0, p.1, all, c.budgeted-budgets.ensures, c.start-first.ensures.0, first-row, c.last_joint-last.ensures.joins, c.start-first.ensures.1)

pub returns-in_err-like : goal.returns-in_err-like
returns-in_err-like c =
    let all : c.wide-components.result ≡ size (read_of c.args.table.now).table =
    (let e = c in c.wide-components.ensures.0 ∙ counted e.args.table.now c.type_inv.table e.requires.0.placed.valid) in
    let least : 1 ≤ c.wide-components.result =
    (let e = c in omega (arith, all, some_components e.args.table.now c.type_inv.table e.requires.0.placed.valid)) in
    let e = c in
    let a = e.args in
    rw c.from_residual.ensures (no_pair a.table.now a.rows.now a.count e.requires.0 c.wide-components.result all least (least-horizon a.table.now c.type_inv.table e.requires.0.placed.valid) c.last_joint-last.result
    c.last_joint-last.ensures c.in_err-like.ensures)

pub number-requires : goal.number-requires
number-requires c = omega (arith, c.requires.0.placed.fits, c.last_joint-last.ensures.there)

pub number-requires-2 : goal.number-requires-2
number-requires-2 c = omega (arith, c.requires.0.placed.fits, c.last_joint-last.ensures.there, c.in_ok-like.ensures.0)

pub overflow_sub-distance : goal.overflow_sub-distance
overflow_sub-distance c =
    let p = c.requires in
    omega (arith, c.number-2.ensures, c.number.ensures, p.0.placed.order c.in_ok-like.like c.last_joint-last.result (omega (arith, c.in_ok-like.ensures.0)) c.last_joint-last.ensures.there)

pub first_like-requires : goal.first_like-requires
first_like-requires c =
    let all : c.wide-components.result ≡ size (read_of c.args.table.now).table =
    (let e = c in c.wide-components.ensures.0 ∙ counted e.args.table.now c.type_inv.table e.requires.0.placed.valid) in
    let least : 1 ≤ c.wide-components.result =
    (let e = c in omega (arith, all, some_components e.args.table.now c.type_inv.table e.requires.0.placed.valid)) in
    let first-row : Joins c.args.rows.now c.args.count c.wide-components.result c.start-first.result.row =
    (let e = c in
    let a = e.args in
    subst (Joins a.rows.now a.count c.wide-components.result) (sym c.start-first.ensures.1) (starts_joined a.table.now a.rows.now a.count e.requires.0 c.wide-components.result all least)) in
    let apart-is : c.number.result - c.number-2.result ≡ num c.args.rows.now c.last_joint-last.result 3 - num c.args.rows.now c.in_ok-like.like 3 =
    (ap₂ (λ (x y : ℕ). x - y) c.number.ensures c.number-2.ensures) in
    let e = c in
    let a = e.args in
    let p = e.requires in
    let d = distant a.table.now a.rows.now a.count p.0 c.wide-components.result all least (least-horizon a.table.now c.type_inv.table p.0.placed.valid) c.last_joint-last.result c.last_joint-last.ensures c.in_ok-like.like c.in_ok-like.ensures (c.number.result - c.number-2.result) apart-is in
    let r = p.0.placed.row c.last_joint-last.result c.last_joint-last.ensures.there in (
      p.0,
      p.1,
      all,
      c.budgeted-budgets.ensures,
      c.start-first.ensures.0,
      first-row,
      c.start-first.ensures.1,
      d.0,
      omega (arith, c.number.ensures, r.early, r.window, r.small),
      (c.in_ok-like.like, c.last_joint-last.result, d.1),
    )

pub returns : goal.returns
returns c =
    let all : c.wide-components.result ≡ size (read_of c.args.table.now).table =
    (let e = c in c.wide-components.ensures.0 ∙ counted e.args.table.now c.type_inv.table e.requires.0.placed.valid) in
    let least : 1 ≤ c.wide-components.result =
    (let e = c in omega (arith, all, some_components e.args.table.now c.type_inv.table e.requires.0.placed.valid)) in
    let apart-is : c.number.result - c.number-2.result ≡ num c.args.rows.now c.last_joint-last.result 3 - num c.args.rows.now c.in_ok-like.like 3 =
    (ap₂ (λ (x y : ℕ). x - y) c.number.ensures c.number-2.ensures) in
    let n = c in
    let e = c in
    let a = e.args in
    let p = e.requires in
    one-pair a.table.now a.rows.now a.count p.0 c.wide-components.result all least (least-horizon a.table.now c.type_inv.table p.0.placed.valid) c.last_joint-last.result c.last_joint-last.ensures c.in_ok-like.like c.in_ok-like.ensures
    (c.number.result - c.number-2.result) apart-is c.first_like.result c.first_like.ensures
