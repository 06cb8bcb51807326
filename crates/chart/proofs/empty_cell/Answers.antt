-- `chart::empty_cell` meets its contract. Assumes nothing.
use mathlib.Core.Path.{◌≡◌}
use Prim.Native.Nat.{suc, ◌+◌, ◌*◌, ◌/◌}
use native.Mathlib.Nat.{mul-le-mul_left}
use native.Mathlib.Omega.{arith}
use borrow.Author.Tests.{lt-ltb, le-ltb}
use Rattle.chart.proofs.empty_cell.Goals as goal

pub overflow_mul-cell : goal.overflow_mul-cell
overflow_mul-cell c = record { fits = omega (arith, mul-le-mul_left c.args.cell c.requires.1) }

pub overflow_mul-cell-2 : goal.overflow_mul-cell-2
overflow_mul-cell-2 c = record { fits = omega (arith, mul-le-mul_left (c.args.cell + 1) c.requires.1) }

pub returns-then-cell-horizon : goal.returns-then-cell-horizon
returns-then-cell-horizon c =
    let a = c.args in
    let e : suc a.cell ≡ a.cell + 1 = omega arith in
    rw (e, lt-ltb (a.cell * a.horizon / 64) ((a.cell + 1) * a.horizon / 64) c.if-cell-horizon.true)

pub returns-else-cell-horizon : goal.returns-else-cell-horizon
returns-else-cell-horizon c =
    let a = c.args in
    let e : suc a.cell ≡ a.cell + 1 = omega arith in
    rw (e, le-ltb (a.cell * a.horizon / 64) ((a.cell + 1) * a.horizon / 64) c.if-cell-horizon.false)
