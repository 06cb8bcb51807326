-- `simulator::work_ticks` meets its contract. Assumes nothing.
use mathlib.Core.Path.{◌≡◌, ap}
use Prim.Native.Nat.{ℕ, suc, ◌+◌, ◌-◌, ◌%◌, ◌≤◌, ◌<◌}
use native.Mathlib.Nat.{mod-lt}
use native.Mathlib.Omega.{arith}
use Rattle.simulator.proofs.work_ticks.Goals as goal

-- no more than the span
below : (lo hi draw : ℕ) → lo ≤ hi → draw % (hi - lo + 1) < hi - lo + 1
below lo hi draw h = mod-lt draw (let p : 0 < hi - lo + 1 = omega arith in p)

pub overflow_add-result-2 : goal.overflow_add-result-2
overflow_add-result-2 c = omega (arith, below c.args.lo c.args.hi c.args.draw c.requires.0, c.requires.0, c.requires.1)

pub overflow_cast-result : goal.overflow_cast-result
overflow_cast-result c = omega (arith, below c.args.lo c.args.hi c.args.draw c.requires.0, c.requires.0, c.requires.1)

pub returns : goal.returns
returns c =
    let a = c.args in
    let e : a.hi - a.lo + 1 ≡ suc a.hi - a.lo = omega (arith, c.requires.0) in
    (ap (λ (k : ℕ). a.lo + a.draw % k) e, omega (arith, below a.lo a.hi a.draw c.requires.0, c.requires.0, c.requires.1))
