-- `simulated_runs::call::may_try` meets its contract. Assumes nothing.
use mathlib.Core.Path.{refl}
use native.Mathlib.Omega.{arith}
use borrow.Author.Tests.{le-leb, lt-leb}
use Rattle.simulated_runs.proofs.call.may_try.Goals as goal

pub returns-then-hi-lo : goal.returns-then-hi-lo
returns-then-hi-lo c = let a = c.args in rw (lt-leb a.lo a.hi (omega (arith, c.if-hi-lo.true))) refl

pub returns-then-hi-gt60000 : goal.returns-then-hi-gt60000
returns-then-hi-gt60000 c =
    let a = c.args in rw (le-leb a.lo a.hi (omega (arith, c.if-hi-lo.false)), lt-leb a.hi 60000 (omega (arith, c.if-hi-gt60000.true))) refl

pub returns-then-runs-eq0 : goal.returns-then-runs-eq0
returns-then-runs-eq0 c =
    let a = c.args in
    rw (le-leb a.lo a.hi (omega (arith, c.if-hi-lo.false)), le-leb a.hi 60000 (omega (arith, c.if-hi-gt60000.false)), lt-leb 1 a.runs (omega (arith, c.if-runs-eq0.true))) refl

pub returns : goal.returns
returns c =
    let a = c.args in
    rw (le-leb a.lo a.hi (omega (arith, c.if-hi-lo.false)), le-leb a.hi 60000 (omega (arith, c.if-hi-gt60000.false)), le-leb 1 a.runs (omega (arith, c.if-runs-eq0.false)))
