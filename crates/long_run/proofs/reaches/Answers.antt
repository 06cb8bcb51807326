-- `long_run::reaches` meets its contract. Assumes nothing.
use native.Mathlib.Omega.{arith}
use borrow.Author.Tests.{lt-ltb, le-ltb, le-leb, lt-leb}
use Rattle.long_run.proofs.reaches.Goals as goal

pub returns-then-horizon-eq0 : goal.returns-then-horizon-eq0
returns-then-horizon-eq0 c =
    let a = c.args in rw (le-ltb 0 a.horizon (omega (arith, c.if-horizon-eq0.true)))

pub returns-then-horizon-own : goal.returns-then-horizon-own
returns-then-horizon-own c =
    let a = c.args in rw (lt-ltb 0 a.horizon (omega (arith, c.if-horizon-eq0.false)), le-leb a.horizon a.own (omega (arith, c.if-horizon-own.true)))

pub returns-else-horizon-own : goal.returns-else-horizon-own
returns-else-horizon-own c =
    let a = c.args in rw (lt-ltb 0 a.horizon (omega (arith, c.if-horizon-eq0.false)), lt-leb a.horizon a.own (omega (arith, c.if-horizon-own.false))) c.is_some-found.ensures
