-- `simulator::waits_at` meets its contract. Assumes nothing.
use native.Mathlib.Omega.{arith}
use borrow.Author.Tests.{le-leb, lt-leb}
use mathlib.Core.Path.{refl}
use Rattle.simulator.proofs.waits_at.Goals as goal

pub returns-then-op-lt-DONE : goal.returns-then-op-lt-DONE
returns-then-op-lt-DONE c = let op = c.args.op in rw (lt-leb 3 op (omega (arith, c.if-op-lt-DONE.true))) refl

pub returns-then-op-gt-SEND : goal.returns-then-op-gt-SEND
returns-then-op-gt-SEND c = let op = c.args.op in rw (le-leb 3 op (omega (arith, c.if-op-lt-DONE.false)), lt-leb op 4 (omega (arith, c.if-op-gt-SEND.true))) refl

pub returns : goal.returns
returns c = let op = c.args.op in rw (le-leb 3 op (omega (arith, c.if-op-lt-DONE.false)), le-leb op 4 (omega (arith, c.if-op-gt-SEND.false))) refl
