-- `machine::note_finish` meets its contract. Assumes nothing.
use native.Mathlib.Omega.{arith}
use borrow.Author.Tests.{le-leb, lt-leb}
use mathlib.Core.Path.{refl}
use Rattle.machine.proofs.note_finish.Goals as goal

-- an op before done
pub returns-then-op-lt-DONE : goal.returns-then-op-lt-DONE
returns-then-op-lt-DONE c = let op = c.args.op in rw (lt-leb 3 op (omega (arith, c.if-op-lt-DONE.true))) refl

-- an op behind listen
pub returns-then-op-gt-LISTEN : goal.returns-then-op-gt-LISTEN
returns-then-op-gt-LISTEN c =
    let op = c.args.op in
    rw (le-leb 3 op (omega (arith, c.if-op-lt-DONE.false)), lt-leb op 5 (omega (arith, c.if-op-gt-LISTEN.true))) refl

-- one that finishes a work
pub returns : goal.returns
returns c =
    let op = c.args.op in
    rw (le-leb 3 op (omega (arith, c.if-op-lt-DONE.false)), le-leb op 5 (omega (arith, c.if-op-gt-LISTEN.false)))
    c.put_word.ensures
