-- `verdict_text::tells_band` meets its contract. Assumes nothing.
use borrow.Author.Tests.{eq-eqb, ne_eqb, lt-ltb, le-ltb}
use Prim.Native.Nat.{◌+◌}
use native.Mathlib.Omega.{arith}
use lib.ListN.{length}
use Rattle.verdict_text.proofs.tells_band.Goals as goal

pub returns-then-number-ne10 : goal.returns-then-number-ne10
returns-then-number-ne10 c =
    rw (ne_eqb c.args.number 10 c.if-number-ne10.true)

pub returns-then-table-channel : goal.returns-then-table-channel
returns-then-table-channel c =
    let a = c.args in
    rw (eq-eqb a.number 10 c.if-number-ne10.false, le-ltb (7 + a.channel) (length a.table.now) (omega (arith, c.if-table-channel.true)))

pub returns : goal.returns
returns c =
    let a = c.args in
    rw (eq-eqb a.number 10 c.if-number-ne10.false, lt-ltb (7 + a.channel) (length a.table.now) (omega (arith, c.if-table-channel.false)))
