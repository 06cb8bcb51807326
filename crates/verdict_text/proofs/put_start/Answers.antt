-- `verdict_text::put_start` meets its contract. Assumes nothing.
use mathlib.Core.Path.{ap}
use native.Mathlib.Omega.{arith}
use borrow.Author.Tests.{lt-ltb, le-ltb, eq-eqb, ne_eqb}
use lib.ListN.{get_or}
use Rattle.text.proofs.Appended.{same_words}
use Rattle.spread_text.specs.SpreadWords.{start_margin}
use Rattle.verdict_text.proofs.put_start.Goals as goal

pub returns-then-spread-ne0 : goal.returns-then-spread-ne0
returns-then-spread-ne0 c =
    rw (ne_eqb c.args.spread 0 c.if-spread-ne0.true) (same_words _ c.put_start_margin.ensures.0 (ap start_margin c.lacking-lack.ensures.0), c.put_start_margin.ensures.1)

pub returns-then-start-send : goal.returns-then-start-send
returns-then-start-send c =
    let a = c.args in
    rw (eq-eqb a.spread 0 c.if-spread-ne0.false, lt-ltb (get_or a.w.now 4 0) (get_or a.sent.now 4 0) c.if-start-send.true) (c.put.ensures.0, omega (arith, c.put.ensures.1))

pub returns-else-start-send : goal.returns-else-start-send
returns-else-start-send c =
    let a = c.args in
    rw (eq-eqb a.spread 0 c.if-spread-ne0.false, le-ltb (get_or a.w.now 4 0) (get_or a.sent.now 4 0) c.if-start-send.false) (c.put-else-start-send.ensures.0, omega (arith, c.put-else-start-send.ensures.1))
