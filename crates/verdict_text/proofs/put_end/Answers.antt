-- `verdict_text::put_end` meets its contract. Assumes nothing.
use mathlib.Core.Path.{ap}
use native.Mathlib.Omega.{arith}
use borrow.Author.Tests.{lt-ltb, le-ltb, eq-eqb, ne_eqb}
use lib.ListN.{get_or}
use Rattle.text.proofs.Appended.{same_words}
use Rattle.spread_text.specs.SpreadWords.{end_margin}
use Rattle.verdict_text.proofs.put_end.Goals as goal

pub returns-then-spread-ne0 : goal.returns-then-spread-ne0
returns-then-spread-ne0 c =
    rw (ne_eqb c.args.spread 0 c.if-spread-ne0.true) (same_words _ c.put_end_margin.ensures.0 (ap end_margin c.lacking-lack.ensures.0), c.put_end_margin.ensures.1)

pub returns-then-send-end : goal.returns-then-send-end
returns-then-send-end c =
    let a = c.args in
    rw (eq-eqb a.spread 0 c.if-spread-ne0.false, lt-ltb (get_or a.sent.now 5 0) (get_or a.w.now 5 0) c.if-send-end.true) (c.put.ensures.0, omega (arith, c.put.ensures.1))

pub returns-else-send-end : goal.returns-else-send-end
returns-else-send-end c =
    let a = c.args in
    rw (eq-eqb a.spread 0 c.if-spread-ne0.false, le-ltb (get_or a.sent.now 5 0) (get_or a.w.now 5 0) c.if-send-end.false) (c.put-else-send-end.ensures.0, omega (arith, c.put-else-send-end.ensures.1))
