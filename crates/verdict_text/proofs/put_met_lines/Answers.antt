-- `verdict_text::put_met_lines` meets its contract. Assumes nothing.
use Prim.Native.Nat.{◌-◌}
use native.Mathlib.Omega.{arith}
use lib.ListN.{drop}
use Rattle.text.specs.Words.{told}
use Rattle.verdict_text.specs.VerdictText.{met_at, mets_of, met_lines}
use Rattle.text.proofs.Appended.{same_words}
use Rattle.verdict_text.proofs.Meetings.{one_met, more_met}
use Rattle.verdict_text.proofs.put_met_lines.Goals as goal

pub returns-then-n-eq1 : goal.returns-then-n-eq1
unfolding told
returns-then-n-eq1 c =
    let a = c.args in
    let l = a.list.now in
    (same_words (met_lines a.spread a.number (met_at l) (mets_of (drop 7 l) (a.n - 1))) c.put.ensures.0 (one_met a.spread a.number (met_at l) (drop 7 l) a.n c.if-n-eq1.true), omega (arith, c.put.ensures.1, c.if-n-eq1.true))

pub returns-else-n-eq1 : goal.returns-else-n-eq1
returns-else-n-eq1 c =
    let a = c.args in
    let l = a.list.now in
    (same_words (met_lines a.spread a.number (met_at l) (mets_of (drop 7 l) (a.n - 1))) c.put_each_met.ensures.0 (more_met a.spread a.number (met_at l) (drop 7 l) a.n c.requires.2 c.if-n-eq1.false), c.put_each_met.ensures.1)
