-- `verdict_text::put_meetings` meets its contract. Assumes nothing.
use mathlib.Core.Path.{ap, sym}
use Prim.Native.Nat.{ℕ}
use native.Mathlib.Omega.{arith}
use Rattle.text.specs.Words.{told}
use Rattle.verdict_text.specs.VerdictText.{mets_of, meetings_text}
use Rattle.text.proofs.Appended.{next}
use Rattle.text.proofs.Appended.{nothing, same_words}
use Rattle.verdict_text.proofs.Meetings.{first_at_fault}
use Rattle.verdict_text.proofs.put_meetings.Goals as goal

pub returns-then-n-eq0 : goal.returns-then-n-eq0
unfolding meetings_text told
returns-then-n-eq0 c =
    let a = c.args in
    (same_words (meetings_text a.spread a.number (mets_of a.list.now a.n)) (nothing a.out.now a.at) (ap (λ (m : ℕ). meetings_text a.spread a.number (mets_of a.list.now m)) (sym c.if-n-eq0.true)), omega arith)

pub returns : goal.returns
returns c =
    let a = c.args in
    (same_words (meetings_text a.spread a.number (mets_of a.list.now a.n)) (next (next c.put_fault-lines.ensures.0 c.put_met_lines-last.ensures.0) c.put_remedy.ensures.0) (first_at_fault a.spread a.number a.list.now a.n c.if-n-eq0.false), omega (arith, c.put_fault-lines.ensures.1, c.put_met_lines-last.ensures.1, c.put_remedy.ensures.1))
