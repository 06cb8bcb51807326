-- `verdict_text::remedy::put_remedy` meets its contract. Assumes nothing.
use mathlib.Core.Path.{ap, ◌∙◌}
use mathlib.Core.List.{List}
use Prim.Native.Nat.{ℕ, ◌-◌}
use native.Mathlib.Omega.{arith}
use lib.ListN.{drop}
use Rattle.text.proofs.Appended.{nothing, same_words}
use Rattle.text.proofs.Lines.{from_is}
use Rattle.verdict_text.specs.VerdictText.{met_at, mets_of, listener_remedy, remedy_text}
use Rattle.verdict_text.proofs.Meetings.{listened, unlistened, no_remedy}
use Rattle.verdict_text.proofs.remedy.put_remedy.Goals as goal

pub returns-then-n-ge2 : goal.returns-then-n-ge2
returns-then-n-ge2 c =
    let a = c.args in
    let l = a.list.now in
    (same_words (remedy_text a.spread a.number (met_at l) (mets_of (drop 7 l) (a.n - 1))) c.put_listened.ensures.0 (ap (λ (m : List ℕ). listener_remedy a.spread a.number (met_at l) (met_at m)) (from_is l 7) ∙ listened a.spread a.number (met_at l) (drop 7 l) a.n c.if-n-ge2.true), c.put_listened.ensures.1)

pub returns-then-number-eq11 : goal.returns-then-number-eq11
returns-then-number-eq11 c =
    let a = c.args in
    let l = a.list.now in
    (same_words (remedy_text a.spread a.number (met_at l) (mets_of (drop 7 l) (a.n - 1))) c.put_nobody.ensures.0 (unlistened a.spread a.number (met_at l) (drop 7 l) a.n c.if-number-eq11.true c.if-n-ge2.false), c.put_nobody.ensures.1)

pub returns : goal.returns
returns c =
    let a = c.args in
    let l = a.list.now in
    (same_words (remedy_text a.spread a.number (met_at l) (mets_of (drop 7 l) (a.n - 1))) (nothing a.out.now a.at) (no_remedy a.spread a.number (met_at l) (drop 7 l) a.n c.if-number-eq11.false c.if-n-ge2.false), omega arith)
