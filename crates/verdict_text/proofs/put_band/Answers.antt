-- `verdict_text::put_band` meets its contract. Assumes nothing.
use mathlib.Core.Path.{ap, sym}
use Prim.Native.Nat.{ℕ}
use native.Mathlib.Omega.{arith}
use Rattle.text.specs.Words.{told}
use Rattle.text.proofs.Appended.{nothing, same_words}
use Rattle.verdict_text.specs.VerdictText.{mets_of, band_text}
use Rattle.verdict_text.proofs.Meetings.{first_band}
use Rattle.verdict_text.proofs.put_band.Goals as goal

pub returns-then-n-eq0 : goal.returns-then-n-eq0
unfolding band_text told
returns-then-n-eq0 c =
    let a = c.args in
    (same_words (band_text a.table.now a.number (mets_of a.list.now a.n)) (nothing a.out.now a.at) (ap (λ (m : ℕ). band_text a.table.now a.number (mets_of a.list.now m)) (sym c.if-n-eq0.true)), omega arith)

pub returns : goal.returns
returns c =
    let a = c.args in
    (same_words (band_text a.table.now a.number (mets_of a.list.now a.n)) c.put_band_line.ensures.0 (first_band a.table.now a.number a.list.now a.n c.if-n-eq0.false), c.put_band_line.ensures.1)
