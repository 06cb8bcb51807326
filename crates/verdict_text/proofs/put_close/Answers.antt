-- `verdict_text::put_close` meets its contract. Assumes nothing.
use mathlib.Core.Path.{ap}
use mathlib.Core.List.{◌++◌}
use Prim.Native.Nat.{ℕ}
use native.Mathlib.Omega.{arith}
use borrow.Author.Tests.{eq-eqb, ne_eqb}
use Rattle.text.specs.Words.{ascii}
use Rattle.text.proofs.Appended.{nothing, same_words}
use Rattle.spread_text.specs.SpreadWords.{ticks}
use Rattle.verdict_text.proofs.put_close.Goals as goal

pub returns-then-spread-eq0 : goal.returns-then-spread-eq0
returns-then-spread-eq0 c =
    let a = c.args in
    rw (eq-eqb a.spread 0 c.if-spread-eq0.true) (nothing a.out.now a.at, omega arith)

pub returns : goal.returns
returns c =
    rw (ne_eqb c.args.spread 0 c.if-spread-eq0.false) (same_words _ c.put_distance.ensures.0 (ap (λ (n : ℕ). ascii ": " ++ ticks n ++ ascii " too close") c.too_close-moved.ensures.0), omega (arith, c.put_distance.ensures.1))
