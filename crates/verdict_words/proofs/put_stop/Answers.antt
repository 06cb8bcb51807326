-- `verdict_words::put_stop` meets its contract. Assumes nothing.
use mathlib.Core.Path.{ap, ◌∙◌}
use native.Mathlib.Omega.{arith}
use Rattle.text.proofs.Appended.{nothing, same_words}
use Rattle.place_text.specs.PlaceText.{place_text}
use Rattle.opening_text.specs.OpeningText.{opening_text}
use Rattle.verdict_text.specs.VerdictText.{stop_text}
use Rattle.verdict_words.proofs.StopSaid.{before_four, a_place, an_opening, from_ten}
use Rattle.verdict_words.proofs.put_stop.Goals as goal

pub returns-then-number-lt4 : goal.returns-then-number-lt4
returns-then-number-lt4 c =
    let a = c.args in
    (same_words (stop_text a.table.now a.number) (nothing a.out.now a.at) (before_four a.table.now a.number c.if-number-lt4.true), omega arith)

pub put_place_text-requires : goal.put_place_text-requires
put_place_text-requires c =
    let s = c in
    (s.requires.0, c.locate-place.ensures.offset_bound (omega (arith, s.requires.1 c.if-number-lt4.false (omega (arith, c.if-number-lt7.true)), ap (λ q. q.number) c.locate-place.ensures.value)))

pub returns-then-number-lt7 : goal.returns-then-number-lt7
returns-then-number-lt7 c =
    let a = c.args in
    (same_words (stop_text a.table.now a.number) c.put_place_text.ensures.0 (ap place_text c.locate-place.ensures.value ∙ a_place a.table.now a.number c.if-number-lt4.false c.if-number-lt7.true), c.put_place_text.ensures.1)

pub put_opening_text-requires : goal.put_opening_text-requires
put_opening_text-requires c = omega (arith, c.requires.0)

pub returns-then-number-lt10 : goal.returns-then-number-lt10
returns-then-number-lt10 c =
    let a = c.args in
    (same_words (stop_text a.table.now a.number) c.put_opening_text.ensures.0 (ap opening_text c.locate-opening.ensures ∙ an_opening a.table.now a.number c.if-number-lt7.false c.if-number-lt10.true), omega (arith, c.put_opening_text.ensures.1))

pub returns : goal.returns
returns c =
    let a = c.args in
    (same_words (stop_text a.table.now a.number) (nothing a.out.now a.at) (from_ten a.table.now a.number c.if-number-lt10.false), omega arith)
