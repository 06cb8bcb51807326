-- `run_text::put_not_allowed` meets its contract. Assumes nothing.
use mathlib.Core.Path.{ap, sym, ◌∙◌}
use Prim.Native.Nat.{ℕ, ◌<◌}
use native.Mathlib.Omega.{arith}
use borrow.Author.Tests.{ltb-true}
use lib.ListN.{length, get_or}
use Rattle.std.proofs.lemmas.Grind.{get_or_default_zero}
use Rattle.text.specs.Words.{field}
use Rattle.text.proofs.Appended.{next, nothing, same_words}
use Rattle.run_text.proofs.put_not_allowed.Goals as goal

pub returns-in-Some : goal.returns-in-Some
returns-in-Some c =
    let a = c.args in
    let there = c.in-Some.ensures.lookup in
    let within : a.used < length a.choices.now = ltb-true a.used (length a.choices.now) (sym there.0) in
    let byte = same_words (field ", byte " (get_or a.choices.now a.used 0)) c.put_field.ensures.0 (ap (λ (n : ℕ). field ", byte " n) (c.from.ensures ∙ there.1 ∙ get_or_default_zero a.choices.now a.used _ within)) in
    rw (sym there.0) (next c.put_field-last.ensures.0 byte, omega (arith, c.put_field-last.ensures.1, c.put_field.ensures.1))

pub returns-in-None : goal.returns-in-None
returns-in-None c =
    rw (sym c.in-None.ensures.lookup.0) (next c.put_field-last.ensures.0 (nothing c.put_field-last.new.out c.put_field-last.result), omega (arith, c.put_field-last.ensures.1))
