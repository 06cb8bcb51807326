-- The largest spread at which a table is accepted, in words.
use Rattle.std.specs.Prelude.{◌≡◌, cond, List, ◌++◌, ℕ, eqb}
use Rattle.model.specs.declared.Verdict.TheVariants.{Accepted, Refused}
use Rattle.model.specs.Calls.{check_call, LargestSpread}
use Rattle.text.specs.Words.{ascii, field}
use Rattle.refusal_text.specs.RefusalText.{refusal_text}

abbrev pub spread_text : ℕ → List ℕ
spread_text G = field "accepted up to a spread of " G ++ cond (eqb G 1) (ascii " tick\n") (ascii " ticks\n")

-- What is printed of a table's bytes. Document 02, wish 6: "The check now takes a bound G on the spread"; the largest one at which the table is
-- accepted is told, or the refusal of the check without a spread. There is one such text (the law `one_text` in proofs/Determined.antt).
pub record Printed (table text : List ℕ) : Type 0 where
  pub accepted : check_call table ≡ Accepted → (G : ℕ) × LargestSpread table G × (text ≡ spread_text G)
  pub refused : (number component : ℕ) → check_call table ≡ Refused number component → text ≡ refusal_text number component
