-- What is said of where the check stopped, by the number of the verdict. Assumes nothing.
use mathlib.Core.Path.{◌≡◌}
use mathlib.Core.List.{List, []}
use Prim.Native.Nat.{ℕ, ◌≤◌, ◌<◌}
use native.Mathlib.Omega.{arith}
use borrow.Author.Tests.{lt-ltb, le-ltb}
use Rattle.model.specs.declared.Verdict.TheVariants.{Refused}
use Rattle.model.specs.Calls.{check_call_at}
use Rattle.refusal_place.specs.Walk.{place_of}
use Rattle.opening_place.specs.Opening.{opening_of}
use Rattle.place_text.specs.PlaceText.{place_text}
use Rattle.opening_text.specs.OpeningText.{opening_text}
use Rattle.verdict_text.specs.VerdictText.{stop_text}
use Rattle.verdict_words.proofs.Stops.{place_of_verdict}

module _ (table : List ℕ) (number : ℕ) where
  pub before_four : number < 4 → [] ≡ stop_text table number
  unfolding stop_text
  before_four low = rw (lt-ltb number 4 low)

  pub a_place : 4 ≤ number → number < 7 → place_text (place_of table) ≡ stop_text table number
  unfolding stop_text
  a_place low high = rw (le-ltb number 4 low, lt-ltb number 7 high)

  pub an_opening : 7 ≤ number → number < 10 → opening_text (opening_of table) ≡ stop_text table number
  unfolding stop_text
  an_opening low high = rw (le-ltb number 4 (omega arith), le-ltb number 7 low, lt-ltb number 10 high)

  pub from_ten : 10 ≤ number → [] ≡ stop_text table number
  unfolding stop_text
  from_ten high = rw (le-ltb number 4 (omega arith), le-ltb number 7 (omega arith), le-ltb number 10 high)

  -- a table refused with 4 to 6 has a place
  pub has_place : (G component : ℕ) → check_call_at G table ≡ Refused number component → 4 ≤ number → number ≤ 6 → 0 < (place_of table).number
  has_place G component e low high = omega (arith, low, (place_of_verdict G table number component low high e).0)
