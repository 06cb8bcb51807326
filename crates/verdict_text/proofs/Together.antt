-- Without a spread: the words are those of the verdict without one. Assumes nothing.
use mathlib.Core.Path.{◌≡◌, ap₂}
use mathlib.Core.List.{List}
use Prim.Native.Nat.{ℕ}
use Rattle.model.specs.declared.Verdict.{Verdict}
use Rattle.model.specs.Schedule.{Passage}
use Rattle.model.proofs.Run.CallsApart.{check_together, met_together}
use Rattle.verdict_text.specs.VerdictText.{verdict_with, verdict_text_at, verdict_text}

pub text_together : (table : List ℕ) → verdict_text_at 0 table ≡ verdict_text table
unfolding verdict_text_at verdict_text
text_together table = ap₂ (λ (v : Verdict) (M : List Passage). verdict_with 0 table v M) (check_together table) (met_together table)
