-- The text of a run without a spread and without offsets is that of a run of nodes that start together. Assumes nothing.
use mathlib.Core.Path.{◌≡◌, refl, ap, ◌∙◌}
use mathlib.Core.List.{List, [], ◌++◌, append-nil}
use Prim.Native.Nat.{ℕ, zero, suc}
use Rattle.model.specs.declared.Verdict.{Verdict}
use Rattle.model.specs.declared.Verdict.TheVariants.{Accepted, Refused}
use Rattle.model.specs.Reader.{byte}
use Rattle.model.specs.Calls.{RunCall, offsets_fine, run_call_at}
use Rattle.model.proofs.Run.CallsApart.{run_together}
use Rattle.run_text.specs.RunText.{end_text, counts_text, first_line, observation_lines, ran_text, run_text, offsets_text, ran_text_at, run_text_at}

none_told : (nodes : ℕ) → offsets_text nodes [] ≡ []
unfolding offsets_text offsets_fine
none_told zero = refl
none_told (suc n) = refl

ran_together : (nodes : ℕ) (v : Verdict) (r : RunCall) (choices : List ℕ) → ran_text_at nodes [] v r choices ≡ ran_text v r choices
ran_together nodes (Refused n c) r choices = refl
ran_together nodes Accepted r choices =
    let first = end_text r.end choices r.used ++ counts_text r.tick r.used r.size in
    ap (λ (l : List ℕ). first ++ l ++ first_line ++ observation_lines r.lent r.size) (none_told nodes)
    ∙ ap (λ (l : List ℕ). l ++ first_line ++ observation_lines r.lent r.size) (append-nil first)

pub text_together : (table choices lent : List ℕ) → run_text_at 0 table [] choices lent ≡ run_text table choices lent
unfolding run_text_at run_text
text_together table choices lent =
    ran_together (byte table 3) (run_call_at 0 table [] choices lent).verdict (run_call_at 0 table [] choices lent) choices
    ∙ ap (λ (r : RunCall). ran_text r.verdict r choices) (run_together table choices lent)
