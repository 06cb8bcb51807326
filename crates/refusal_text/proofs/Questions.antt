-- The questions by their numbers. Assumes nothing.
use mathlib.Core.Path.{◌≡◌, sym, ap, ◌∙◌}
use mathlib.Core.List.{List, ◌++◌}
use Prim.Native.Nat.{ℕ, ◌≤◌}
use lib.ListN.{take, get_or-eq_default}
use Rattle.text.specs.Words.{Added}
use Rattle.refusal_text.specs.RefusalText.{no_question, questions, question}

-- the words of a number that is known
pub asked : (number known : ℕ) {before after : List ℕ} {at end : ℕ} → number ≡ known → Added before at (question known) after end → Added before at (question number) after end
asked number known {before} {at = at} e a = record { text = a.text ∙ ap (λ (n : ℕ). take at before ++ question n) (sym e) }

-- past the last
pub not_asked : (number : ℕ) {before after : List ℕ} {at end : ℕ} → 30 ≤ number → Added before at no_question after end → Added before at (question number) after end
unfolding question
not_asked number {before} {at = at} h a =
    record { text = a.text ∙ ap (λ (w : List ℕ). take at before ++ w) (sym (get_or-eq_default questions no_question h)) }
