-- The lines of the first passages of a list, one after the other. Assumes nothing.
use mathlib.Core.Path.{◌≡◌, refl, sym, ap, ◌∙◌}
use mathlib.Core.List.{List, [], ◌∷◌, ◌++◌, map, map-append, append_assoc, append-nil}
use Prim.Native.Nat.{ℕ, ◌+◌, ◌<◌}
use native.Mathlib.Numerals.{add-one}
use lib.ListN.{length, get_or, take}
use lib.Seq.{take-suc}
use Rattle.model.specs.Lists.{each}
use Rattle.model.proofs.Basics.Sums.{each_join}
use Rattle.passages.specs.declared.Passage.{Passage}
use Rattle.text.specs.Words.{ascii, Added}
use Rattle.schedule_text.specs.ScheduleText.{passage_line, schedule_text, shown}

-- the text of the first i
abbrev pub listed : List Passage → ℕ → List ℕ
listed items i = schedule_text (map shown (take i items))

pub none_listed : (items : List Passage) → ascii "c e l entry ready end msg\n" ≡ listed items 0
unfolding schedule_text
none_listed items = refl

-- one line more
line_more : (S : List Rattle.model.specs.Schedule.Passage) (v : Rattle.model.specs.Schedule.Passage) → schedule_text S ++ passage_line v ≡ schedule_text (S ++ (v ∷ []))
unfolding schedule_text
line_more S v =
    append_assoc (ascii "c e l entry ready end msg\n") (each passage_line S) (passage_line v)
    ∙ ap (λ (l : List ℕ). ascii "c e l entry ready end msg\n" ++ l)
    (ap (λ (l : List ℕ). each passage_line S ++ l) (sym (append-nil (passage_line v))) ∙ sym (each_join passage_line S (v ∷ [])))

pub more_listed : (items : List Passage) (default : Passage) (out out' : List ℕ) (at at' i : ℕ) → i < length items
    → Added out at (passage_line (shown (get_or items i default))) out' at'
    → take at out ≡ listed items i → take at' out' ≡ listed items (i + 1)
more_listed items default out out' at at' i h added e =
    let x = get_or items i default in
    rw add-one
    (added.text ∙ ap (λ (l : List ℕ). l ++ passage_line (shown x)) e ∙ line_more (map shown (take i items)) (shown x)
    ∙ ap schedule_text (sym (map-append shown (take i items) (x ∷ [])) ∙ ap (map shown) (sym (take-suc items i default h))))
