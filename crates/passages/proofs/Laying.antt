-- Passages stored one by one, and the seven numbers of each. Assumes nothing.
use mathlib.Core.Path.{◌≡◌, refl, sym, ap, ap₂, ◌∙◌}
use mathlib.Core.Bool.{Bool, true, false}
use mathlib.Core.List.{List, [], ◌∷◌, ◌++◌, map}
use Prim.Native.Nat.{ℕ, zero, suc, ◌+◌, ◌*◌, ◌≤◌, ◌<◌}
use native.Mathlib.Omega.{arith}
use borrow.Author.Tests.{eqb-true, eqb-false}
use lib.Dec.{eqb}
use lib.ListN.{length, get_or, set, take, drop, length-map}
use lib.Seq.{get_or-set_same, get_or-set_other, get_or-append-add, take-length}
use Rattle.model.specs.Lists.{each}
use Rattle.model.specs.Schedule.{seven_of}
use Rattle.model.specs.Checks.{passage_at}
use Rattle.passages.specs.declared.Passage.{Passage}
use Rattle.passages.specs.Passages.{passage_of}
use Rattle.passages.specs.Copied.{blank, copied, copied_is}
use Rattle.passages.specs.Planned.{from_seven}

-- ## One passage more

-- the first i items are the first i passages of the numbers
abbrev pub Alike : List ℕ → ℕ → List Passage → Type 0
Alike l i items = (j : ℕ) → j < i → get_or items j blank ≡ from_seven l j

pub none_alike : (l : List ℕ) (items : List Passage) → Alike l 0 items
none_alike l items j h = absurd (omega arith)

pub one_more : (l : List ℕ) (i : ℕ) (items : List Passage) (r : Passage) → i < length items → r ≡ from_seven l i → Alike l i items → Alike l (i + 1) (set items i r)
one_more l i items r h e a j k = go (eqb j i) refl
  where
    go : (t : Bool) → eqb j i ≡ t → get_or (set items i r) j blank ≡ from_seven l j
    go true q = let s : j ≡ i = eqb-true j i q in rw s (get_or-set_same items i r blank h ∙ e)
    go false q = let s = eqb-false j i q in get_or-set_other items i j r blank s ∙ a j (omega (arith, s))

-- ## Items that are alike

-- only the first n items are stored
pub copied_alike : (l xs ys : List Passage) (n : ℕ) → ((j : ℕ) → j < n → get_or xs j blank ≡ get_or ys j blank) → copied l xs n ≡ copied l ys n
unfolding copied
copied_alike l xs ys zero h = refl
copied_alike l xs ys (suc n) h = ap₂ (λ (us : List Passage) (x : Passage). set us n x) (copied_alike l xs ys n (λ j k. h j (omega arith))) (h n (omega arith))

-- passage i of a schedule's
pub nth_passage : (S : List Rattle.model.specs.Schedule.Passage) (i : ℕ) → i < length S → get_or (map passage_of S) i blank ≡ passage_of (passage_at S i)
nth_passage [] i h = absurd (omega arith)
nth_passage (v ∷ S) zero h = refl
nth_passage (v ∷ S) (suc i) h = nth_passage S i (omega arith)

-- seven numbers and seven more
same_passage : {a b c d e f g a' b' c' d' e' f' g' : ℕ} → a ≡ a' → b ≡ b' → c ≡ c' → d ≡ d' → e ≡ e' → f ≡ f' → g ≡ g'
    → ◌≡◌ {A = Passage} (record { component = a; edge = b; location = c; message = d; entry = e; ready = f; end = g }) (record { component = a'; edge = b'; location = c'; message = d'; entry = e'; ready = f'; end = g' })
same_passage p q r s t u v = rw (p, q, r, s, t, u, v)

-- passage i of its numbers
pub nth_seven : (S : List Rattle.model.specs.Schedule.Passage) (rest : List ℕ) (i : ℕ) → i < length S → from_seven (each seven_of S ++ rest) i ≡ passage_of (passage_at S i)
unfolding each
nth_seven [] rest i h = absurd (omega arith)
nth_seven (v ∷ S) rest zero h = refl
nth_seven (v ∷ S) rest (suc i) h =
    same_passage (moved (suc i * 7) (i * 7) (omega arith)) (moved (suc i * 7 + 1) (i * 7 + 1) (omega arith)) (moved (suc i * 7 + 2) (i * 7 + 2) (omega arith))
    (moved (suc i * 7 + 6) (i * 7 + 6) (omega arith)) (moved (suc i * 7 + 3) (i * 7 + 3) (omega arith)) (moved (suc i * 7 + 4) (i * 7 + 4) (omega arith))
    (moved (suc i * 7 + 5) (i * 7 + 5) (omega arith))
    ∙ nth_seven S rest i (omega arith)
  where
    moved : (j k : ℕ) → j ≡ length (seven_of v) + k → get_or (seven_of v ++ (each seven_of S ++ rest)) j 0 ≡ get_or (each seven_of S ++ rest) k 0
    moved j k e = ap (λ (m : ℕ). get_or (seven_of v ++ (each seven_of S ++ rest)) m 0) e ∙ get_or-append-add (seven_of v) (each seven_of S ++ rest) k 0

-- all stored
pub stored : (S : List Rattle.model.specs.Schedule.Passage) (l : List Passage) (xs : List Passage) (numbers rest : List ℕ) (n : ℕ) → n ≡ length S → n ≤ length l
    → numbers ≡ each seven_of S ++ rest → Alike numbers n xs → copied l xs n ≡ map passage_of S ++ drop (length S) l
stored S l xs numbers rest n e h q a =
    let m : n ≤ length (map passage_of S) = rw (length-map S passage_of) (omega arith) in
    let same : (j : ℕ) → j < n → get_or xs j blank ≡ get_or (map passage_of S) j blank = λ j k.
    a j k ∙ ap (λ (u : List ℕ). from_seven u j) q ∙ nth_seven S rest j (omega arith) ∙ sym (nth_passage S j (omega arith)) in
    let w : n ≡ length (map passage_of S) = rw (length-map S passage_of) e in
    copied_alike l xs (map passage_of S) n same ∙ copied_is l (map passage_of S) n h m
    ∙ ap₂ (λ (us ws : List Passage). us ++ ws) (ap (λ (k : ℕ). take k (map passage_of S)) w ∙ take-length (map passage_of S)) (ap (λ (k : ℕ). drop k l) e)
