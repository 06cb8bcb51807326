-- Parts of a path: where they lead, which passages each component leaves on them, and the works finished. Assumes nothing.
use mathlib.Core.Path.{◌≡◌, refl, sym, ap, ap₂, ◌∙◌}
use mathlib.Core.List.{List, [], ◌∷◌, ◌++◌, append_assoc, append-nil}
use mathlib.Core.Option.{Option, none, some}
use Prim.Native.Nat.{ℕ}
use Rattle.model.specs.Table.{Table}
use Rattle.model.specs.Network.{State, PathPassage, Label, step, onward, follow, passage_in, left_by, passages_on, Work, work_by, works_on}
use Rattle.model.proofs.Reader.Parts.{some_clash}

-- the passages that component c leaves along a list of steps
unfoldable pub left_on : Table → ℕ → State → List Label → List PathPassage
unfolding step
left_on T c s [] = []
left_on T c s (l ∷ ls) = left_by s c l ++ onward (step T s l) (λ t. left_on T c t ls) []

-- steps that lead from s to t: each component leaves the passages named, and the works named are finished
pub record Way (T : Table) (s : State) (ls : List Label) (t : State) (left : ℕ → List PathPassage) (ws : List Work) : Type 0 where
  pub goes : follow T s ls ≡ some t
  pub leaves : (c : ℕ) → left_on T c s ls ≡ left c
  pub works : works_on T s ls ≡ ws

-- ## Two lists of steps, one after the other

-- they lead where the second leads from where the first leads
pub follow_append : (T : Table) (s : State) (ls ms : List Label) {t : State} → follow T s ls ≡ some t → follow T s (ls ++ ms) ≡ follow T t ms
unfolding follow
follow_append T s [] ms {t} e = let h : s ≡ t = cc in rw h
follow_append T s (l ∷ ls) ms {t} e = go (step T s l) (λ u h. follow_append T u ls ms h) e
  where
    go : (o : Option State) → ((u : State) → follow T u ls ≡ some t → follow T u (ls ++ ms) ≡ follow T t ms)
        → onward o (λ u. follow T u ls) none ≡ some t → onward o (λ u. follow T u (ls ++ ms)) none ≡ follow T t ms
    go none ih h = some_clash (sym h)
    go (some u) ih h = ih u h

-- a component leaves what it leaves on the first, then on the second
pub left_append : (T : Table) (c : ℕ) (s : State) (ls ms : List Label) {t : State} → follow T s ls ≡ some t
    → left_on T c s (ls ++ ms) ≡ left_on T c s ls ++ left_on T c t ms
unfolding follow left_on
left_append T c s [] ms {t} e = let h : s ≡ t = cc in rw h
left_append T c s (l ∷ ls) ms {t} e = go (step T s l) (λ u h. left_append T c u ls ms h) e
  where
    go : (o : Option State) → ((u : State) → follow T u ls ≡ some t → left_on T c u (ls ++ ms) ≡ left_on T c u ls ++ left_on T c t ms)
        → onward o (λ u. follow T u ls) none ≡ some t
        → left_by s c l ++ onward o (λ u. left_on T c u (ls ++ ms)) [] ≡ (left_by s c l ++ onward o (λ u. left_on T c u ls) []) ++ left_on T c t ms
    go none ih h = some_clash (sym h)
    go (some u) ih h = ap (λ (x : List PathPassage). left_by s c l ++ x) (ih u h) ∙ sym (append_assoc (left_by s c l) (left_on T c u ls) (left_on T c t ms))

-- the works of the first, then those of the second
pub works_append : (T : Table) (s : State) (ls ms : List Label) {t : State} → follow T s ls ≡ some t → works_on T s (ls ++ ms) ≡ works_on T s ls ++ works_on T t ms
unfolding follow works_on
works_append T s [] ms {t} e = let h : s ≡ t = cc in rw h
works_append T s (l ∷ ls) ms {t} e = go (step T s l) (λ u h. works_append T u ls ms h) e
  where
    go : (o : Option State) → ((u : State) → follow T u ls ≡ some t → works_on T u (ls ++ ms) ≡ works_on T u ls ++ works_on T t ms)
        → onward o (λ u. follow T u ls) none ≡ some t
        → work_by T s l ++ onward o (λ u. works_on T u (ls ++ ms)) [] ≡ (work_by T s l ++ onward o (λ u. works_on T u ls) []) ++ works_on T t ms
    go none ih h = some_clash (sym h)
    go (some u) ih h = ap (λ (x : List Work). work_by T s l ++ x) (ih u h) ∙ sym (append_assoc (work_by T s l) (works_on T u ls) (works_on T t ms))

-- the passages on a path are those left along its first part, then those on the rest
pub passages_append : (T : Table) (c : ℕ) (s : State) (ls ms : List Label) {t : State} → follow T s ls ≡ some t
    → passages_on T c s (ls ++ ms) ≡ left_on T c s ls ++ passages_on T c t ms
unfolding follow passages_on left_on
passages_append T c s [] ms {t} e = let h : s ≡ t = cc in rw h
passages_append T c s (l ∷ ls) ms {t} e = go (step T s l) (λ u h. passages_append T c u ls ms h) e
  where
    go : (o : Option State) → ((u : State) → follow T u ls ≡ some t → passages_on T c u (ls ++ ms) ≡ left_on T c u ls ++ passages_on T c t ms)
        → onward o (λ u. follow T u ls) none ≡ some t
        → left_by s c l ++ onward o (λ u. passages_on T c u (ls ++ ms)) [] ≡ (left_by s c l ++ onward o (λ u. left_on T c u ls) []) ++ passages_on T c t ms
    go none ih h = some_clash (sym h)
    go (some u) ih h = ap (λ (x : List PathPassage). left_by s c l ++ x) (ih u h) ∙ sym (append_assoc (left_by s c l) (left_on T c u ls) (passages_on T c t ms))

-- ## Ways

module _ (T : Table) where
  -- no step
  pub no_way : (s : State) → Way T s [] s (λ c. []) []
  unfolding follow left_on works_on
  no_way s = record { goes = refl; leaves = λ c. refl; works = refl }

  -- one step
  pub one_way : (s : State) (l : Label) (t : State) → step T s l ≡ some t → Way T s (l ∷ []) t (λ c. left_by s c l) (work_by T s l)
  unfolding follow left_on works_on
  one_way s l t e = record { goes = rw e; leaves = λ c. rw e (append-nil (left_by s c l)); works = rw e (append-nil (work_by T s l)) }

  -- one way after another
  pub then_way : {s t u : State} {ls ms : List Label} {f g : ℕ → List PathPassage} {ws vs : List Work} → Way T s ls t f ws → Way T t ms u g vs
      → Way T s (ls ++ ms) u (λ c. f c ++ g c) (ws ++ vs)
  then_way {s} {t} {u} {ls} {ms} a b =
      record {
        goes = follow_append T s ls ms a.goes ∙ b.goes;
        leaves = λ c. left_append T c s ls ms a.goes ∙ ap₂ (λ (x y : List PathPassage). x ++ y) (a.leaves c) (b.leaves c);
        works = works_append T s ls ms a.goes ∙ ap₂ (λ (x y : List Work). x ++ y) a.works b.works;
      }

  -- the same way, told otherwise
  pub same_way : {s t t' : State} {ls ms : List Label} {f g : ℕ → List PathPassage} {ws vs : List Work} → Way T s ls t f ws → ls ≡ ms → t ≡ t' → ((c : ℕ) → f c ≡ g c)
      → ws ≡ vs → Way T s ms t' g vs
  same_way {s} {g = g} a el et eg ew =
      record {
        goes = ap (λ (x : List Label). follow T s x) (sym el) ∙ a.goes ∙ ap some et;
        leaves = λ c. ap (λ (x : List Label). left_on T c s x) (sym el) ∙ a.leaves c ∙ eg c;
        works = ap (λ (x : List Label). works_on T s x) (sym el) ∙ a.works ∙ ew;
      }

  -- the passages on a path that goes on: those left, then the present one
  pub way_passages : {s t : State} {ls : List Label} {f : ℕ → List PathPassage} {ws : List Work} → Way T s ls t f ws → (c : ℕ)
      → passages_on T c s ls ≡ f c ++ (passage_in t c ∷ [])
  unfolding passages_on
  way_passages {s} {t} {ls} {f} a c =
      ap (λ (x : List Label). passages_on T c s x) (sym (append-nil ls))
      ∙ passages_append T c s ls [] a.goes
      ∙ ap (λ (x : List PathPassage). x ++ (passage_in t c ∷ [])) (a.leaves c)
