-- The passages of one component in a list of passages, and what holds of each of a list. Assumes nothing.
use mathlib.Core.Path.{◌≡◌, refl, sym, ap, subst}
use mathlib.Core.Bool.{cond}
use mathlib.Core.List.{List, [], ◌∷◌, ◌++◌, map}
use mathlib.Core.Option.{Option}
use mathlib.Core.Logic.{by_cases}
use Prim.Native.Nat.{ℕ, suc, ◌<◌}
use native.Mathlib.Omega.{arith}
use native.Mathlib.Decide.{ℕ_discrete}
use borrow.Author.Tests.{eqb-true, eq-eqb, ne_eqb}
use lib.Dec.{eqb}
use lib.ListN.{length, get_or, set, get_or-append}
use lib.Seq.{get_or_at, get_or-set_same, get_or-set_other}
use Rattle.model.specs.Lists.{◌∈◌, here, there, All, empty, more, snoc}
use Rattle.model.specs.Schedule.{Passage, own}
use Rattle.model.specs.Checks.{no_passage, passage_at}
use Rattle.model.proofs.Basics.Members.{only_is, only_append}
use Rattle.model.proofs.Checks.Independence.{only_map}
use Rattle.model.proofs.Schedule.Messages.{put}

-- ## What holds of each

module _ {A : Type 0} {P : A → Type 0} where
  -- what holds of each holds of one of them
  pub all_in : {x : A} {xs : List A} → All P xs → x ∈ xs → P x
  all_in (more p a) (here e) = subst P (sym e) p
  all_in (more p a) (there i) = all_in a i
  all_in empty x4 = elim x4 [ ]

  -- what holds of every one of them holds of each
  pub in_all : (xs : List A) → ((x : A) → x ∈ xs → P x) → All P xs
  in_all [] f = empty
  in_all (x ∷ xs) f = more (f x (here refl)) (in_all xs (λ y i. f y (there i)))

  -- what holds by number holds of each
  pub at_all : (d : A) (xs : List A) → ((i : ℕ) → i < length xs → P (get_or xs i d)) → All P xs
  at_all d [] f = empty
  at_all d (x ∷ xs) f = more (f 0 (omega arith)) (at_all d xs (λ i h. f (suc i) (omega arith)))

-- what holds of the one stored, and of every other as before, holds after it is stored
pub at_set : (vs : List Passage) (i : ℕ) (w : Passage) → i < length vs → (Q : ℕ → Passage → Type 0) → Q i w → (c : ℕ) → ((c ≡ i → ⊥) → Q c (passage_at vs c)) → Q c (passage_at (set vs i w) c)
at_set vs i w h Q q c f = by_cases (ℕ_discrete c i)
    (λ e. subst (λ n. Q n (passage_at (set vs i w) n)) (sym e) (subst (Q i) (sym (get_or-set_same vs i w no_passage h)) q))
    (λ n. subst (Q c) (sym (get_or-set_other vs i c w no_passage n)) (f n))

-- what holds of those listed, and of one more, holds of all
pub at_snoc : (vs : List Passage) (c : ℕ) (w : Passage) → length vs ≡ c → (Q : ℕ → Passage → Type 0) → Q c w → ((k : ℕ) → k < c → Q k (passage_at vs k))
    → (k : ℕ) → k < suc c → Q k (passage_at (snoc vs w) k)
at_snoc vs c w l Q q f k h = by_cases (ℕ_discrete k c)
    (λ e. subst (λ n. Q n (passage_at (snoc vs w) n)) (sym e) (subst (Q c) (sym (get_or_at vs w [] no_passage c l)) q))
    (λ n. subst (Q k) (sym (get_or-append vs (w ∷ []) no_passage k (omega arith))) (f k (omega arith)))

-- what follows from it holds of each
pub all_then : {A : Type 0} {P Q : A → Type 0} {xs : List A} → ((x : A) → P x → Q x) → All P xs → All Q xs
all_then f empty = empty
all_then f (more {x = x} p a) = more (f x p) (all_then f a)

-- what holds of each after f
pub all_map : {A B : Type 0} {Q : B → Type 0} (f : A → B) {xs : List A} → All (λ x. Q (f x)) xs → All Q (map f xs)
all_map f empty = empty
all_map f (more p a) = more p (all_map f a)

-- ## The passages of one component

-- the first is of the component
pub own_here : (c : ℕ) (w : Passage) (ws : List Passage) → w.component ≡ c → own c (w ∷ ws) ≡ w ∷ own c ws
own_here c w ws e = ap (λ t. cond t (w ∷ own c ws) (own c ws)) (eq-eqb w.component c e)

-- the first is of another component
pub own_other : (c : ℕ) (w : Passage) (ws : List Passage) → (w.component ≡ c → ⊥) → own c (w ∷ ws) ≡ own c ws
own_other c w ws e = ap (λ t. cond t (w ∷ own c ws) (own c ws)) (ne_eqb w.component c e)

-- of two lists, one after the other
pub own_append : (c : ℕ) (xs ys : List Passage) → own c (xs ++ ys) ≡ own c xs ++ own c ys
own_append c xs ys = only_append (λ v. eqb v.component c) xs ys

-- with messages put in
pub own_put : (g : Passage → Option ℕ) (c : ℕ) (vs : List Passage) → own c (map (put g) vs) ≡ map (put g) (own c vs)
own_put g c vs = only_map (put g) (λ v. eqb v.component c) vs

-- a passage is among those of its component
pub in_own : {v : Passage} {vs : List Passage} → v ∈ vs → v ∈ own v.component vs
in_own {v} {vs} i = (only_is (λ (x : Passage). eqb x.component v.component) vs).1 (i, eq-eqb v.component v.component refl)

-- a passage among those of a component is in the list, and of that component
pub own_in : {v : Passage} (c : ℕ) (vs : List Passage) → v ∈ own c vs → (v ∈ vs) × (v.component ≡ c)
own_in {v} c vs i = let h = (only_is (λ (x : Passage). eqb x.component c) vs).0 i in (h.0, eqb-true v.component c h.1)
