-- Messages and checks 10 to 12 read neither clocks nor variables nor messages of a passage. Assumes nothing.
use mathlib.Core.Path.{◌≡◌, refl, ap, ap₂, ◌∙◌}
use mathlib.Core.Bool.{Bool, true, false, cond, ◌&&◌, ◌||◌, not}
use mathlib.Core.List.{List, [], ◌∷◌, map}
use mathlib.Core.Option
use mathlib.Core.Option.{Option, none, some}
use Prim.Native.Nat.{ℕ}
use Rattle.model.specs.declared.Verdict.TheVariants.{Refused}
use Rattle.model.specs.Lists.{any, only, first, Answer, accepted}
use Rattle.model.specs.Table.{Table}
use Rattle.model.specs.Window.{channel_of, listens}
use Rattle.model.specs.Schedule.{Passage, passage_arc, heard_by, ends_sooner, sooner, earliest, carried, message_in, with_message, finished, light, bare}
use Rattle.model.specs.Checks.{is_send, is_receive, meets, collides, may_hear, heard_well, unheard, hearing_of, hearing_number, unheard_number, two, crowded, fault_by, checked}
use Rattle.model.specs.Calls.{verdict_of}
use Rattle.model.proofs.Checks.Independence.{only_map}

-- ## Messages

-- the sooner of two is the same
sooner_bare : (b : Option Passage) (s : Passage) → sooner (Option.map bare b) (bare s) ≡ Option.map bare (sooner b s)
sooner_bare none s = refl
sooner_bare (some b) s = go (ends_sooner s b)
  where
    go : (t : Bool) → cond t (some (bare s)) (some (bare b)) ≡ Option.map bare (cond t (some s) (some b))
    go true = refl
    go false = refl

-- the earliest is the same
earliest_bare : (p : Passage → Bool) → ((s : Passage) → p (bare s) ≡ p s) → (vs : List Passage) (b : Option Passage)
    → earliest p (map bare vs) (Option.map bare b) ≡ Option.map bare (earliest p vs b)
earliest_bare p same [] b = refl
earliest_bare p same (s ∷ vs) b = ap (earliest p (map bare vs)) (rw (same s) (go (p s))) ∙ earliest_bare p same vs (cond (p s) (sooner b s) b)
  where
    go : (t : Bool) → cond t (sooner (Option.map bare b) (bare s)) (Option.map bare b) ≡ Option.map bare (cond t (sooner b s) b)
    go true = sooner_bare b s
    go false = refl

carried_bare : (T : Table) (o : Option Passage) → carried T (Option.map bare o) ≡ carried T o
carried_bare T none = refl
carried_bare T (some s) = refl

-- a bare passage's message among bare passages is the passage's
pub message_of_bare : (T : Table) (H : ℕ) (vs : List Passage) (v : Passage) → message_in T H (map bare vs) (bare v) ≡ message_in T H vs v
unfolding message_in
message_of_bare T H vs v =
    ap (λ o. cond (listens (passage_arc T v)) o (channel_of (passage_arc T v)))
    (ap (carried T) (earliest_bare (heard_by T H v) (λ s. refl) vs none) ∙ carried_bare T (earliest (heard_by T H v) vs none))

-- bare passages, finished, are the passages finished, without clocks and variables
pub finished_bare : (T : Table) (H : ℕ) (vs : List Passage) → finished T H (map bare vs) ≡ map light (finished T H vs)
unfolding finished
finished_bare T H vs = go vs
  where
    go : (ws : List Passage) → map (λ v. with_message v (message_in T H (map bare vs) v)) (map bare ws) ≡ map light (map (λ v. with_message v (message_in T H vs v)) ws)
    go [] = refl
    go (w ∷ ws) = ap₂ (λ (x : Passage) (xs : List Passage). x ∷ xs) (ap (with_message (bare w)) (message_of_bare T H vs w)) (go ws)

-- ## Checks 10 to 12

any_map : {A B : Type 0} (f : A → B) (p : B → Bool) (S : List A) → any p (map f S) ≡ any (λ x. p (f x)) S
any_map f p [] = refl
any_map f p (x ∷ S) = ap (λ b. p (f x) || b) (any_map f p S)

-- the first with a fault is the same, where the faults are
pub first_map : {A B : Type 0} (f : A → B) (p : B → Bool) (q : A → Bool) → ((x : A) → p (f x) ≡ q x) → (S : List A) → first p (map f S) ≡ Option.map f (first q S)
first_map f p q e [] = refl
first_map f p q e (x ∷ S) = rw (e x, first_map f p q e S) (go (q x))
  where
    go : (t : Bool) → cond t (some (f x)) (Option.map f (first q S)) ≡ Option.map f (cond t (some x) (first q S))
    go true = refl
    go false = refl

heard_light : (G : ℕ) (s : Passage) (rs : List Passage) → heard_well G (light s) (map light rs) ≡ heard_well G s rs
heard_light G s [] = refl
heard_light G s (r ∷ []) = refl
heard_light G s (r ∷ q ∷ rs) = refl

hearing_light : (G : ℕ) (s : Passage) (rs : List Passage) → hearing_of G (light s) (map light rs) ≡ hearing_of G s rs
hearing_light G s [] = refl
hearing_light G s (r ∷ []) = refl
hearing_light G s (r ∷ q ∷ rs) = refl

two_light : (ss : List Passage) → two (map light ss) ≡ two ss
two_light [] = refl
two_light (s ∷ []) = refl
two_light (s ∷ t ∷ ss) = refl

fault_light : (number number' : Passage → ℕ) → ((v : Passage) → number' (light v) ≡ number v) → (o : Option Passage) (a b : Answer (List Passage)) → verdict_of a ≡ verdict_of b
    → verdict_of (fault_by number' (Option.map light o) a) ≡ verdict_of (fault_by number o b)
fault_light number number' same none a b e = e
fault_light number number' same (some v) a b e = ap (λ (n : ℕ). Refused n v.component) (same v)

module _ (G : ℕ) (T : Table) (H : ℕ) (S : List Passage) where
  pub collides_light : (s : Passage) → collides G T H (map light S) (light s) ≡ collides G T H S s
  collides_light s = ap (λ b. is_send T H s && b) (any_map light (meets G T H s) S)

  pub unheard_light : (s : Passage) → unheard G T H (map light S) (light s) ≡ unheard G T H S s
  unheard_light s =
      ap (λ b. is_send T H s && not b)
      (ap (heard_well G (light s)) (only_map light (λ r. may_hear G T r s) S) ∙ heard_light G s (only (λ r. may_hear G T r s) S))

  pub number_light : (s : Passage) → unheard_number G T (map light S) (light s) ≡ unheard_number G T S s
  number_light s =
      ap hearing_number (ap (hearing_of G (light s)) (only_map light (λ r. may_hear G T r s) S) ∙ hearing_light G s (only (λ r. may_hear G T r s) S))

  pub crowded_light : (r : Passage) → crowded G T H (map light S) (light r) ≡ crowded G T H S r
  crowded_light r =
      ap (λ b. is_receive T r && b)
      (ap two (only_map light (λ s. is_send T H s && may_hear G T r s) S) ∙ two_light (only (λ s. is_send T H s && may_hear G T r s) S))

  -- the verdict of checks 10 to 12 is the same
  pub checked_light : verdict_of (checked G T H (map light S)) ≡ verdict_of (checked G T H S)
  unfolding checked
  checked_light =
      rw (
        first_map light (collides G T H (map light S)) (collides G T H S) collides_light S,
        first_map light (unheard G T H (map light S)) (unheard G T H S) unheard_light S,
        first_map light (crowded G T H (map light S)) (crowded G T H S) crowded_light S,
      )
      (fault_light (λ v. 10) (λ v. 10) (λ v. refl) (first (collides G T H S) S) _ _
      (fault_light (unheard_number G T S) (unheard_number G T (map light S)) number_light (first (unheard G T H S) S) _ _
      (fault_light (λ v. 12) (λ v. 12) (λ v. refl) (first (crowded G T H S) S) (accepted (map light S)) (accepted S) refl)))
