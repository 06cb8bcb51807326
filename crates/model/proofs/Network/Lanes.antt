-- All components together: the network's state as a function of the tick and of where each component is, its lane; and the steps out of
-- those whose end is reached. Assumes nothing.
use mathlib.Core.Path.{◌≡◌, refl, sym, ap, subst, ◌∙◌}
use mathlib.Core.Bool.{Bool, true, false, cond, ◌&&◌}
use mathlib.Core.List.{List, [], ◌∷◌, ◌++◌, map}
use mathlib.Core.Option.{some}
use Prim.Native.Nat.{ℕ, zero, suc, ◌≤◌, ◌<◌}
use native.Mathlib.Omega.{arith}
use borrow.Author.Tests.{lt-ltb, eqb-true, eqb-false, eq-eqb}
use lib.Dec.{eqb}
use lib.ListN.{get_or, set, get_or-map}
use Rattle.model.specs.Table.{Component, Table, size, component_of, arc_of}
use Rattle.model.specs.Window.{leaves}
use Rattle.model.specs.Schedule.{Passage}
use Rattle.model.specs.Checks.{no_passage}
use Rattle.model.specs.Network.{State, PathPassage, passage_in, Label, step_out, step, with_passage, enters_at, out_of}
use Rattle.model.proofs.Basics.Bools.{clash, and_is}
use Rattle.model.proofs.Network.Passage.{taken_of, place_in, at-end}
use Rattle.model.proofs.Network.Links.{Links, first_fits, next_is, next_entry, next_links, next_below, next_later, last_beyond}

-- ## Lanes

-- a component in the passage `passage`, its work finished (it waits) or not; and the passages after it
pub record Lane : Type 0 where
  pub passage : Passage
  pub done : Bool
  pub next : List Passage

-- a lane of these parts
abbrev pub lane : Passage → Bool → List Passage → Lane
lane v w vs = record { passage = v; done = w; next = vs }

-- what stands at a number that is absent
abbrev pub no_lane : Lane
no_lane = lane no_passage false []

-- the lane of component c
abbrev pub lane_at : List Lane → ℕ → Lane
lane_at L c = get_or L c no_lane

-- where the network has the component
abbrev pub place : Lane → PathPassage
place K = place_in K.passage K.done

-- the network's state at tick τ: a tick changes nothing but the tick
abbrev pub state_of : ℕ → List Lane → State
state_of τ L = record { tick = τ; present = map place L }

-- a passage that a component has left: it had stepped in
abbrev pub waited : Passage → PathPassage
waited v = place_in v true

-- the component's work is finished
abbrev pub finished : Lane → Lane
finished K = lane K.passage true K.next

-- so among the others, for component c
abbrev pub finish : List Lane → ℕ → List Lane
finish L c = set L c (finished (lane_at L c))

-- the passages whose work is not finished
abbrev pub ahead_of : Bool → Passage → List Passage → List Passage
ahead_of true v vs = vs
ahead_of false v vs = v ∷ vs

-- so of a lane
abbrev pub ahead : Lane → List Passage
ahead K = ahead_of K.done K.passage K.next

-- ## Stepping out as soon as the end is reached

-- into the next passage, if there is one
abbrev pub turned : Lane → List Passage → Lane
turned K [] = K
turned K (v ∷ vs) = lane v false vs

-- something, if there is a next passage
abbrev pub if_next : {A : Type 0} → A → List Passage → List A
if_next a [] = []
if_next a (v ∷ vs) = a ∷ []

-- its work is finished and its end is now
abbrev pub ends_now : ℕ → Lane → Bool
ends_now τ K = K.done && eqb K.passage.end τ

-- it steps out if its work is finished, its end is now, and there is a next passage
unfoldable pub settle : ℕ → Lane → Lane
settle τ K = cond (ends_now τ K) (turned K K.next) K

-- the passage that it leaves then
unfoldable pub leaving : ℕ → Lane → List Passage
leaving τ K = cond (ends_now τ K) (if_next K.passage K.next) []

-- the step, for component c
unfoldable pub out : ℕ → ℕ → Lane → List Label
out τ c K = cond (ends_now τ K) (if_next (step_out c) K.next) []

-- all of them
abbrev pub settle_all : ℕ → List Lane → List Lane
settle_all τ L = map (settle τ) L

-- the steps, from component c on
abbrev pub outs : ℕ → ℕ → List Lane → List Label
outs τ c [] = []
outs τ c (K ∷ L) = out τ c K ++ outs τ (suc c) L

-- whether it steps out
pub data Turn (τ : ℕ) (K : Lane) : Type 0 where
  stays : settle τ K ≡ K → leaving τ K ≡ [] → ((c : ℕ) → out τ c K ≡ []) → (K.done ≡ true → K.passage.end ≡ τ → K.next ≡ []) → Turn τ K
  moves : (v : Passage) (vs : List Passage) → K.done ≡ true → K.passage.end ≡ τ → K.next ≡ v ∷ vs → settle τ K ≡ lane v false vs
      → leaving τ K ≡ K.passage ∷ [] → ((c : ℕ) → out τ c K ≡ step_out c ∷ []) → Turn τ K

-- one of the two
pub turn : (τ : ℕ) (K : Lane) → Turn τ K
unfolding settle leaving out
turn τ K = go (ends_now τ K) refl
  where
    on : ends_now τ K ≡ true → (ns : List Passage) → K.next ≡ ns → Turn τ K
    on e [] n = stays (rw (e, n)) (rw (e, n)) (λ c. rw (e, n)) (λ d h. n)
    on e (v ∷ vs) n =
        let h = (and_is K.done (eqb K.passage.end τ)).0 e in
        moves v vs h.0 (eqb-true K.passage.end τ h.1) n (rw (e, n)) (rw (e, n)) (λ c. rw (e, n))

    go : (t : Bool) → ends_now τ K ≡ t → Turn τ K
    go true e = on e K.next refl
    go false e = stays (rw e) (rw e) (λ c. rw e)
        (λ d h. clash (sym e ∙ (and_is K.done (eqb K.passage.end τ)).1 (d, eq-eqb K.passage.end τ h)))

-- stepping out changes nothing of what is ahead
pub settle_ahead : (τ : ℕ) (K : Lane) → ahead (settle τ K) ≡ ahead K
settle_ahead τ K = go (turn τ K)
  where
    go : Turn τ K → ahead (settle τ K) ≡ ahead K
    go (stays s l o h) = ap ahead s
    go (moves v vs d e n s l o) = ap ahead s ∙ (rw d (sym n))

-- ## Good lanes

-- linked passages, entered already and not yet past the end; and a finished work was ready
pub record Good (H : ℕ) (C : Component) (τ : ℕ) (K : Lane) : Type 0 where
  pub linked : Links H C K.passage K.next
  pub since : K.passage.entry.tick ≤ τ
  pub before : τ ≤ K.passage.end
  pub begun : K.done ≡ true → K.passage.ready ≤ τ

-- below the horizon a component that waits has not reached its end: it would have stepped out
abbrev pub Settled : ℕ → ℕ → Lane → Type 0
Settled H τ K = K.done ≡ true → τ < H → τ < K.passage.end

-- a lane that steps out if it is to is good as before, and settled
pub settle_good : {H τ : ℕ} {C : Component} (K : Lane) → Good H C τ K → Good H C τ (settle τ K) × Settled H τ (settle τ K)
settle_good {H} {τ} {C} K g = go (turn τ K)
  where
    Out : Lane → Type 0
    Out M = Good H C τ M × Settled H τ M

    below : (K.done ≡ true → K.passage.end ≡ τ → K.next ≡ []) → Settled H τ K
    below h d u = later (eqb K.passage.end τ) refl
      where
        later : (t : Bool) → eqb K.passage.end τ ≡ t → τ < K.passage.end
        later true e =
            let i = eqb-true K.passage.end τ e in
            let b = last_beyond (subst (λ (ns : List Passage). Links H C K.passage ns) (h d i) g.linked) in
            absurd (omega arith)
        later false e = let n = eqb-false K.passage.end τ e in let b = g.before in omega arith

    go : Turn τ K → Out (settle τ K)
    go (stays s l o h) = subst Out (sym s) (g, below h)
    go (moves v vs d e n s l o) =
        let k = subst (λ (ns : List Passage). Links H C K.passage ns) n g.linked in
        let i = next_entry k in
        let j = next_later k in
        let r : Good H C τ (lane v false vs) = record { linked = next_links k; since = omega arith; before = omega arith; begun = λ z. clash z } in
        subst Out (sym s) (r, λ z. clash z)

-- a good lane that is settled stays as it is
pub settle_same : {H τ : ℕ} {C : Component} (K : Lane) → Good H C τ K → Settled H τ K → settle τ K ≡ K
settle_same {H} {τ} {C} K g w = go (turn τ K)
  where
    go : Turn τ K → settle τ K ≡ K
    go (stays s l o h) = s
    go (moves v vs d e n s l o) =
        let b = next_below (subst (λ (ns : List Passage). Links H C K.passage ns) n g.linked) in
        let c = w d (omega arith) in
        absurd (omega arith)

-- a component in the window of the first passage ahead stands in it, its work yet to finish
pub at-work : {H τ : ℕ} {C : Component} (K : Lane) → Good H C τ K → Settled H τ K → (v : Passage) (vs : List Passage) → ahead K ≡ v ∷ vs → v.ready ≤ τ
    → K ≡ lane v false vs
at-work {H} {τ} {C} K g w v vs e r = go K.done refl e
  where
    go : (t : Bool) → K.done ≡ t → ahead_of t K.passage K.next ≡ v ∷ vs → K ≡ lane v false vs
    go true d h =
        let k = subst (λ (ns : List Passage). Links H C K.passage ns) h g.linked in
        let b = next_below k in
        let l = next_later k in
        let i = g.before in
        let j = w d (omega arith) in
        absurd (omega arith)
    go false d h =
        let i : K.passage ≡ v = cc in
        let j : K.next ≡ vs = cc in
        ap₃ i d j
      where
        ap₃ : K.passage ≡ v → K.done ≡ false → K.next ≡ vs → K ≡ lane v false vs
        ap₃ a b c =
            ap (λ (x : Passage). lane x K.done K.next) a ∙ ap (λ (x : Bool). lane v x K.next) b ∙ ap (λ (x : List Passage). lane v false x) c

-- ## One lane among the others

-- what is stored in an image is the image with it stored
set_map : {A B : Type 0} (f : A → B) (l : List A) (i : ℕ) (x : A) → set (map f l) i (f x) ≡ map f (set l i x)
set_map f [] i x = refl
set_map f (y ∷ l) zero x = refl
set_map f (y ∷ l) (suc i) x = ap (λ (t : List _). f y ∷ t) (set_map f l i x)

module _ (τ : ℕ) (L : List Lane) (c : ℕ) where
  -- where component c is
  pub place_at : passage_in (state_of τ L) c ≡ place (lane_at L c)
  place_at = get_or-map place L c no_lane

  -- where component c is put
  pub put_at : (K : Lane) → with_passage (state_of τ L) c (place K) ≡ state_of τ (set L c K)
  put_at K = ap (λ (ps : List PathPassage). let s : State = record { tick = τ; present = ps } in s) (set_map place L c K)

  -- the lane of component c once all have stepped out that are to
  pub settled_at : lane_at (settle_all τ L) c ≡ settle τ (lane_at L c)
  unfolding settle
  settled_at = get_or-map (settle τ) L c no_lane

module _ (T : Table) (H τ : ℕ) (L : List Lane) (c : ℕ) (there : c < size T) (g : Good H (component_of T c) τ (lane_at L c)) where
  -- its lane, and its part of the table
  abbrev K : Lane
  K = lane_at L c

  abbrev C : Component
  C = component_of T c

  -- at its end a component that waits steps out, into the passage that follows
  pub out_step : (v : Passage) (vs : List Passage) → K.done ≡ true → K.passage.end ≡ τ → K.next ≡ v ∷ vs
      → step T (state_of τ L) (step_out c) ≡ some (state_of τ (set L c (lane v false vs)))
  unfolding step
  out_step v vs d e n = e₁ ∙ e₂ ∙ e₃ ∙ ap some (put_at τ L c (lane v false vs))
    where
      s : State
      s = state_of τ L

      e₁ : step T s (step_out c) ≡ out_of C s c (place_in K.passage true) (some (taken_of K.passage))
      e₁ = rw (lt-ltb c (size T) there, place_at τ L c, d)

      e₂ : out_of C s c (place_in K.passage true) (some (taken_of K.passage))
          ≡ some (with_passage s c (enters_at (leaves (arc_of C K.passage.edge) K.passage.message τ K.passage.entry)))
      e₂ = rw (at-end (first_fits g.linked) τ g.since true (sym e))

      enters : leaves (arc_of C K.passage.edge) K.passage.message τ K.passage.entry ≡ v.entry
      enters =
          let k = subst (λ (ns : List Passage). Links H C K.passage ns) n g.linked in
          subst (λ (m : ℕ). leaves (arc_of C K.passage.edge) K.passage.message m K.passage.entry ≡ v.entry) e (sym (next_is k))

      e₃ : some (with_passage s c (enters_at (leaves (arc_of C K.passage.edge) K.passage.message τ K.passage.entry))) ≡ some (with_passage s c (place_in v false))
      e₃ = ap (λ (x : _). some (with_passage s c (enters_at x))) enters
