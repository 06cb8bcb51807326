-- What is said of a path that has led somewhere: it passes as the schedule says, misses no window, and shows the schedule's observations.
-- Assumes nothing.
use mathlib.Core.Path.{◌≡◌, refl, sym, ap, ap₂, subst, ◌∙◌}
use mathlib.Core.Bool.{Bool, true, false, cond}
use mathlib.Core.List.{List, [], ◌∷◌, ◌++◌, map}
use mathlib.Core.Option.{Option, none, some}
use Prim.Native.Nat.{ℕ, suc, ◌+◌, ◌≤◌, ◌<◌}
use native.Mathlib.Omega.{arith}
use borrow.Author.Tests.{le-leb}
use lib.Dec.{leb}
use lib.ListN.{length, length-append}
use lib.Seq.{append_snoc}
use Rattle.model.specs.Lists.{only, All, empty, more}
use Rattle.model.specs.Table.{Component, Table, size, component_of}
use Rattle.model.specs.Schedule.{Passage, own}
use Rattle.model.specs.Network.{PathPassage, Taken, Label, start, follow, passages_on, Work, works_on, Observation, observation, taken_or, observations_on}
use Rattle.model.specs.Demand3.{TakenAs, PassAs, SteppedBefore, Begins}
use Rattle.model.proofs.Basics.Members.{only_append}
use Rattle.model.proofs.Schedule.Own.{all_then}
use Rattle.model.proofs.Network.Passage.{Fits, taken_of}
use Rattle.model.proofs.Network.Links.{Links, first_fits, next_links, next_later}
use Rattle.model.proofs.Network.Ways.{way_passages}
use Rattle.model.proofs.Network.Lanes.{Lane, lane_at, place, state_of, waited, Good, place_at}
use Rattle.model.proofs.Network.Reached.{Reached, map_append}

-- ## Passages

-- the passages left, then the present one
abbrev pub passed : List Passage → Lane → List PathPassage
passed past K = map waited past ++ (place K ∷ [])

-- they pass as the schedule says
pass_as : (past : List Passage) (K : Lane) → PassAs (passed past K) (past ++ (K.passage ∷ K.next))
pass_as [] K = (refl, now K.done, tt)
  where
    now : (t : Bool) → TakenAs (cond t (some (taken_of K.passage)) none) K.passage
    now true = (refl, refl)
    now false = tt
pass_as (v ∷ past) K = (refl, (refl, refl), pass_as past K)

-- no passage after v ends before v does
not-before : {H : ℕ} {C : Component} (t : ℕ) {v : Passage} (vs : List Passage) → Links H C v vs → t ≤ v.end → SteppedBefore t [] vs
not-before t [] k h = tt
not-before t (w ∷ ws) k h = let l = next_later k in (omega arith, not-before t ws (next_links k) (omega arith))

-- every passage that ends before the tick is stepped in
stepped_before : {H : ℕ} {C : Component} {τ : ℕ} (past : List Passage) (K : Lane) → Good H C τ K → SteppedBefore τ (passed past K) (past ++ (K.passage ∷ K.next))
stepped_before {τ = τ} [] K g = (λ h. absurd (omega (arith, g.before)), not-before τ K.next g.linked g.before)
stepped_before (v ∷ past) K g = (λ h. tt, stepped_before past K g)

-- ## Observations

-- what a passage shows at its ready
abbrev pub seen : Component → ℕ → Passage → Observation
seen C c v = observation C c v.entry v.edge

-- it is ready
abbrev pub ready_by : ℕ → Passage → Bool
ready_by τ v = leb v.ready τ

-- one passage more
one_more : (C : Component) (c τ : ℕ) (v : Passage) (w : Option Taken) (e : ℕ) (os : List Observation) (vs : List Passage) → Fits C v → taken_or w e ≡ v.edge
    → os ≡ map (seen C c) (only (ready_by τ) vs)
    → cond (leb (observation C c v.entry (taken_or w e)).tick τ) (observation C c v.entry (taken_or w e) ∷ os) os ≡ map (seen C c) (only (ready_by τ) (v ∷ vs))
one_more C c τ v w e os vs f i h =
    ap (λ (x : ℕ). cond (leb (observation C c v.entry x).tick τ) (observation C c v.entry x ∷ os) os) i
    ∙ ap (λ (r : ℕ). cond (leb r τ) (seen C c v ∷ os) os) (sym f.ready)
    ∙ go (ready_by τ v)
  where
    go : (t : Bool) → cond t (seen C c v ∷ os) os ≡ map (seen C c) (cond t (v ∷ only (ready_by τ) vs) (only (ready_by τ) vs))
    go true = ap (λ (l : List Observation). seen C c v ∷ l) h
    go false = h

-- the observations are those of the passages left and of the present one, if it is ready
observed_as : {H : ℕ} {C : Component} {τ : ℕ} (c t : ℕ) (past : List Passage) (K : Lane) (ns : List Passage) → All (λ v. Fits C v × (v.end ≤ τ)) past → Good H C τ K
    → observations_on C c t (passed past K) (map (λ v. v.edge) (past ++ (K.passage ∷ ns))) ≡ map (seen C c) (only (ready_by t) (past ++ (K.passage ∷ [])))
unfolding observations_on
observed_as {C = C} c t [] K ns empty g =
    one_more C c t K.passage (place K).waiting K.passage.edge [] [] (first_fits g.linked) (edge K.done) refl
  where
    edge : (b : Bool) → taken_or (cond b (some (taken_of K.passage)) none) K.passage.edge ≡ K.passage.edge
    edge true = refl
    edge false = refl
observed_as {C = C} c t (v ∷ past) K ns (more f o) g =
    one_more C c t v (some (taken_of v)) v.edge
    (observations_on C c t (passed past K) (map (λ v. v.edge) (past ++ (K.passage ∷ ns))))
    (past ++ (K.passage ∷ []))
    f.0
    refl
    (observed_as c t past K ns o g)

-- ## First parts of a list

-- of two first parts the shorter is the first part of the longer
first_part : {A : Type 0} (xs us ys vs : List A) → xs ++ us ≡ ys ++ vs → length xs ≤ length ys → (zs : List A) × (ys ≡ xs ++ zs)
first_part [] us ys vs e h = (ys, refl)
first_part (x ∷ xs) us [] vs e h = absurd (omega arith)
first_part (x ∷ xs) us (y ∷ ys) vs e h =
    let i : y ≡ x = cc in
    let j : xs ++ us ≡ ys ++ vs = cc in
    let r = first_part xs us ys vs j (omega arith) in
    (r.0, ap₂ (λ (a : _) (l : List _). a ∷ l) i r.1)

-- with first parts of one length the rests are the same
pub same_rest : {A : Type 0} (xs us ys vs : List A) → xs ++ us ≡ ys ++ vs → length xs ≡ length ys → us ≡ vs
same_rest [] us [] vs e h = e
same_rest [] us (y ∷ ys) vs e h = absurd (omega arith)
same_rest (x ∷ xs) us [] vs e h = absurd (omega arith)
same_rest (x ∷ xs) us (y ∷ ys) vs e h = let j : xs ++ us ≡ ys ++ vs = cc in same_rest xs us ys vs j (omega arith)

-- all of them
pub only_all : {A : Type 0} (p : A → Bool) {xs : List A} → All (λ x. p x ≡ true) xs → only p xs ≡ xs
only_all p empty = refl
only_all p (more {x = x} {xs = xs} e a) = ap (λ (b : Bool). cond b (x ∷ only p xs) (only p xs)) e ∙ ap (λ (l : List _). x ∷ l) (only_all p a)

-- ## The laws

module _ (T : Table) (H : ℕ) (S : List Passage) (p : List Label) (τ : ℕ) (L : List Lane) (ws : List Work) (r : Reached T H S p τ L ws) where
  -- the path is one of the network
  pub reached_valid : follow T (start T) p ≡ some (state_of τ L)
  reached_valid = r.way.goes

  -- the works finished on it
  pub reached_works : works_on T (start T) p ≡ ws
  reached_works = r.way.works

  -- the passages on it: those left, all waiting as the schedule says, then the present one
  pub reached_passages : (c : ℕ) → passages_on T c (start T) p ≡ passed (r.past c) (lane_at L c)
  reached_passages c = way_passages T r.way c ∙ ap (λ (x : PathPassage). map waited (r.past c) ++ (x ∷ [])) (place_at τ L c)

  -- it passes as the schedule says
  pub reached_scheduled : (c : ℕ) → c < size T → PassAs (passages_on T c (start T) p) (own c S)
  reached_scheduled c h =
      subst (λ (ps : List PathPassage). PassAs ps (own c S)) (sym (reached_passages c))
      (subst (λ (vs : List Passage). PassAs (passed (r.past c) (lane_at L c)) vs) (r.stands c h).whole (pass_as (r.past c) (lane_at L c)))

  -- it misses no window
  pub reached_kept : (c : ℕ) → c < size T → SteppedBefore τ (passages_on T c (start T) p) (own c S)
  reached_kept c h =
      subst (λ (ps : List PathPassage). SteppedBefore τ ps (own c S)) (sym (reached_passages c))
      (subst (λ (vs : List Passage). SteppedBefore τ (passed (r.past c) (lane_at L c)) vs) (r.stands c h).whole
      (stepped_before (r.past c) (lane_at L c) (r.stands c h).good))

  -- up to a tick: passages of the schedule that were ready by then are shown first, if no more than those entered
  pub reached_shows_first : (c : ℕ) → c < size T → (t : ℕ) (xs us : List Passage) → xs ++ us ≡ own c S → All (λ v. v.ready ≤ t) xs → length xs ≤ suc (length (r.past c))
      → Begins (map (seen (component_of T c) c) xs) (observations_on (component_of T c) c t (passages_on T c (start T) p) (map (λ v. v.edge) (own c S)))
  reached_shows_first c h t xs us e a l =
      record { rest = map (seen C c) later; is = sym (map_append (seen C c) xs later) ∙ (ap (map (seen C c)) (sym ready) ∙ sym shown) }
    where
      C : Component
      C = component_of T c

      -- the passages entered so far
      ys : List Passage
      ys = r.past c ++ ((lane_at L c).passage ∷ [])

      whole : ys ++ (lane_at L c).next ≡ own c S
      whole = append_snoc (r.past c) (lane_at L c).passage (lane_at L c).next ∙ (r.stands c h).whole

      part : (zs : List Passage) × (ys ≡ xs ++ zs)
      part = first_part xs us ys (lane_at L c).next (e ∙ sym whole) (omega (arith, length-append (r.past c) ((lane_at L c).passage ∷ [])))

      later : List Passage
      later = only (ready_by t) part.0

      ready : only (ready_by t) ys ≡ xs ++ later
      ready =
          ap (only (ready_by t)) part.1
          ∙ (only_append (ready_by t) xs part.0 ∙ ap (λ (l : List Passage). l ++ later) (only_all (ready_by t) (all_then (λ v i. le-leb v.ready t i) a)))

      shown : observations_on C c t (passages_on T c (start T) p) (map (λ v. v.edge) (own c S)) ≡ map (seen C c) (only (ready_by t) ys)
      shown =
          ap₂ (λ (ps : List PathPassage) (vs : List Passage). observations_on C c t ps (map (λ v. v.edge) vs)) (reached_passages c) (sym (r.stands c h).whole)
          ∙ observed_as c t (r.past c) (lane_at L c) (lane_at L c).next (r.stands c h).over (r.stands c h).good
