-- The reason of an edge from what it is, the edges from a location one after the other, and three bytes an edge. Assumes nothing.
use mathlib.Core.Path.{◌≡◌, refl, sym, ap, ◌∙◌}
use mathlib.Core.Bool.{Bool, true, false, cond, ◌&&◌, not}
use mathlib.Core.List.{List, [], ◌∷◌, ◌++◌, append-nil}
use Prim.Native.Nat.{ℕ, zero, suc, ◌+◌, ◌-◌, ◌*◌, ◌≤◌, ◌<◌}
use native.Mathlib.Numerals.{add-one}
use native.Mathlib.Omega.{arith}
use borrow.Author.Tests.{eq-eqb, ne_eqb, eqb-true, eqb-false}
use lib.Dec.{ltb, eqb}
use lib.ListN.{length, length-append}
use lib.Seq.{sets}
use Rattle.model.specs.declared.Location.{Location}
use Rattle.model.specs.declared.Reason.{Reason}
use Rattle.model.specs.declared.Reason.TheVariants.{Taken, DataBound, NoWindow, ReadyLater, HigherNumber}
use Rattle.model.specs.Lists.{only, from, below, each, snoc}
use Rattle.model.specs.Table.{Arc, Component, location_of, arc_of}
use Rattle.model.specs.Window.{Entry, ready_of, past_of, data_holds, first_failing, long_enough}
use Rattle.model.specs.Reasons.{reason_by, reason_number, reason_bound}
use Rattle.model.proofs.Basics.Bools.{clash}
use Rattle.model.proofs.Basics.Members.{only_append}
use Rattle.window.specs.declared.Standing.TheVariants.{Elsewhere, Blocked, Windowless, Candidate}
use Rattle.window.specs.Views.{standing_of}
use Rattle.schedule.proofs.Fields.{laid_more}
use Rattle.reasons.specs.Telling.{is_elsewhere, other_reason, reason_from, one, arc_bytes, edge_bytes, EdgePut}

-- ## One edge

module _ (l : Location) (at : Entry) (a : Arc) where
  pub is_here : is_elsewhere (standing_of l at a) ≡ false → a.edge.source ≡ at.location
  is_here q = go (eqb a.edge.source at.location) refl q
    where
      go : (t : Bool) → eqb a.edge.source at.location ≡ t → is_elsewhere (cond t (cond (data_holds a.data_guards at.values) (cond (long_enough l a at.clocks) (Candidate (ready_of a.clock_guards at.clocks) (past_of l a.clock_guards at.clocks)) Windowless) (Blocked (first_failing a.data_guards at.values))) Elsewhere) ≡ false → a.edge.source ≡ at.location
      go true e r = eqb-true _ _ e
      go false e r = clash (sym r)

  pub is-elsewhere : is_elsewhere (standing_of l at a) ≡ true → a.edge.source ≡ at.location → ⊥
  is-elsewhere q h = go (data_holds a.data_guards at.values) (long_enough l a at.clocks) (rw (eq-eqb a.edge.source at.location h) at q)
    where
      go : (d w : Bool) → is_elsewhere (cond d (cond w (Candidate (ready_of a.clock_guards at.clocks) (past_of l a.clock_guards at.clocks)) Windowless) (Blocked (first_failing a.data_guards at.values))) ≡ true → ⊥
      go false w r = clash r
      go true false r = clash r
      go true true r = clash r

  module _ (taken ready e : ℕ) where
    pub reason-from : a.edge.source ≡ at.location → reason_from (standing_of l at a) e taken at.tick ready ≡ reason_by l at taken ready e a
    reason-from h = rw (eq-eqb a.edge.source at.location h) (go (eqb e taken) (data_holds a.data_guards at.values) (long_enough l a at.clocks))
      where
        r : ℕ
        r = ready_of a.clock_guards at.clocks

        j : ℕ
        j = first_failing a.data_guards at.values

        go : (t d w : Bool) → cond t Taken (other_reason (cond d (cond w (Candidate r (past_of l a.clock_guards at.clocks)) Windowless) (Blocked j)) at.tick ready)
            ≡ cond t Taken (cond (not d) (DataBound j) (cond (d && not w) NoWindow (cond (ltb ready (at.tick + r)) ReadyLater HigherNumber)))
        go true d w = refl
        go false false w = refl
        go false true false = refl
        go false true true = refl

    -- written, or passed over
    pub edge-told : (k : ℕ) (before after : List ℕ) (reason : Reason) → a.edge.source ≡ at.location → reason ≡ reason_from (standing_of l at a) e taken at.tick ready
        → after ≡ sets before (k * 3) (e ∷ reason_number reason ∷ reason_bound reason ∷ []) → EdgePut l at taken ready e a k before (k + 1) after
    edge-told k before after reason h q w =
        let s : reason ≡ reason_by l at taken ready e a = q ∙ reason-from h in
        record { told = λ _. (omega arith, w ∙ ap (λ x. sets before (k * 3) (e ∷ reason_number x ∷ reason_bound x ∷ [])) s); passed = λ n. absurd (n h) }

    pub edge_passed : (k : ℕ) (before : List ℕ) → (a.edge.source ≡ at.location → ⊥) → EdgePut l at taken ready e a k before k before
    edge_passed k before n = record { told = λ h. absurd (n h); passed = λ _. (refl, refl) }

-- ## The edges before number e

from_more : (i n : ℕ) → from i (suc n) ≡ snoc (from i n) (i + n)
from_more i zero = let e : i ≡ i + 0 = omega arith in ap (λ k. k ∷ []) e
from_more i (suc n) = let e : suc i + n ≡ i + suc n = omega arith in ap (λ l. i ∷ l) (from_more (suc i) n ∙ ap (snoc (from (suc i) n)) e)

module _ (C : Component) (here : ℕ) where
  abbrev from_here : ℕ → Bool
  from_here k = eqb (arc_of C k).edge.source here

  abbrev pub edges_before : ℕ → List ℕ
  edges_before e = only from_here (below e)

  split : (e : ℕ) → edges_before (e + 1) ≡ edges_before e ++ only from_here (e ∷ [])
  split e =
      let zero-add : 0 + e ≡ e = omega arith in
      ap (λ n. only from_here (below n)) (add-one e) ∙ ap (only from_here) (from_more 0 e ∙ ap (snoc (below e)) zero-add) ∙ only_append from_here (below e) (e ∷ [])

  pub before_in : (e : ℕ) → (arc_of C e).edge.source ≡ here → edges_before (e + 1) ≡ snoc (edges_before e) e
  before_in e h = split e ∙ rw (eq-eqb (arc_of C e).edge.source here h)

  pub before_out : (e : ℕ) → ((arc_of C e).edge.source ≡ here → ⊥) → edges_before (e + 1) ≡ edges_before e
  before_out e n = split e ∙ rw (ne_eqb (arc_of C e).edge.source here n) (append-nil (edges_before e))

  more_one : (e : ℕ) → length (edges_before (e + 1)) ≡ length (edges_before e) + one (arc_of C e).edge.source here
  more_one e = ap length (split e) ∙ length-append (edges_before e) (only from_here (e ∷ [])) ∙ go (from_here e)
    where
      go : (t : Bool) → length (edges_before e) + length (cond t (e ∷ []) []) ≡ length (edges_before e) + cond t 1 0
      go true = refl
      go false = refl

  -- one more, counted
  pub count_one : (e k r source : ℕ) → k ≡ length (edges_before e) → source ≡ (arc_of C e).edge.source → r ≡ one source here → k + r ≡ length (edges_before (e + 1))
  count_one e k r source p q s = rw (p, s, q) (sym (more_one e))

  small_one : (t : Bool) → cond t 1 0 ≤ 1
  small_one true = omega arith
  small_one false = omega arith

  pub before_few : (e : ℕ) → length (edges_before e) ≤ e
  before_few zero = omega arith
  before_few (suc e) = omega (arith, before_few e, ap (λ n. length (edges_before n)) (add-one e), more_one e, small_one (from_here e))

  -- no fewer further on
  pub before_grows : (e d : ℕ) → length (edges_before e) ≤ length (edges_before (e + d))
  before_grows e zero = let z : e + 0 ≡ e = omega arith in rw z (omega arith)
  before_grows e (suc d) =
      let z : e + d + 1 ≡ e + suc d = omega arith in
      omega (arith, before_grows e d, more_one (e + d), ap (λ n. length (edges_before n)) z)

  -- ## Three bytes an edge

  -- an edge from there, told as number k, has room
  pub has_room : (e n k : ℕ) (out : List ℕ) → e < n → k ≡ length (edges_before e) → length (edges_before n) * 3 ≤ length out
      → (arc_of C e).edge.source ≡ here → k * 3 + 3 ≤ length out
  has_room e n k out h q r s =
      let z : e + 1 + (n - (e + 1)) ≡ n = omega arith in
      omega (arith, before_grows (e + 1) (n - (e + 1)), ap (λ m. length (edges_before m)) z, ap length (before_in e s), length-append (edges_before e) (e ∷ []))

-- one turn of the loop: edge e is written, or passed over
pub turn : (C : Component) (l : Location) (at : Entry) (taken ready e : ℕ) (a : Arc) (k r : ℕ) (out out₁ out₂ : List ℕ) → l ≡ location_of C at.location → a ≡ arc_of C e
    → EdgePut l at taken ready e a k out₁ r out₂ → k ≡ length (edges_before C at.location e)
    → out₁ ≡ sets out 0 (each (edge_bytes C at taken ready) (edges_before C at.location e))
    → (r ≡ length (edges_before C at.location (e + 1))) × (out₂ ≡ sets out 0 (each (edge_bytes C at taken ready) (edges_before C at.location (e + 1))))
turn C l at taken ready e a k r out out₁ out₂ q i w p s = go (eqb (arc_of C e).edge.source at.location) refl
  where
    src : a.edge.source ≡ (arc_of C e).edge.source
    src = ap (λ (x : Arc). x.edge.source) i

    go : (t : Bool) → eqb (arc_of C e).edge.source at.location ≡ t
        → (r ≡ length (edges_before C at.location (e + 1))) × (out₂ ≡ sets out 0 (each (edge_bytes C at taken ready) (edges_before C at.location (e + 1))))
    go true t =
        let h = eqb-true (arc_of C e).edge.source at.location t in
        let m = before_in C at.location e h in
        let d = w.told (src ∙ h) in
        let b : arc_bytes l at taken ready e a ≡ edge_bytes C at taken ready e = rw (q, i) in
        (omega (arith, d.0, p, ap length m, length-append (edges_before C at.location e) (e ∷ [])), rw m (laid_more (edge_bytes C at taken ready) 3 (λ e. refl) (edges_before C at.location e) e k out out₁ out₂ p s (d.1 ∙ ap (sets out₁ (k * 3)) b)))
    go false t =
        let n = eqb-false (arc_of C e).edge.source at.location t in
        let m = before_out C at.location e n in
        let d = w.passed (λ h. n (sym src ∙ h)) in
        (rw m (d.0 ∙ p), rw m (d.1 ∙ s))
