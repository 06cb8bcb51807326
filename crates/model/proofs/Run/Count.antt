-- The observations of one node: they are the first that the path shows, and none that is due is missing. Assumes nothing.
use mathlib.Core.Path.{◌≡◌, refl, sym, ap, subst, ◌∙◌}
use mathlib.Core.Logic.{◌⊎◌, inl, inr}
use mathlib.Core.Bool.{Bool, true, false, cond}
use mathlib.Core.List.{List, [], ◌∷◌, ◌++◌, map, append-nil, append_cancel_right}
use Prim.Native.Nat.{ℕ, suc, ◌+◌, ◌≤◌, ◌<◌}
use native.Mathlib.Omega.{arith}
use borrow.Author.Tests.{le-ltb, ltb-false, eqb-false}
use lib.Dec.{ltb, eqb}
use lib.ListN.{length, length-append, length-map}
use Rattle.model.specs.Lists.{only, All}
use Rattle.model.specs.Table.{Component, Read, size, component_of}
use Rattle.model.specs.Schedule.{Passage, own}
use Rattle.model.specs.Network.{Work, Observation}
use Rattle.model.specs.Machine.{Node}
use Rattle.model.specs.Run.{setting_at, stand_of, due}
use Rattle.model.specs.Demand3.{Begins, late_in}
use Rattle.model.proofs.Basics.Members.{only_append, only_none}
use Rattle.model.proofs.Node.Facts.{heading_late_in, working_late_in}
use Rattle.model.proofs.Node.Listening.{asleep_due}
use Rattle.model.proofs.Node.Passage.{asleep_passage}
use Rattle.model.proofs.Node.Schedule.{end_before_nth, ready_before_nth}
use Rattle.model.proofs.Network.Says.{seen}
use Rattle.model.proofs.Network.Witness.{Witness, shown_on}
use Rattle.model.proofs.Network.Links.{Links, first_fits, next_links, next_later, later_ready}
use Rattle.model.proofs.Run.Tied.{Given, Held, coming, waiting, busy, leaving, resting, Tie, Along, opened_first, ahead_before, ahead_linked}
use Rattle.model.proofs.Run.Node.{nth_ahead}

-- ## Counting

-- the passages that were ready before now
abbrev pub readied : ℕ → List Passage → List Passage
readied now vs = only (λ v. ltb v.ready now) vs

-- no more than all
pub only_few : {A : Type 0} (p : A → Bool) (xs : List A) → length (only p xs) ≤ length xs
only_few p [] = omega arith
only_few p (x ∷ xs) = go (only_few p xs) (p x)
  where
    go : length (only p xs) ≤ length xs → (t : Bool) → length (cond t (x ∷ only p xs) (only p xs)) ≤ suc (length xs)
    go h true = omega arith
    go h false = omega arith

-- one more at most
one_more : (now : ℕ) (v : Passage) (vs : List Passage) → length (readied now (v ∷ vs)) ≤ suc (length (readied now vs))
one_more now v vs = go (ltb v.ready now)
  where
    go : (t : Bool) → length (cond t (v ∷ readied now vs) (readied now vs)) ≤ suc (length (readied now vs))
    go true = omega arith
    go false = omega arith

module _ {H : ℕ} {C : Component} (now : ℕ) {v : Passage} {vs : List Passage} (k : Links H C v vs) where
  -- before the end of a passage none after it was ready
  none_after : now ≤ v.end → length (readied now vs) ≤ 0
  none_after h = omega (arith, ap length ((only_none (λ (w : Passage). ltb w.ready now) vs).1 (λ w m. le-ltb w.ready now (omega (arith, later_ready k w m)))))

  -- so one at most, with it
  one_most : now ≤ v.end → length (readied now (v ∷ vs)) ≤ 1
  one_most h = omega (arith, one_more now v vs, none_after h)

  -- before its ready none
  none_yet : now ≤ v.ready → length (readied now (v ∷ vs)) ≤ 0
  none_yet h = go (ltb v.ready now) (le-ltb v.ready now h) (none_after (omega (arith, (first_fits k).window)))
    where
      go : (t : Bool) → t ≡ false → length (readied now vs) ≤ 0 → length (cond t (v ∷ readied now vs) (readied now vs)) ≤ 0
      go t e l = subst (λ (x : Bool). length (cond x (v ∷ readied now vs) (readied now vs)) ≤ 0) (sym e) l

-- one tick after the end of a passage: it and the next one at most
two_most : {H : ℕ} {C : Component} (τ : ℕ) {v : Passage} {vs : List Passage} → Links H C v vs → τ ≤ v.end → length (readied (suc τ) (v ∷ vs)) ≤ 2
two_most {H} {C} τ {v} {vs} k h = go vs k
  where
    go : (us : List Passage) → Links H C v us → length (readied (suc τ) (v ∷ us)) ≤ 2
    go [] l = omega (arith, one_more (suc τ) v [])
    go (w ∷ us) l =
        let n = next_later l in
        let most : length (readied (suc τ) (w ∷ us)) ≤ 1 = one_most (suc τ) (next_links l) (omega (arith, n.1)) in
        omega (arith, one_more (suc τ) v (w ∷ us), most)

-- ## One node

module _ {t : Read} {H : ℕ} {S : List Passage} {offs : List ℕ} (G : Given t H S offs) {clock : ℕ → ℕ} {A : ℕ → List Passage} (g : Along G clock A) (c : ℕ) (h : c < size t.table) {r : Node}
    {os : List Observation} (k : Tie t.table H S c (clock c) r os (A c)) where
  -- as many observations as passages whose sleep is finished
  shown_count : length os ≡ length k.fin + length k.more
  shown_count = ap length k.shown ∙ (length-map (k.fin ++ k.more) (seen (component_of t.table c) c) ∙ length-append k.fin k.more)

  -- those that were ready, by those ahead
  by_ahead : (now n : ℕ) → length (readied now (A c)) ≤ length k.more + n → length (readied now (own c S)) ≤ length os + n
  by_ahead now n l =
      omega (
        arith,
        ap (λ (x : List Passage). length (readied now x)) k.whole,
        ap length (only_append (λ (v : Passage). ltb v.ready now) k.fin (A c)),
        length-append (readied now k.fin) (readied now (A c)),
        only_few (λ (v : Passage). ltb v.ready now) k.fin,
        shown_count,
      )

  -- what is ahead is linked
  links : (v : Passage) (vs : List Passage) → A c ≡ v ∷ vs → Links H (component_of t.table c) v vs
  links v vs e = ahead_linked G g c h v vs e

  -- no observation that is due is missing
  pub none_missing : length (readied (clock c) (own c S)) ≤ length os + 0
  none_missing = by_ahead (clock c) 0 (go k.held)
    where
      put : (x y : List Passage) → A c ≡ x → k.more ≡ y → length (readied (clock c) x) ≤ length y → length (readied (clock c) (A c)) ≤ length k.more + 0
      put x y e m l = omega (arith, ap (λ (z : List Passage). length (readied (clock c) z)) e, ap length m)

      go : Held H (component_of t.table c) (clock c) k.count r (A c) k.more → length (readied (clock c) (A c)) ≤ length k.more + 0
      go (coming v vs e m l p) = put (v ∷ vs) [] e m (none_yet (clock c) (links v vs e) l)
      go (waiting v vs e m l j p) = put (v ∷ vs) [] e m (none_yet (clock c) (links v vs e) l)
      go (busy v vs e m l b j p) = put (v ∷ vs) (v ∷ []) e m (one_most (clock c) (links v vs e) (ahead_before G g c h v vs e))
      go (leaving at e m l p) = put [] [] e m (omega arith)
      go (resting at e m l j p) = put [] [] e m (omega arith)

  -- nor after a tick at which nothing was due, but one of a node that is late then
  pub none_missing_then : due (setting_at t H S offs) (clock c) r (stand_of r) ≡ false → length (readied (suc (clock c)) (own c S)) ≤ length os + cond (late_in (own c S) (suc (clock c)) r (stand_of r)) 1 0
  none_missing_then d = by_ahead (suc (clock c)) (cond (late_in (own c S) (suc (clock c)) r (stand_of r)) 1 0) (go k.held)
    where
      put : (x y : List Passage) (n : ℕ) → A c ≡ x → k.more ≡ y → length (readied (suc (clock c)) x) ≤ length y + n → length (readied (suc (clock c)) (A c)) ≤ length k.more + n
      put x y n e m l = omega (arith, ap (λ (z : List Passage). length (readied (suc (clock c)) z)) e, ap length m)

      -- by whether it is late
      split : (x : Bool) → late_in (own c S) (suc (clock c)) r (stand_of r) ≡ x → length (readied (suc (clock c)) (A c)) ≤ length k.more + cond x 1 0
          → length (readied (suc (clock c)) (A c)) ≤ length k.more + cond (late_in (own c S) (suc (clock c)) r (stand_of r)) 1 0
      split x e l = subst (λ (y : Bool). length (readied (suc (clock c)) (A c)) ≤ length k.more + cond y 1 0) (sym e) l

      before : (v : Passage) (vs : List Passage) → A c ≡ v ∷ vs → (clock c) ≤ v.end
      before v vs e = ahead_before G g c h v vs e

      comes : (v : Passage) (vs : List Passage) (e : A c ≡ v ∷ vs) → (clock c) ≤ v.ready → (x : Bool) → ltb v.ready (suc (clock c)) ≡ x → length (readied (suc (clock c)) (v ∷ vs)) ≤ 0 + cond x 1 0
      comes v vs e l true q = omega (arith, one_most (suc (clock c)) (links v vs e) (omega (arith, (first_fits (links v vs e)).window)))
      comes v vs e l false q = omega (arith, none_yet (suc (clock c)) (links v vs e) (ltb-false v.ready (suc (clock c)) q))

      works : (v : Passage) (vs : List Passage) (e : A c ≡ v ∷ vs) → (x : Bool) → ltb v.end (suc (clock c)) ≡ x → length (readied (suc (clock c)) (v ∷ vs)) ≤ 1 + cond x 1 0
      works v vs e true q = omega (arith, two_most (clock c) (links v vs e) (before v vs e))
      works v vs e false q = omega (arith, one_most (suc (clock c)) (links v vs e) (ltb-false v.end (suc (clock c)) q))

      go : Held H (component_of t.table c) (clock c) k.count r (A c) k.more
          → length (readied (suc (clock c)) (A c)) ≤ length k.more + cond (late_in (own c S) (suc (clock c)) r (stand_of r)) 1 0
      go (coming v vs e m l p) =
          split (ltb v.ready (suc (clock c))) (heading_late_in (own c S) (suc (clock c)) p ∙ ready_before_nth (nth_ahead G g c h k v vs e) (suc (clock c)))
          (put (v ∷ vs) [] (cond (ltb v.ready (suc (clock c))) 1 0) e m (comes v vs e l (ltb v.ready (suc (clock c))) refl))
      go (waiting v vs e m l j p) =
          let o = opened_first G g c h v vs e in
          let x = eqb-false (clock c) r.t (sym (asleep_due (setting_at t H S offs) (clock c) p ∙ ap (eqb (clock c)) (sym p.t)) ∙ d) in
          let y : length (readied (suc (clock c)) (v ∷ vs)) ≤ 0 = none_yet (suc (clock c)) (links v vs e) (omega (arith, (asleep_passage o p).ready, x)) in
          put (v ∷ vs) [] (cond (late_in (own c S) (suc (clock c)) r (stand_of r)) 1 0) e m (omega arith)
      go (busy v vs e m l b j p) =
          split (ltb v.end (suc (clock c))) (working_late_in (own c S) (suc (clock c)) p ∙ end_before_nth (nth_ahead G g c h k v vs e) (suc (clock c)))
          (put (v ∷ vs) (v ∷ []) (cond (ltb v.end (suc (clock c))) 1 0) e m (works v vs e (ltb v.end (suc (clock c))) refl))
      go (leaving at e m l p) = put [] [] (cond (late_in (own c S) (suc (clock c)) r (stand_of r)) 1 0) e m (omega arith)
      go (resting at e m l j p) = put [] [] (cond (late_in (own c S) (suc (clock c)) r (stand_of r)) 1 0) e m (omega arith)

  -- nor after a tick that its clock may not have gone on at: it was asleep, or nothing was due
  pub none_missing_later : (then' : ℕ) → ((then' ≡ clock c) ⊎ ((then' ≡ suc (clock c)) × (due (setting_at t H S offs) (clock c) r (stand_of r) ≡ false)))
      → length (readied then' (own c S)) ≤ length os + cond (late_in (own c S) then' r (stand_of r)) 1 0
  none_missing_later then' (inl e) =
      subst (λ (n : ℕ). length (readied n (own c S)) ≤ length os + cond (late_in (own c S) n r (stand_of r)) 1 0) (sym e)
      (let z : (x : Bool) → length (readied (clock c) (own c S)) ≤ length os + cond x 1 0 = (λ x. omega (arith, none_missing)) in z (late_in (own c S) (clock c) r (stand_of r)))
  none_missing_later then' (inr e) =
      subst (λ (n : ℕ). length (readied n (own c S)) ≤ length os + cond (late_in (own c S) n r (stand_of r)) 1 0) (sym e.0) (none_missing_then e.1)

  -- what is finished was ready by its clock
  pub fin_ready : All (λ v. v.ready ≤ clock c) k.fin
  fin_ready =
      let r = g.rest c h in
      let same : r.0 ≡ k.fin = append_cancel_right r.0 k.fin (A c) (r.1 ∙ sym k.whole) in
      subst (All (λ v. v.ready ≤ clock c)) same r.2

  -- the observations are the first that a path shows up to the node's clock, if the path has gone no less far and has finished no fewer passages
  pub shows : {m : ℕ} {Z : ℕ → List Passage} {ws : List Work} (w : Witness t.table S m Z ws) → clock c ≤ m → length (Z c) ≤ length (A c)
      → Begins os (shown_on t.table S w.path (clock c) c)
  shows w l n = subst (λ (x : List Observation). Begins x (shown_on t.table S w.path (clock c) c)) (sym k.shown) (go k.held)
    where
      Goal : List Passage → Type 0
      Goal x = Begins (map (seen (component_of t.table c) c) x) (shown_on t.table S w.path (clock c) c)

      alone : k.more ≡ [] → Goal (k.fin ++ k.more)
      alone m =
          subst Goal (sym (ap (λ (l : List Passage). k.fin ++ l) m ∙ append-nil k.fin))
          (w.shows c h (clock c) l k.fin (A c) k.whole fin_ready n)

      go : Held H (component_of t.table c) (clock c) k.count r (A c) k.more → Goal (k.fin ++ k.more)
      go (coming v vs e m b p) = alone m
      go (waiting v vs e m b j p) = alone m
      go (busy v vs e m b d j p) =
          subst Goal (sym (ap (λ (l : List Passage). k.fin ++ l) m))
          (w.shows_next c h (clock c) l k.fin (A c) k.whole fin_ready n v vs e b)
      go (leaving at e m b p) = alone m
      go (resting at e m b j p) = alone m
