-- One node held against the schedule: late by its registers is late by the schedule, it is not late as it is held, and what a tick does to it.
-- Assumes nothing.
use mathlib.Core.Path.{◌≡◌, refl, sym, ap, ◌∙◌}
use mathlib.Core.Bool.{false}
use mathlib.Core.List.{List, [], ◌∷◌, ◌++◌, append-nil}
use Prim.Native.Nat.{ℕ, zero, suc, ◌≤◌, ◌<◌}
use native.Mathlib.Omega.{arith}
use borrow.Author.Tests.{le-ltb, ltb-false, eqb-false}
use lib.Dec.{eqb}
use lib.ListN.{length}
use Rattle.model.specs.Table.{Component, Read, size, component_of}
use Rattle.model.specs.Schedule.{Passage, own}
use Rattle.model.specs.Network.{Observation}
use Rattle.model.specs.Machine.{Node}
use Rattle.model.specs.Run.{setting_at, stand_of, due, late}
use Rattle.model.specs.Demand3.{ready_before, late_in}
use Rattle.model.proofs.Node.Facts.{heading_late_in, asleep_late, asleep_late_in, working_late_in}
use Rattle.model.proofs.Node.Listening.{asleep_due}
use Rattle.model.proofs.Node.Passage.{asleep_passage}
use Rattle.model.proofs.Node.Schedule.{Nth, end_before_nth, ready_before_nth, heading_late_same, working_late_same}
use Rattle.model.proofs.Run.Tied.{Given, Held, coming, waiting, busy, leaving, resting, Tie, Along, opened_first, nth_first, ahead_before}

-- beyond the last passage nothing was ready before now
pub never_ready : (vs : List Passage) (i now : ℕ) → length vs ≤ i → ready_before vs i now ≡ false
never_ready [] i now h = refl
never_ready (v ∷ vs) zero now h = absurd (omega arith)
never_ready (v ∷ vs) (suc i) now h = never_ready vs i now (omega arith)

-- nothing ahead: all passages are finished
pub all_finished : (fin ahead vs : List Passage) {i : ℕ} → length fin ≡ i → fin ++ ahead ≡ vs → ahead ≡ [] → length vs ≤ i
all_finished fin ahead vs n w e = omega (arith, ap length (sym (append-nil fin) ∙ (ap (λ (l : List Passage). fin ++ l) (sym e) ∙ w)))

module _ {t : Read} {H : ℕ} {S : List Passage} {offs : List ℕ} (G : Given t H S offs) {clock : ℕ → ℕ} {A : ℕ → List Passage} (g : Along G clock A) (c : ℕ) (h : c < size t.table) {r : Node}
    {os : List Observation} (k : Tie t.table H S c (clock c) r os (A c)) where
  -- the number of the first passage ahead
  pub nth_ahead : (v : Passage) (vs : List Passage) → A c ≡ v ∷ vs → Nth (own c S) k.count v
  nth_ahead v vs e = nth_first c S k.fin k.counts k.whole v vs e

  -- nothing ahead: all passages are finished
  pub none_ahead : A c ≡ [] → length (own c S) ≤ k.count
  none_ahead e = all_finished k.fin (A c) (own c S) k.counts k.whole e

  -- the run's lateness is the schedule's
  pub late_same : (now : ℕ) → late (setting_at t H S offs) now c r (stand_of r) ≡ late_in (own c S) now r (stand_of r)
  late_same now = go k.held
    where
      go : Held H (component_of t.table c) (clock c) k.count r (A c) k.more → late (setting_at t H S offs) now c r (stand_of r) ≡ late_in (own c S) now r (stand_of r)
      go (coming v vs e m l p) = heading_late_same t H S offs now c p
      go (waiting v vs e m l q p) = asleep_late (setting_at t H S offs) now c p ∙ sym (asleep_late_in (own c S) now p)
      go (busy v vs e m l b q p) = working_late_same t H S offs now c (opened_first G g c h v vs e) (nth_ahead v vs e) p
      go (leaving at e m l p) = heading_late_same t H S offs now c p
      go (resting at e m l q p) = asleep_late (setting_at t H S offs) now c p ∙ sym (asleep_late_in (own c S) now p)

  -- it is not late now
  pub on_time : late_in (own c S) (clock c) r (stand_of r) ≡ false
  on_time = go k.held
    where
      go : Held H (component_of t.table c) (clock c) k.count r (A c) k.more → late_in (own c S) (clock c) r (stand_of r) ≡ false
      go (coming v vs e m l p) = heading_late_in (own c S) (clock c) p ∙ (ready_before_nth (nth_ahead v vs e) (clock c) ∙ le-ltb v.ready (clock c) l)
      go (waiting v vs e m l q p) = asleep_late_in (own c S) (clock c) p
      go (busy v vs e m l b q p) =
          working_late_in (own c S) (clock c) p
          ∙ (end_before_nth (nth_ahead v vs e) (clock c)
          ∙ le-ltb v.end (clock c) (ahead_before G g c h v vs e))
      go (leaving at e m l p) = heading_late_in (own c S) (clock c) p ∙ never_ready (own c S) k.count (clock c) (none_ahead e)
      go (resting at e m l q p) = asleep_late_in (own c S) (clock c) p

  -- what a tick does to a node that is due for nothing and not late afterwards: nothing, and its window, if it is in one, goes on
  pub record Later : Type 0 where
    pub tie : Tie t.table H S c (suc (clock c)) r os (A c)
    pub room : (v : Passage) (vs : List Passage) → A c ≡ v ∷ vs → v.ready ≤ (clock c) → (clock c) < v.end

  -- the same tie a tick later
  again : Held H (component_of t.table c) (suc (clock c)) k.count r (A c) k.more → Tie t.table H S c (suc (clock c)) r os (A c)
  again p = record { fin = k.fin; more = k.more; count = k.count; counts = k.counts; whole = k.whole; held = p; shown = k.shown }

  -- one first passage
  same_ready : (v w : Passage) (vs us : List Passage) → A c ≡ v ∷ vs → A c ≡ w ∷ us → v ≡ w
  same_ready v w vs us e f = cc

  -- nothing ahead is no first passage
  nothing_first : (v : Passage) (vs : List Passage) → A c ≡ [] → A c ≡ v ∷ vs → ⊥
  nothing_first v vs e f = let z : ◌≡◌ {A = ℕ} 0 1 = cc in omega arith

  -- so it is
  pub ticks_on : due (setting_at t H S offs) (clock c) r (stand_of r) ≡ false → late (setting_at t H S offs) (suc (clock c)) c r (stand_of r) ≡ false → Later
  ticks_on d l = go k.held
    where
      C : Component
      C = component_of t.table c

      not_ready : (v : Passage) (vs : List Passage) → A c ≡ v ∷ vs → (suc (clock c)) ≤ v.ready → (w : Passage) (us : List Passage) → A c ≡ w ∷ us → w.ready ≤ (clock c) → (clock c) < w.end
      not_ready v vs e n w us f q = absurd (omega (arith, ap (λ (x : Passage). x.ready) (same_ready v w vs us e f)))

      not_late : late_in (own c S) (suc (clock c)) r (stand_of r) ≡ false
      not_late = sym (late_same (suc (clock c))) ∙ l

      go : Held H C (clock c) k.count r (A c) k.more → Later
      go (coming v vs e m b p) =
          let n : (suc (clock c)) ≤ v.ready = ltb-false v.ready (suc (clock c)) (sym (heading_late_in (own c S) (suc (clock c)) p ∙ ready_before_nth (nth_ahead v vs e) (suc (clock c))) ∙ not_late) in
          record { tie = again (coming v vs e m n p); room = not_ready v vs e n }
      go (waiting v vs e m b q p) =
          let o = opened_first G g c h v vs e in
          let x = eqb-false (clock c) r.t (sym (asleep_due (setting_at t H S offs) (clock c) p ∙ ap (eqb (clock c)) (sym p.t)) ∙ d) in
          let n : (suc (clock c)) ≤ v.ready = omega (arith, (asleep_passage o p).ready, x) in
          record { tie = again (waiting v vs e m n q p); room = not_ready v vs e n }
      go (busy v vs e m b f q p) =
          let n : (suc (clock c)) ≤ v.end = ltb-false v.end (suc (clock c)) (sym (working_late_in (own c S) (suc (clock c)) p ∙ end_before_nth (nth_ahead v vs e) (suc (clock c))) ∙ not_late) in
          record {
            tie = again (busy v vs e m (omega arith) f q p);
            room = λ w us i x. omega (arith, n, ap (λ (y : Passage). y.end) (same_ready v w vs us e i));
          }
      go (leaving at e m b p) = record { tie = again (leaving at e m b p); room = λ w us f x. absurd (nothing_first w us e f) }
      go (resting at e m b q p) = record { tie = again (resting at e m b q p); room = λ w us f x. absurd (nothing_first w us e f) }
