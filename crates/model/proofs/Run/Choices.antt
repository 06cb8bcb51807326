-- The whole list of choices: each run goes through states that are the schedule's, to one of its four ends; and what follows for its states and
-- its result, by induction over the list. Assumes nothing.
use mathlib.Core.Path.{◌≡◌, refl, sym, ap, subst, ◌∙◌}
use mathlib.Core.Bool.{Bool, true, false, cond}
use mathlib.Core.List.{List, [], ◌∷◌}
use Prim.Native.Nat.{ℕ, zero, suc, ◌+◌, ◌≤◌, ◌<◌}
use native.Mathlib.Omega.{arith}
use lib.Dec.{eqb}
use lib.ListN.{length, get_or, take}
use Rattle.model.specs.Table.{Read, size}
use Rattle.model.specs.Schedule.{Passage}
use Rattle.model.specs.Run.{setting_at, offset_of, Run, Result, ends, Outcome, forbidden, on, over, ticked, node_of, stand_of, continue, choose1, run_from}
use Rattle.model.specs.Demand3.{reached, HasListener, further_states, states, ticks_in}
use Rattle.model.proofs.Basics.Bools.{clash}
use Rattle.model.proofs.Network.Order.{Sorted}
use Rattle.model.proofs.Run.Tied.{Given, Tied}
use Rattle.model.proofs.Run.Tick.{Live, late_by, TooLate, Leads, no, onward, arrives, breaks, no_tick}
use Rattle.model.proofs.Run.Send.{choice_leads}
use Rattle.model.proofs.Run.Path.{PathOf, nobody_late, quiet_path, late_path, listener_now, listener_then}

module _ {t : Read} {H : ℕ} {S : List Passage} {offs : List ℕ} (G : Given t H S offs) where
  -- from state s a list of choices leads to a result, through these states, n choices carried out
  pub data Goes : ℕ → Run → List ℕ → Result → List Run → Type 0 where
    used_up : {s : Run} → Live G s → Goes 0 s [] (ends s 1 255) (s ∷ [])
    stops : {s : Run} {b : ℕ} {bs : List ℕ} → Live G s → choose1 (setting_at t H S offs) s b ≡ forbidden → Goes 0 s (b ∷ bs) (ends s 3 255) (s ∷ [])
    further : {n : ℕ} {s u : Run} {b : ℕ} {bs : List ℕ} {r : Result} {us : List Run} → Live G s → Live G u → u.used ≡ suc s.used
        → u.tick ≡ cond (eqb b 255) (suc s.tick) s.tick → (b < size t.table → offset_of (setting_at t H S offs) b ≤ s.tick)
        → Goes n u bs r us → Goes (suc n) s (b ∷ bs) r (s ∷ us)
    arrived : {s : Run} {b : ℕ} {bs : List ℕ} → Live G s → b ≡ 255 → Tied G (ticked s) → suc s.tick ≡ H
        → Goes 1 s (b ∷ bs) (ends (ticked s) 0 255) (s ∷ ticked s ∷ [])
    broken : {s : Run} {b : ℕ} {bs : List ℕ} (c : ℕ) → Live G s → b ≡ 255 → TooLate G s c → Goes 1 s (b ∷ bs) (ends (ticked s) 2 c) (s ∷ ticked s ∷ [])

  -- so it is with every list
  pub goes : (cs : List ℕ) {s : Run} → Live G s → (n : ℕ) × Goes n s cs (run_from (setting_at t H S offs) cs s) (states (setting_at t H S offs) cs s)
  unfolding run_from states
  goes [] k = (0, used_up k)
  goes (b ∷ bs) {s} k = go (choose1 (setting_at t H S offs) s b) refl (choice_leads G k b) (λ u l. goes bs l)
    where
      go : (o : Outcome) → choose1 (setting_at t H S offs) s b ≡ o → Leads G s b o
          → ((u : Run) → Live G u → (n : ℕ) × Goes n u bs (run_from (setting_at t H S offs) bs u) (states (setting_at t H S offs) bs u))
          → (n : ℕ) × Goes n s (b ∷ bs) (continue s o (λ u. run_from (setting_at t H S offs) bs u)) (s ∷ further_states o (λ u. states (setting_at t H S offs) bs u))
      go forbidden e no ih = (0, stops k e)
      go (on u) e (onward w l f i o) ih = let m = ih w l in (suc m.0, further k l f i o m.1)
      go (over u x y) e (arrives f p i) ih = (1, arrived k f p i)
      go (over u x y) e (breaks c f p) ih = (1, broken c k f p)

  -- a choice carried out: the state before it, and that it was allowed there
  pub carried_out : (cs : List ℕ) {s : Run} → Live G s → (d : Run) (k : ℕ) → s.used + k < (run_from (setting_at t H S offs) cs s).state.used
      → Live G (get_or (states (setting_at t H S offs) cs s) k d)
      × (choose1 (setting_at t H S offs) (get_or (states (setting_at t H S offs) cs s) k d) (get_or cs k 0) ≡ forbidden → ⊥)
  unfolding run_from states
  carried_out [] l d k h = absurd (omega arith)
  carried_out (b ∷ bs) {s} l d k h = go (choose1 (setting_at t H S offs) s b) refl (choice_leads G l b) k h (λ u w i j. carried_out bs w d i j)
    where
      -- choice k, in the state before it
      Carried : Outcome → ℕ → Type 0
      Carried o i =
          Live G (get_or (s ∷ further_states o (λ u. states (setting_at t H S offs) bs u)) i d)
          × (choose1 (setting_at t H S offs) (get_or (s ∷ further_states o (λ u. states (setting_at t H S offs) bs u)) i d) (get_or (b ∷ bs) i 0) ≡ forbidden → ⊥)

      go : (o : Outcome) → choose1 (setting_at t H S offs) s b ≡ o → Leads G s b o → (i : ℕ) → s.used + i < (continue s o (λ u. run_from (setting_at t H S offs) bs u)).state.used
          → ((u : Run) → Live G u → (j : ℕ) → u.used + j < (run_from (setting_at t H S offs) bs u).state.used
          → Live G (get_or (states (setting_at t H S offs) bs u) j d)
          × (choose1 (setting_at t H S offs) (get_or (states (setting_at t H S offs) bs u) j d) (get_or bs j 0) ≡ forbidden → ⊥))
          → Carried o i
      go forbidden e no i j ih = absurd (omega arith)
      go (on u) e (onward w m f p q) zero j ih = (l, λ x. (let z : ◌≡◌ {A = ℕ} 0 1 = cc in omega arith))
      go (on u) e (onward w m f p q) (suc i) j ih = ih w m i (omega (arith, f))
      go (over u x y) e (arrives f p q) zero j ih = (l, λ x. (let z : ◌≡◌ {A = ℕ} 0 1 = cc in omega arith))
      go (over u x y) e (arrives f p q) (suc i) j ih = absurd (omega arith)
      go (over u x y) e (breaks c f p) zero j ih = (l, λ x. (let z : ◌≡◌ {A = ℕ} 0 1 = cc in omega arith))
      go (over u x y) e (breaks c f p) (suc i) j ih = absurd (omega arith)

  -- ## What follows

  -- how many choices were carried out
  pub goes_used : {n : ℕ} {s : Run} {cs : List ℕ} {r : Result} {us : List Run} → Goes n s cs r us → r.state.used ≡ s.used + n
  goes_used (used_up k) = omega arith
  goes_used (stops k e) = omega arith
  goes_used (further k l e f w g) = omega (arith, goes_used g, e)
  goes_used (arrived k e p f) = omega arith
  goes_used (broken c k e p) = omega arith

  -- no more than there are
  pub goes_few : {n : ℕ} {s : Run} {cs : List ℕ} {r : Result} {us : List Run} → Goes n s cs r us → n ≤ length cs
  goes_few (used_up k) = omega arith
  goes_few (stops k e) = omega arith
  goes_few (further k l e f w g) = omega (arith, goes_few g)
  goes_few (arrived k e p f) = omega arith
  goes_few (broken c k e p) = omega arith

  -- a tick for each 255
  pub goes_ticks : {n : ℕ} {s : Run} {cs : List ℕ} {r : Result} {us : List Run} → Goes n s cs r us → r.state.tick ≡ s.tick + ticks_in (take n cs)
  unfolding ticks_in
  goes_ticks (used_up k) = omega arith
  goes_ticks (stops k e) = omega arith
  goes_ticks (further {n} {s} {u} {b} {bs} {r} k l e f w g) = go (eqb b 255) f (goes_ticks g)
    where
      go : (x : Bool) → u.tick ≡ cond x (suc s.tick) s.tick → r.state.tick ≡ u.tick + ticks_in (take n bs)
          → r.state.tick ≡ s.tick + cond x (suc (ticks_in (take n bs))) (ticks_in (take n bs))
      go true p q = omega arith
      go false p q = omega arith
  goes_ticks (arrived {s} {b} k e p f) = sym (ap (λ (n : ℕ). s.tick + cond (eqb n 255) 1 0) e ∙ (let z : s.tick + 1 ≡ suc s.tick = omega arith in z))
  goes_ticks (broken {s} {b} c k e p) = sym (ap (λ (n : ℕ). s.tick + cond (eqb n 255) 1 0) e ∙ (let z : s.tick + 1 ≡ suc s.tick = omega arith in z))

  -- the first state
  first_state : {n : ℕ} {s : Run} {cs : List ℕ} {r : Result} {us : List Run} → Goes n s cs r us → (d : Run) → get_or us 0 d ≡ s
  first_state (used_up k) d = refl
  first_state (stops k e) d = refl
  first_state (further k l e f w g) d = refl
  first_state (arrived k e p f) d = refl
  first_state (broken c k e p) d = refl

  -- the path
  pub goes_path : {n : ℕ} {s : Run} {cs : List ℕ} {r : Result} {us : List Run} → Goes n s cs r us → PathOf t H S offs (reached r) r
  goes_path (used_up k) = quiet_path G k.tied (omega (arith, k.below)) 1 255 refl
  goes_path (stops k e) = quiet_path G k.tied (omega (arith, k.below)) 3 255 refl
  goes_path (further k l e f w g) = goes_path g
  goes_path (arrived k e p f) = quiet_path G p (omega arith) 0 255 refl
  goes_path (broken c k e p) = late_path G k c p

  -- in each state each sender has its listener
  pub goes_listener : {n : ℕ} {s : Run} {cs : List ℕ} {r : Result} {us : List Run} → Goes n s cs r us → (d : Run) (i : ℕ) → i ≤ n → (c : ℕ) → c < size t.table
      → HasListener (setting_at t H S offs) (get_or us i d) c (stand_of (node_of (get_or us i d) c))
  goes_listener (used_up k) d zero l c h = listener_now G k c h
  goes_listener (used_up k) d (suc i) l c h = absurd (omega arith)
  goes_listener (stops k e) d zero l c h = listener_now G k c h
  goes_listener (stops k e) d (suc i) l c h = absurd (omega arith)
  goes_listener (further k m e f w g) d zero l c h = listener_now G k c h
  goes_listener (further k m e f w g) d (suc i) l c h = goes_listener g d i (omega arith) c h
  goes_listener (arrived k e p f) d zero l c h = listener_now G k c h
  goes_listener (arrived k e p f) d (suc zero) l c h = listener_then G k c h
  goes_listener (arrived k e p f) d (suc (suc i)) l c h = absurd (omega arith)
  goes_listener (broken x k e p) d zero l c h = listener_now G k c h
  goes_listener (broken x k e p) d (suc zero) l c h = listener_then G k c h
  goes_listener (broken x k e p) d (suc (suc i)) l c h = absurd (omega arith)

  -- every state that a choice was carried out in lies before the horizon
  pub goes_below : {n : ℕ} {s : Run} {cs : List ℕ} {r : Result} {us : List Run} → Goes n s cs r us → (d : Run) (i : ℕ) → i < n → (get_or us i d).tick < H
  goes_below (used_up k) d i l = absurd (omega arith)
  goes_below (stops k e) d i l = absurd (omega arith)
  goes_below (further k m e f w g) d zero l = k.below
  goes_below (further k m e f w g) d (suc i) l = goes_below g d i (omega arith)
  goes_below (arrived k e p f) d zero l = k.below
  goes_below (arrived k e p f) d (suc i) l = absurd (omega arith)
  goes_below (broken c k e p) d zero l = k.below
  goes_below (broken c k e p) d (suc i) l = absurd (omega arith)

  -- a late node after a choice: the run ends there and then, with the lowest one
  pub goes_late_ends : {n : ℕ} {s : Run} {cs : List ℕ} {r : Result} {us : List Run} → Goes n s cs r us → (d : Run) (i : ℕ) → i < n → (c : ℕ) → c < size t.table
      → late_by G (get_or us (suc i) d) c ≡ true → (suc i ≡ n) × (r.end ≡ 2) × (r.node ≤ c)
  goes_late_ends (used_up k) d i l c h x = absurd (omega arith)
  goes_late_ends (stops k e) d i l c h x = absurd (omega arith)
  goes_late_ends (further {u = u} k m e f w g) d zero l c h x =
      clash (sym (nobody_late G m.tied c h) ∙ subst (λ (y : Run). late_by G y c ≡ true) (first_state g d) x)
  goes_late_ends (further k m e f w g) d (suc i) l c h x = let y = goes_late_ends g d i (omega arith) c h x in (ap suc y.0, y.1, y.2)
  goes_late_ends (arrived k e p f) d zero l c h x = clash (sym (nobody_late G p c h) ∙ x)
  goes_late_ends (arrived k e p f) d (suc i) l c h x = absurd (omega arith)
  goes_late_ends (broken b k e p) d zero l c h x = (refl, refl, p.least c h x)
  goes_late_ends (broken b k e p) d (suc i) l c h x = absurd (omega arith)

  -- a node is chosen only when it is awake
  pub goes_woken : {n : ℕ} {s : Run} {cs : List ℕ} {r : Result} {us : List Run} → Goes n s cs r us → (d : Run) (i : ℕ) → i < n → get_or cs i 0 < size t.table
      → offset_of (setting_at t H S offs) (get_or cs i 0) ≤ (get_or us i d).tick
  goes_woken (used_up k) d i l h = absurd (omega arith)
  goes_woken (stops k e) d i l h = absurd (omega arith)
  goes_woken (further k m e f w g) d zero l h = w h
  goes_woken (further k m e f w g) d (suc i) l h = goes_woken g d i (omega arith) h
  goes_woken (arrived k e p f) d zero l h = absurd (no_tick G _ h e)
  goes_woken (arrived k e p f) d (suc i) l h = absurd (omega arith)
  goes_woken (broken x k e p) d zero l h = absurd (no_tick G _ h e)
  goes_woken (broken x k e p) d (suc i) l h = absurd (omega arith)

  -- the works of the result stand in the order of their ticks
  pub goes_logged : {n : ℕ} {s : Run} {cs : List ℕ} {r : Result} {us : List Run} → Goes n s cs r us → Sorted r.state.works
  goes_logged (used_up k) = k.tied.logged.sorted
  goes_logged (stops k e) = k.tied.logged.sorted
  goes_logged (further k m e f w g) = goes_logged g
  goes_logged (arrived k e p f) = p.logged.sorted
  goes_logged (broken x k e p) = k.tied.logged.sorted

  -- what a late end means
  pub record LastLate (n : ℕ) (cs : List ℕ) (r : Result) (us : List Run) (d : Run) : Type 0 where
    pub before : ℕ
    pub number : n ≡ suc before
    pub there : r.node < size t.table
    pub choice : get_or cs before 0 ≡ 255
    pub late : late_by G (get_or us (suc before) d) r.node ≡ true

  -- a late end is one
  pub goes_late_is : {n : ℕ} {s : Run} {cs : List ℕ} {r : Result} {us : List Run} → Goes n s cs r us → (d : Run) → r.end ≡ 2 → LastLate n cs r us d
  goes_late_is (used_up k) d x = absurd (omega arith)
  goes_late_is (stops k e) d x = absurd (omega arith)
  goes_late_is (further k m e f w g) d x =
      let y = goes_late_is g d x in
      record { before = suc y.before; number = ap suc y.number; there = y.there; choice = y.choice; late = y.late }
  goes_late_is (arrived k e p f) d x = absurd (omega arith)
  goes_late_is (broken b k e p) d x = record { before = 0; number = refl; there = p.there; choice = e; late = p.late }

  -- the node is named only by a late end
  pub goes_node : {n : ℕ} {s : Run} {cs : List ℕ} {r : Result} {us : List Run} → Goes n s cs r us → (r.end ≡ 2 → ⊥) → r.node ≡ 255
  goes_node (used_up k) x = refl
  goes_node (stops k e) x = refl
  goes_node (further k m e f w g) x = goes_node g x
  goes_node (arrived k e p f) x = refl
  goes_node (broken b k e p) x = absurd (x refl)

  -- the four ends
  pub data Ends (n : ℕ) (cs : List ℕ) (r : Result) : Type 0 where
    at_horizon : r.end ≡ 0 → r.state.tick ≡ H → ((c : ℕ) → c < size t.table → late_by G r.state c ≡ false) → Ends n cs r
    at_last : r.end ≡ 1 → n ≡ length cs → r.state.tick < H → Ends n cs r
    too_late : r.end ≡ 2 → Ends n cs r
    not_allowed : r.end ≡ 3 → n < length cs → choose1 (setting_at t H S offs) r.state (get_or cs n 0) ≡ forbidden → Live G r.state → Ends n cs r

  -- one of them
  pub goes_ends : {n : ℕ} {s : Run} {cs : List ℕ} {r : Result} {us : List Run} → Goes n s cs r us → Ends n cs r
  goes_ends (used_up k) = at_last refl refl k.below
  goes_ends (stops k e) = not_allowed refl (omega arith) e k
  goes_ends (further {n} {s} {u} {b} {bs} {r} k m e f w g) = go (goes_ends g)
    where
      go : Ends n bs r → Ends (suc n) (b ∷ bs) r
      go (at_horizon x y z) = at_horizon x y z
      go (at_last x y z) = at_last x (ap suc y) z
      go (too_late x) = too_late x
      go (not_allowed x y z w) = not_allowed x (omega arith) z w
  goes_ends (arrived k e p f) = at_horizon refl f (nobody_late G p)
  goes_ends (broken b k e p) = too_late refl
