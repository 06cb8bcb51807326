-- The whole list: nodes that have finished so many sleeps more run alike. Assumes nothing.
use mathlib.Core.Path.{◌≡◌, refl, sym, ap, ap₂, subst, ◌∙◌}
use mathlib.Core.Bool.{Bool, true, false, cond, ◌&&◌}
use mathlib.Core.List.{List, [], ◌∷◌, ◌++◌}
use mathlib.Core.Option.{Option}
use Prim.Native.Nat.{ℕ, zero, suc, ◌+◌, ◌-◌, ◌≤◌, ◌<◌}
use native.Mathlib.Omega.{arith}
use borrow.Author.Tests.{eqb-true, ne_eqb, eq-eqb}
use lib.Dec.{ltb, leb, eqb}
use lib.IntN.{◌+ℤ◌}
use lib.ListN.{length, set, length-set}
use Rattle.model.specs.Lists.{is_none}
use Rattle.model.specs.Window.{value_at, in_range}
use Rattle.model.specs.Network.{Work, Observation}
use Rattle.model.specs.Machine.{Node, finish, part_bytes}
use Rattle.model.specs.Run.{Setting, Run, Result, Outcome, forbidden, on, over, Stand, sleeping, sending, listening, finishing, adding, working, taking, elsewhere, nowhere, stand_of, node_of, no_node, window_end, own_tick, awake, moved, ticked, takes_message, finished, sent, listeners, finishes, some_due, overdue, late_nodes, after_tick, choose1, continue, ends, run_from}
use Rattle.recurrence.proofs.Agree.{with_ready, Before, choice_before}
use Rattle.recurrence.proofs.Shift.{rested, rested_from, rested_run, rested_outcome, Slept, slept_at, slept_set, finish_more, choice_rested}

-- ## The sleeps of an outcome

-- after an outcome that goes on each node has so many sleeps at least
abbrev SleptIn : (ℕ → ℕ) → Outcome → Type 0
SleptIn least forbidden = Unit
SleptIn least (on t) = Slept least 0 t.nodes
SleptIn least (over t e n) = Unit

slept_if : (least : ℕ → ℕ) (b : Bool) (x y : Outcome) → SleptIn least x → SleptIn least y → SleptIn least (cond b x y)
slept_if least true x y p q = p
slept_if least false x y p q = q

module _ (g : Setting) (least : ℕ → ℕ) (s : Run) (o : Slept least 0 s.nodes) where
  kept : (c k : ℕ) → (node_of s c).sleeps ≤ k → c < length s.nodes → least (0 + c) ≤ k
  kept c k l h = omega (arith, slept_at o c h)

  moved_slept : (c : ℕ) → Slept least 0 (set s.nodes c (finished g s c))
  moved_slept c = slept_set o c (finished g s c) (kept c (finished g s c).sleeps (finish_more (part_bytes g.program c) (node_of s c) (node_of s c).rest))

  sent_slept : (c k : ℕ) (is : List ℕ) → SleptIn least (sent g s c k is)
  sent_slept c k [] = tt
  sent_slept c k (i ∷ is) =
      let q = takes_message (part_bytes g.program i) k (node_of s i) in
      slept_set (moved_slept c) i q
      (λ h. kept i q.sleeps (finish_more (part_bytes g.program i) (node_of s i) (node_of s i).rest) (omega (arith, length-set s.nodes c (finished g s c))))

  node_slept : (c : ℕ) (w : Stand) → SleptIn least (finishes g s c w)
  node_slept c sleeping = slept_if least (eqb (own_tick g c s.tick) (node_of s c).t) _ forbidden (moved_slept c) tt
  node_slept c (sending k) = sent_slept c k (listeners g s c k)
  node_slept c (listening qs) = slept_if least (eqb (own_tick g c s.tick) (window_end (node_of s c))) _ forbidden (moved_slept c) tt
  node_slept c finishing = moved_slept c
  node_slept c (adding v z) = slept_if least (in_range (value_at (node_of s c).values v +ℤ z)) _ forbidden (moved_slept c) tt
  node_slept c working = moved_slept c
  node_slept c taking = slept_if least (is_none (node_of s c).kept) forbidden _ tt (moved_slept c)
  node_slept c elsewhere = moved_slept c
  node_slept c nowhere = tt

  tick_slept : (l : List ℕ) → SleptIn least (after_tick g (ticked s) l)
  tick_slept [] = slept_if least (eqb (suc s.tick) g.horizon) (over (ticked s) 0 255) (on (ticked s)) tt o
  tick_slept (c ∷ l) = tt

  choice_slept : (b : ℕ) → SleptIn least (choose1 g s b)
  unfolding choose1
  choice_slept b =
      slept_if least (eqb b 255) _ _
      (slept_if least (some_due g s.tick 0 s.nodes) forbidden _ tt (tick_slept (late_nodes g (suc s.tick) 0 s.nodes)))
      (slept_if least (ltb b (length s.nodes) && awake g b s.tick) _ forbidden (node_slept b (stand_of (node_of s b))) tt)

-- ## The whole list

abbrev pub rested_result : (ℕ → ℕ) → Result → Result
rested_result m r = record { end = r.end; node = r.node; state = rested_run m r.state }

module _ (g : Setting) (f : ℕ → ℕ → Option ℕ) (m least : ℕ → ℕ)
    (agree : (c k now : ℕ) → least c ≤ k → now ≤ g.horizon → overdue g (g.ready c (k + m c)) now ≡ overdue g (f c k) now) where
  pub run_rested : (cs : List ℕ) (s : Run) → s.tick < g.horizon → Slept least 0 s.nodes → run_from g cs (rested_run m s) ≡ rested_result m (run_from (with_ready g f) cs s)
  unfolding run_from
  run_rested [] s h o = refl
  run_rested (b ∷ cs) s h o =
      ap (λ (x : Outcome). continue (rested_run m s) x (λ t. run_from g cs t)) (choice_rested g f m least agree s b h o)
      ∙ go (choose1 (with_ready g f) s b) (choice_before (with_ready g f) s h b) (choice_slept (with_ready g f) least s o b) (λ t k l. run_rested cs t k l)
    where
      go : (x : Outcome) → Before (with_ready g f) x → SleptIn least x
          → ((t : Run) → t.tick < g.horizon → Slept least 0 t.nodes → run_from g cs (rested_run m t) ≡ rested_result m (run_from (with_ready g f) cs t))
          → continue (rested_run m s) (rested_outcome m x) (λ t. run_from g cs t) ≡ rested_result m (continue s x (λ t. run_from (with_ready g f) cs t))
      go forbidden k l ih = refl
      go (on t) k l ih = ih t k l
      go (over t e n) k l ih = refl
