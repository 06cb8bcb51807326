-- One passage in the network: what it needs to be possible there, and what its component may do at each tick of it. Assumes nothing.
use mathlib.Core.Path.{◌≡◌}
use mathlib.Core.Bool.{Bool, true, false, cond}
use mathlib.Core.Option.{none, some}
use Prim.Native.Nat.{ℕ, suc, ◌+◌, ◌-◌, ◌≤◌, ◌<◌}
use native.Mathlib.Omega.{arith}
use borrow.Author.Tests.{le-leb, lt-ltb, eq-eqb}
use lib.ListN.{length}
use Rattle.model.specs.Lists.{is_none}
use Rattle.model.specs.Table.{Component, arc_of, location_of}
use Rattle.model.specs.Window.{clock_at, ready_of, past_of, data_holds, updated, channel_of, listens}
use Rattle.model.specs.Schedule.{Passage}
use Rattle.model.specs.Network.{Taken, PathPassage, in_window, before_end, at_end, may_tick, may_step_in}
use Rattle.model.proofs.Window.Interval.{invariant}

-- Its edge is there and starts where it is, data bounds hold, updates stay in range, ready and end are those of the edge, and the window is
-- more than one tick. The message of an edge that does not receive is its channel, if it sends.
pub record Fits (C : Component) (v : Passage) : Type 0 where
  pub there : v.edge < length C.arcs
  pub source : (arc_of C v.edge).edge.source ≡ v.entry.location
  pub bounds : data_holds (arc_of C v.edge).data_guards v.entry.values ≡ true
  pub ranged : is_none (updated (arc_of C v.edge).updates v.entry.values) ≡ false
  pub ready : v.ready ≡ v.entry.tick + ready_of (arc_of C v.edge).clock_guards v.entry.clocks
  pub end : suc v.end ≡ v.entry.tick + past_of (location_of C v.entry.location) (arc_of C v.edge).clock_guards v.entry.clocks
  pub window : v.ready < v.end
  pub said : listens (arc_of C v.edge) ≡ false → v.message ≡ channel_of (arc_of C v.edge)

-- what a component waits in, its work finished
abbrev pub taken_of : Passage → Taken
taken_of v = record { edge = v.edge; message = v.message }

-- a component in passage v, waiting or not
abbrev pub place_in : Passage → Bool → PathPassage
place_in v w = record { entry = v.entry; waiting = cond w (some (taken_of v)) none }

module _ {C : Component} {v : Passage} (f : Fits C v) where
  -- a passage is ready at its entry or later
  pub from_entry : v.entry.tick ≤ v.ready
  from_entry = omega (arith, f.ready)

module _ {C : Component} {v : Passage} (f : Fits C v) (τ : ℕ) (since : v.entry.tick ≤ τ) where
  -- from ready to end it is in its window
  pub in_window_is : (w : Bool) → v.ready ≤ τ → τ ≤ v.end → in_window C τ (place_in v w) v.edge ≡ true
  in_window_is w r e = rw (
    le-leb (ready_of (arc_of C v.edge).clock_guards v.entry.clocks) (τ - v.entry.tick) (omega (arith, f.ready)),
    lt-ltb (τ - v.entry.tick) (past_of (location_of C v.entry.location) (arc_of C v.edge).clock_guards v.entry.clocks) (omega (arith, f.end)),
  )

  -- before its end
  pub before-end : (w : Bool) → τ < v.end → before_end C τ (place_in v w) v.edge ≡ true
  before-end w h =
      lt-ltb (suc (τ - v.entry.tick)) (past_of (location_of C v.entry.location) (arc_of C v.edge).clock_guards v.entry.clocks) (omega (arith, f.end))

  -- at its end
  pub at-end : (w : Bool) → τ ≡ v.end → at_end C τ (place_in v w) v.edge ≡ true
  at-end w h =
      eq-eqb (suc (τ - v.entry.tick)) (past_of (location_of C v.entry.location) (arc_of C v.edge).clock_guards v.entry.clocks) (omega (arith, f.end))

  -- in its window, not waiting, it may step in
  pub may-step-in : v.ready ≤ τ → τ ≤ v.end → may_step_in C τ (place_in v false) v.edge ≡ true
  unfolding may_step_in
  may-step-in r e =
      rw (lt-ltb v.edge (length C.arcs) f.there, eq-eqb (arc_of C v.edge).edge.source v.entry.location f.source, f.bounds, f.ranged)
      (in_window_is false r e)

  -- before its end, waiting or not, it may let a tick pass
  pub may-tick : (w : Bool) → τ < v.end → may_tick C τ (place_in v w) (place_in v w).waiting ≡ true
  may-tick true h = before-end true h
  may-tick false h =
      lt-ltb (clock_at v.entry.clocks (location_of C v.entry.location).clock + (τ - v.entry.tick)) (location_of C v.entry.location).bound
      (omega (arith, invariant (location_of C v.entry.location) v.entry.clocks (suc (τ - v.entry.tick)) (arc_of C v.edge).clock_guards (omega (arith, f.end))))
