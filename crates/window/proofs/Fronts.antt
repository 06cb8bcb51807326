-- The edge at the front of bytes: its parts, and that the functions over them may be called. Assumes nothing.
use mathlib.Core.Path.{◌≡◌, subst}
use mathlib.Core.Bool.{Bool}
use mathlib.Core.List.{List}
use Prim.Native.Nat.{ℕ, ◌+◌, ◌-◌, ◌*◌, ◌≤◌, ◌<◌}
use native.Mathlib.Omega.{arith}
use lib.IntN.{ℤ}
use lib.ListN.{length, take, drop, length-drop}
use Rattle.model.specs.declared.Action.TheVariants.{Internal, Receive}
use Rattle.model.specs.declared.Location.{Location}
use Rattle.model.specs.Lists.{All, or_else}
use Rattle.model.specs.Reader.{byte, clock_guard_at, data_guard_at, update_at}
use Rattle.model.specs.Places.{list_at, arc_head_length, items_place, budget_at, arc_at}
use Rattle.model.specs.Window.{ready_of, past_of, first_failing}
use Rattle.model.proofs.Basics.Walk.{list_length}
use Rattle.decoder.proofs.Found.{found}
use Rattle.decoder.proofs.ByAction.{internal_length, internal_updates, receive_length}
use Rattle.parts.proofs.Skim.{tail}
use Rattle.window.specs.Views.{ArcReady}

module _ (b : Bool) (h : List ℕ) (r : ArcReady b h) where
  -- the head stands whole
  pub head_fits : arc_head_length b ≤ length h
  head_fits = omega (arith, r.decodable.whole)

  pub clock_guards_asked : (at : ℕ) → at ≡ arc_head_length b → (byte h 4 * 5 ≤ length (take (length h - at) (drop at h)))
      × All (λ g. g.clock < 4) (list_at clock_guard_at 5 (byte h 4) (take (length h - at) (drop at h)))
  unfolding arc_at
  clock_guards_asked at e = rw (tail h at, e) (simp length-drop (omega (arith, r.decodable.whole)), r.clock_guards)

  pub data_guards_asked : (at : ℕ) → at ≡ arc_head_length b + byte h 4 * 5 → (byte h 5 * 5 ≤ length (take (length h - at) (drop at h)))
      × All (λ g. g.variable < 4) (list_at data_guard_at 5 (byte h 5) (take (length h - at) (drop at h)))
  unfolding arc_at
  data_guards_asked at e = rw (tail h at, e) (simp length-drop (omega (arith, r.decodable.whole)), r.data_guards)

  pub updates_asked : (at : ℕ) → at ≡ items_place b h → Internal ≡ (arc_at b h).edge.action → (byte h 6 * 4 ≤ length (take (length h - at) (drop at h)))
      × All (λ u. u.variable < 4) (list_at update_at 4 (byte h 6) (take (length h - at) (drop at h)))
  updates_asked at e z =
      let w : byte h 6 * 4 ≤ length (drop (items_place b h) h) = simp length-drop (omega (arith, internal_length b h z, r.decodable.whole)) in
      rw (tail h at, e) (w, subst (All (λ u. u.variable < 4)) (internal_updates b h z) r.updates)

  pub pairs_asked : (at : ℕ) → at ≡ items_place b h → Receive ≡ (arc_at b h).edge.action → byte h 6 * 2 ≤ length (take (length h - at) (drop at h))
  pairs_asked at e z = rw (tail h at, e) (simp length-drop (omega (arith, receive_length b h z, r.decodable.whole)))

-- what the functions over an edge's parts say of the edge
module _ (b : Bool) (h : List ℕ) where
  pub data_found : (at : ℕ) (vs : List ℤ) {r : ℕ} → at ≡ arc_head_length b + byte h 4 * 5
      → r ≡ first_failing (list_at data_guard_at 5 (byte h 5) (take (length h - at) (drop at h))) vs → r ≡ first_failing (arc_at b h).data_guards vs
  unfolding arc_at
  data_found at vs e p = found (λ bs. first_failing (list_at data_guard_at 5 (byte h 5) bs) vs) h at (arc_head_length b + byte h 4 * 5) e p

  -- there are as many as the edge counts
  pub data_count : length (arc_at b h).data_guards ≡ byte h 5
  unfolding arc_at
  data_count = list_length data_guard_at 5 (byte h 5) _

  pub ready_found : (at : ℕ) (xs : List ℕ) {r : ℕ} → at ≡ arc_head_length b → r ≡ ready_of (list_at clock_guard_at 5 (byte h 4) (take (length h - at) (drop at h))) xs
      → r ≡ ready_of (arc_at b h).clock_guards xs
  unfolding arc_at
  ready_found at xs e p = found (λ bs. ready_of (list_at clock_guard_at 5 (byte h 4) bs) xs) h at (arc_head_length b) e p

  pub past_found : (l : Location) (at : ℕ) (xs : List ℕ) {r : ℕ} → at ≡ arc_head_length b → r ≡ past_of l (list_at clock_guard_at 5 (byte h 4) (take (length h - at) (drop at h))) xs
      → r ≡ past_of l (arc_at b h).clock_guards xs
  unfolding arc_at
  past_found l at xs e p = found (λ bs. past_of l (list_at clock_guard_at 5 (byte h 4) bs) xs) h at (arc_head_length b) e p

  pub budget_found : {r : ℕ} → r ≡ or_else (budget_at b h) 0 → r ≡ or_else (arc_at b h).budget 0
  unfolding arc_at
  budget_found p = p
