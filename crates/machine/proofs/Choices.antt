-- One choice of a node, by what the node stands at. Assumes nothing.
use mathlib.Core.Path.{◌≡◌, refl, sym}
use mathlib.Core.Bool.{true, false, cond}
use mathlib.Core.List.{[], ◌∷◌}
use Prim.Native.Nat.{ℕ, ◌≤◌, ◌<◌}
use native.Mathlib.Omega.{arith}
use borrow.Author.Tests.{lt-ltb, le-ltb, le-leb, lt-leb, ne_eqb, not-true, not-false}
use lib.ListN.{length}
use Rattle.model.specs.Lists.{is_none}
use Rattle.model.specs.Network.{one}
use Rattle.model.specs.Run.{Setting, offset_of, own_tick, previous_finish, Run, forbidden, on, node_of, stand_of, Stand, sleeping, sending, listening, finishing, adding, working, taking, elsewhere, nowhere, observes, moved, finished, finishes, choose1}
use Rattle.model.proofs.Basics.Bools.{clash}
use Rattle.stand.specs.Stands.{may_finish}
use Rattle.machine.proofs.Ops.{plain, last_stand}

module _ (g : Setting) (s : Run) (b : ℕ) where
  -- a number below 255 chooses the node, if it is awake
  pub chosen_node : b < 255 → b < length s.nodes → offset_of g b ≤ s.tick → choose1 g s b ≡ finishes g s b (stand_of (node_of s b))
  unfolding choose1
  chosen_node h k w = rw (ne_eqb b 255 (λ e. omega arith), lt-ltb b (length s.nodes) k, le-leb (offset_of g b) s.tick w)

  -- a node that sleeps until later
  pub asleep_node : b < 255 → b < length s.nodes → s.tick < offset_of g b → choose1 g s b ≡ forbidden
  unfolding choose1
  asleep_node h k w = rw (ne_eqb b 255 (λ e. omega arith), lt-ltb b (length s.nodes) k, lt-leb (offset_of g b) s.tick w)

  -- an absent node
  pub absent_node : b < 255 → length s.nodes ≤ b → choose1 g s b ≡ forbidden
  unfolding choose1
  absent_node h k = rw (ne_eqb b 255 (λ e. omega arith), le-ltb b (length s.nodes) k)

  -- a sleep
  pub sleep_over : may_finish (own_tick g b s.tick) (node_of s b) sleeping ≡ true
      → finishes g s b sleeping ≡ on (moved s b (finished g s b) (observes b (own_tick g b s.tick) (node_of s b) ∷ []) (previous_finish g b s.works ∷ []) [])
  sleep_over e = rw e

  -- what may be finished without another node, and is no sleep
  pub done_alone : (st : Stand) → plain st ≡ true → may_finish (own_tick g b s.tick) (node_of s b) st ≡ true
      → finishes g s b st ≡ on (moved s b (finished g s b) [] [] (cond (last_stand st) (one b s.tick ∷ []) []))
  done_alone sleeping p e = clash p
  done_alone (sending k) p e = clash p
  done_alone (listening qs) p e = rw e
  done_alone finishing p e = refl
  done_alone (adding v z) p e = rw e
  done_alone working p e = refl
  done_alone taking p e = rw (not-true (is_none (node_of s b).kept) e)
  done_alone elsewhere p e = refl
  done_alone nowhere p e = clash e

  -- a sleep whose tick is another
  pub refused_sleep : may_finish (own_tick g b s.tick) (node_of s b) sleeping ≡ false → finishes g s b sleeping ≡ forbidden
  refused_sleep e = rw e

  -- what may not be finished, and is no sleep
  pub refused_alone : (st : Stand) → plain st ≡ true → may_finish (own_tick g b s.tick) (node_of s b) st ≡ false → finishes g s b st ≡ forbidden
  refused_alone sleeping p e = clash p
  refused_alone (sending k) p e = clash p
  refused_alone (listening qs) p e = rw e
  refused_alone finishing p e = clash (sym e)
  refused_alone (adding v z) p e = rw e
  refused_alone working p e = clash (sym e)
  refused_alone taking p e = rw (not-false (is_none (node_of s b).kept) e)
  refused_alone elsewhere p e = clash (sym e)
  refused_alone nowhere p e = refl
