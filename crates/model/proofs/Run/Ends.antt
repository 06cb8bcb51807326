-- The end of every run is one of the four cases, with document 01's number and node. Assumes nothing.
use mathlib.Core.Path.{◌≡◌, refl}
use mathlib.Core.Bool.{Bool, true, false, cond, ◌&&◌}
use mathlib.Core.List.{List, [], ◌∷◌}
use Prim.Native.Nat.{ℕ, suc}
use lib.Dec.{ltb, eqb}
use lib.IntN.{◌+ℤ◌}
use lib.ListN.{length}
use Rattle.model.specs.Lists.{is_none}
use Rattle.model.specs.Window.{value_at, in_range}
use Rattle.model.specs.Run.{Setting, Run, Result, Outcome, forbidden, on, over, Stand, sleeping, sending, listening, finishing, adding, working, taking, elsewhere, nowhere, stand_of, node_of, window_end, own_tick, awake, ticked, listeners, sent, finishes, some_due, late_nodes, after_tick, choose1, continue, start_run, run_from, run}
use Rattle.model.specs.Calls.{end_number, end_node, end_of}

-- number and node are those of a case
pub record IsEnd (number node : ℕ) : Type 0 where
  pub numbers : end_number (end_of number node) ≡ number
  pub nodes : end_node (end_of number node) ≡ node

-- where an outcome ends the run
abbrev Ends : Outcome → Type 0
Ends forbidden = Unit {0}
Ends (on s) = Unit {0}
Ends (over s number node) = IsEnd number node

ends_if : (x : Bool) (a b : Outcome) → Ends a → Ends b → Ends (cond x a b)
ends_if true a b p q = p
ends_if false a b p q = q

module _ (g : Setting) (s : Run) where
  -- a node's statement ends no run
  node_ends : (c : ℕ) (x : Stand) → Ends (finishes g s c x)
  node_ends c sleeping = ends_if (eqb (own_tick g c s.tick) (node_of s c).t) (on _) forbidden tt tt
  node_ends c (sending k) = go (listeners g s c k)
    where
      go : (is : List ℕ) → Ends (sent g s c k is)
      go [] = tt
      go (i ∷ is) = tt
  node_ends c (listening qs) = ends_if (eqb (own_tick g c s.tick) (window_end (node_of s c))) (on _) forbidden tt tt
  node_ends c finishing = tt
  node_ends c (adding v z) = ends_if (in_range (value_at (node_of s c).values v +ℤ z)) (on _) forbidden tt tt
  node_ends c working = tt
  node_ends c taking = ends_if (is_none (node_of s c).kept) forbidden (on _) tt tt
  node_ends c elsewhere = tt
  node_ends c nowhere = tt

  -- a tick: late, or the horizon
  tick_ends : (u : Run) (cs : List ℕ) → Ends (after_tick g u cs)
  tick_ends u (c ∷ cs) = record { numbers = refl; nodes = refl }
  tick_ends u [] = ends_if (eqb u.tick g.horizon) (over u 0 255) (on u) (record { numbers = refl; nodes = refl }) tt

  -- one choice
  choice_ends : (b : ℕ) → Ends (choose1 g s b)
  unfolding choose1
  choice_ends b =
      ends_if (eqb b 255) _ _ (ends_if (some_due g s.tick 0 s.nodes) forbidden _ tt (tick_ends (ticked s) (late_nodes g (suc s.tick) 0 s.nodes)))
      (ends_if (ltb b (length s.nodes) && awake g b s.tick) _ forbidden (node_ends b (stand_of (node_of s b))) tt)

-- the whole list
from_ends : (g : Setting) (cs : List ℕ) (s : Run) → IsEnd (run_from g cs s).end (run_from g cs s).node
unfolding run_from
from_ends g [] s = record { numbers = refl; nodes = refl }
from_ends g (b ∷ bs) s = go (choose1 g s b) (choice_ends g s b) (from_ends g bs)
  where
    go : (o : Outcome) → Ends o → ((u : Run) → IsEnd (run_from g bs u).end (run_from g bs u).node)
        → IsEnd (continue s o (λ u. run_from g bs u)).end (continue s o (λ u. run_from g bs u)).node
    go forbidden e ih = record { numbers = refl; nodes = refl }
    go (on u) e ih = ih u
    go (over u number node) e ih = e

-- the numbers of every run's end are those of its case
pub end_numbers : (g : Setting) (cs : List ℕ) → IsEnd (run g cs).end (run g cs).node
unfolding run
end_numbers g cs = from_ends g cs (start_run g)
