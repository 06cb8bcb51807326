-- One choice by the definitions: a tick, a sleep that ends, and how many observations a choice adds. Assumes nothing.
use mathlib.Core.Path.{◌≡◌, refl, ap, subst, ◌∙◌}
use mathlib.Core.Bool.{Bool, true, false, cond, ◌&&◌}
use mathlib.Core.List.{List, [], ◌∷◌, ◌++◌, map}
use Prim.Native.Nat.{ℕ, zero, suc, ◌+◌, ◌≤◌, ◌<◌}
use native.Mathlib.Omega.{arith}
use borrow.Author.Tests.{lt-ltb, le-leb, eq-eqb, ne_eqb}
use lib.Dec.{ltb, eqb}
use lib.IntN.{◌+ℤ◌}
use lib.ListN.{length, get_or, length-append}
use Rattle.model.specs.Lists.{from, below, is_none}
use Rattle.model.specs.Window.{value_at, in_range}
use Rattle.model.specs.Network.{Observation, Work, one}
use Rattle.model.specs.Machine.{Node}
use Rattle.model.specs.Run.{awake as up}
use Rattle.model.specs.Run.{previous_finish}
use Rattle.model.specs.Run.{Setting, offset_of, own_tick, Run, no_node, node_of, Stand, window_end, sleeping, sending, listening, finishing, adding, working, taking, elsewhere, nowhere, stand_of}
use Rattle.model.specs.Run.{Outcome, forbidden, on, over, observes, moved, ticked, finished, sent, listeners, finishes, some_due, late_nodes, after_tick, choose1}

-- ## Nodes by number

numbered : (f : ℕ → Node) (i n k : ℕ) → k < n → get_or (map f (from i n)) k no_node ≡ f (i + k)
numbered f i zero k h = absurd (omega arith)
numbered f i (suc n) zero h = let e : i ≡ i + 0 = omega arith in ap f e
numbered f i (suc n) (suc k) h = let e : suc i + k ≡ i + suc k = omega arith in numbered f (suc i) n k (omega arith) ∙ ap f e

pub numbered_below : (f : ℕ → Node) (n k : ℕ) → k < n → get_or (map f (below n)) k no_node ≡ f k
numbered_below f n k h = let e : 0 + k ≡ k = omega arith in numbered f 0 n k h ∙ ap f e

pub as_many : (f : ℕ → Node) (i n : ℕ) → length (map f (from i n)) ≡ n
as_many f i zero = refl
as_many f i (suc n) = ap suc (as_many f (suc i) n)

module _ (g : Setting) (s : Run) where
  -- ## A tick

  pub tick_choice : (b : ℕ) → b ≡ 255 → choose1 g s b ≡ cond (some_due g s.tick 0 s.nodes) forbidden (after_tick g (ticked s) (late_nodes g (suc s.tick) 0 s.nodes))
  unfolding choose1
  tick_choice b e = rw e

  -- ## A sleep that ends

  -- the state after it
  abbrev pub awake : ℕ → Run
  awake b = moved s b (finished g s b) (observes b (own_tick g b s.tick) (node_of s b) ∷ []) (previous_finish g b s.works ∷ []) []

  pub sleep_ends : (b : ℕ) → (b ≡ 255 → ⊥) → b < length s.nodes → offset_of g b ≤ s.tick → stand_of (node_of s b) ≡ sleeping → own_tick g b s.tick ≡ (node_of s b).t
      → choose1 g s b ≡ on (awake b)
  unfolding choose1
  sleep_ends b n h w a e =
      rw (ne_eqb b 255 n, lt-ltb b (length s.nodes) h, le-leb (offset_of g b) s.tick w, a, eq-eqb (own_tick g b s.tick) (node_of s b).t e)

  -- ## Observations

  -- how many there are where the run goes on
  abbrev seen : Outcome → ℕ
  seen forbidden = 0
  seen (on t) = length t.observations
  seen (over t k c) = 0

  -- at most one more
  record Few (o : Outcome) : Type 0 where
    pub few : seen o ≤ suc (length s.observations)

  few_either : (t : Bool) (o p : Outcome) → Few o → Few p → Few (cond t o p)
  few_either true o p a b = a
  few_either false o p a b = b

  few_forbidden : Few forbidden
  few_forbidden = record { few = omega arith }

  few_none : (t : Run) → t.observations ≡ s.observations ++ [] → Few (on t)
  few_none t e = record { few = omega (arith, ap length e, length-append s.observations []) }

  few_one : (t : Run) (o : Observation) → t.observations ≡ s.observations ++ (o ∷ []) → Few (on t)
  few_one t o e = record { few = omega (arith, ap length e, length-append s.observations (o ∷ [])) }

  few_same : (t : Run) → t.observations ≡ s.observations → Few (on t)
  few_same t e = record { few = omega (arith, ap length e) }

  few_over : (t : Run) (k c : ℕ) → Few (over t k c)
  few_over t k c = record { few = omega arith }

  few_sent : (c k : ℕ) (is : List ℕ) → Few (sent g s c k is)
  few_sent c k [] = few_forbidden
  few_sent c k (i ∷ is) = few_same _ refl

  -- the state after a statement that writes no observation
  abbrev plain : ℕ → List Work → Run
  plain c ws = moved s c (finished g s c) [] [] ws

  few_finishes : (c : ℕ) (x : Stand) → Few (finishes g s c x)
  few_finishes c sleeping = few_either (eqb (own_tick g c s.tick) (node_of s c).t) (on (awake c)) forbidden (few_one (awake c) (observes c (own_tick g c s.tick) (node_of s c)) refl) few_forbidden
  few_finishes c (sending k) = few_sent c k (listeners g s c k)
  few_finishes c (listening qs) = few_either (eqb (own_tick g c s.tick) (window_end (node_of s c))) (on (plain c (one c s.tick ∷ []))) forbidden (few_none (plain c (one c s.tick ∷ [])) refl) few_forbidden
  few_finishes c finishing = few_none (plain c (one c s.tick ∷ [])) refl
  few_finishes c (adding v z) = few_either (in_range (value_at (node_of s c).values v +ℤ z)) (on (plain c [])) forbidden (few_none (plain c []) refl) few_forbidden
  few_finishes c working = few_none (plain c []) refl
  few_finishes c taking = few_either (is_none (node_of s c).kept) forbidden (on (plain c [])) few_forbidden (few_none (plain c []) refl)
  few_finishes c elsewhere = few_none (plain c []) refl
  few_finishes c nowhere = few_forbidden

  few_after : (cs : List ℕ) → Few (after_tick g (ticked s) cs)
  few_after [] = few_either (eqb (suc s.tick) g.horizon) (over (ticked s) 0 255) (on (ticked s)) (few_over (ticked s) 0 255) (few_same (ticked s) refl)
  few_after (c ∷ cs) = few_over (ticked s) 2 c

  few_chosen : (b : ℕ) → Few (choose1 g s b)
  unfolding choose1
  few_chosen b =
      let tick = after_tick g (ticked s) (late_nodes g (suc s.tick) 0 s.nodes) in
      let node = finishes g s b (stand_of (node_of s b)) in
      let due = some_due g s.tick 0 s.nodes in
      let there = ltb b (length s.nodes) && up g b s.tick in
      few_either (eqb b 255) (cond due forbidden tick) (cond there node forbidden)
      (few_either due forbidden tick few_forbidden (few_after (late_nodes g (suc s.tick) 0 s.nodes)))
      (few_either there node forbidden (few_finishes b (stand_of (node_of s b))) few_forbidden)

  -- a choice adds one observation at most
  pub one_seen : (b : ℕ) {t : Run} → choose1 g s b ≡ on t → length t.observations ≤ suc (length s.observations)
  one_seen b e = (subst Few e (few_chosen b)).few
