-- A run looks at the ready of a passage only to see whether it is overdue at a tick up to the horizon: settings that agree so far run alike. Assumes
-- nothing.
use mathlib.Core.Path.{◌≡◌, refl, sym, ap, ap₂, subst, ◌∙◌}
use mathlib.Core.Bool.{Bool, true, false, cond, ◌&&◌}
use mathlib.Core.List.{List, [], ◌∷◌}
use mathlib.Core.Option.{Option, none, some}
use Prim.Native.Nat.{ℕ, zero, suc, ◌+◌, ◌-◌, ◌≤◌, ◌<◌}
use native.Mathlib.Omega.{arith}
use borrow.Author.Tests.{eqb-true, eqb-false, eq-eqb}
use lib.Dec.{ltb, leb, eqb}
use lib.IntN.{◌+ℤ◌}
use lib.ListN.{length}
use Rattle.model.specs.Lists.{is_none}
use Rattle.model.specs.Window.{value_at, in_range}
use Rattle.model.specs.Machine.{Node}
use Rattle.model.specs.Run.{Setting, Run, Result, Outcome, forbidden, on, over, Stand, sleeping, sending, listening, finishing, adding, working, taking, elsewhere, nowhere, stand_of, node_of, window_end, own_tick, awake, ticked, sent, listeners, finishes, due, some_due, overdue, late, late_nodes, after_tick, choose1, continue, ends, run_from, start_run, start_nodes, run}

-- the same with other readies
abbrev pub with_ready : Setting → (ℕ → ℕ → Option ℕ) → Setting
with_ready g f = record { program = g.program; horizon = g.horizon; counts = g.counts; ready = f; offsets = g.offsets }

module _ (g : Setting) (f : ℕ → ℕ → Option ℕ) (agree : (c k now : ℕ) → now ≤ g.horizon → overdue g (f c k) now ≡ overdue g (g.ready c k) now) where
  -- nothing is due otherwise
  due_same : (now c : ℕ) (rs : List Node) → some_due (with_ready g f) now c rs ≡ some_due g now c rs
  unfolding some_due
  due_same now c [] = refl
  due_same now c (r ∷ rs) = ap (λ (b : Bool). cond (awake g c now && due g (own_tick g c now) r (stand_of r)) true b) (due_same now (suc c) rs)

  -- nor late
  late_same : (now c : ℕ) (r : Node) (s : Stand) → now ≤ g.horizon → late (with_ready g f) now c r s ≡ late g now c r s
  late_same now c r sleeping h = refl
  late_same now c r (sending k) h = refl
  late_same now c r (listening qs) h = refl
  late_same now c r finishing h = refl
  late_same now c r (adding v z) h = refl
  late_same now c r working h = refl
  late_same now c r taking h = agree c r.sleeps now h
  late_same now c r elsewhere h = agree c r.sleeps now h
  late_same now c r nowhere h = agree c r.sleeps now h

  lates_same : (now c : ℕ) (rs : List Node) → now ≤ g.horizon → late_nodes (with_ready g f) now c rs ≡ late_nodes g now c rs
  unfolding late_nodes
  lates_same now c [] h = refl
  lates_same now c (r ∷ rs) h =
      ap₂ (λ (b : Bool) (l : List ℕ). cond b (c ∷ l) l) (late_same (own_tick g c now) c r (stand_of r) (omega arith)) (lates_same now (suc c) rs h)

  -- one choice
  choice_same : (s : Run) (b : ℕ) → s.tick < g.horizon → choose1 (with_ready g f) s b ≡ choose1 g s b
  unfolding choose1
  choice_same s b h =
      ap₂ (λ (x : Bool) (l : List ℕ). cond (eqb b 255) (cond x forbidden (after_tick g (ticked s) l)) (cond (ltb b (length s.nodes) && awake g b s.tick) (finishes g s b (stand_of (node_of s b))) forbidden))
      (due_same s.tick 0 s.nodes) (lates_same (suc s.tick) 0 s.nodes (omega arith))

-- ## A run that goes on has not reached the horizon

-- the outcome goes on before the horizon only
abbrev pub Before : Setting → Outcome → Type 0
Before g forbidden = Unit
Before g (on t) = t.tick < g.horizon
Before g (over t e n) = Unit

before_if : (g : Setting) (b : Bool) (x y : Outcome) → (b ≡ true → Before g x) → (b ≡ false → Before g y) → Before g (cond b x y)
before_if g true x y p q = p refl
before_if g false x y p q = q refl

module _ (g : Setting) (s : Run) (h : s.tick < g.horizon) where
  sent_before : (c k : ℕ) (is : List ℕ) → Before g (sent g s c k is)
  sent_before c k [] = tt
  sent_before c k (i ∷ is) = h

  node_before : (c : ℕ) (w : Stand) → Before g (finishes g s c w)
  node_before c sleeping = before_if g (eqb (own_tick g c s.tick) (node_of s c).t) _ forbidden (λ e. h) (λ e. tt)
  node_before c (sending k) = sent_before c k (listeners g s c k)
  node_before c (listening qs) = before_if g (eqb (own_tick g c s.tick) (window_end (node_of s c))) _ forbidden (λ e. h) (λ e. tt)
  node_before c finishing = h
  node_before c (adding v z) = before_if g (in_range (value_at (node_of s c).values v +ℤ z)) _ forbidden (λ e. h) (λ e. tt)
  node_before c working = h
  node_before c taking = before_if g (is_none (node_of s c).kept) forbidden _ (λ e. tt) (λ e. h)
  node_before c elsewhere = h
  node_before c nowhere = tt

  tick-before : (l : List ℕ) → Before g (after_tick g (ticked s) l)
  tick-before [] = before_if g (eqb (suc s.tick) g.horizon) (over (ticked s) 0 255) (on (ticked s)) (λ e. tt) (λ e. let n = eqb-false (suc s.tick) g.horizon e in omega arith)
  tick-before (c ∷ l) = tt

  pub choice_before : (b : ℕ) → Before g (choose1 g s b)
  unfolding choose1
  choice_before b =
      before_if g (eqb b 255) _ _
      (λ e. before_if g (some_due g s.tick 0 s.nodes) forbidden _ (λ x. tt) (λ x. tick-before (late_nodes g (suc s.tick) 0 s.nodes)))
      (λ e. before_if g (ltb b (length s.nodes) && awake g b s.tick) _ forbidden (λ x. node_before b (stand_of (node_of s b))) (λ x. tt))

-- ## The whole list

module _ (g : Setting) (f : ℕ → ℕ → Option ℕ) (agree : (c k now : ℕ) → now ≤ g.horizon → overdue g (f c k) now ≡ overdue g (g.ready c k) now) where
  from_same : (cs : List ℕ) (s : Run) → s.tick < g.horizon → run_from (with_ready g f) cs s ≡ run_from g cs s
  unfolding run_from
  from_same [] s h = refl
  from_same (b ∷ cs) s h =
      ap (λ (o : Outcome). continue s o (λ t. run_from (with_ready g f) cs t)) (choice_same g f agree s b h)
      ∙ go (choose1 g s b) (choice_before g s h b) (λ t k. from_same cs t k)
    where
      go : (o : Outcome) → Before g o → ((t : Run) → t.tick < g.horizon → run_from (with_ready g f) cs t ≡ run_from g cs t)
          → continue s o (λ t. run_from (with_ready g f) cs t) ≡ continue s o (λ t. run_from g cs t)
      go forbidden k ih = refl
      go (on t) k ih = ih t k
      go (over t e n) k ih = refl

  -- so the runs are the same
  pub run_same : 0 < g.horizon → (cs : List ℕ) → run (with_ready g f) cs ≡ run g cs
  unfolding run
  run_same h cs = from_same cs (start_run g) h
