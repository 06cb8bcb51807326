-- A run of an accepted table writes no more observations than the schedule has passages. Assumes nothing.
use mathlib.Core.Path.{◌≡◌, refl, ap, ◌∙◌}
use mathlib.Core.Bool.{Bool, true, false, cond, ◌&&◌}
use mathlib.Core.List.{List, [], ◌∷◌, map}
use Prim.Native.Nat.{ℕ, zero, suc, ◌+◌, ◌≤◌, ◌<◌}
use native.Mathlib.Omega.{arith}
use borrow.Author.Tests.{ltb-true, ltb-false, lt-ltb, le-ltb, eqb-true, eqb-false}
use lib.Dec.{leb, ltb, eqb}
use lib.IntN.{◌+ℤ◌}
use lib.ListN.{length, set, length-append, length-set}
use Rattle.model.specs.Lists.{only, is_none, All, empty, more, accepted}
use Rattle.model.specs.Table.{Component, Read, size, component_of}
use Rattle.model.specs.Reader.{read_table}
use Rattle.model.specs.Window.{value_at, in_range}
use Rattle.model.specs.Schedule.{Passage, own}
use Rattle.model.specs.Checks.{accepted_schedule_at, accepted_schedule_of}
use Rattle.model.specs.Network.{PathPassage, Work, Observation, observation, taken_or, observations_on, passages_on, start}
use Rattle.model.specs.Machine.{Node}
use Rattle.model.specs.Run.{Setting, setting_at, setting_of, Run, Outcome, forbidden, on, over, Stand, sleeping, sending, listening, finishing, adding, working, taking, elsewhere, nowhere, stand_of, node_of, window_end, own_tick, awake, moved, ticked, sent, listeners, finishes, some_due, late_nodes, after_tick, choose1, continue, run_from, run}
use Rattle.model.specs.Demand3.{PassAs, Begins, observations_of}
use Rattle.model.specs.Apart.{Permitted, clock_on, Demand3Apart}
use Rattle.model.proofs.Basics.Bools.{and_is}
use Rattle.model.proofs.Basics.Words.{all_join}
use Rattle.model.proofs.Reader.Limits.{read_limits}
use Rattle.model.proofs.Run.Tied.{Given, given_apart}
use Rattle.model.proofs.Run.Start.{tied_start}
use Rattle.model.proofs.Run.Count.{only_few}
use Rattle.model.proofs.Run.Apart.{demand_apart}

-- ## Counting by a number that each has

module _ {A : Type 0} (f : A → ℕ) where
  -- those with a number below n, and those with number n
  abbrev pub under : ℕ → List A → List A
  under n xs = only (λ x. ltb (f x) n) xs

  abbrev with_number : ℕ → List A → List A
  with_number n xs = only (λ x. eqb (f x) n) xs

  pub one_on : (n : ℕ) (xs : List A) → length (under (suc n) xs) ≡ length (under n xs) + length (with_number n xs)
  one_on n [] = refl
  one_on n (x ∷ xs) = go (one_on n xs) (ltb (f x) n) (eqb (f x) n) refl refl
    where
      go : length (under (suc n) xs) ≡ length (under n xs) + length (with_number n xs) → (a b : Bool) → ltb (f x) n ≡ a → eqb (f x) n ≡ b
          → length (cond (ltb (f x) (suc n)) (x ∷ under (suc n) xs) (under (suc n) xs)) ≡ length (cond a (x ∷ under n xs) (under n xs)) + length (cond b (x ∷ with_number n xs) (with_number n xs))
      go h true true p q = absurd (omega (arith, ltb-true (f x) n p, eqb-true (f x) n q))
      go h true false p q = rw (lt-ltb (f x) (suc n) (omega (arith, ltb-true (f x) n p))) (omega arith)
      go h false true p q = rw (lt-ltb (f x) (suc n) (omega (arith, eqb-true (f x) n q))) (omega arith)
      go h false false p q = rw (le-ltb (f x) (suc n) (omega (arith, ltb-false (f x) n p, eqb-false (f x) n q))) (omega arith)

  -- none has a number below 0
  pub none_under : (xs : List A) → length (under 0 xs) ≡ 0
  none_under [] = refl
  none_under (x ∷ xs) = rw (le-ltb (f x) 0 (omega arith)) (none_under xs)

  -- all have a number below n
  all_under : {n : ℕ} {xs : List A} → All (λ x. f x < n) xs → length (under n xs) ≡ length xs
  all_under empty = refl
  all_under {n} (more {x = x} h a) = rw (lt-ltb (f x) n h) (ap suc (all_under a))

-- no more of each number, so no more of all
by_number : {A B : Type 0} (f : A → ℕ) (g : B → ℕ) {n : ℕ} {xs : List A} (ys : List B) → All (λ x. f x < n) xs
    → ((c : ℕ) → c < n → length (only (λ x. eqb (f x) c) xs) ≤ length (only (λ y. eqb (g y) c) ys)) → length xs ≤ length ys
by_number f g {n} {xs} ys a h = omega (arith, all_under f a, upto n (λ c k. h c k), only_few (λ y. ltb (g y) n) ys)
  where
    upto : (m : ℕ) → ((c : ℕ) → c < m → length (only (λ x. eqb (f x) c) xs) ≤ length (only (λ y. eqb (g y) c) ys)) → length (under f m xs) ≤ length (under g m ys)
    upto zero k = omega (arith, none_under f xs)
    upto (suc m) k = omega (arith, upto m (λ c l. k c (omega arith)), k m (omega arith), one_on f m xs, one_on g m ys)

-- ## The observations of a run are of its nodes

-- as many nodes, and each observation is of one of them
record Shown (n : ℕ) (s : Run) : Type 0 where
  pub full : length s.nodes ≡ n
  pub shown : All (λ o. o.component < n) s.observations

-- the same after a choice
data Leaves (n : ℕ) : Outcome → Type 0 where
  no : Leaves n forbidden
  yes : {s : Run} → Shown n s → Leaves n (on s)
  ended : {s : Run} {e c : ℕ} → Shown n s → Leaves n (over s e c)

leaves_if : (n : ℕ) (x : Bool) {a b : Outcome} → (x ≡ true → Leaves n a) → Leaves n b → Leaves n (cond x a b)
leaves_if n true h k = h refl
leaves_if n false h k = k

module _ (g : Setting) {n : ℕ} {s : Run} (k : Shown n s) where
  -- one node moved
  moves : (c : ℕ) (r : Node) (os : List Observation) (fs : List ℕ) (ws : List Work) → All (λ o. o.component < n) os → Shown n (moved s c r os fs ws)
  moves c r os fs ws h = record { full = length-set s.nodes c r ∙ k.full; shown = all_join k.shown h }

  sends : (c a : ℕ) (is : List ℕ) → Leaves n (sent g s c a is)
  sends c a [] = no
  sends c a (i ∷ is) = yes (record { full = length-set (set s.nodes c _) i _ ∙ (length-set s.nodes c _ ∙ k.full); shown = k.shown })

  -- a node finishes its statement
  node_leaves : (c : ℕ) → c < n → (w : Stand) → Leaves n (finishes g s c w)
  node_leaves c h sleeping = leaves_if n (eqb (own_tick g c s.tick) (node_of s c).t) (λ e. yes (moves c _ _ _ [] (more h empty))) no
  node_leaves c h (sending a) = sends c a (listeners g s c a)
  node_leaves c h (listening qs) = leaves_if n (eqb (own_tick g c s.tick) (window_end (node_of s c))) (λ e. yes (moves c _ [] [] _ empty)) no
  node_leaves c h finishing = yes (moves c _ [] [] _ empty)
  node_leaves c h (adding v z) = leaves_if n (in_range (value_at (node_of s c).values v +ℤ z)) (λ e. yes (moves c _ [] [] [] empty)) no
  node_leaves c h working = yes (moves c _ [] [] [] empty)
  node_leaves c h taking = leaves_if n (is_none (node_of s c).kept) (λ e. no) (yes (moves c _ [] [] [] empty))
  node_leaves c h elsewhere = yes (moves c _ [] [] [] empty)
  node_leaves c h nowhere = no

  same : Shown n (ticked s)
  same = record { full = k.full; shown = k.shown }

  -- a tick passes
  ticks : (cs : List ℕ) → Leaves n (after_tick g (ticked s) cs)
  ticks [] = leaves_if n (eqb (suc s.tick) g.horizon) (λ e. ended same) (yes same)
  ticks (c ∷ cs) = ended same

  -- one choice
  leaves : (b : ℕ) → Leaves n (choose1 g s b)
  unfolding choose1
  leaves b =
      leaves_if n (eqb b 255) (λ e. leaves_if n (some_due g s.tick 0 s.nodes) (λ f. no) (ticks (late_nodes g (suc s.tick) 0 s.nodes)))
      (leaves_if n (ltb b (length s.nodes) && awake g b s.tick) (λ e. node_leaves b (omega (arith, ltb-true b (length s.nodes) ((and_is (ltb b (length s.nodes)) (awake g b s.tick)).0 e).0, k.full)) (stand_of (node_of s b))) no)

-- the whole list
shows_on : (g : Setting) {n : ℕ} (cs : List ℕ) {s : Run} → Shown n s → Shown n (run_from g cs s).state
unfolding run_from
shows_on g [] k = k
shows_on g {n} (b ∷ bs) {s} k = go (choose1 g s b) (leaves g k b) (λ u l. shows_on g bs l)
  where
    go : (o : Outcome) → Leaves n o → ((u : Run) → Shown n u → Shown n (run_from g bs u).state) → Shown n (continue s o (λ u. run_from g bs u)).state
    go forbidden no ih = k
    go (on u) (yes l) ih = ih u l
    go (over u e c) (ended l) ih = l

-- ## The observations of one node

-- the first of a list are no more than it
begins_few : {A : Type 0} {xs ys : List A} → Begins xs ys → length xs ≤ length ys
begins_few {xs = xs} b = omega (arith, length-append xs b.rest, ap length b.is)

-- one passage is shown once at most
shown_few : (C : Component) (c last : ℕ) (ps : List PathPassage) (es : List ℕ) → length (observations_on C c last ps es) ≤ length ps
unfolding observations_on
shown_few C c last [] es = omega arith
shown_few C c last (p ∷ ps) [] = omega arith
shown_few C c last (p ∷ ps) (e ∷ es) = go (shown_few C c last ps es) (leb (observation C c p.entry (taken_or p.waiting e)).tick last)
  where
    go : length (observations_on C c last ps es) ≤ length ps → (x : Bool)
        → length (cond x (observation C c p.entry (taken_or p.waiting e) ∷ observations_on C c last ps es) (observations_on C c last ps es)) ≤ suc (length ps)
    go h true = omega arith
    go h false = omega arith

-- the passages on a path are no more than those of the schedule
pass_few : (ps : List PathPassage) (vs : List Passage) → PassAs ps vs → length ps ≤ length vs
pass_few [] vs h = omega arith
pass_few (p ∷ ps) [] h = absurd h
pass_few (p ∷ ps) (v ∷ vs) h = omega (arith, pass_few ps vs h.2)

-- ## All of them

module _ (t : Read) (H : ℕ) (S : List Passage) (offs cs : List ℕ) where
  node_few : Demand3Apart t H S offs cs → (c : ℕ) → c < size t.table → length (observations_of c (run (setting_at t H S offs) cs)) ≤ length (own c S)
  node_few d c h =
      let ps = passages_on t.table c (start t.table) d.path in
      omega (
        arith,
        begins_few (d.observed c h),
        shown_few (component_of t.table c) c (clock_on t H S offs cs c) ps (map (λ (v : Passage). v.edge) (own c S)),
        pass_few ps (own c S) (d.scheduled c h),
      )

-- a run never writes more observations than the schedule to its horizon has passages
pub few_at : {t : Read} {H : ℕ} {S : List Passage} {offs : List ℕ} → Given t H S offs → (cs : List ℕ) → length (run (setting_at t H S offs) cs).state.observations ≤ length S
unfolding run
few_at {t} {H} {S} {offs} G cs =
    by_number (λ (o : Observation). o.component) (λ (v : Passage). v.component) S
    (shows_on (setting_at t H S offs) cs (record { full = (tied_start G).full; shown = empty })).shown (node_few t H S offs cs (demand_apart G cs))

-- so a run of a table accepted at a spread, with offsets within it
pub few_apart : (spread : ℕ) (bytes : List ℕ) (t : Read) (S : List Passage) → read_table bytes ≡ accepted t → accepted_schedule_at spread t ≡ accepted S
    → (offs : List ℕ) → Permitted spread (size t.table) offs → (cs : List ℕ) → length (run (setting_at t t.horizon S offs) cs).state.observations ≤ length S
few_apart spread bytes t S r e offs p cs = few_at (given_apart spread t S offs (read_limits bytes t r) e p) cs

-- a run of an accepted table never writes more observations than the schedule has passages
pub few : (bytes : List ℕ) (t : Read) (S : List Passage) → read_table bytes ≡ accepted t → accepted_schedule_of t ≡ accepted S → (cs : List ℕ)
    → length (run (setting_of t S) cs).state.observations ≤ length S
few bytes t S r e cs = few_apart 0 bytes t S r e [] (λ c h. omega arith) cs

-- each observation of a run is of one of its nodes
pub of_nodes : {t : Read} {H : ℕ} {S : List Passage} {offs : List ℕ} → Given t H S offs → (cs : List ℕ)
    → All (λ o. o.component < size t.table) (run (setting_at t H S offs) cs).state.observations
unfolding run
of_nodes {t} {H} {S} {offs} G cs = (shows_on (setting_at t H S offs) cs (record { full = (tied_start G).full; shown = empty })).shown
