-- How much a node has yet to do: a number that falls with each of its statements. Assumes nothing.
use mathlib.Core.Path.{◌≡◌, refl, sym, ap, ◌∙◌}
use mathlib.Core.Bool.{Bool, true, false}
use mathlib.Core.List.{List, [], ◌∷◌, ◌++◌}
use Prim.Native.Nat.{ℕ, suc, ◌+◌, ◌-◌, ◌*◌, ◌≤◌, ◌<◌}
use native.Mathlib.Omega.{arith}
use Rattle.model.specs.Lists.{All, empty, more}
use Rattle.model.specs.Program.{Statement, sleep, set_to, add_to, done, send, listen, age, reset, enter, trial, low, high, data_low, data_high, keep, budget, take_edge, choose}
use Rattle.model.specs.Machine.{Node, exec, finish, to}
use Rattle.model.specs.Run.{Stand, sleeping, sending, listening, finishing, adding, working, taking, elsewhere, nowhere, stand, stand_at, stand_of}
use Rattle.model.proofs.Basics.Bools.{clash}
use Rattle.model.proofs.Program.BlockLaw.{tests}
use Rattle.model.proofs.Program.Size.{all_quads}
use Rattle.model.proofs.Node.Facts.{sleeps_after, exec_sleeps}

-- ## The number

-- a statement counts for one; the choose for more than any location's block
abbrev pub cost : Statement → ℕ
cost sleep = 1
cost (set_to v k) = 1
cost (add_to v k) = 1
cost done = 1
cost (send k) = 1
cost (listen qs) = 1
cost (age i) = 1
cost (reset i) = 1
cost (enter l) = 1
cost trial = 1
cost (low i k) = 1
cost (high i k) = 1
cost (data_low v k) = 1
cost (data_high v k) = 1
cost (keep e) = 1
cost (budget k) = 1
cost take_edge = 1
cost choose = 643

-- all statements of a list
abbrev pub weight : List Statement → ℕ
weight [] = 0
weight (x ∷ xs) = cost x + weight xs

-- one at a sleep
abbrev pub at_sleep : Stand → ℕ
at_sleep sleeping = 1
at_sleep (sending k) = 0
at_sleep (listening qs) = 0
at_sleep finishing = 0
at_sleep (adding v z) = 0
at_sleep working = 0
at_sleep taking = 0
at_sleep elsewhere = 0
at_sleep nowhere = 0

-- the takes that a node has finished
abbrev pub taken : Node → ℕ
taken r = r.sleeps + at_sleep (stand_of r)

-- What a node of so many passages has yet to do: each take yet to finish counts for more than any edge's block.
abbrev pub toil : ℕ → Node → ℕ
toil most r = (suc most - taken r) * 658 + weight r.rest

-- ## One statement

-- neither a take nor a choose
abbrev pub plain : Statement → Bool
plain sleep = true
plain (set_to v k) = true
plain (add_to v k) = true
plain done = true
plain (send k) = true
plain (listen qs) = true
plain (age i) = true
plain (reset i) = true
plain (enter l) = true
plain trial = true
plain (low i k) = true
plain (high i k) = true
plain (data_low v k) = true
plain (data_high v k) = true
plain (keep e) = true
plain (budget k) = true
plain take_edge = false
plain choose = false

-- a test is plain
pub tests_plain : (x : Statement) → tests x ≡ true → plain x ≡ true
tests_plain sleep e = clash e
tests_plain (set_to v k) e = clash e
tests_plain (add_to v k) e = clash e
tests_plain done e = clash e
tests_plain (send k) e = clash e
tests_plain (listen qs) e = clash e
tests_plain (age i) e = clash e
tests_plain (reset i) e = clash e
tests_plain (enter l) e = clash e
tests_plain trial e = refl
tests_plain (low i k) e = refl
tests_plain (high i k) e = refl
tests_plain (data_low v k) e = refl
tests_plain (data_high v k) e = refl
tests_plain (keep e) f = refl
tests_plain (budget k) f = refl
tests_plain take_edge e = clash e
tests_plain choose e = clash e

-- it costs one
plain_cost : (x : Statement) → plain x ≡ true → cost x ≡ 1
plain_cost sleep e = refl
plain_cost (set_to v k) e = refl
plain_cost (add_to v k) e = refl
plain_cost done e = refl
plain_cost (send k) e = refl
plain_cost (listen qs) e = refl
plain_cost (age i) e = refl
plain_cost (reset i) e = refl
plain_cost (enter l) e = refl
plain_cost trial e = refl
plain_cost (low i k) e = refl
plain_cost (high i k) e = refl
plain_cost (data_low v k) e = refl
plain_cost (data_high v k) e = refl
plain_cost (keep e) f = refl
plain_cost (budget k) f = refl
plain_cost take_edge e = clash e
plain_cost choose e = clash e

-- after it the node stands at the next
plain_rest : (p : List ℕ) (r : Node) (x : Statement) → plain x ≡ true → (exec p r x).rest ≡ r.rest
unfolding exec
plain_rest p r sleep e = refl
plain_rest p r (set_to v k) e = refl
plain_rest p r (add_to v k) e = refl
plain_rest p r done e = refl
plain_rest p r (send k) e = refl
plain_rest p r (listen qs) e = refl
plain_rest p r (age i) e = refl
plain_rest p r (reset i) e = refl
plain_rest p r (enter l) e = refl
plain_rest p r trial e = refl
plain_rest p r (low i k) e = refl
plain_rest p r (high i k) e = refl
plain_rest p r (data_low v k) e = refl
plain_rest p r (data_high v k) e = refl
plain_rest p r (keep e) f = refl
plain_rest p r (budget k) f = refl
plain_rest p r take_edge e = clash e
plain_rest p r choose e = clash e

-- the sleeps finished after a statement are those before, and the one that it stands at
sleeps-after : (x : Statement) (n : ℕ) → sleeps_after x n ≡ n + at_sleep (stand x)
sleeps-after sleep n = omega arith
sleeps-after (set_to v k) n = omega arith
sleeps-after (add_to v k) n = omega arith
sleeps-after done n = omega arith
sleeps-after (send k) n = omega arith
sleeps-after (listen qs) n = omega arith
sleeps-after (age i) n = omega arith
sleeps-after (reset i) n = omega arith
sleeps-after (enter l) n = omega arith
sleeps-after trial n = omega arith
sleeps-after (low i k) n = omega arith
sleeps-after (high i k) n = omega arith
sleeps-after (data_low v k) n = omega arith
sleeps-after (data_high v k) n = omega arith
sleeps-after (keep e) n = omega arith
sleeps-after (budget k) n = omega arith
sleeps-after take_edge n = omega arith
sleeps-after choose n = omega arith

-- ## Many statements

-- plain statements weigh no more than the times four bytes that they have
pub weight_plain : {xs : List Statement} → All (λ x. plain x ≡ true) xs → (ys : List Statement) → weight (xs ++ ys) + all_quads ys ≤ all_quads (xs ++ ys) + weight ys
weight_plain empty ys = omega arith
weight_plain (more {x = x} h a) ys = omega (arith, plain_cost x h, weight_plain a ys)

-- ## What falls

module _ (p : List ℕ) (most : ℕ) (r : Node) where
  -- the node after its statement
  abbrev next : Node
  next = finish p r r.rest

  module _ (x : Statement) (xs : List Statement) (e : r.rest ≡ x ∷ xs) where
    -- that is the statement carried out
    next_is : next ≡ exec p (to r xs) x
    next_is = ap (finish p r) e

    -- the takes finished before are the sleeps finished after
    taken_before : taken r ≡ next.sleeps
    taken_before =
        ap (λ (l : List Statement). r.sleeps + at_sleep (stand_at l)) e
        ∙ (sym (sleeps-after x r.sleeps) ∙ (sym (exec_sleeps p (to r xs) x) ∙ ap (λ (q : Node). q.sleeps) (sym next_is)))

    -- a statement that is neither take nor choose
    pub plain_falls : plain x ≡ true → toil most next < toil most r
    plain_falls h =
        omega (
          arith,
          taken_before,
          ap weight e,
          plain_cost x h,
          ap (λ (q : Node). weight q.rest) next_is,
          ap weight (plain_rest p (to r xs) x h),
        )

    -- a statement that leads to less
    pub less_falls : weight next.rest < cost x → toil most next < toil most r
    less_falls h = omega (arith, taken_before, ap weight e)

    -- a statement that leads to a sleep
    pub sleep_falls : r.sleeps ≤ most → at_sleep (stand x) ≡ 0 → stand_of next ≡ sleeping → weight next.rest ≤ 658 → 1 ≤ cost x → toil most next < toil most r
    sleep_falls l z s w c =
        omega (
          arith,
          taken_before,
          ap weight e,
          ap (λ (l : List Statement). r.sleeps + at_sleep (stand_at l)) e,
          ap at_sleep s,
        )
