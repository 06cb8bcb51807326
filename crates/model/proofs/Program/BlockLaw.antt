-- The block law: the statements of a location's block, finished one after the other, keep exactly the edge and window that the schedule
-- chooses there; and what one statement of it does to a node. It needs no horizon. Assumes nothing.
use mathlib.Core.Path.{◌≡◌, refl, sym, ap, subst, ◌∙◌}
use mathlib.Core.Bool.{Bool, true, false, cond, ◌&&◌}
use mathlib.Core.List.{List, [], ◌∷◌, ◌++◌, append_assoc}
use mathlib.Core.Option.{Option, none, some}
use Prim.Native.Nat.{ℕ, zero, suc, ◌≤◌}
use lib.Dec.{eqb}
use lib.IntN.{ℤ}
use lib.ListN.{length, take, drop, take-append-drop}
use lib.Seq.{length-take-le}
use Rattle.model.specs.declared.Location.{Location}
use Rattle.model.specs.declared.ClockGuard.{ClockGuard}
use Rattle.model.specs.declared.DataGuard.{DataGuard}
use Rattle.model.specs.Lists.{all}
use Rattle.model.specs.Table.{Arc, Component, location_of}
use Rattle.model.specs.Window.{Entry, Pick, candidate, window_of, better, chosen, choice}
use Rattle.model.specs.Program.{Statement, sleep, set_to, add_to, done, send, listen, age, reset, enter, trial, low, high, data_low, data_high, keep, budget, take_edge, choose, clock_tests, data_tests, budget_test, trial_of, trials, location_block}
use Rattle.model.specs.Machine.{Trial, Node, exec, finish, to}
use Rattle.model.specs.Run.{stand, elsewhere}
use Rattle.model.proofs.Basics.Bools.{clash, and_is}
use Rattle.model.proofs.Program.Trial.{Mind, mind, judges, judges_append, trial_judge}

-- ## What is kept

-- the trials of the edges from number e on, with the best so far: what is kept is what the schedule chooses of them
pub trials_judge : (xs : List ℕ) (vs : List ℤ) (l : Location) (here e : ℕ) (as' : List Arc) (x : Trial) (k : Option Pick)
    → (y : Trial) × (judges xs vs (mind x k) (trials l here e as') ≡ mind y (chosen l here xs vs e as' k))
unfolding trials chosen
trials_judge xs vs l here e [] x k = (x, refl)
trials_judge xs vs l here e (a ∷ as') x k = go (λ y q. trials_judge xs vs l here (suc e) as' y q) (eqb a.edge.source here)
  where
    go : ((y : Trial) (q : Option Pick) → (z : Trial) × (judges xs vs (mind y q) (trials l here (suc e) as') ≡ mind z (chosen l here xs vs (suc e) as' q)))
        → (t : Bool)
        → (z : Trial) × (judges xs vs (mind x k) (cond t (trial_of l e a ++ trials l here (suc e) as') (trials l here (suc e) as'))
        ≡ mind z (chosen l here xs vs (suc e) as' (cond (t && candidate l a xs vs) (better k (window_of l e a xs)) k)))
    go ih true =
        let t = trial_judge xs vs l e a x k in
        let r = ih t.0 (cond (candidate l a xs vs) (better k (window_of l e a xs)) k) in
        (r.0, judges_append xs vs (mind x k) (trial_of l e a) (trials l here (suc e) as') ∙ (ap (λ (m : Mind). judges xs vs m (trials l here (suc e) as')) t.1 ∙ r.1))
    go ih false = ih x k

-- ## Which statements a block has

-- the statements of a location's block before its take
abbrev pub tests : Statement → Bool
tests sleep = false
tests (set_to v k) = false
tests (add_to v k) = false
tests done = false
tests (send k) = false
tests (listen qs) = false
tests (age i) = false
tests (reset i) = false
tests (enter l) = false
tests trial = true
tests (low i k) = true
tests (high i k) = true
tests (data_low v k) = true
tests (data_high v k) = true
tests (keep e) = true
tests (budget k) = true
tests take_edge = false
tests choose = false

-- two lists of tests, one after the other
pub tests_append : (ss ts : List Statement) → all tests (ss ++ ts) ≡ all tests ss && all tests ts
tests_append [] ts = refl
tests_append (s ∷ ss) ts = go (tests s) (tests_append ss ts)
  where
    go : (b : Bool) → all tests (ss ++ ts) ≡ all tests ss && all tests ts → b && all tests (ss ++ ts) ≡ b && all tests ss && all tests ts
    go true e = e
    go false e = refl

clocks_test : (gs : List ClockGuard) → all tests (clock_tests gs) ≡ true
clocks_test [] = refl
clocks_test (g ∷ gs) = go (clocks_test gs) (eqb g.high 65535)
  where
    go : all tests (clock_tests gs) ≡ true → (t : Bool) → all tests (cond t (clock_tests gs) (high g.clock g.high ∷ clock_tests gs)) ≡ true
    go e true = e
    go e false = e

data_test : (gs : List DataGuard) → all tests (data_tests gs) ≡ true
data_test [] = refl
data_test (g ∷ gs) = data_test gs

trial_test : (l : Location) (e : ℕ) (a : Arc) → all tests (trial_of l e a) ≡ true
trial_test l e a = tests_append (clock_tests a.clock_guards) (data_tests a.data_guards ++ (budget_test a.budget ++ (keep e ∷ [])))
    ∙ rw (clocks_test a.clock_guards) (tests_append (data_tests a.data_guards) (budget_test a.budget ++ (keep e ∷ [])) ∙ rw (data_test a.data_guards) (last a.budget))
  where
    last : (o : Option ℕ) → all tests (budget_test o ++ (keep e ∷ [])) ≡ true
    last none = refl
    last (some b) = refl

-- all of them are tests
pub trials_test : (l : Location) (here e : ℕ) (as' : List Arc) → all tests (trials l here e as') ≡ true
unfolding trials
trials_test l here e [] = refl
trials_test l here e (a ∷ as') = go (trials_test l here (suc e) as') (eqb a.edge.source here)
  where
    go : all tests (trials l here (suc e) as') ≡ true → (t : Bool) → all tests (cond t (trial_of l e a ++ trials l here (suc e) as') (trials l here (suc e) as')) ≡ true
    go ih true = tests_append (trial_of l e a) (trials l here (suc e) as') ∙ rw (trial_test l e a) ih
    go ih false = ih

-- a node at a test stands elsewhere than at sleep, work or take
pub tests_elsewhere : (s : Statement) → tests s ≡ true → stand s ≡ elsewhere
tests_elsewhere sleep e = clash e
tests_elsewhere (set_to v k) e = clash e
tests_elsewhere (add_to v k) e = clash e
tests_elsewhere done e = clash e
tests_elsewhere (send k) e = clash e
tests_elsewhere (listen qs) e = clash e
tests_elsewhere (age i) e = clash e
tests_elsewhere (reset i) e = clash e
tests_elsewhere (enter l) e = clash e
tests_elsewhere trial e = refl
tests_elsewhere (low i k) e = refl
tests_elsewhere (high i k) e = refl
tests_elsewhere (data_low v k) e = refl
tests_elsewhere (data_high v k) e = refl
tests_elsewhere (keep k) e = refl
tests_elsewhere (budget k) e = refl
tests_elsewhere take_edge e = clash e
tests_elsewhere choose e = clash e

-- ## One statement of the block, at a node

-- q has the registers of r, but for trial, what is kept, and the statements yet to finish
pub record Stays (r q : Node) : Type 0 where
  pub location : q.location ≡ r.location
  pub clocks : q.clocks ≡ r.clocks
  pub values : q.values ≡ r.values
  pub t : q.t ≡ r.t
  pub n : q.n ≡ r.n
  pub d : q.d ≡ r.d
  pub edge : q.edge ≡ r.edge
  pub goes : q.goes ≡ r.goes
  pub sleeps : q.sleeps ≡ r.sleeps

stays_same : {r q s : Node} → Stays r q → Stays q s → Stays r s
stays_same a b =
    record {
      location = b.location ∙ a.location;
      clocks = b.clocks ∙ a.clocks;
      values = b.values ∙ a.values;
      t = b.t ∙ a.t;
      n = b.n ∙ a.n;
      d = b.d ∙ a.d;
      edge = b.edge ∙ a.edge;
      goes = b.goes ∙ a.goes;
      sleeps = b.sleeps ∙ a.sleeps;
    }

-- q is r after tests ss, where `left` are yet to finish
pub record Tested (r : Node) (ss left : List Statement) (q : Node) : Type 0 where
  pub rest : q.rest ≡ left
  pub stays : Stays r q
  pub judged : mind q.tried q.kept ≡ judges r.clocks r.values (mind r.tried r.kept) ss

stay : (r : Node) (ss : List Statement) (x : Trial) (k : Option Pick)
    → Stays r (record { rest = ss; location = r.location; clocks = r.clocks; values = r.values; t = r.t; n = r.n; d = r.d; edge = r.edge; goes = r.goes; tried = x; kept = k; sleeps = r.sleeps })
stay r ss x k = record { location = refl; clocks = refl; values = refl; t = refl; n = refl; d = refl; edge = refl; goes = refl; sleeps = refl }

-- one test
pub tested : (p : List ℕ) (r : Node) (s : Statement) (ss : List Statement) → tests s ≡ true → Tested r (s ∷ []) ss (exec p (to r ss) s)
unfolding exec
tested p r sleep ss e = clash e
tested p r (set_to v k) ss e = clash e
tested p r (add_to v k) ss e = clash e
tested p r done ss e = clash e
tested p r (send k) ss e = clash e
tested p r (listen qs) ss e = clash e
tested p r (age i) ss e = clash e
tested p r (reset i) ss e = clash e
tested p r (enter l) ss e = clash e
tested p r trial ss e = record { rest = refl; stays = stay r ss _ _; judged = refl }
tested p r (low i k) ss e = record { rest = refl; stays = stay r ss _ _; judged = refl }
tested p r (high i k) ss e = record { rest = refl; stays = stay r ss _ _; judged = refl }
tested p r (data_low v k) ss e = record { rest = refl; stays = stay r ss _ _; judged = refl }
tested p r (data_high v k) ss e = record { rest = refl; stays = stay r ss _ _; judged = refl }
tested p r (keep k) ss e = record { rest = refl; stays = stay r ss _ _; judged = refl }
tested p r (budget k) ss e = record { rest = refl; stays = stay r ss _ _; judged = refl }
tested p r take_edge ss e = clash e
tested p r choose ss e = clash e

-- ## The whole block

-- a node after so many statements
abbrev pub after : List ℕ → ℕ → Node → Node
after p zero r = r
after p (suc m) r = after p m (finish p r r.rest)

-- any tests, finished one after the other
pub tested_all : (p : List ℕ) (ss left : List Statement) (r : Node) → all tests ss ≡ true → r.rest ≡ ss ++ left → Tested r ss left (after p (length ss) r)
tested_all p [] left r ok e = record { rest = e; stays = stay r r.rest r.tried r.kept; judged = refl }
tested_all p (s ∷ ss) left r ok e =
    let h = (and_is (tests s) (all tests ss)).0 ok in
    let a : Tested r (s ∷ []) (ss ++ left) (finish p r r.rest) =
    subst (λ (l : List Statement). Tested r (s ∷ []) (ss ++ left) (finish p r l)) (sym e) (tested p r s (ss ++ left) h.0) in
    let b = tested_all p ss left (finish p r r.rest) h.1 a.rest in
    record {
      rest = b.rest;
      stays = stays_same a.stays b.stays;
      judged = b.judged ∙ (rw (a.stays.clocks, a.stays.values) (ap (λ (m : Mind). judges r.clocks r.values m ss) a.judged));
    }

-- m of several tests: what was tried and kept so far
pub tested_some : (p : List ℕ) (ss left : List Statement) (r : Node) → all tests ss ≡ true → r.rest ≡ ss ++ left → (m : ℕ) → m ≤ length ss
    → Tested r (take m ss) (drop m ss ++ left) (after p m r)
tested_some p ss left r ok e m h =
    subst (λ (n : ℕ). Tested r (take m ss) (drop m ss ++ left) (after p n r)) (length-take-le m ss h)
    (tested_all p (take m ss) (drop m ss ++ left) r firsts (e ∙ (ap (λ (l : List Statement). l ++ left) (sym parts) ∙ append_assoc (take m ss) (drop m ss) left)))
  where
    parts : take m ss ++ drop m ss ≡ ss
    parts = take-append-drop m ss

    firsts : all tests (take m ss) ≡ true
    firsts = ((and_is (all tests (take m ss)) (all tests (drop m ss))).0 (sym (tests_append (take m ss) (drop m ss)) ∙ (ap (all tests) parts ∙ ok))).0

-- The block law: a node that begins its location's block with nothing kept stands at the take after the block's other statements, with its
-- registers as they were, and has kept what the schedule chooses at that entry.
pub block_law : (p : List ℕ) (C : Component) (at : Entry) (r : Node) → r.rest ≡ location_block C at.location → r.clocks ≡ at.clocks
    → r.values ≡ at.values → r.kept ≡ none
    → let q = after p (length (trials (location_of C at.location) at.location 0 C.arcs)) r in
    (q.rest ≡ take_edge ∷ []) × Stays r q × (q.kept ≡ choice C at)
unfolding location_block choice
block_law p C at r rest clocks values kept =
    let l = location_of C at.location in
    let ss = trials l at.location 0 C.arcs in
    let a = tested_all p ss (take_edge ∷ []) r (trials_test l at.location 0 C.arcs) rest in
    let b = trials_judge at.clocks at.values l at.location 0 C.arcs r.tried none in
    let same : judges r.clocks r.values (mind r.tried r.kept) ss ≡ mind b.0 (choice C at) = rw (clocks, values, kept) b.1 in
    (a.rest, a.stays, ap (λ (m : Mind). m.kept) (a.judged ∙ same))
