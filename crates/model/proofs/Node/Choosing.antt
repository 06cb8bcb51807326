-- A node in its location's block: after each statement it has kept what the statements so far keep, and its take goes to the sleep of the passage
-- that the schedule opens there, or is not allowed exactly if the schedule finds no edge. Assumes nothing.
use mathlib.Core.Path.{◌≡◌, refl, sym, ap, ap₂, subst, ◌∙◌}
use mathlib.Core.Bool.{true, ◌&&◌}
use mathlib.Core.List.{List, [], ◌∷◌, ◌++◌, append_assoc, append-nil}
use mathlib.Core.Option.{Option, none, some}
use Prim.Native.Nat.{ℕ, ◌+◌, ◌-◌, ◌<◌}
use lib.ListN.{length}
use Rattle.model.specs.Lists.{all}
use Rattle.model.specs.Table.{Component, location_of}
use Rattle.model.specs.Window.{Entry, Pick, choice}
use Rattle.model.specs.Program.{Statement, take_edge, trials, location_block, edge_block}
use Rattle.model.specs.Machine.{Trial, Node, exec, finish, to, takes, location_code, edge_code}
use Rattle.model.specs.Run.{stand_of, taking, elsewhere, sleeping}
use Rattle.model.proofs.Basics.Bools.{and_is}
use Rattle.model.proofs.Program.Trial.{Mind, mind, judge, judges, judges_append}
use Rattle.model.proofs.Program.BlockLaw.{tests, tests_append, trials_test, tests_elsewhere, trials_judge, Tested, tested}
use Rattle.model.proofs.Window.Choice.{choice_picked}

-- the part p of a program has the blocks of component C
pub record Coded (p : List ℕ) (C : Component) : Type 0 where
  pub locations : (l : ℕ) → l < length C.locations → location_code p l ≡ location_block C l
  pub edges : (e : ℕ) → e < length C.arcs → edge_code p e ≡ edge_block C e

-- the entry is to a location that is there, with a value for each clock
pub record Placed (C : Component) (at : Entry) : Type 0 where
  pub location : at.location < length C.locations
  pub clocks : length at.clocks ≡ C.clocks

-- the statements of a location's block but for the take
abbrev pub trials_at : Component → ℕ → List Statement
trials_at C here = trials (location_of C here) here 0 C.arcs

-- ## In the block

-- A node that entered at `at`, after i passages, and is choosing: the statements `past` of the block are finished, `left` and the take are not.
-- t + d is the entry's tick. What was tried and kept so far is what `past` makes of nothing kept.
pub record Choosing (C : Component) (i : ℕ) (at : Entry) (r : Node) : Type 0 where
  pub placed : Placed C at
  pub past : List Statement
  pub left : List Statement
  pub rest : r.rest ≡ left ++ (take_edge ∷ [])
  pub block : past ++ left ≡ trials_at C at.location
  pub location : r.location ≡ at.location
  pub clocks : r.clocks ≡ at.clocks
  pub values : r.values ≡ at.values
  pub base : r.t + r.d ≡ at.tick
  pub goes : r.goes ≡ none
  pub sleeps : r.sleeps ≡ i
  pub begun : Trial
  pub judged : mind r.tried r.kept ≡ judges at.clocks at.values (mind begun none) past

module _ {C : Component} {i : ℕ} {at : Entry} {r : Node} (g : Choosing C i at r) where
  -- the statements yet to finish, but for the take, are tests
  pub left_tests : all tests g.left ≡ true
  left_tests = ((and_is (all tests g.past) (all tests g.left)).0 (sym (tests_append g.past g.left) ∙ rw g.block (trials_test (location_of C at.location) at.location 0 C.arcs))).1

  -- before the take: nothing of that is sleep or work
  pub choosing_elsewhere : (s : Statement) (ss : List Statement) → g.left ≡ s ∷ ss → stand_of r ≡ elsewhere
  choosing_elsewhere s ss e =
      let ok : tests s && all tests ss ≡ true = (rw e at left_tests) in
      rw (g.rest, e) (tests_elsewhere s ((and_is (tests s) (all tests ss)).0 ok).0)

  -- at the take
  pub choosing_taking : g.left ≡ [] → stand_of r ≡ taking
  choosing_taking e = rw (g.rest, e)

  -- at its take it has kept what the schedule chooses
  pub at_take : g.left ≡ [] → r.kept ≡ choice C at
  unfolding choice
  at_take e =
      let b = trials_judge at.clocks at.values (location_of C at.location) at.location 0 C.arcs g.begun none in
      let whole : g.past ≡ trials_at C at.location = sym (append-nil g.past) ∙ (ap (λ (l : List Statement). g.past ++ l) (sym e) ∙ g.block) in
      ap (λ (m : Mind). m.kept) (g.judged ∙ (ap (judges at.clocks at.values (mind g.begun none)) whole ∙ b.1))

  -- one statement of the block before the take
  pub choosing_step : (p : List ℕ) (s : Statement) (ss : List Statement) → g.left ≡ s ∷ ss → Choosing C i at (finish p r r.rest)
  choosing_step p s ss e =
      subst (λ (l : List Statement). Choosing C i at (finish p r l)) (sym (g.rest ∙ ap (λ (l : List Statement). l ++ (take_edge ∷ [])) e))
      (record {
        placed = g.placed;
        past = g.past ++ (s ∷ []);
        left = ss;
        rest = t.rest;
        block = append_assoc g.past (s ∷ []) ss ∙ (ap (λ (l : List Statement). g.past ++ l) (sym e) ∙ g.block);
        location = t.stays.location ∙ g.location;
        clocks = t.stays.clocks ∙ g.clocks;
        values = t.stays.values ∙ g.values;
        base = ap₂ (λ (x y : ℕ). x + y) t.stays.t t.stays.d ∙ g.base;
        goes = t.stays.goes ∙ g.goes;
        sleeps = t.stays.sleeps ∙ g.sleeps;
        begun = g.begun;
        judged = t.judged ∙ (same ∙ sym (judges_append at.clocks at.values (mind g.begun none) g.past (s ∷ [])));
      })
    where
      ok : tests s ≡ true
      ok = let h : tests s && all tests ss ≡ true = (rw e at left_tests) in ((and_is (tests s) (all tests ss)).0 h).0

      t : Tested r (s ∷ []) (ss ++ (take_edge ∷ [])) (exec p (to r (ss ++ (take_edge ∷ []))) s)
      t = tested p r s (ss ++ (take_edge ∷ [])) ok

      same : judges r.clocks r.values (mind r.tried r.kept) (s ∷ []) ≡ judges at.clocks at.values (judges at.clocks at.values (mind g.begun none) g.past) (s ∷ [])
      same = rw (g.clocks, g.values) (ap (λ (m : Mind). judge at.clocks at.values m s) g.judged)

-- ## Asleep

-- A node that waits for the ready of the window k chosen at the entry: t is that tick, n the delay to it, d the window's length.
pub record Asleep (C : Component) (i : ℕ) (at : Entry) (k : Pick) (r : Node) : Type 0 where
  pub placed : Placed C at
  pub chosen : choice C at ≡ some k
  pub rest : r.rest ≡ edge_block C k.edge
  pub location : r.location ≡ at.location
  pub clocks : r.clocks ≡ at.clocks
  pub values : r.values ≡ at.values
  pub t : r.t ≡ at.tick + k.ready
  pub n : r.n ≡ k.ready
  pub d : r.d ≡ k.end - k.ready
  pub edge : r.edge ≡ k.edge
  pub goes : r.goes ≡ none
  pub kept : r.kept ≡ none
  pub sleeps : r.sleeps ≡ i

-- "Take moves t by the old d, then by the new ready delay n, sets d (window length) and goes to the edge block."
pub take_step : {p : List ℕ} {C : Component} {i : ℕ} {at : Entry} {r : Node} {k : Pick} → Coded p C → (g : Choosing C i at r) → g.left ≡ [] → choice C at ≡ some k
    → Asleep C i at k (finish p r r.rest)
unfolding exec
take_step {p} {C} {i} {at} {r} {k} coded g e c =
    subst (λ (l : List Statement). Asleep C i at k (finish p r l)) (sym (g.rest ∙ ap (λ (l : List Statement). l ++ (take_edge ∷ [])) e))
    (subst (λ (o : Option Pick). Asleep C i at k (takes (to r []) p o)) (sym (at_take g e ∙ c))
    (record {
      placed = g.placed;
      chosen = c;
      rest = coded.edges k.edge (choice_picked C at c).present;
      location = g.location;
      clocks = g.clocks;
      values = g.values;
      t = ap (λ (x : ℕ). x + k.ready) g.base;
      n = refl;
      d = refl;
      edge = refl;
      goes = g.goes;
      kept = refl;
      sleeps = g.sleeps;
    }))

-- at the sleep
pub asleep_sleeping : {C : Component} {i : ℕ} {at : Entry} {k : Pick} {r : Node} → Asleep C i at k r → stand_of r ≡ sleeping
unfolding edge_block
asleep_sleeping g = rw g.rest
