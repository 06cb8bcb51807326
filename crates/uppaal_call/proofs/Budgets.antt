-- Budgets leave no trace in the parts, and tables before version 3 have none. Assumes nothing.
use mathlib.Core.Path.{◌≡◌, refl, ap, ap₂, subst, ◌∙◌}
use mathlib.Core.Bool.{Bool, true, false, ◌&&◌}
use mathlib.Core.List.{List, [], ◌∷◌, ◌++◌, map}
use mathlib.Core.Option.{Option, none, some}
use Prim.Native.Nat.{ℕ, suc, ◌<◌}
use borrow.Author.Tests.{lt-leb}
use lib.Dec.{leb}
use lib.ListN.{length}
use Rattle.model.specs.declared.Action.{Action}
use Rattle.model.specs.declared.Action.TheVariants.{Internal, Send, Receive}
use Rattle.model.specs.declared.Sizes.{Sizes}
use Rattle.model.specs.Lists.{all, All, empty, more, below}
use Rattle.model.specs.Table.{Arc, Component, Table, Read, header_of, sizes_of}
use Rattle.model.specs.Window.{leads_to}
use Rattle.model.specs.Limits.{BudgetIn, ArcIn, ComponentIn, InLimits}
use Rattle.uppaal.specs.Xta.{Atom, Location, Transition, Process, location, waiting}
use Rattle.uppaal.specs.Export.{uppers, ends, others, outcomes, entries, assignments_of, step_in_with, step_out_with, transitions_with, transitions_from, plain_location, waiting_from, process_for, system_for}
use Rattle.uppaal.specs.UppaalCall.{no_work, budgetless, all_budgetless}

-- ## The table without its budgets

abbrev pub arc_without : Arc → Arc
arc_without a =
    record {
      edge = a.edge;
      budget = none;
      clock_guards = a.clock_guards;
      data_guards = a.data_guards;
      updates = a.updates;
      pairs = a.pairs;
    }

abbrev pub component_without : Component → Component
component_without C =
    record {
      initial = C.initial;
      clocks = C.clocks;
      variables = C.variables;
      locations = C.locations;
      arcs = map arc_without C.arcs;
    }

abbrev pub table_without : Table → Table
table_without T = record { channels = T.channels; bands = T.bands; components = map component_without T.components }

-- ## It has the same parts

outcomes_same : (a : Arc) (x : Action) → outcomes (arc_without a) x ≡ outcomes a x
outcomes_same a Internal = refl
outcomes_same a (Send k) = refl
outcomes_same a Receive = refl

leads_same : (a : Arc) (m : Option ℕ) → leads_to (arc_without a) m ≡ leads_to a m
leads_same a none = refl
leads_same a (some k) = refl

step_in_same : (e : ℕ) (a : Arc) (m : Option ℕ) (g : List Atom) → step_in_with e (arc_without a) m g ≡ step_in_with e a m g
unfolding step_in_with others
step_in_same e a m g = refl

step_out_same : (clocks e : ℕ) (a : Arc) (m : Option ℕ) (g : List Atom) → step_out_with clocks e (arc_without a) m g ≡ step_out_with clocks e a m g
unfolding step_out_with assignments_of
step_out_same clocks e a m g =
    ap (λ (l : ℕ). record { source = waiting e m; target = location l; guard = g; sync = none; assignments = assignments_of clocks a }) (leads_same a m)

map_same : {A B : Type 0} {f g : A → B} → ((x : A) → f x ≡ g x) → (xs : List A) → map f xs ≡ map g xs
map_same same [] = refl
map_same same (x ∷ xs) = ap₂ ◌∷◌ (same x) (map_same same xs)

module _ (C : Component) where
  with_same : (e : ℕ) (a : Arc) (ms : List (Option ℕ)) → transitions_with (component_without C) e (arc_without a) ms ≡ transitions_with C e a ms
  unfolding transitions_with
  with_same e a [] = refl
  with_same e a (m ∷ ms) =
      ap₂ ◌++◌ (map_same (step_in_same e a m) (entries (uppers C a) a.edge.action m))
      (ap₂ ◌++◌ (map_same (step_out_same C.clocks e a m) (ends (uppers C a))) (with_same e a ms))

  from_same : (e : ℕ) (as' : List Arc) → transitions_from (component_without C) e (map arc_without as') ≡ transitions_from C e as'
  unfolding transitions_from
  from_same e [] = refl
  from_same e (a ∷ as') =
      ap₂ ◌++◌ (ap (transitions_with (component_without C) e (arc_without a)) (outcomes_same a a.edge.action) ∙ with_same e a (outcomes a a.edge.action)) (from_same (suc e) as')

  waiting_same : (e : ℕ) (as' : List Arc) → waiting_from (component_without C) e (map arc_without as') ≡ waiting_from C e as'
  unfolding waiting_from
  waiting_same e [] = refl
  waiting_same e (a ∷ as') =
      ap₂ ◌++◌ (ap (map (λ m. record { name = waiting e m; invariant = uppers C a })) (outcomes_same a a.edge.action)) (waiting_same (suc e) as')

  process_same : process_for (component_without C) ≡ process_for C
  unfolding process_for
  process_same =
      ap₂ (λ (ls : List Location) (ts : List Transition). record { clocks = C.clocks; variables = C.variables; locations = map (plain_location C) (below (length C.locations)) ++ ls; initial = location C.initial; transitions = ts })
      (waiting_same 0 C.arcs) (from_same 0 C.arcs)

-- "exported without them"
pub system_same : (T : Table) → system_for (table_without T) ≡ system_for T
unfolding system_for
system_same T = ap (λ (Ps : List Process). record { channels = T.channels; processes = Ps }) (go T.components)
  where
    go : (Cs : List Component) → map process_for (map component_without Cs) ≡ map process_for Cs
    go [] = refl
    go (C ∷ Cs) = ap₂ ◌∷◌ (process_same C) (go Cs)

-- ## 25 is for version 3 alone: the edges of other tables have no budget

arcs_budgetless : (s : Sizes) → s.budgets ≡ false → {as' : List Arc} → All (ArcIn s) as' → all (λ a. no_work a.budget) as' ≡ true
arcs_budgetless s e empty = refl
arcs_budgetless s e (more {x = a} i f) = ap₂ ◌&&◌ (go a.budget (subst (λ (b : Bool). BudgetIn b a.budget) e i.budget)) (arcs_budgetless s e f)
  where
    go : (o : Option ℕ) → BudgetIn false o → no_work o ≡ true
    go none i' = refl
    go (some b) i' = absurd i'

pub older_budgetless : (t : Read) → InLimits t → t.version < 3 → all_budgetless t.table ≡ true
older_budgetless t i v = go i.components
  where
    old : leb 3 t.version ≡ false
    old = lt-leb 3 t.version v

    go : {Cs : List Component} → All (ComponentIn (header_of t)) Cs → all budgetless Cs ≡ true
    go empty = refl
    go (more {x = C} j f) = ap₂ ◌&&◌ (arcs_budgetless (sizes_of (header_of t) C) old j.arcs) (go f)
