-- Budgets: tables of versions 1 and 2 have none, and get the choice and the trials that they had; in version 3 every window of the
-- schedule is as long as its edge's budget. Assumes nothing.
use mathlib.Core.Path.{◌≡◌, refl, sym, ap, subst, ◌∙◌}
use mathlib.Core.Bool.{Bool, true, false, cond, ◌&&◌}
use mathlib.Core.List.{List, [], ◌∷◌, ◌++◌}
use mathlib.Core.Option.{Option, none, some}
use Prim.Native.Nat.{ℕ, suc, pred, ◌+◌, ◌≤◌, ◌<◌}
use native.Mathlib.Omega.{arith}
use borrow.Author.Tests.{lt-leb, le-leb}
use lib.Dec.{leb, eqb, ltb}
use lib.IntN.{ℤ}
use Rattle.model.specs.declared.Location.{Location}
use Rattle.model.specs.Lists.{All, empty, more, ◌∈◌}
use Rattle.model.specs.Table.{Arc, Component, Table, Read, no_component, size, component_of, location_of, arc_of}
use Rattle.model.specs.Limits.{BudgetIn, ArcIn, ComponentIn, InLimits}
use Rattle.model.specs.Window.{Pick, Entry, Spans, ready_of, past_of, data_holds, long_enough, candidate, window_of, better, eligible, considered, chosen, choice}
use Rattle.model.specs.Program.{Statement, trial_of, trials}
use Rattle.model.specs.Schedule.{Passage, passage_arc}
use Rattle.model.specs.Chains.{IsSchedule}
use Rattle.model.specs.Versions.{candidate12, considered12, chosen12, choice12, trial_of12, trials12}
use Rattle.model.proofs.Basics.Bools.{clash, and_is}
use Rattle.model.proofs.Basics.Walk.{all_at}
use Rattle.model.proofs.Window.Interval.{one_window, long_is}
use Rattle.model.proofs.Window.Choice.{choice_taken}
use Rattle.model.proofs.Schedule.Own.{all_in, all_then}
use Rattle.model.proofs.Schedule.Passages.{Entered, entered}

abbrev pub Bare : List Arc → Type 0
Bare as' = All (λ a. a.budget ≡ none) as'

-- ## Versions 1 and 2

-- no edge has a budget
pub no_budgets : (t : Read) → InLimits t → t.version < 3 → All (λ C. Bare C.arcs) t.table.components
no_budgets t h v = all_then (λ C i. all_then (λ a j. go (leb 3 t.version) (lt-leb 3 t.version v) a.budget j.budget) i.arcs) h.components
  where
    go : (b : Bool) → b ≡ false → (o : Option ℕ) → BudgetIn b o → o ≡ none
    go true e o i = absurd (clash (sym e))
    go false e none i = refl
    go false e (some n) i = absurd i

module _ (l : Location) (here : ℕ) (xs : List ℕ) (vs : List ℤ) where
  -- the candidates are those of the earlier rule
  pub same_candidate : (a : Arc) → a.budget ≡ none → candidate l a xs vs ≡ candidate12 l a xs vs
  same_candidate a b = rw b (go (data_holds a.data_guards vs) (ltb (suc (ready_of a.clock_guards xs)) (past_of l a.clock_guards xs)))
    where
      go : (d w : Bool) → d && (w && true) ≡ d && w
      go true true = refl
      go true false = refl
      go false w = refl

  -- so the choice is
  pub same_choice : (e : ℕ) {as' : List Arc} (k : Option Pick) → Bare as' → chosen l here xs vs e as' k ≡ chosen12 l here xs vs e as' k
  unfolding chosen chosen12
  same_choice e k empty = refl
  same_choice e k (more {x = a} b bs) = rw (same_candidate a b) (same_choice (suc e) _ bs)

-- the choice of a component of the table
pub same_choice_of : (t : Read) → InLimits t → t.version < 3 → (c : ℕ) → c < size t.table → (at : Entry)
    → choice (component_of t.table c) at ≡ choice12 (component_of t.table c) at
unfolding choice choice12
same_choice_of t h v c k at =
    let C = component_of t.table c in
    same_choice (location_of C at.location) at.location at.clocks at.values 0 none (all_at no_component (no_budgets t h v) c k)

-- and the trials are those of the earlier translator
pub same_trials : (l : Location) (here e : ℕ) {as' : List Arc} → Bare as' → trials l here e as' ≡ trials12 l here e as'
unfolding trials trials12
same_trials l here e empty = refl
same_trials l here e (more {x = a} b bs) = rw (b, same_trials l here (suc e) bs)

-- ## Version 3

-- every window of a schedule is as long as its edge's budget
pub spanned : {limit : ℕ} {T : Table} {H : ℕ} {S : List Passage} → IsSchedule limit T H S → (v : Passage) → v ∈ S → Spans (passage_arc T v).budget v.ready v.end
spanned {T = T} {H = H} s v i =
    let C = component_of T v.component in
    let o = (all_in (entered s) i).opened in
    let at = v.entry in
    let a = arc_of C v.edge in
    let l = location_of C at.location in
    let t = choice_taken C at o.taken in
    let n : o.pick.edge ≡ v.edge = sym (ap (λ (x : Passage). x.edge) o.is) in
    let m = (and_is (eqb (arc_of C o.pick.edge).edge.source at.location) (candidate l (arc_of C o.pick.edge) at.clocks at.values)).0 t.candidate in
    let c = (and_is (data_holds (arc_of C o.pick.edge).data_guards at.values) (long_enough l (arc_of C o.pick.edge) at.clocks)).0 m.1 in
    let w = (long_is l a at.clocks).0 (subst (λ e. long_enough l (arc_of C e) at.clocks ≡ true) n c.1) in
    let q = one_window l a.clock_guards at.clocks w.2 in
    go a.budget v.ready v.end w.0 w.1 at.tick (o.ready ∙ ap (λ (k : ℕ). at.tick + k) (sym q.0)) (o.end ∙ ap (λ (k : ℕ). at.tick + k) (sym q.1)) w.4
  where
    go : (b : Option ℕ) (ready end r e tick : ℕ) → ready ≡ tick + r → end ≡ tick + e → Spans b r e → Spans b ready end
    go none ready end r e tick p q h = tt
    go (some b) ready end r e tick p q h = omega arith
