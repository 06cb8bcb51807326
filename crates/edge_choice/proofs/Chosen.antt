-- The call's answer for a table that was read: at a location that is there, at one that is absent, and for an absent component. Assumes nothing.
use mathlib.Core.Path.{◌≡◌, sym, ap, ap₂, ◌∙◌}
use mathlib.Core.List.{List}
use mathlib.Core.Option.{Option, none}
use Prim.Native.Nat.{ℕ, ◌≤◌, ◌<◌}
use native.Mathlib.Omega.{arith}
use lib.ListN.{length, get_or, get_or-eq_default}
use mir.Val.{Fits}
use mir.Syntax.{w8}
use Rattle.model.specs.Lists.{Answer, refused}
use Rattle.model.specs.Table.{Component, Read, no_arc, no_component, size, arc_of}
use Rattle.model.specs.Reader.{read_table}
use Rattle.model.specs.Places.{Valid, read_of, component_in}
use Rattle.model.specs.Window.{Entry, Pick, choice, looked}
use Rattle.model.specs.EdgeChoice.{chosen_of, not_chosen, chosen_in, edge_choice_call}
use Rattle.model.proofs.Basics.Walk.{all_at}
use Rattle.model.proofs.Reader.Located.{valid_read}
use Rattle.model.proofs.Window.Looked.{none_from_there, all_from_there}
use Rattle.schedule.proofs.Tables.{limits_of}

module _ (bs : List ℕ) (c : ℕ) (at : Entry) where
  -- refused by 1 to 6
  pub call_refused : {n k : ℕ} → read_table bs ≡ refused n k → not_chosen n k ≡ edge_choice_call bs c at
  unfolding edge_choice_call
  call_refused e = sym (ap (λ (a : Answer Read). chosen_in a c at) e)

  module _ (v : Valid bs) where
    -- read: what is chosen by the component
    pub call_read : {k : Option Pick} {n : ℕ} → k ≡ choice (component_in bs c) at → n ≡ looked (component_in bs c) at
        → chosen_of k n ≡ edge_choice_call bs c at
    unfolding edge_choice_call
    call_read p q = ap₂ chosen_of p q ∙ sym (ap (λ (a : Answer Read). chosen_in a c at) (valid_read bs v))

    -- no such component: it has no edge
    pub call_absent : size (read_of bs).table ≤ c → chosen_of none 0 ≡ edge_choice_call bs c at
    call_absent h =
        let e : component_in bs c ≡ no_component = get_or-eq_default (read_of bs).table.components no_component h in
        let nowhere : (i : ℕ) → i < length (component_in bs c).arcs → ⊥ = λ i k. absurd (omega (arith, k, ap (λ (C : Component). length C.arcs) e)) in
        call_read (sym (none_from_there (component_in bs c) at (λ i k z. nowhere i k)))
        (sym (all_from_there (component_in bs c) at (λ i k z. nowhere i k) ∙ ap (λ (C : Component). length C.arcs) e))

    -- no such location: no edge leaves it
    pub call_nowhere : ((j : ℕ) → Fits w8 (get_or bs j 0)) → c < size (read_of bs).table → length (component_in bs c).locations ≤ at.location
        → {n : ℕ} → n ≡ length (component_in bs c).arcs → chosen_of none n ≡ edge_choice_call bs c at
    call_nowhere b k h q =
        let i = limits_of bs b v c k in
        let elsewhere : (e : ℕ) → e < length (component_in bs c).arcs → (arc_of (component_in bs c) e).edge.source ≡ at.location → ⊥ = λ e l z. omega (arith, (all_at no_arc i.arcs e l).source, z) in
        call_read (sym (none_from_there (component_in bs c) at elsewhere)) (q ∙ sym (all_from_there (component_in bs c) at elsewhere))
