-- A component has one state at a tick. Assumes nothing.
use mathlib.Core.Path.{◌≡◌, refl, sym, ap, subst, ◌∙◌}
use mathlib.Core.List.{List, [], ◌∷◌}
use Prim.Native.Nat.{ℕ, ◌<◌}
use native.Mathlib.Omega.{arith}
use Rattle.model.specs.Lists.{◌∈◌, here, there}
use Rattle.model.specs.Table.{Component, Table, size}
use Rattle.model.specs.Window.{Entry}
use Rattle.model.specs.Schedule.{Passage, own}
use Rattle.model.specs.Chains.{IsSchedule}
use Rattle.recurrence.specs.Recurrence.{timeless, EntersAt}
use Rattle.model.proofs.Basics.Members.{not_in}
use Rattle.model.proofs.Network.Passage.{from_entry}
use Rattle.model.proofs.Network.Links.{Links, final, leads, first_fits, Linked, schedule_linked}
use Rattle.model.proofs.Meaning.Pass.{later-entry}

links_same : {H : ℕ} {C : Component} (u w : Passage) {v : Passage} {vs : List Passage} → Links H C v vs → u ∈ (v ∷ vs) → w ∈ (v ∷ vs) → u.entry.tick ≡ w.entry.tick → u ≡ w
links_same u w k (here e) (here f) h = e ∙ sym f
links_same u w k (here e) (there m) h =
    let g = first_fits k in
    absurd (omega (arith, later-entry k w m, from_entry g, g.window, ap (λ (z : Passage). z.entry.tick) e))
links_same u w k (there m) (here f) h =
    let g = first_fits k in
    absurd (omega (arith, later-entry k u m, from_entry g, g.window, ap (λ (z : Passage). z.entry.tick) f))
links_same u w (final a b) (there m) (there n) h = absurd (not_in m)
links_same u w (leads a b c k) (there m) (there n) h = links_same u w k m n h

module _ (limit : ℕ) (T : Table) (H : ℕ) (S : List Passage) (sched : IsSchedule limit T H S) where
  -- a component has one state at a tick
  pub one_state : (c x : ℕ) → c < size T → (p q : Entry) → EntersAt S c x p → EntersAt S c x q → p ≡ q
  one_state c x h p q e f =
      let L : Linked T H S c = schedule_linked limit T H S sched c h in
      let s = links_same e.passage f.passage L.linked (subst (λ (l : List Passage). e.passage ∈ l) L.is e.listed) (subst (λ (l : List Passage). f.passage ∈ l) L.is f.listed) (e.tick ∙ sym f.tick) in
      sym e.state ∙ ap (λ (v : Passage). timeless v.entry) s ∙ f.state
