-- A component whose edge j alone leaves location j, with one clock: what it opens and where that leads. Assumes nothing.
use mathlib.Core.Path.{◌≡◌, refl, sym, ap, ap₂, subst, ◌∙◌}
use mathlib.Core.Bool.{Bool, true, false, ◌&&◌}
use mathlib.Core.List.{List, [], ◌∷◌, ◌++◌, map}
use mathlib.Core.Option.{Option, none, some}
use Prim.Native.Nat.{ℕ, zero, suc, pred, ◌+◌, ◌-◌, ◌≤◌, ◌<◌, max, min}
use native.Mathlib.Omega.{arith}
use borrow.Author.Tests.{lt-ltb}
use lib.Dec.{ltb, eqb}
use lib.ListN.{length}
use Rattle.model.specs.declared.Location.{Location}
use Rattle.model.specs.declared.ClockGuard.{ClockGuard}
use Rattle.model.specs.Lists.{accepted, from}
use Rattle.model.specs.Table.{Arc, Component, location_of, arc_of}
use Rattle.model.specs.Window.{Entry, Pick, ready_of, past_of, candidate, window_of, channel_of, leads_to, leaves, choice, updated, aged}
use Rattle.model.specs.Schedule.{Passage, passage_of, with_message, opening, picked, ranged}
use Rattle.model.specs.Chains.{Opens, Chain, last, link}
use Rattle.model.proofs.Basics.Bools.{and_is, eq_is}
use Rattle.model.proofs.Window.Choice.{may_take, window_at, TakenEdge, choice_is}
use Rattle.slot_plan.specs.PlanSchedule.{stays}

abbrev pub low_guard : ℕ → List ClockGuard
low_guard x = record { clock = 0; low = x; high = 65535 } ∷ []

pub record Ring (C : Component) (most : ℕ) (low high : ℕ → ℕ) : Type 0 where
  pub arcs : length C.arcs ≡ suc most
  pub source : (j : ℕ) → j ≤ most → (arc_of C j).edge.source ≡ j
  pub guards : (j : ℕ) → j ≤ most → (arc_of C j).clock_guards ≡ low_guard (low j)
  pub free : (j : ℕ) → j ≤ most → (arc_of C j).data_guards ≡ []
  pub still : (j : ℕ) → j ≤ most → (arc_of C j).updates ≡ []
  pub hasty : (j : ℕ) → j ≤ most → (arc_of C j).budget ≡ none
  pub bound : (j : ℕ) → j ≤ most → location_of C j ≡ record { clock = 0; bound = high j }

abbrev pub enters : ℕ → ℕ → ℕ → Entry
enters b j x = record { location = j; tick = b + x; clocks = x ∷ []; values = [] }

module _ (c : ℕ) {C : Component} {most : ℕ} {low high : ℕ → ℕ} (r : Ring C most low high) where
  module _ (b j x : ℕ) (h : j ≤ most) (early : x ≤ low j) (wide : low j < high j) where
    abbrev pick : Pick
    pick = record { edge = j; ready = low j - x; end = high j - x }

    window_is : window_at C (enters b j x) j ≡ pick
    window_is =
        ap₂ (λ (gs : List ClockGuard) (l : Location). record { edge = j; ready = ready_of gs (x ∷ []); end = pred (past_of l gs (x ∷ [])) }) (r.guards j h) (r.bound j h)
        ∙ (let p : max (low j - x) 0 ≡ low j - x = omega arith in
        let q : pred (suc (high j) - x) ≡ high j - x = omega arith in
        ap₂ (λ (a e : ℕ). record { edge = j; ready = a; end = e }) p q)

    may : may_take C (enters b j x) j ≡ true
    may = (and_is _ _).1 (
      (eq_is _ _).1 (r.source j h),
      rw (r.free j h, r.guards j h, r.bound j h, r.hasty j h) ((and_is _ _).1 (lt-ltb (suc (max (low j - x) 0)) (suc (high j) - x) (omega arith), refl)),
    )

    only_edge : (e : ℕ) → e < suc most → may_take C (enters b j x) e ≡ true → e ≡ j
    only_edge e g t = sym (r.source e (omega arith)) ∙ (eq_is _ _).0 ((and_is _ _).0 t).0

    chosen : choice C (enters b j x) ≡ some pick
    chosen = (choice_is C (enters b j x)).1 (subst (λ n. TakenEdge n C (enters b j x) pick) (sym r.arcs) (record {
      there = omega arith;
      candidate = may;
      window = sym window_is;
      least = λ e g t. subst (λ i. pick.ready ≤ (window_at C (enters b j x) i).ready) (sym (only_edge e g t)) (let w = ap (λ (p : Pick). p.ready) window_is in omega (arith, w));
      lowest = λ e g t q. omega (arith, only_edge e g t);
    }))

    -- the passage that opens there
    pub opens : (m : Option ℕ) → Opens c C (enters b j x) (stays c b j x (low j) (high j) m)
    unfolding opening updated
    opens m =
        ap (picked c C (enters b j x)) chosen
        ∙ ap (λ us. ranged c (updated us []) (passage_of c (enters b j x) pick (channel_of (arc_of C j)))) (r.still j h)
        ∙ (let p : b + x + (low j - x) ≡ b + low j = omega arith in
        let q : b + x + (high j - x) ≡ b + high j = omega arith in
        ap₂ (λ (a e : ℕ). accepted (record { component = c; edge = j; entry = enters b j x; ready = a; end = e; message = channel_of (arc_of C j) })) p q)

    -- where it leads to: its clock grown to the window's end, or reset
    pub leads_on : (m : Option ℕ) (l : ℕ) → leads_to (arc_of C j) m ≡ l → (arc_of C j).edge.mask ≡ 0
        → leaves (arc_of C j) m (b + high j) (enters b j x) ≡ enters b l (high j)
    unfolding leaves updated aged
    leads_on m l e z =
        rw (e, z, r.still j h)
        (let q : x + (b + high j - (b + x)) ≡ high j = omega arith in ap (λ (y : ℕ). record { location = l; tick = b + high j; clocks = y ∷ []; values = [] }) q)

    pub leads_anew : (m : Option ℕ) → leads_to (arc_of C j) m ≡ 0 → (arc_of C j).edge.mask ≡ 1
        → leaves (arc_of C j) m (b + high j) (enters b j x) ≡ enters (b + high j) 0 0
    unfolding leaves updated aged
    leads_anew m e z =
        rw (e, z, r.still j h)
        (let q : b + high j ≡ b + high j + 0 = omega arith in ap (λ (y : ℕ). record { location = 0; tick = y; clocks = 0 ∷ []; values = [] }) q)
