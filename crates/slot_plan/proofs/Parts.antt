-- The parts of a plan's table by their numbers. Assumes nothing.
use mathlib.Core.Path.{◌≡◌, refl, sym, ap, ap₂, subst, ◌∙◌}
use mathlib.Core.Bool.{Bool, true, false, cond}
use mathlib.Core.List.{List, [], ◌∷◌, ◌++◌, map}
use mathlib.Core.Logic.{by_cases}
use mathlib.Core.Option.{Option, none, some}
use Prim.Native.Nat.{ℕ, zero, suc, ◌+◌, ◌-◌, ◌*◌, ◌≤◌, ◌<◌}
use native.Mathlib.Omega.{arith}
use native.Mathlib.Decide.{ℕ_discrete}
use borrow.Author.Tests.{lt-ltb, le-ltb, eq-eqb}
use lib.Dec.{ltb, eqb}
use lib.ListN.{length, get_or, length-map, length-append}
use Rattle.model.specs.Lists.{from, below, snoc}
use Rattle.model.specs.Table.{Arc, Component, location_of, arc_of, component_of, size, no_arc, no_location}
use Rattle.model.specs.Window.{leads_to}
use Rattle.slot_plan.specs.declared.Slots.{Slots}
use Rattle.slot_plan.specs.Plan.{Fits, width, begins, send_from, send_to, hear_to, until, send_arc, hear_arc, rest_arc, probe, hub, plan_table}
use Rattle.slot_plan.specs.PlanSchedule.{hub_low, hub_high, hub_message}
use Rattle.slot_plan.proofs.Ring.{Ring, low_guard}
use Rattle.slot_plan.proofs.Rounds.{Turns}
use Rattle.slot_plan.proofs.Apart.{steps, slot_in}

module _ {A : Type 0} (f : ℕ → A) (x d : A) where
  pub before_last : (n a j : ℕ) → j < n → get_or (map f (from a n) ++ (x ∷ [])) j d ≡ f (a + j)
  before_last zero a j h = absurd (omega arith)
  before_last (suc n) a zero h = let e : a ≡ a + 0 = omega arith in ap f e
  before_last (suc n) a (suc j) h = before_last n (suc a) j (omega arith) ∙ (let e : suc a + j ≡ a + suc j = omega arith in ap f e)

  pub the_last : (n a : ℕ) → get_or (map f (from a n) ++ (x ∷ [])) n d ≡ x
  the_last zero a = refl
  the_last (suc n) a = the_last n (suc a)

pub length_from : (n a : ℕ) → length (from a n) ≡ n
length_from zero a = refl
length_from (suc n) a = ap suc (length_from n (suc a))

module _ (slots : Slots) (f : Fits slots) where
  -- the hub's parts
  pub hub_arc : (j : ℕ) → j < slots.probes → arc_of (hub slots) j ≡ hear_arc slots j
  hub_arc j h = before_last (hear_arc slots) (rest_arc slots (length (map (λ i. until (hear_to slots i)) (below slots.probes)))) no_arc slots.probes 0 j h ∙ (let e : 0 + j ≡ j = omega arith in ap (hear_arc slots) e)

  pub hub_rest : arc_of (hub slots) slots.probes ≡ rest_arc slots slots.probes
  hub_rest =
      the_last (hear_arc slots) (rest_arc slots (length (map (λ i. until (hear_to slots i)) (below slots.probes)))) no_arc slots.probes 0
      ∙ ap (rest_arc slots) (length-map (below slots.probes) (λ i. until (hear_to slots i)) ∙ length_from slots.probes 0)

  pub hub_location : (j : ℕ) → j < slots.probes → location_of (hub slots) j ≡ until (hear_to slots j)
  hub_location j h = before_last (λ i. until (hear_to slots i)) (until slots.period) no_location slots.probes 0 j h ∙ (let e : 0 + j ≡ j = omega arith in ap (λ i. until (hear_to slots i)) e)

  pub hub_location_rest : location_of (hub slots) slots.probes ≡ until slots.period
  hub_location_rest = the_last (λ i. until (hear_to slots i)) (until slots.period) no_location slots.probes 0

  -- by the number of the hub's part: a slot, or the rest
  pub by_part : (P : ℕ → Type 0) → ((j : ℕ) → j < slots.probes → P j) → P slots.probes → (j : ℕ) → j ≤ slots.probes → P j
  by_part P s r j h = by_cases (ℕ_discrete j slots.probes) (λ e. subst P (sym e) r) (λ e. s j (omega arith))

  pub low_is : (j : ℕ) → j < slots.probes → hub_low slots j ≡ begins slots j
  low_is j h = rw (lt-ltb j slots.probes h)

  pub high_is : (j : ℕ) → j < slots.probes → hub_high slots j ≡ hear_to slots j
  high_is j h = rw (lt-ltb j slots.probes h)

  pub message_is : (j : ℕ) → j < slots.probes → hub_message slots j ≡ some j
  message_is j h = rw (lt-ltb j slots.probes h)

  pub low_rest : hub_low slots slots.probes ≡ slots.period - 1
  low_rest = rw (le-ltb slots.probes slots.probes (omega arith))

  pub high_rest : hub_high slots slots.probes ≡ slots.period
  high_rest = rw (le-ltb slots.probes slots.probes (omega arith))

  pub message_rest : hub_message slots slots.probes ≡ none
  message_rest = rw (le-ltb slots.probes slots.probes (omega arith))

  pub hub_ring : Ring (hub slots) slots.probes (hub_low slots) (hub_high slots)
  hub_ring =
      record {
        arcs = length-append (map (hear_arc slots) (below slots.probes)) (rest_arc slots (length (map (λ i. until (hear_to slots i)) (below slots.probes))) ∷ [])
            ∙ (let z = length-map (below slots.probes) (hear_arc slots) ∙ length_from slots.probes 0 in omega (arith, z));
        source = by_part (λ j. (arc_of (hub slots) j).edge.source ≡ j) (λ j h. ap (λ (a : Arc). a.edge.source) (hub_arc j h)) (ap (λ (a : Arc). a.edge.source) hub_rest);
        guards = by_part (λ j. (arc_of (hub slots) j).clock_guards ≡ low_guard (hub_low slots j))
            (λ j h. ap (λ (a : Arc). a.clock_guards) (hub_arc j h) ∙ ap low_guard (sym (low_is j h)))
            (ap (λ (a : Arc). a.clock_guards) hub_rest ∙ ap low_guard (sym low_rest));
        free = by_part (λ j. (arc_of (hub slots) j).data_guards ≡ []) (λ j h. ap (λ (a : Arc). a.data_guards) (hub_arc j h)) (ap (λ (a : Arc). a.data_guards) hub_rest);
        hasty = by_part (λ j. (arc_of (hub slots) j).budget ≡ none) (λ j h. ap (λ (a : Arc). a.budget) (hub_arc j h)) (ap (λ (a : Arc). a.budget) hub_rest);
        still = by_part (λ j. (arc_of (hub slots) j).updates ≡ []) (λ j h. ap (λ (a : Arc). a.updates) (hub_arc j h)) (ap (λ (a : Arc). a.updates) hub_rest);
        bound = by_part (λ j. location_of (hub slots) j ≡ record { clock = 0; bound = hub_high slots j })
            (λ j h. hub_location j h ∙ ap until (sym (high_is j h)))
            (hub_location_rest ∙ ap until (sym high_rest));
      }

  pub hub_turns : Turns (hub slots) slots.probes (begins slots) (hub_low slots) (hub_high slots) (hub_message slots)
  hub_turns =
      record {
        start = omega arith;
        next = λ j h. (let e : begins slots (suc j) ≡ hear_to slots j = omega arith in e ∙ sym (high_is j h));
        early = by_part (λ j. begins slots j ≤ hub_low slots j) (λ j h. omega (arith, low_is j h)) (omega (arith, low_rest, f.room));
        wide = by_part (λ j. hub_low slots j < hub_high slots j) (λ j h. omega (arith, low_is j h, high_is j h, f.least_guard)) (omega (arith, low_rest, high_rest, f.room));
        onward = λ j h. ap₂ leads_to (hub_arc j h) (message_is j h) ∙ rw (eq-eqb j j refl);
        kept = λ j h. ap (λ (a : Arc). a.edge.mask) (hub_arc j h);
        back = ap₂ leads_to hub_rest message_rest;
        reset = ap (λ (a : Arc). a.edge.mask) hub_rest;
      }

  module _ (i : ℕ) (h : i < slots.probes) where
    abbrev pub probe_at : ℕ → ℕ
    probe_at zero = 0
    probe_at (suc j) = send_to slots i

    abbrev pub probe_low : ℕ → ℕ
    probe_low zero = send_from slots i
    probe_low (suc j) = slots.period - 1

    abbrev pub probe_high : ℕ → ℕ
    probe_high zero = send_to slots i
    probe_high (suc j) = slots.period

    abbrev pub probe_message : ℕ → Option ℕ
    probe_message zero = some i
    probe_message (suc j) = none

    two_of : (P : ℕ → Type 0) → P 0 → P 1 → (j : ℕ) → j ≤ 1 → P j
    two_of P a b zero q = a
    two_of P a b (suc zero) q = b
    two_of P a b (suc (suc j)) q = absurd (omega arith)

    one_of : (P : ℕ → Type 0) → P 0 → (j : ℕ) → j < 1 → P j
    one_of P a zero q = a
    one_of P a (suc j) q = absurd (omega arith)

    pub probe_ring : Ring (probe slots i) 1 probe_low probe_high
    probe_ring =
        record {
          arcs = refl;
          source = two_of (λ j. (arc_of (probe slots i) j).edge.source ≡ j) refl refl;
          guards = two_of (λ j. (arc_of (probe slots i) j).clock_guards ≡ low_guard (probe_low j)) refl refl;
          free = two_of (λ j. (arc_of (probe slots i) j).data_guards ≡ []) refl refl;
          hasty = two_of (λ j. (arc_of (probe slots i) j).budget ≡ none) refl refl;
          still = two_of (λ j. (arc_of (probe slots i) j).updates ≡ []) refl refl;
          bound = two_of (λ j. location_of (probe slots i) j ≡ record { clock = 0; bound = probe_high j }) refl refl;
        }

    pub probe_turns : Turns (probe slots i) 1 probe_at probe_low probe_high probe_message
    probe_turns =
        record {
          start = refl;
          next = one_of (λ j. probe_at (suc j) ≡ probe_high j) refl;
          early = two_of (λ j. probe_at j ≤ probe_low j) (omega arith) (omega (arith, slot_in slots f i h, f.least_guard));
          wide = two_of (λ j. probe_low j < probe_high j) (omega (arith, f.least_slot)) (omega (arith, f.room));
          onward = one_of (λ j. leads_to (arc_of (probe slots i) j) (probe_message j) ≡ suc j) refl;
          kept = one_of (λ j. (arc_of (probe slots i) j).edge.mask ≡ 0) refl;
          back = refl;
          reset = refl;
        }
