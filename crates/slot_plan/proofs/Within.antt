-- A plan's table is in document 01's limits, and how long its bytes are; so every plan is accepted. Assumes nothing.
use mathlib.Core.Path.{◌≡◌, refl, sym, ap, ap₂, subst, ◌∙◌}
use mathlib.Core.Logic.{◌⊎◌, inl, inr}
use mathlib.Core.Bool.{Bool, true, false, cond}
use mathlib.Core.List.{List, [], ◌∷◌, ◌++◌, map}
use Prim.Native.Nat.{ℕ, zero, suc, ◌+◌, ◌-◌, ◌*◌, ◌^◌, ◌≤◌, ◌<◌}
use native.Mathlib.Omega.{arith}
use borrow.Author.Tests.{le-ltb}
use lib.ListN.{length, replicate, length-map, length-append, length-replicate}
use Rattle.model.specs.declared.Location.{Location}
use Rattle.model.specs.declared.Verdict.TheVariants.{Accepted}
use Rattle.model.specs.Lists.{from, below, All, empty, more, each, Answer, accepted, ◌after◌}
use Rattle.model.specs.Table.{Arc, Component, Read, header_of, sizes_of}
use Rattle.model.specs.Bytes.{location_bytes, arc_bytes, item_bytes, body_bytes, component_bytes, table_bytes}
use Rattle.model.specs.Limits.{LocationIn, ArcIn, ComponentIn, BandsIn, InLimits, Distinct}
use Rattle.model.specs.Limits.{none as no_pair, more as one-pair}
use Rattle.model.specs.Reader.{read_table}
use Rattle.model.specs.Checks.{accepted_schedule_at, accepted_schedule_of, accepted_schedule}
use Rattle.model.specs.Calls.{spread_fine, accepted_schedule_in_at, check_call_at, accepted_schedule_in, check_call, verdict_of}
use Rattle.model.proofs.Reader.RoundTrip.{read_written}
use Rattle.slot_plan.specs.declared.Slots.{Slots}
use Rattle.slot_plan.specs.Plan.{Fits, width, begins, send_from, send_to, hear_to, until, send_arc, hear_arc, rest_arc, probe, hub, plan_table}
use Rattle.slot_plan.specs.PlanSchedule.{plan_passages}
use Rattle.slot_plan.proofs.Apart.{steps, slot_in}
use Rattle.slot_plan.proofs.Parts.{length_from}
use Rattle.slot_plan.proofs.Accepted.{size_is, plan_accepted_at, plan_accepted}

-- what holds of each of a row of images, and of one behind them
all_last : {A : Type 0} {P : A → Type 0} (f : ℕ → A) (x : A) (n a : ℕ) → ((i : ℕ) → a ≤ i → i < a + n → P (f i)) → P x → All P (map f (from a n) ++ (x ∷ []))
all_last f x zero a h l = more l empty
all_last f x (suc n) a h l = more (h a (omega arith) (omega arith)) (all_last f x n (suc a) (λ i u v. h i (omega arith) (omega arith)) l)

-- the bytes of a row of images, each as long, and of one behind them
each_length : {A : Type 0} (g : A → List ℕ) (f : ℕ → A) (x : A) (w n a : ℕ) → ((i : ℕ) → length (g (f i)) ≡ w) → length (each g (map f (from a n) ++ (x ∷ []))) ≡ n * w + length (g x)
unfolding each
each_length g f x w zero a h = length-append (g x) [] ∙ omega arith
each_length g f x w (suc n) a h =
    length-append (g (f a)) (each g (map f (from (suc a) n) ++ (x ∷ []))) ∙ (let e = h a in let r = each_length g f x w n (suc a) h in omega (arith, e, r))

-- band 0 is one of the four
all_zero : (n : ℕ) → All (λ (b : ℕ). b ≤ 3) (replicate n 0)
all_zero zero = empty
all_zero (suc n) = more {x = 0} (omega arith) (all_zero n)

module _ (slots : Slots) (f : Fits slots) where
  one_bit : 2 ^ 1 ≡ 2
  one_bit = refl

  probe_in : (i : ℕ) → i < slots.probes → ComponentIn (header_of (plan_table slots)) (probe slots i)
  probe_in i h =
      record {
        least_locations = omega arith;
        most_locations = omega arith;
        initial = omega arith;
        least_clocks = omega arith;
        most_clocks = omega arith;
        variables = omega arith;
        least_arcs = omega arith;
        most_arcs = omega arith;
        locations = more {x = until (send_to slots i)} (record { clock = omega arith; bound = omega (arith, slot_in slots f i h, f.most_period) }) (more {x = until slots.period} (record { clock = omega arith; bound = omega (arith, f.most_period) }) empty);
        arcs = more {x = send_arc slots i} (record {
          source = omega arith;
          destination = omega arith;
          mask = omega (arith, one_bit);
          count = omega arith;
          clock_guards = more {x = record { clock = 0; low = send_from slots i; high = 65535 }} (record { clock = omega arith; low = omega (arith, slot_in slots f i h, f.most_period); high = inr refl }) empty;
          data_guards = empty;
          budget = tt;
          action = record { guards = omega arith; channel = h; updates = refl; pairs = refl };
        }) (more {x = rest_arc slots 1} (record {
          source = omega arith;
          destination = omega arith;
          mask = omega (arith, one_bit);
          count = omega arith;
          clock_guards = more {x = record { clock = 0; low = slots.period - 1; high = 65535 }} (record { clock = omega arith; low = omega (arith, f.most_period); high = inr refl }) empty;
          data_guards = empty;
          budget = tt;
          action = record { guards = omega arith; count = omega arith; updates = empty; pairs = refl };
        }) empty);
      }

  pub hub_locations : length (hub slots).locations ≡ suc slots.probes
  hub_locations = length-append (map (λ i. until (hear_to slots i)) (below slots.probes)) (until slots.period ∷ []) ∙ (let z = length-map (below slots.probes) (λ i. until (hear_to slots i)) ∙ length_from slots.probes 0 in omega (arith, z))

  pub hub_slots : length (map (λ i. until (hear_to slots i)) (below slots.probes)) ≡ slots.probes
  hub_slots = length-map (below slots.probes) (λ i. until (hear_to slots i)) ∙ length_from slots.probes 0

  pub hub_arcs : length (hub slots).arcs ≡ suc slots.probes
  hub_arcs = length-append (map (hear_arc slots) (below slots.probes)) (rest_arc slots (length (map (λ i. until (hear_to slots i)) (below slots.probes))) ∷ []) ∙ (let z = length-map (below slots.probes) (hear_arc slots) ∙ length_from slots.probes 0 in omega (arith, z))

  hub_in_limits : ComponentIn (header_of (plan_table slots)) (hub slots)
  hub_in_limits =
      record {
        least_locations = omega (arith, hub_locations);
        most_locations = omega (arith, hub_locations, f.most_probes);
        initial = omega (arith, hub_locations);
        least_clocks = omega arith;
        most_clocks = omega arith;
        variables = omega arith;
        least_arcs = omega (arith, hub_arcs);
        most_arcs = omega (arith, hub_arcs, f.most_probes);
        locations = all_last (λ i. until (hear_to slots i)) (until slots.period) slots.probes 0
            (λ i u v. record { clock = omega arith; bound = (let z = slot_in slots f i (omega arith) in omega (arith, f.most_period)) })
            (record { clock = omega arith; bound = omega (arith, f.most_period) });
        arcs = all_last (hear_arc slots) (rest_arc slots (length (map (λ i. until (hear_to slots i)) (below slots.probes)))) slots.probes 0
            (λ i u v. record {
              source = omega (arith, hub_locations);
              destination = omega (arith, hub_locations);
              mask = omega (arith, one_bit);
              count = omega arith;
              clock_guards = more (record { clock = omega arith; low = (let z = slot_in slots f i (omega arith) in omega (arith, f.most_period)); high = inr refl }) empty;
              data_guards = empty;
              budget = tt;
              action = record { guards = refl; least = omega arith; most = omega arith; pairs = more (record { channel = omega arith; location = omega (arith, hub_locations) }) empty; distinct = one-pair empty no_pair; updates = refl };
            })
            (record {
              source = omega (arith, hub_locations, hub_slots);
              destination = omega (arith, hub_locations);
              mask = omega (arith, one_bit);
              count = omega arith;
              clock_guards = more (record { clock = omega arith; low = omega (arith, f.most_period); high = inr refl }) empty;
              data_guards = empty;
              budget = tt;
              action = record { guards = omega arith; count = omega arith; updates = empty; pairs = refl };
            });
      }

  -- ## Bytes

  probe_length : (i : ℕ) → length (component_bytes (probe slots i)) ≡ 38
  unfolding component_bytes body_bytes each arc_bytes item_bytes
  probe_length i = refl

  pub hub_length : length (component_bytes (hub slots)) ≡ 22 + 17 * slots.probes
  unfolding component_bytes body_bytes
  hub_length =
      let a = each_length location_bytes (λ i. until (hear_to slots i)) (until slots.period) 3 slots.probes 0 (λ i. refl) in
      let rest = rest_arc slots (length (map (λ i. until (hear_to slots i)) (below slots.probes))) in
      let b = each_length arc_bytes (hear_arc slots) rest 14 slots.probes 0 hear_length in
      let c = length-append (each location_bytes (hub slots).locations) (each arc_bytes (hub slots).arcs) in
      omega (arith, a, b, c, rest_length (length (map (λ i. until (hear_to slots i)) (below slots.probes))))
    where
      hear_length : (i : ℕ) → length (arc_bytes (hear_arc slots i)) ≡ 14
      hear_length i = refl

      rest_length : (s : ℕ) → length (arc_bytes (rest_arc slots s)) ≡ 12
      rest_length s = refl

  -- how many bytes a plan has
  pub plan_bytes : length (table_bytes (plan_table slots)) ≡ 29 + 55 * slots.probes
  unfolding table_bytes
  plan_bytes = let a = each_length component_bytes (probe slots) (hub slots) 38 slots.probes 0 probe_length in omega (arith, a, hub_length)

  pub plan_in : InLimits (plan_table slots)
  plan_in =
      record {
        least_version = omega arith;
        most_version = omega arith;
        bands = record { count = length-replicate slots.probes 0; most = all_zero slots.probes; first = λ h. refl };
        least_components = omega (arith, size_is slots f);
        most_components = omega (arith, size_is slots f, f.most_probes);
        channels = omega (arith, f.most_probes);
        least_horizon = omega (arith, f.room);
        most_horizon = omega (arith, f.most_period);
        bytes = omega (arith, plan_bytes, f.most_probes);
        components = all_last (probe slots) (hub slots) slots.probes 0 (λ i u v. probe_in i (omega arith)) hub_in_limits;
      }

  -- every plan is accepted, with the schedule in closed form
  pub plan_scheduled : accepted_schedule_in (table_bytes (plan_table slots)) ≡ accepted (plan_passages slots)
  unfolding accepted_schedule_in
  plan_scheduled = ap (λ r. r after accepted_schedule_of) (read_written (plan_table slots) plan_in) ∙ plan_accepted slots f

  pub plan_checked : check_call (table_bytes (plan_table slots)) ≡ Accepted
  unfolding check_call
  plan_checked = ap verdict_of plan_scheduled

  pub plan_spread : (G : ℕ) → G < slots.guard → check_call_at G (table_bytes (plan_table slots)) ≡ Accepted
  unfolding check_call_at accepted_schedule_in_at
  plan_spread G h =
      ap (λ (a : Answer Read). verdict_of (spread_fine G a after accepted_schedule_at G)) (read_written (plan_table slots) plan_in)
      ∙ rw (le-ltb 1000 G (omega (arith, f.most_guard, h))) (ap verdict_of (plan_accepted_at slots f G h))
