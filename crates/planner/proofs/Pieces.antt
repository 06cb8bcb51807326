-- The bytes of a plan's parts, from those of their pieces. Assumes nothing.
use mathlib.Core.Path.{◌≡◌, refl, sym, ap, ap₂, ◌∙◌}
use mathlib.Core.List.{List, [], ◌∷◌, ◌++◌, map, append-nil, append_assoc}
use Prim.Native.Nat.{ℕ, zero, suc, ◌+◌, ◌-◌, ◌*◌, ◌≤◌, ◌<◌}
use native.Mathlib.Numerals.{add-one}
use native.Mathlib.Omega.{arith}
use lib.ListN.{length, length-append}
use Rattle.model.specs.Lists.{from, below, each, be16}
use Rattle.model.specs.Bytes.{location_bytes, item_bytes, arc_bytes, body_bytes, component_bytes, table_bytes}
use Rattle.model.proofs.Basics.Sums.{each_join}
use Rattle.slot_plan.specs.declared.Slots.{Slots}
use Rattle.slot_plan.specs.Plan.{begins, hear_to, Fits, until, sending_arc, hearing_arc, resting_arc, hear_arc, rest_arc, probe, hub, plan_table}
use Rattle.slot_plan.proofs.Accepted.{size_is}
use Rattle.slot_plan.proofs.Within.{hub_locations, hub_slots, hub_arcs, hub_length, plan_bytes}
use Rattle.planner.specs.Put.{table_head, component_head, edge_head, low_bytes}

-- ## Parts in a row

-- the bytes of part number i and of those behind it, of n parts
module _ {A : Type 0} (bytes : A → List ℕ) (part : ℕ → A) (n : ℕ) where
  abbrev pub left : ℕ → List ℕ
  left i = each bytes (map part (from i (n - i)))

  pub left_all : left 0 ≡ each bytes (map part (below n))
  left_all = let e : n - 0 ≡ n = omega arith in ap (λ (k : ℕ). each bytes (map part (from 0 k))) e

  pub left_next : (i : ℕ) → i < n → left i ≡ bytes (part i) ++ left (i + 1)
  unfolding each
  left_next i h = let e : n - i ≡ suc (n - (i + 1)) = omega arith in rw (e, add-one i)

  pub left_none : (i : ℕ) → n ≤ i → left i ≡ []
  unfolding each
  left_none i h = let e : n - i ≡ 0 = omega arith in rw e

-- how long they are, each of them as long
pub row_length : {A : Type 0} (bytes : A → List ℕ) (part : ℕ → A) (wide : ℕ) → ((i : ℕ) → length (bytes (part i)) ≡ wide)
    → (n a : ℕ) → length (each bytes (map part (from a n))) ≡ n * wide
unfolding each
row_length bytes part wide each-one zero a = omega arith
row_length bytes part wide each-one (suc n) a =
    let e = each-one a in
    let r = row_length bytes part wide each-one n (suc a) in
    length-append (bytes (part a)) (each bytes (map part (from (suc a) n))) ∙ omega (arith, e, r)

-- one part more, behind the others
pub each_last : {A : Type 0} (bytes : A → List ℕ) (xs : List A) (x : A) → each bytes (xs ++ (x ∷ [])) ≡ each bytes xs ++ bytes x
unfolding each
each_last bytes xs x = each_join bytes xs (x ∷ []) ∙ ap (λ (l : List ℕ). each bytes xs ++ l) (append-nil (bytes x))

-- ## Edges and components

-- "a message or a timeout leads to the same next location"
pub hearing_bytes : (i low : ℕ) → (edge_head 2 i (i + 1) 0 1 ++ low_bytes low) ++ (i ∷ (i + 1) ∷ []) ≡ arc_bytes (hearing_arc i low)
unfolding each item_bytes arc_bytes
hearing_bytes i low = rw (add-one i)

module _ (slots : Slots) (i begin : ℕ) (e : begin ≡ begins slots i) where
  pub probe_bytes : (((component_head 38 2 ++ location_bytes (until (begin + slots.guard + slots.slot))) ++ location_bytes (until slots.period)) ++ arc_bytes (sending_arc i (begin + slots.guard))) ++ arc_bytes (resting_arc 1 (slots.period - 1))
      ≡ component_bytes (probe slots i)
  unfolding each item_bytes arc_bytes body_bytes component_bytes
  probe_bytes = rw e

  pub heard_bytes : location_bytes (until (begin + slots.guard + slots.slot + slots.guard)) ≡ location_bytes (until (hear_to slots i))
  heard_bytes = rw e

  pub hear_bytes : arc_bytes (hearing_arc i begin) ≡ arc_bytes (hear_arc slots i)
  hear_bytes = rw e

-- how long they are
pub probe_length : (slots : Slots) (i : ℕ) → length (component_bytes (probe slots i)) ≡ 38
unfolding each item_bytes arc_bytes body_bytes component_bytes
probe_length slots i = refl

pub hear_length : (slots : Slots) (i : ℕ) → length (arc_bytes (hear_arc slots i)) ≡ 14
unfolding each item_bytes arc_bytes
hear_length slots i = refl

module _ (slots : Slots) (f : Fits slots) where
  -- the hub's locations and edges of its slots
  abbrev pub places : List ℕ
  places = each location_bytes (map (λ i. until (hear_to slots i)) (below slots.probes))

  abbrev pub edges : List ℕ
  edges = each arc_bytes (map (hear_arc slots) (below slots.probes))

  abbrev pub probes : List ℕ
  probes = each component_bytes (map (probe slots) (below slots.probes))

  pub places_long : length places ≡ slots.probes * 3
  places_long = row_length location_bytes (λ i. until (hear_to slots i)) 3 (λ i. refl) slots.probes 0

  pub edges_long : length edges ≡ slots.probes * 14
  edges_long = row_length arc_bytes (hear_arc slots) 14 (hear_length slots) slots.probes 0

  pub probes_long : length probes ≡ slots.probes * 38
  probes_long = row_length component_bytes (probe slots) 38 (probe_length slots) slots.probes 0

  hub_body : ((places ++ location_bytes (until slots.period)) ++ edges) ++ arc_bytes (resting_arc slots.probes (slots.period - 1))
      ≡ each location_bytes (hub slots).locations ++ each arc_bytes (hub slots).arcs
  hub_body =
      append_assoc (places ++ location_bytes (until slots.period)) edges (arc_bytes (resting_arc slots.probes (slots.period - 1)))
      ∙ ap₂ (λ (x y : List ℕ). x ++ y)
      (sym (each_last location_bytes (map (λ i. until (hear_to slots i)) (below slots.probes)) (until slots.period)))
      (ap (λ (n : ℕ). edges ++ arc_bytes (rest_arc slots n)) (sym (hub_slots slots f)) ∙ sym (each_last arc_bytes (map (hear_arc slots) (below slots.probes)) (rest_arc slots (length (map (λ i. until (hear_to slots i)) (below slots.probes))))))

  pub hub_bytes : (((component_head (22 + 17 * slots.probes) (slots.probes + 1) ++ places) ++ location_bytes (until slots.period)) ++ edges) ++ arc_bytes (resting_arc slots.probes (slots.period - 1))
      ≡ component_bytes (hub slots)
  unfolding body_bytes component_bytes
  hub_bytes =
      let size : 22 + 17 * slots.probes ≡ 2 + length (body_bytes (hub slots)) = omega (arith, hub_length slots f) in
      let locations : slots.probes + 1 ≡ length (hub slots).locations = omega (arith, hub_locations slots f) in
      let arcs : slots.probes + 1 ≡ length (hub slots).arcs = omega (arith, hub_arcs slots f) in
      ap₂ (λ (s : ℕ) (l : List ℕ). be16 s ++ l) size
      (ap₂ (λ (l a : ℕ). l ∷ 0 ∷ 1 ∷ 0 ∷ a ∷ (((places ++ location_bytes (until slots.period)) ++ edges) ++ arc_bytes (resting_arc slots.probes (slots.period - 1)))) locations arcs
      ∙ ap (λ (l : List ℕ). length (hub slots).locations ∷ 0 ∷ 1 ∷ 0 ∷ length (hub slots).arcs ∷ l) hub_body)

  pub table-bytes : (table_head (29 + 55 * slots.probes) slots.probes (2 * slots.period) ++ probes) ++ component_bytes (hub slots) ≡ table_bytes (plan_table slots)
  unfolding table_bytes
  table-bytes =
      let body = each component_bytes (plan_table slots).table.components in
      let size : 29 + 55 * slots.probes ≡ 7 + length body = omega (arith, plan_bytes slots f) in
      ap₂ (λ (s : ℕ) (l : List ℕ). 1 ∷ (be16 s ++ l)) size
      (ap₂ (λ (n : ℕ) (l : List ℕ). n ∷ slots.probes ∷ (be16 (2 * slots.period) ++ l)) (sym (size_is slots f)) (sym (each_last component_bytes (map (probe slots) (below slots.probes)) (hub slots))))
