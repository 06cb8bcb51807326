-- The bytes of a table in the limits are bytes. Assumes nothing.
use mathlib.Core.Path.{◌≡◌, ap}
use mathlib.Core.Bool.{Bool, true, false, cond}
use mathlib.Core.Logic.{◌⊎◌, inl, inr}
use mathlib.Core.Option.{Option, none, some}
use mathlib.Core.List.{List, [], ◌∷◌, ◌++◌}
use Prim.Native.Nat.{ℕ, zero, suc, ◌+◌, ◌^◌, ◌≤◌, ◌<◌}
use native.Mathlib.Omega.{arith}
use lib.Dec.{leb}
use lib.ListN.{length, length-append}
use Rattle.model.specs.declared.Action.{Action}
use Rattle.model.specs.declared.Action.TheVariants.{Internal, Send, Receive}
use Rattle.model.specs.declared.Location.{Location}
use Rattle.model.specs.declared.ClockGuard.{ClockGuard}
use Rattle.model.specs.declared.DataGuard.{DataGuard}
use Rattle.model.specs.declared.Update.{Update}
use Rattle.model.specs.declared.Pair.{Pair}
use Rattle.model.specs.declared.Sizes.{Sizes}
use Rattle.model.specs.Lists.{All, empty, more, Bytes, each}
use Rattle.model.specs.Table.{TableHeader, header_of, Arc, Component, Read, sizes_of}
use Rattle.model.specs.Bytes.{budget_bytes, unsigned, location_bytes, clock_guard_bytes, data_guard_bytes, update_bytes, pair_bytes, kind_of, item_count, item_bytes, arc_head, arc_bytes, body_bytes, component_bytes, band_bytes, table_bytes}
use Rattle.model.specs.Limits.{BudgetIn, LocationIn, ClockGuardIn, DataGuardIn, UpdateIn, PairIn, ActionIn, ArcIn, ComponentIn, InLimits}
use Rattle.model.proofs.Basics.Words.{all_join, each_bytes, be16_bytes, unsigned_small}
use Rattle.model.proofs.Reader.Items.{kind_small}

-- the sizes of a component in the limits
record Small (s : Sizes) : Type 0 where
  pub channels : s.channels ≤ 16
  pub locations : s.locations ≤ 16
  pub clocks : s.clocks ≤ 4
  pub variables : s.variables ≤ 4

-- a mask of at most four bits
mask_small : (n : ℕ) → n ≤ 4 → 2 ^ n ≤ 16
mask_small zero h = omega arith
mask_small (suc zero) h = omega arith
mask_small (suc (suc zero)) h = omega arith
mask_small (suc (suc (suc zero))) h = omega arith
mask_small (suc (suc (suc (suc zero)))) h = omega arith
mask_small (suc (suc (suc (suc (suc n))))) h = absurd (omega arith)

-- one more byte
byte_more : (b : ℕ) {bs : List ℕ} → b < 256 → Bytes bs → Bytes (b ∷ bs)
byte_more b h a = more h a

module _ (s : Sizes) (small : Small s) where
  -- a location
  location-bytes : (l : Location) → LocationIn s l → Bytes (location_bytes l)
  location-bytes l h = byte_more l.clock (omega arith) (be16_bytes l.bound (omega arith))

  -- a clock bound
  clock-guard-bytes : (g : ClockGuard) → ClockGuardIn s g → Bytes (clock_guard_bytes g)
  clock-guard-bytes g h = byte_more g.clock (omega arith) (all_join (be16_bytes g.low (omega arith)) (be16_bytes g.high (top h.high)))
    where
      top : (g.high ≤ 60000) ⊎ (g.high ≡ 65535) → g.high < 65536
      top (inl p) = omega arith
      top (inr p) = omega arith

  -- a data bound
  data-guard-bytes : (g : DataGuard) → DataGuardIn s g → Bytes (data_guard_bytes g)
  data-guard-bytes g h =
      byte_more g.variable (omega arith)
      (all_join (be16_bytes (unsigned g.low) (unsigned_small g.low h.low)) (be16_bytes (unsigned g.high) (unsigned_small g.high h.high)))

  -- an update
  update-bytes : (u : Update) → UpdateIn s u → Bytes (update_bytes u)
  update-bytes u h = byte_more u.variable (omega arith) (byte_more (cond u.adds 1 0) (flag u.adds) (be16_bytes (unsigned u.number) (unsigned_small u.number h.number)))
    where
      flag : (t : Bool) → cond t 1 0 < 256
      flag true = omega arith
      flag false = omega arith

  -- a pair
  pair-bytes : (q : Pair) → PairIn s q → Bytes (pair_bytes q)
  pair-bytes q h = byte_more q.channel (omega arith) (byte_more q.location (omega arith) empty)

  -- the items of an edge: there are few, and their bytes are bytes
  item-bytes : (a : Arc) (act : Action) → ActionIn s a act → (length a.data_guards ≤ 4) × (item_count a act ≤ 8) × Bytes (item_bytes a act)
  unfolding item_bytes
  item-bytes a Internal h = (h.guards, omega arith, each_bytes update_bytes update-bytes h.updates)
  item-bytes a (Send k) h = (h.guards, omega arith, byte_more k (omega arith) empty)
  item-bytes a Receive h = (omega (arith, ap length h.guards), h.most, each_bytes pair_bytes pair-bytes h.pairs)

  -- the budget of an edge
  budget-bytes : (b : Bool) (o : Option ℕ) → BudgetIn b o → Bytes (budget_bytes o)
  budget-bytes true none h = absurd h
  budget-bytes true (some n) h = be16_bytes n (omega arith)
  budget-bytes false none h = empty
  budget-bytes false (some n) h = absurd h

  -- an edge with its lists
  arc-bytes : (a : Arc) → ArcIn s a → Bytes (arc_bytes a)
  unfolding arc_bytes
  arc-bytes a h =
      let i = item-bytes a a.edge.action h.action in
      let k = kind_small a.edge.action in
      let m = mask_small s.clocks small.clocks in
      let two = byte_more (length a.data_guards) (omega arith) (byte_more (item_count a a.edge.action) (omega arith) empty) in
      let four = byte_more a.edge.mask (omega arith) (byte_more (length a.clock_guards) (omega arith) two) in
      let six = byte_more a.edge.source (omega arith) (byte_more a.edge.destination (omega arith) four) in
      let head : Bytes (arc_head a) = byte_more (kind_of a.edge.action) (omega arith) six in
      all_join (all_join (all_join (all_join head (budget-bytes s.budgets a.budget h.budget)) (each_bytes clock_guard_bytes clock-guard-bytes h.clock_guards)) (each_bytes data_guard_bytes data-guard-bytes h.data_guards)) i.2

-- a component whose bytes are few
component_bytes_are : (channels : TableHeader) → channels.channels ≤ 16 → (C : Component) → ComponentIn channels C × (length (component_bytes C) ≤ 8192) → Bytes (component_bytes C)
unfolding component_bytes body_bytes
component_bytes_are channels k C p =
    let h = p.0 in
    let s = sizes_of channels C in
    let small : Small s = record { channels = k; locations = h.most_locations; clocks = h.most_clocks; variables = h.variables } in
    let three = byte_more C.clocks (omega arith) (byte_more C.variables (omega arith) (byte_more (length C.arcs) (omega arith) empty)) in
    let five = byte_more (length C.locations) (omega arith) (byte_more C.initial (omega arith) three) in
    let body = all_join (all_join five (each_bytes location_bytes (location-bytes s small) h.locations)) (each_bytes arc_bytes (arc-bytes s small) h.arcs) in
    all_join (be16_bytes (2 + length (body_bytes C)) (omega (arith, p.1))) body

-- where the bytes of all components are few, so are those of each
each_few : {P : Component → Type 0} {Cs : List Component} → All P Cs → length (each component_bytes Cs) ≤ 8192 → All (λ C. P C × (length (component_bytes C) ≤ 8192)) Cs
unfolding each
each_few empty n = empty
each_few (more {x = C} {xs = Cs} h a) n =
    let l = length-append (component_bytes C) (each component_bytes Cs) in
    let few : length (component_bytes C) ≤ 8192 = omega arith in
    more (h, few) (each_few a (omega arith))

-- the bands are bytes
bands_bytes : (version : ℕ) {bands : List ℕ} → All (λ b. b ≤ 3) bands → Bytes (band_bytes version bands)
bands_bytes version {bands} a = go (leb 2 version) (small a)
  where
    small : {l : List ℕ} → All (λ b. b ≤ 3) l → Bytes l
    small empty = empty
    small (more {x = b} h a) = byte_more b (omega arith) (small a)

    go : (b : Bool) → Bytes bands → Bytes (cond b bands [])
    go true k = k
    go false k = empty

-- the bytes of a table in the limits are bytes
pub written-bytes : (t : Read) → InLimits t → Bytes (table_bytes t)
unfolding table_bytes
written-bytes t h =
    let Cs = t.table.components in
    let B = band_bytes t.version t.table.bands in
    let n : 7 + length B + length (each component_bytes Cs) ≤ 8192 = omega (arith, h.bytes, length-append B (each component_bytes Cs)) in
    let bands = bands_bytes t.version h.bands.most in
    let rest = each_bytes component_bytes (component_bytes_are (header_of t) h.channels) (each_few h.components (omega arith)) in
    let size = byte_more t.version (omega (arith, h.most_version)) (be16_bytes (7 + length (B ++ each component_bytes Cs)) (omega (arith, length-append B (each component_bytes Cs)))) in
    let counts = byte_more (length Cs) (omega arith) (byte_more t.table.channels (omega arith) (be16_bytes t.horizon (omega arith))) in
    all_join (all_join size counts) (all_join bands rest)
