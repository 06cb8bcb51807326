-- The law of places: in the bytes of an accepted table its parts stand where they are looked for, and are in the limits. Assumes nothing.
use mathlib.Core.Path.{◌≡◌, refl, sym, ap, subst, ◌∙◌}
use mathlib.Core.Bool.{Bool, true, false, cond}
use mathlib.Core.List.{List, [], ◌∷◌, ◌++◌}
use Prim.Native.Nat.{ℕ, suc, ◌+◌, ◌*◌, ◌≤◌, ◌<◌}
use native.Mathlib.Omega.{arith}
use borrow.Author.Tests.{le-leb}
use lib.Dec.{leb}
use lib.ListN.{length, get_or}
use Rattle.model.specs.declared.Location.{Location}
use Rattle.model.specs.declared.Sizes.{Sizes}
use Rattle.model.specs.Lists.{empty, more, Bytes, be16, each, Answer, accepted, refused}
use Rattle.model.specs.Table.{Arc, TableHeader, header_of, Component, Read, sizes_of, no_location, no_arc, no_component, size, component_of, location_of, arc_of}
use Rattle.model.specs.Bytes.{band_bytes, location_bytes, arc_bytes, body_bytes, component_bytes, table_bytes}
use Rattle.model.specs.Limits.{LocationIn, ArcIn, ComponentIn, InLimits}
use Rattle.model.specs.Reader.{byte, word, location_fine, location_at, body_start, read_table}
use Rattle.model.specs.Places.{budgeted, arc_length, arc_at, start_of, location_place, arc_place, ComponentAt, Located, read_from, read_of, is_accepted, Valid, component_in}
use Rattle.model.proofs.Basics.Bools.{clash}
use Rattle.model.proofs.Basics.Words.{word_back}
use Rattle.model.proofs.Reader.Parts.{part_ok}
use Rattle.model.proofs.Reader.Fixed.{location_agrees}
use Rattle.model.proofs.Basics.Walk.{all_at, word_drop, Stands, stands_first, stands_second, stands_at, stands_whole, stands_byte, stands_says, walk, each_length}
use Rattle.model.proofs.Reader.ArcPlaces.{has_budget, has-budget, arc-length, arc_back}
use Rattle.model.proofs.Reader.RoundTrip.{written_read}

-- ## One component

-- a location written stands there
location_back : (s : Sizes) (l : Location) (r : List ℕ) → LocationIn s l → location_at (location_bytes l ++ r) ≡ l
location_back s l r h = (part_ok 3 (location_fine s) location_at (location_bytes l ++ r) ((location_agrees s).reads l r h)).says

-- the first seven bytes of a component
abbrev head_of : Component → List ℕ
head_of C =
    be16 (2 + length (body_bytes C)) ++ (length C.locations ∷ C.initial ∷ C.clocks ∷ C.variables ∷ length C.arcs ∷ [])

module _ (channels : TableHeader) (C : Component) (h : ComponentIn channels C) (bs : List ℕ) (b : ℕ) (st : Stands bs b (component_bytes C)) (same : budgeted bs ≡ channels.budgets) where
  -- its first seven bytes, then locations, then edges
  whole : Stands bs b (head_of C ++ (each location_bytes C.locations ++ each arc_bytes C.arcs))
  unfolding component_bytes body_bytes
  whole = st

  -- its first seven bytes
  front : Stands bs b (head_of C)
  front = stands_first bs b (head_of C) (each location_bytes C.locations ++ each arc_bytes C.arcs) whole

  -- byte i of its first seven
  head_byte : (i : ℕ) → i < 7 → byte bs (b + i) ≡ byte (head_of C) i
  head_byte i k = stands_byte front i k

  -- the locations and the edges
  parts : Stands bs (b + 7) (each location_bytes C.locations ++ each arc_bytes C.arcs)
  parts = stands_second bs b (head_of C) (each location_bytes C.locations ++ each arc_bytes C.arcs) whole

  -- location l
  location_stands : (l : ℕ) → l < length C.locations → Stands bs (location_place b l) (location_bytes (location_of C l))
  location_stands =
      let s = sizes_of channels C in
      let at : b + 7 ≡ b + 7 + 0 * 3 = omega arith in
      let first = stands_first bs (b + 7) (each location_bytes C.locations) (each arc_bytes C.arcs) parts in
      walk location_bytes (λ r. 3) (LocationIn s) (λ l r i. refl) bs no_location (location_place b) (λ l. omega arith) h.locations (stands_at at first)

  -- an edge has a budget exactly if the table's edges have
  has_it : (a : Arc) → ArcIn (sizes_of channels C) a → has_budget a.budget ≡ budgeted bs
  has_it a i = has-budget channels.budgets a.budget i.budget ∙ sym same

  -- edge e
  pub arc_stands : (e : ℕ) → e < length C.arcs → Stands bs (arc_place bs b e) (arc_bytes (arc_of C e))
  unfolding arc_place
  arc_stands =
      let s = sizes_of channels C in
      let L = each location_bytes C.locations in
      let n : byte bs (b + 2) ≡ length C.locations = head_byte 2 (omega arith) in
      let at : b + 7 + length L ≡ b + 7 + byte bs (b + 2) * 3 = omega (arith, each_length location_bytes 3 (λ l. refl) C.locations) in
      let second = stands_second bs (b + 7) L (each arc_bytes C.arcs) parts in
      walk arc_bytes (arc_length (budgeted bs)) (ArcIn s) (λ a r i. subst (λ x. arc_length x (arc_bytes a ++ r) ≡ length (arc_bytes a)) (has_it a i) (arc-length a r)) bs no_arc (arc_place bs b) (λ e. refl) h.arcs (stands_at at second)

  -- a component that stands at b is what is looked for there
  component_at : ComponentAt bs b C
  component_at =
      let s = sizes_of channels C in
      record {
        fits = front.fits;
        locations = head_byte 2 (omega arith);
        initial = head_byte 3 (omega arith);
        clocks = head_byte 4 (omega arith);
        variables = head_byte 5 (omega arith);
        arcs = head_byte 6 (omega arith);
        location_fits = λ l k. (location_stands l k).fits;
        location = λ l k. stands_says location_at (λ r. location_back s (location_of C l) r (all_at no_location h.locations l k)) (location_stands l k);
        arc_fits = λ e k. omega (arith, (arc_stands e k).fits, stands_says (arc_length (budgeted bs)) (λ r. subst (λ x. arc_length x (arc_bytes (arc_of C e) ++ r) ≡ length (arc_bytes (arc_of C e))) (has_it (arc_of C e) (all_at no_arc h.arcs e k)) (arc-length (arc_of C e) r)) (arc_stands e k));
        arc = λ e k. stands_says (arc_at (budgeted bs)) (λ r. subst (λ x. arc_at x (arc_bytes (arc_of C e) ++ r) ≡ arc_of C e) (has_it (arc_of C e) (all_at no_arc h.arcs e k)) (arc_back (arc_of C e) r s (all_at no_arc h.arcs e k))) (arc_stands e k);
      }

-- ## The table

-- a component is as long as its first two bytes say
component_length : (C : Component) (r : List ℕ) → word (component_bytes C ++ r) 0 ≡ length (component_bytes C)
unfolding component_bytes
component_length C r = word_back (2 + length (body_bytes C)) ∙ omega arith

module _ (t : Read) (h : InLimits t) (bs : List ℕ) (st : Stands bs 0 (table_bytes t)) where
  -- behind the header: the bands, then the components
  behind : Stands bs 7 (band_bytes t.version t.table.bands ++ each component_bytes t.table.components)
  unfolding table_bytes
  behind =
      let R = band_bytes t.version t.table.bands ++ each component_bytes t.table.components in
      let header = (t.version ∷ be16 (7 + length R)) ++ (length t.table.components ∷ t.table.channels ∷ be16 t.horizon) in
      stands_second bs 0 header R st

  -- the version, and the number of channels
  its_version : byte bs 0 ≡ t.version
  unfolding table_bytes
  its_version = stands_byte st 0 (omega arith)

  its_channels : byte bs 4 ≡ t.table.channels
  unfolding table_bytes
  its_channels = stands_byte st 4 (omega arith)

  -- where the components start
  start : 7 + length (band_bytes t.version t.table.bands) ≡ body_start bs
  start = rw (its_version, its_channels) (go (leb 2 t.version))
    where
      go : (b : Bool) → 7 + length (cond b t.table.bands []) ≡ 7 + cond b t.table.channels 0
      go true = ap (λ n. 7 + n) h.bands.count
      go false = refl

  -- in version 2 the bands stand there
  bands_stand : 2 ≤ t.version → Stands bs 7 t.table.bands
  bands_stand v =
      let e : band_bytes t.version t.table.bands ≡ t.table.bands = rw (le-leb 2 t.version v) in
      subst (Stands bs 7) e (stands_first bs 7 (band_bytes t.version t.table.bands) (each component_bytes t.table.components) behind)

  -- component c
  pub component_stands : (c : ℕ) → c < size t.table → Stands bs (start_of bs c) (component_bytes (component_of t.table c))
  unfolding table_bytes start_of
  component_stands =
      let R = each component_bytes t.table.components in
      let B = band_bytes t.version t.table.bands in
      let second = stands_second bs 7 B R behind in
      walk component_bytes (λ l. word l 0) (ComponentIn (header_of t)) (λ C r i. component_length C r) bs no_component (start_of bs)
      (λ c. ap (λ n. start_of bs c + n) (word_drop bs (start_of bs c))) h.components (stands_at start second)

  -- a table that stands at 0 is what is looked for
  table_at : Located bs t
  unfolding table_bytes
  table_at =
      record {
        version = its_version;
        bands_fit = λ v. omega (arith, (bands_stand v).fits, h.bands.count);
        band = λ v k l. stands_byte (bands_stand v) k (omega (arith, h.bands.count, l));
        count = stands_byte st 3 (omega arith);
        channels = stands_byte st 4 (omega arith);
        horizon = stands_says (λ l. word l 5) (λ r. word_back t.horizon) st;
        component = λ c k. component_at (header_of t) (component_of t.table c) (all_at no_component h.components c k) bs (start_of bs c) (component_stands c k) (ap (leb 3) its_version);
      }

-- ## The laws

-- the parts of an accepted table stand where they are looked for
pub located : (bs : List ℕ) (t : Read) → Bytes bs → read_table bs ≡ accepted t → Located bs t
located bs t b e = let w = written_read bs t b e in table_at t w.0 bs (stands_whole w.1)

-- each component of an accepted table is in the limits
pub component-in : (bs : List ℕ) (t : Read) → Bytes bs → read_table bs ≡ accepted t → (c : ℕ) → c < size t.table → ComponentIn (header_of t) (component_of t.table c)
component-in bs t b e = all_at no_component (written_read bs t b e).0.components

-- ## The same for bytes that pass checks 1 to 6

was_accepted : {A : Type 0} (a : Answer A) → is_accepted a ≡ true → (x : A) × (a ≡ accepted x)
was_accepted (accepted x) e = (x, refl)
was_accepted (refused n c) e = clash e

-- bytes, each by its number, are bytes
pub are_bytes : (bs : List ℕ) → ((i : ℕ) → get_or bs i 0 < 256) → Bytes bs
are_bytes [] h = empty
are_bytes (b ∷ bs) h = more (h 0) (are_bytes bs (λ i. h (suc i)))

pub valid_read : (bs : List ℕ) → Valid bs → read_table bs ≡ accepted (read_of bs)
unfolding Valid read_of
valid_read bs v = let (t, e) = was_accepted (read_table bs) v in e ∙ ap accepted (sym (ap read_from e))

pub valid_located : (bs : List ℕ) → Bytes bs → Valid bs → Located bs (read_of bs)
valid_located bs b v = located bs (read_of bs) b (valid_read bs v)

pub valid_in : (bs : List ℕ) → Bytes bs → Valid bs → (c : ℕ) → c < size (read_of bs).table → ComponentIn (header_of (read_of bs)) (component_in bs c)
valid_in bs b v = component-in bs (read_of bs) b (valid_read bs v)
