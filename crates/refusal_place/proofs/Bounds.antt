-- The numbers of the place that is told are small, for a table's bytes; and a walk that goes on has kept no place. Assumes nothing.
use mathlib.Core.Path.{◌≡◌, refl, ◌∙◌}
use mathlib.Core.Bool.{Bool, true, false, cond, ◌&&◌, not}
use mathlib.Core.List.{List, [], ◌∷◌}
use Prim.Native.Nat.{ℕ, zero, suc, pred, ◌+◌, ◌-◌, ◌^◌, min, ◌≤◌, ◌<◌}
use native.Mathlib.Omega.{arith}
use borrow.Author.Tests.{eqb-true, eqb-false}
use borrow.Author.Rules.{rules}
use lib.Dec.{eqb}
use lib.ListN.{length}
use Rattle.model.specs.declared.Sizes.{Sizes}
use Rattle.model.specs.declared.TableHeader.{TableHeader}
use Rattle.model.specs.Lists.{Bytes}
use Rattle.model.specs.Reader.{byte, word, body_start, header_at}
use Rattle.model.proofs.Basics.Words.{byte_small}
use Rattle.table.specs.Directory.{header_of}
use Rattle.refusal_place.specs.Ranges.{bytes_field, word_field, channel_field, allowed, number_at, data_limit, item_least, item_limit, fields_of, width_of}
use Rattle.refusal_place.specs.Walk.{nowhere, going, stops_if, fits, once, ends, ranged, contents, passed, inside, one_part, one_pair, counted, numbered, of_component, of_edge, several, items, budget_part, edge_from, edge, edges, sizes_from, end_from, length_stated, body_from, component_from, component, components, place_of}
use Rattle.refusal_place.specs.Told.{Bounded}
use Rattle.refusal_place.specs.declared.Part.{Part}
use Rattle.refusal_place.specs.declared.Part.TheVariants.{ComponentLength, ComponentHead, Location, EdgeHead, ClockBound, DataBound, Update, Channel, Pair, ComponentEnd, TableEnd, Budget}
use Rattle.refusal_place.specs.declared.Subject.{Subject}
use Rattle.refusal_place.specs.declared.Field.{Field}
use Rattle.refusal_place.specs.declared.Walk.{Walk}
use Rattle.refusal_place.proofs.OneTest.{stop, same_place}
use Rattle.refusal_place.proofs.Within.{part_within, pair_within, inside_place}
use Rattle.refusal_place.proofs.Whole.{header_nowhere, place_is, walk_starts}

-- ## Fields

abbrev FieldIn : Field → Type 0
FieldIn f = (f.offset ≤ 6) × (f.width ≤ 2) × (f.least ≤ 7) × (f.limit ≤ 60001)

abbrev FieldsIn : List Field → Type 0
FieldsIn [] = Unit {0}
FieldsIn (f ∷ fs) = FieldIn f × FieldsIn fs

-- the sizes are bytes
pub record SizesIn (s : Sizes) : Type 0 where
  pub channels : s.channels < 256
  pub locations : s.locations < 256
  pub clocks : s.clocks < 256
  pub variables : s.variables < 256

mask_in : (n : ℕ) → 2 ^ min n 4 ≤ 16
mask_in zero = omega arith
mask_in (suc zero) = omega arith
mask_in (suc (suc zero)) = omega arith
mask_in (suc (suc (suc zero))) = omega arith
mask_in (suc (suc (suc (suc n)))) = let e : min (suc (suc (suc (suc n)))) 4 ≡ 4 = omega arith in rw e (omega arith)

counts-in : (kind : ℕ) → (data_limit kind ≤ 5) × (item_least kind ≤ 1) × (item_limit kind ≤ 9)
counts-in zero = (omega arith, omega arith, omega arith)
counts-in (suc zero) = (omega arith, omega arith, omega arith)
counts-in (suc (suc kind)) = (omega arith, omega arith, omega arith)

width_in : (part : Part) → width_of part ≤ 7
width_in ComponentLength = omega arith
width_in ComponentHead = omega arith
width_in Location = omega arith
width_in EdgeHead = omega arith
width_in ClockBound = omega arith
width_in DataBound = omega arith
width_in Update = omega arith
width_in Channel = omega arith
width_in Pair = omega arith
width_in ComponentEnd = omega arith
width_in TableEnd = omega arith
width_in Budget = omega arith

module _ (bs : List ℕ) (known : Bytes bs) where
  fields_in : (part : Part) (s : Sizes) (at : ℕ) → SizesIn s → FieldsIn (fields_of part s bs at)
  fields_in ComponentLength s at i = tt
  fields_in ComponentHead s at i = let locations = byte_small known (at + 2) in search rules
  fields_in Location s at i = let clocks = i.clocks in search rules
  fields_in EdgeHead s at i =
      let locations = i.locations in
      let masks = mask_in s.clocks in
      let counts = counts-in (byte bs at) in
      search rules
  fields_in ClockBound s at i = let clocks = i.clocks in search rules
  fields_in DataBound s at i = let variables = i.variables in search rules
  fields_in Update s at i = let variables = i.variables in search rules
  fields_in Channel s at i = let channels = i.channels in search rules
  fields_in Pair s at i = let channels = i.channels in let locations = i.locations in search rules
  fields_in ComponentEnd s at i = tt
  fields_in TableEnd s at i = tt
  fields_in Budget s at i = ((omega arith, omega arith, omega arith, omega arith), tt)

  -- ## One test

  word_in : (i : ℕ) → word bs i ≤ 65535
  word_in i = omega (arith, byte_small known i, byte_small known (suc i))

  number_in : (i width : ℕ) → number_at bs i width ≤ 65535
  number_in i width = go (eqb width 2)
    where
      go : (b : Bool) → cond b (word bs i) (byte bs i) ≤ 65535
      go true = word_in i
      go false = omega (arith, byte_small known i)

  module _ (number : ℕ) (some : 0 < number) (who : Subject) (f : Field) (is : FieldIn f) (value : ℕ) (few : value ≤ 65535) (w : Walk) (near : w.at ≤ 8192)
      (b : Bounded w.place) where
    stop-in : (fault : Bool) → Bounded (stops_if fault number who f value w).place
    unfolding stops_if
    stop-in fault = go (going w && fault)
      where
        go : (t : Bool) → Bounded (cond t (stop number who f value w) w).place
        go true =
            record {
              none = λ z. absurd (omega (arith, z, some));
              start = near;
              offset = is.0;
              width = is.1;
              value = few;
              least = is.2;
              limit = is.3;
            }
        go false = b

  -- ## A part

  -- the walk is before `end`, and what it tells is small
  abbrev Kept : ℕ → Walk → Type 0
  Kept end w = (w.at ≤ end) × Bounded w.place

  contents_in : (who : Subject) (fs : List Field) (w : Walk) → FieldsIn fs → w.at ≤ 8192 → Bounded w.place → Bounded (contents bs who fs w).place
  unfolding contents ranged
  contents_in who [] w is near b = b
  contents_in who (f ∷ fs) w (i, is) near b =
      let v = number_at bs (w.at + f.offset) f.width in
      contents_in who fs (stops_if (not (allowed f v)) 5 who f v w) is (rw (same_place 5 who f v w (not (allowed f v))) near)
      (stop-in 5 (omega arith) who f i v (number_in (w.at + f.offset) f.width) w near b (not (allowed f v)))

  passed_in : (n : ℕ) (w : Walk) → Bounded w.place → Bounded (passed n w).place
  unfolding passed
  passed_in n w b = go (going w)
    where
      go : (t : Bool) → Bounded (cond t (record { at = w.at + n; place = w.place }) w).place
      go true = b
      go false = b

  counted_kept : (end : ℕ) (g : ℕ → Walk → Walk) → ((i : ℕ) (w : Walk) → Kept end w → Kept end (g i w)) → (i n : ℕ) (w : Walk) → Kept end w → Kept end (counted g i n w)
  unfolding counted
  counted_kept end g each i zero w k = k
  counted_kept end g each i (suc n) w k = counted_kept end g each (suc i) n (g i w) (each i w k)

  -- no byte may be left
  ends_kept : (end : ℕ) → end ≤ 8192 → (who : Subject) (w : Walk) → Kept end w → Kept end (ends end who w)
  ends_kept end near who w (k, b) = (
    rw (same_place 4 who (bytes_field 0 1) (end - w.at) w _) k,
    stop-in 4 (omega arith) who (bytes_field 0 1) (omega arith, omega arith, omega arith, omega arith) (end - w.at) (omega arith) w (omega arith) b _,
  )

  module _ (end : ℕ) (near : end ≤ 8192) (s : Sizes) (i : SizesIn s) where
    room_in : (who : Subject) (n : ℕ) (w : Walk) → n ≤ 7 → Kept end w → Bounded (fits end who n w).place
    room_in who n w h (k, b) =
        stop-in 4 (omega arith) who (bytes_field n 8193) (omega arith, omega arith, h, omega arith) (end - w.at) (omega arith) w (omega arith) b _

    inside_in : (who : Subject) (w : Walk) → Kept end w → Bounded (inside bs end s who w).place
    unfolding inside
    inside_in who w (k, b) =
        let n = width_of who.part in
        contents_in who (fields_of who.part s bs w.at) (fits end who n w) (fields_in who.part s w.at i)
        (rw (same_place 4 who (bytes_field n 8193) (end - w.at) w _) (omega arith))
        (room_in who n w (width_in who.part) (k, b))

    part_kept : (who : Subject) (w : Walk) → Kept end w → Kept end (one_part bs end s who w)
    unfolding one_part
    part_kept who w (k, b) = (part_within bs end s who w k, passed_in (width_of who.part) (inside bs end s who w) (inside_in who w (k, b)))

    pair_kept : (who : Subject) (from : ℕ) (w : Walk) → Kept end w → Kept end (one_pair bs end from s who w)
    unfolding one_pair
    pair_kept who from w (k, b) =
        let tried = inside bs end s who w in (
          pair_within bs end s who w k from,
          passed_in (width_of who.part) (once bs from s who tried)
              (stop-in 6 (omega arith) who (channel_field s) (omega arith, omega arith, omega arith, omega (arith, i.channels)) (byte bs tried.at) (omega (arith, byte_small known tried.at)) tried (rw (inside_place bs end s who w) (omega arith)) (inside_in who w (k, b)) _),
        )

    -- ## Parts one after the other

    several_kept : (who : Subject) (n : ℕ) (w : Walk) → Kept end w → Kept end (several bs end s who n w)
    several_kept who n w k = counted_kept end (λ j. one_part bs end s (numbered who j)) (λ j. part_kept (numbered who j)) 0 n w k

    items_kept : (c e kind n : ℕ) (w : Walk) → Kept end w → Kept end (items bs end s c e kind n w)
    items_kept c e zero n w k = several_kept (of_edge c e Update) n w k
    items_kept c e (suc zero) n w k = part_kept (numbered (of_edge c e Channel) 0) w k
    items_kept c e (suc (suc kind)) n w k =
        counted_kept end (λ j. one_pair bs end w.at s (numbered (of_edge c e Pair) j)) (λ j. pair_kept (numbered (of_edge c e Pair) j) w.at) 0 n w k

    budget_kept : (c e : ℕ) (w : Walk) → Kept end w → Kept end (budget_part bs end s c e w)
    unfolding budget_part
    budget_kept c e w k = go s.budgets
      where
        go : (t : Bool) → Kept end (cond t (one_part bs end s (of_edge c e Budget) w) w)
        go true = part_kept (of_edge c e Budget) w k
        go false = k

    edge_kept : (c e : ℕ) (w : Walk) → Kept end w → Kept end (edge bs end s c e w)
    unfolding edge edge_from
    edge_kept c e w k = go (going w)
      where
        head : Walk
        head = budget_part bs end s c e (one_part bs end s (of_edge c e EdgeHead) w)

        clocks : Walk
        clocks = several bs end s (of_edge c e ClockBound) (byte bs (w.at + 4)) head

        go : (t : Bool) → Kept end (cond t (edge_from bs end s c e w.at w) w)
        go true =
            items_kept c e (byte bs w.at) (byte bs (w.at + 6)) (several bs end s (of_edge c e DataBound) (byte bs (w.at + 5)) clocks)
            (several_kept (of_edge c e DataBound) (byte bs (w.at + 5)) clocks
            (several_kept (of_edge c e ClockBound) (byte bs (w.at + 4)) head (budget_kept c e (one_part bs end s (of_edge c e EdgeHead) w) (part_kept (of_edge c e EdgeHead) w k))))
        go false = k

    body_kept : (c from : ℕ) (w : Walk) → Kept end w → Kept end (body_from bs end s c from w)
    unfolding body_from
    body_kept c from w k =
        let locations = several bs end s (of_component c Location) (byte bs (from + 2)) w in
        ends_kept end near (of_component c ComponentEnd) (edges bs end s c (byte bs (from + 6)) locations)
        (counted_kept end (edge bs end s c) (edge_kept c) 0 (byte bs (from + 6)) locations (several_kept (of_component c Location) (byte bs (from + 2)) w k))

  -- ## Components

  module _ (near : length bs ≤ 8192) where
    length_kept : (c : ℕ) (w : Walk) → Kept (length bs) w → ((length_stated bs c w).at ≡ w.at) × Bounded (length_stated bs c w).place
    unfolding length_stated
    length_kept c w (k, b) =
        let who = of_component c ComponentLength in
        let there = length bs - w.at in
        let two = fits (length bs) who 2 w in
        let same : two.at ≡ w.at = same_place 4 who (bytes_field 2 8193) there w _ in (
          same_place 4 who (word_field 0 0 (suc there)) (word bs w.at) two _ ∙ same,
          stop-in 4 (omega arith) who (word_field 0 0 (suc there)) (omega arith, omega arith, omega arith, omega arith) (word bs w.at) (word_in w.at) two (omega arith)
              (stop-in 4 (omega arith) who (bytes_field 2 8193) (omega arith, omega arith, omega arith, omega arith) there (omega arith) w (omega arith) b _)
              _,
        )

    component_kept : (header : TableHeader) → header.channels < 256 → (c : ℕ) (w : Walk) → Kept (length bs) w → Kept (length bs) (component bs header c w)
    unfolding component component_from
    component_kept header h c w (k, b) = go (going w)
      where
        end : ℕ
        end = end_from bs w.at

        s : Sizes
        s = sizes_from bs header w.at

        within : (w.at ≤ end) × (end ≤ length bs)
        within = (omega arith, omega arith)

        bytes : SizesIn s
        bytes = record { channels = h; locations = byte_small known (w.at + 2); clocks = byte_small known (w.at + 4); variables = byte_small known (w.at + 5) }

        stated : Kept end (length_stated bs c w)
        stated = let t = length_kept c w (k, b) in (rw t.0 within.0, t.1)

        whole : Kept end (component_from bs header c w.at w)
        whole =
            body_kept end (omega (arith, within.1)) s bytes c w.at (one_part bs end s (of_component c ComponentHead) (length_stated bs c w))
            (part_kept end (omega (arith, within.1)) s bytes (of_component c ComponentHead) (length_stated bs c w) stated)

        go : (t : Bool) → Kept (length bs) (cond t (component_from bs header c w.at w) w)
        go true = (omega (arith, whole.0, within.1), whole.1)
        go false = (k, b)

    components_kept : (w : Walk) → Kept (length bs) w → Kept (length bs) (components bs w)
    unfolding components
    components_kept w k =
        ends_kept (length bs) near (of_component (pred (byte bs 3)) TableEnd) (counted (component bs (header_at bs)) 0 (byte bs 3) w)
        (counted_kept (length bs) (component bs (header_at bs)) (component_kept (header_at bs) (byte_small known 4)) 0 (byte bs 3) w k)

  -- ## The table

  no_place : Bounded nowhere
  no_place = record { none = λ z. refl; start = omega arith; offset = omega arith; width = omega arith; value = omega arith; least = omega arith; limit = omega arith }

  pub bounded : Bounded (place_of bs)
  bounded = go (eqb (header_of bs) 0) refl
    where
      go : (t : Bool) → eqb (header_of bs) 0 ≡ t → Bounded (place_of bs)
      go true q =
          let z = eqb-true (header_of bs) 0 q in
          let starts = walk_starts bs z in
          rw (place_is bs z) (components_kept starts.1 (record { at = body_start bs; place = nowhere }) (starts.0, no_place)).1
      go false q = rw (header_nowhere bs (eqb-false (header_of bs) 0 q)) no_place
