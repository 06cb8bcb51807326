-- What is true of the place that is told (the law `told` in proofs/Whole.antt: for any bytes).
use Rattle.std.specs.Prelude.{◌≡◌, ◌↔◌, false, List, ℕ, ◌+◌, ◌*◌, ◌≤◌, ◌<◌, length}
use Rattle.model.specs.Lists.{refused}
use Rattle.model.specs.Reader.{byte, read_table}
use Rattle.model.specs.Calls.{check_call}
use Rattle.model.specs.declared.Verdict.TheVariants.{Refused}
use Rattle.refusal_place.specs.Ranges.{allowed, number_at}
use Rattle.refusal_place.specs.Walk.{nowhere, place_of}
use Rattle.refusal_place.specs.declared.Field.{Field}
use Rattle.refusal_place.specs.declared.Place.{Place}

-- the field at fault
abbrev pub field_in : Place → Field
field_in p = record { offset = p.offset; width = p.width; least = p.least; limit = p.limit; unbounded = p.unbounded }

-- It has a number from 4 to 6 and is of component c. The byte told is in the table or at its end. A number told stands there, in
-- the table. The value told is not allowed; for 6 it stands in an earlier pair too.
pub record Fault (bs : List ℕ) (c : ℕ) (p : Place) : Type 0 where
  pub number : (4 ≤ p.number) × (p.number ≤ 6)
  pub component : p.component ≡ c
  pub starts : p.start + p.offset ≤ length bs
  pub stands : 0 < p.width → (p.value ≡ number_at bs (p.start + p.offset) p.width) × (p.start + p.offset + p.width ≤ length bs)
  pub outside : p.number < 6 → allowed (field_in p) p.value ≡ false
  pub again : p.number ≡ 6 → (first : ℕ) × (i : ℕ) × (p.start ≡ first + p.index * 2) × (i < p.index) × (byte bs (first + i * 2) ≡ p.value)

-- A place is told exactly if the reader refuses with 4 to 6, with its number and its component; and so exactly if the verdict on the table is such a
-- refusal.
pub record Told (bs : List ℕ) : Type 0 where
  pub stops : (n c : ℕ) → 4 ≤ n → read_table bs ≡ refused n c → ((place_of bs).number ≡ n) × Fault bs c (place_of bs)
  pub only : 0 < (place_of bs).number → (4 ≤ (place_of bs).number) × (read_table bs ≡ refused (place_of bs).number (place_of bs).component)
  pub verdict : (n c : ℕ) → 4 ≤ n → n ≤ 6 → (check_call bs ≡ Refused n c) ↔ ((place_of bs).number ≡ n) × ((place_of bs).component ≡ c)

-- Its numbers are small, and without a number it is no place (the law `bounded` in proofs/Bounds.antt: for any bytes).
pub record Bounded (p : Place) : Type 0 where
  pub none : p.number ≡ 0 → p ≡ nowhere
  pub start : p.start ≤ 8192
  pub offset : p.offset ≤ 6
  pub width : p.width ≤ 2
  pub value : p.value ≤ 65535
  pub least : p.least ≤ 7
  pub limit : p.limit ≤ 60001
