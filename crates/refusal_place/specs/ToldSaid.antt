-- What `Told` and `Bounded` say, spelt out without their names: a hypothesis more, or a field less, no longer gives these.
use Rattle.std.specs.Prelude.{◌≡◌, ◌↔◌, false, List, ℕ, ◌+◌, ◌*◌, ◌≤◌, ◌<◌, length}
use Rattle.model.specs.Lists.{refused}
use Rattle.model.specs.Reader.{byte, read_table}
use Rattle.model.specs.Calls.{check_call}
use Rattle.model.specs.declared.Verdict.TheVariants.{Refused}
use Rattle.refusal_place.specs.Ranges.{allowed, number_at}
use Rattle.refusal_place.specs.Walk.{nowhere, place_of}
use Rattle.refusal_place.specs.Told.{field_in, Fault, Told, Bounded}
use Rattle.refusal_place.specs.declared.Place.{Place}

-- the place: its number and component, the number at fault with its value, and why it is one
pub fault_says : (bs : List ℕ) (c : ℕ) (p : Place) → Fault bs c p
    → (4 ≤ p.number) × (p.number ≤ 6) × (p.component ≡ c) × (p.start + p.offset ≤ length bs)
    × (0 < p.width → (p.value ≡ number_at bs (p.start + p.offset) p.width) × (p.start + p.offset + p.width ≤ length bs))
    × (p.number < 6 → allowed (field_in p) p.value ≡ false)
    × (p.number ≡ 6 → (first : ℕ) × (i : ℕ) × (p.start ≡ first + p.index * 2) × (i < p.index) × (byte bs (first + i * 2) ≡ p.value))
fault_says bs c p d = (d.number.0, d.number.1, d.component, d.starts, d.stands, d.outside, d.again)

-- it is told exactly if the table is refused with 4 to 6
pub told_says : (bs : List ℕ) → Told bs
    → ((n c : ℕ) → 4 ≤ n → read_table bs ≡ refused n c → ((place_of bs).number ≡ n) × Fault bs c (place_of bs))
    × (0 < (place_of bs).number → (4 ≤ (place_of bs).number) × (read_table bs ≡ refused (place_of bs).number (place_of bs).component))
    × ((n c : ℕ) → 4 ≤ n → n ≤ 6 → (check_call bs ≡ Refused n c) ↔ ((place_of bs).number ≡ n) × ((place_of bs).component ≡ c))
told_says bs d = (d.stops, d.only, d.verdict)

pub bounded_says : (p : Place) → Bounded p
    → (p.number ≡ 0 → p ≡ nowhere) × (p.start ≤ 8192) × (p.offset ≤ 6) × (p.width ≤ 2) × (p.value ≤ 65535) × (p.least ≤ 7) × (p.limit ≤ 60001)
bounded_says p d = (d.none, d.start, d.offset, d.width, d.value, d.least, d.limit)
