-- Document 01, "The table": the numbers of each part, where they stand in it and their ranges. 5: "Is every number in its range and every mask bit a
-- clock?" is asked of them in this order, that of the part's bytes.
use Rattle.std.specs.Prelude.{Bool, true, false, cond, ◌&&◌, ◌||◌, List, [], ◌∷◌, ℕ, zero, suc, ◌+◌, ◌^◌, min, leb, ltb, eqb}
use Rattle.model.specs.declared.Sizes.{Sizes}
use Rattle.model.specs.Reader.{byte, word}
use Rattle.refusal_place.specs.declared.Part.{Part}
use Rattle.refusal_place.specs.declared.Part.TheVariants.{ComponentLength, ComponentHead, Location, EdgeHead, ClockBound, DataBound, Update, Channel, Pair, ComponentEnd, TableEnd, Budget}
use Rattle.refusal_place.specs.declared.Field.{Field}

-- a number of one byte, and one of two, that stands there in its part: from `least` up to, and without, `limit`
abbrev pub byte_field : ℕ → ℕ → ℕ → Field
byte_field offset least limit = record { offset = offset; width = 1; least = least; limit = limit; unbounded = false }

abbrev pub word_field : ℕ → ℕ → ℕ → Field
word_field offset least limit = record { offset = offset; width = 2; least = least; limit = limit; unbounded = false }

-- a number of ticks, "0 to 60,000", and where it may be unbounded "or 65,535 for none"
abbrev pub ticks_field : ℕ → Bool → Field
ticks_field offset unbounded = record { offset = offset; width = 2; least = 0; limit = 60001; unbounded = unbounded }

-- how many bytes there are for a part, from `least` up to, and without, `limit`
abbrev pub bytes_field : ℕ → ℕ → Field
bytes_field least limit = record { offset = 0; width = 0; least = least; limit = limit; unbounded = false }

-- the value is one that the field may have
abbrev pub allowed : Field → ℕ → Bool
allowed f value = (f.unbounded && eqb value 65535) || (leb f.least value && ltb value f.limit)

-- "All fields are unsigned, big-endian": the number of so many bytes that stands at i
abbrev pub number_at : List ℕ → ℕ → ℕ → ℕ
number_at bs i width = cond (eqb width 2) (word bs i) (byte bs i)

-- ## The fields of each part

-- its first 7 bytes: after the length "locations 1 to 16; initial location; clocks 1 to 4; variables 0 to 4; edges 1 to 32"
abbrev pub head_fields : ℕ → List Field
head_fields locations =
    byte_field 2 1 17 ∷ byte_field 3 0 locations ∷ byte_field 4 1 5 ∷ byte_field 5 0 5 ∷ byte_field 6 1 33 ∷ []

-- "Location, 3 bytes: clock, and bound q (0 to 60,000)."
abbrev pub location_fields : Sizes → List Field
location_fields s = byte_field 0 0 s.clocks ∷ ticks_field 1 false ∷ []

-- data bounds "0 to 4; 0 for receive", items "Internal: 0 to 4", "Send: exactly one", "Receive: 1 to 8": by the edge's kind
abbrev pub data_limit : ℕ → ℕ
data_limit zero = 5
data_limit (suc zero) = 5
data_limit (suc (suc kind)) = 1

abbrev pub item_least : ℕ → ℕ
item_least zero = 0
item_least (suc kind) = 1

abbrev pub item_limit : ℕ → ℕ
item_limit zero = 5
item_limit (suc zero) = 2
item_limit (suc (suc kind)) = 9

-- "7 bytes: kind, source, destination, reset mask (bit i for clock i), counts of clock bounds (0 to 4), data bounds and items." No component has more
-- than 4 clocks.
abbrev pub edge_fields : Sizes → ℕ → List Field
edge_fields s kind =
    byte_field 0 0 3 ∷ byte_field 1 0 s.locations ∷ byte_field 2 0 s.locations ∷ byte_field 3 0 (2 ^ min s.clocks 4)
    ∷ byte_field 4 0 5
    ∷ byte_field 5 0 (data_limit kind)
    ∷ byte_field 6 (item_least kind) (item_limit kind)
    ∷ []

-- "a 2-byte budget (0 to 60,000), a part of its own, after each edge's 7 bytes"
abbrev pub budget_fields : List Field
budget_fields = ticks_field 0 false ∷ []

-- "Clock bound, 5 bytes: clock, low (0 to 60,000), high (0 to 60,000, or 65,535 for none)."
abbrev pub clock_bound_fields : Sizes → List Field
clock_bound_fields s = byte_field 0 0 s.clocks ∷ ticks_field 1 false ∷ ticks_field 3 true ∷ []

-- "Data bound, 5 bytes: variable, low, high, two's complement."
abbrev pub data_bound_fields : Sizes → List Field
data_bound_fields s = byte_field 0 0 s.variables ∷ []

-- "updates of 4 bytes: variable, 0 set or 1 add, signed number"
abbrev pub update_fields : Sizes → List Field
update_fields s = byte_field 0 0 s.variables ∷ byte_field 1 0 2 ∷ []

-- "Send: exactly one item, 1 byte, the channel. Receive: 1 to 8 pairs of channel and location."
abbrev pub channel_field : Sizes → Field
channel_field s = byte_field 0 0 s.channels

abbrev pub channel_fields : Sizes → List Field
channel_fields s = channel_field s ∷ []

abbrev pub pair_fields : Sizes → List Field
pair_fields s = channel_field s ∷ byte_field 1 0 s.locations ∷ []

-- the fields of the part that stands at a place of the table's bytes: an edge's kind and a component's locations are its own
abbrev pub fields_of : Part → Sizes → List ℕ → ℕ → List Field
fields_of ComponentLength s bs at = []
fields_of ComponentHead s bs at = head_fields (byte bs (at + 2))
fields_of Location s bs at = location_fields s
fields_of EdgeHead s bs at = edge_fields s (byte bs at)
fields_of ClockBound s bs at = clock_bound_fields s
fields_of DataBound s bs at = data_bound_fields s
fields_of Update s bs at = update_fields s
fields_of Channel s bs at = channel_fields s
fields_of Pair s bs at = pair_fields s
fields_of ComponentEnd s bs at = []
fields_of TableEnd s bs at = []
fields_of Budget s bs at = budget_fields

-- how many bytes it has
abbrev pub width_of : Part → ℕ
width_of ComponentLength = 2
width_of ComponentHead = 7
width_of Location = 3
width_of EdgeHead = 7
width_of ClockBound = 5
width_of DataBound = 5
width_of Update = 4
width_of Channel = 1
width_of Pair = 2
width_of ComponentEnd = 0
width_of TableEnd = 0
width_of Budget = 2

-- its number, where an enum cannot go; 0 is no part
abbrev pub part_number : Part → ℕ
part_number ComponentLength = 1
part_number ComponentHead = 2
part_number Location = 3
part_number EdgeHead = 4
part_number ClockBound = 5
part_number DataBound = 6
part_number Update = 7
part_number Channel = 8
part_number Pair = 9
part_number ComponentEnd = 10
part_number TableEnd = 11
part_number Budget = 12
