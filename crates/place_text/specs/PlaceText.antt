-- The place of a refusal in words: the part, the byte, and what is wrong there.
use Rattle.std.specs.Prelude.{cond, List, [], ◌∷◌, ◌++◌, ℕ, ◌+◌, ◌-◌, ltb, eqb, get_or}
use Rattle.text.specs.Words.{ascii, decimal, field}
use Rattle.refusal_place.specs.declared.Place.{Place}

-- ## The fields of each part, by where they stand in it

abbrev pub it : List ℕ
it = ascii "it"

abbrev pub head_names : List (List ℕ)
head_names = it ∷ it ∷ ascii "count of locations" ∷ ascii "initial location" ∷ ascii "count of clocks" ∷ ascii "count of variables" ∷ ascii "count of edges" ∷ []

abbrev pub location_names : List (List ℕ)
location_names = ascii "clock" ∷ ascii "bound" ∷ []

abbrev pub edge_names : List (List ℕ)
edge_names = ascii "kind" ∷ ascii "source" ∷ ascii "destination" ∷ ascii "reset mask" ∷ ascii "count of clock bounds" ∷ ascii "count of data bounds" ∷ ascii "count of items" ∷ []

abbrev pub clock_bound_names : List (List ℕ)
clock_bound_names = ascii "clock" ∷ ascii "low" ∷ it ∷ ascii "high" ∷ []

abbrev pub data_bound_names : List (List ℕ)
data_bound_names = ascii "variable" ∷ []

abbrev pub update_names : List (List ℕ)
update_names = ascii "variable" ∷ ascii "set or add" ∷ []

abbrev pub channel_names : List (List ℕ)
channel_names = ascii "channel" ∷ []

abbrev pub pair_names : List (List ℕ)
pair_names = ascii "channel" ∷ ascii "location" ∷ []

-- by the number of the part
abbrev pub field_names : List (List (List ℕ))
field_names = [] ∷ [] ∷ head_names ∷ location_names ∷ edge_names ∷ clock_bound_names ∷ data_bound_names ∷ update_names ∷ channel_names ∷ pair_names ∷ []

abbrev pub name_in : List (List ℕ) → ℕ → List ℕ
name_in names offset = get_or names offset it

unfoldable pub field_name : ℕ → ℕ → List ℕ
field_name part offset = name_in (get_or field_names part []) offset

-- ## The part

abbrev pub part_names : List (List ℕ)
part_names =
    [] ∷ ascii ", its length" ∷ ascii ", its first 7 bytes" ∷ ascii ", location " ∷ [] ∷ ascii ", its clock bound " ∷ ascii ", its data bound "
    ∷ ascii ", its update "
    ∷ ascii ", its item "
    ∷ ascii ", its pair "
    ∷ ascii ", its end"
    ∷ ascii ", behind it"
    ∷ ascii ", its budget"
    ∷ []

unfoldable pub part_name : ℕ → List ℕ
part_name part = get_or part_names part []

-- 255 is no edge, and no number
abbrev pub edge_words : ℕ → List ℕ
edge_words edge = cond (eqb edge 255) [] (field ", edge " edge)

abbrev pub index_words : ℕ → List ℕ
index_words index = cond (eqb index 255) [] (decimal index)

abbrev pub part_words : Place → List ℕ
part_words p = field "Component " p.component ++ edge_words p.edge ++ part_name p.part ++ index_words p.index

-- ## What is wrong

abbrev pub none_words : List ℕ
none_words = ascii ", or 65535 for none"

abbrev pub range_words : Place → List ℕ
range_words p =
    cond (ltb p.least p.limit)
    (field ", allowed are " p.least ++ field " to " (p.limit - 1) ++ cond p.unbounded none_words [])
    (ascii ", none is allowed")

abbrev pub value_words : Place → List ℕ
value_words p = field_name p.part p.offset ++ field " is " p.value ++ range_words p

-- bytes that are left over, and bytes that are missing
abbrev pub bytes_words : Place → List ℕ
bytes_words p =
    cond (eqb p.limit 1) (field "bytes left over: " p.value) (field "bytes needed: " p.least ++ field ", there: " p.value)

abbrev pub fault_words : Place → List ℕ
fault_words p =
    cond (eqb p.number 6) (field "channel " p.value ++ ascii " is listed before") (cond (eqb p.width 0) (bytes_words p) (value_words p))

unfoldable pub place_text : Place → List ℕ
unfolding decimal field_name part_name
place_text p = part_words p ++ field " (byte " (p.start + p.offset) ++ ascii "): " ++ fault_words p ++ ascii ".\n"
