-- Document 01, "Checks, in this order", 4 to 6: where the reader stops. "Then, reading front to back, the first fault counts; each part must fit before
-- its contents are tried, for 5, then 6". A walk that has stopped stays where it is.
use Rattle.std.specs.Prelude.{Bool, false, cond, ◌&&◌, not, List, [], ◌∷◌, ℕ, zero, suc, pred, ◌+◌, ◌-◌, min, eqb, length, drop}
use Rattle.model.specs.declared.Sizes.{Sizes}
use Rattle.model.specs.declared.TableHeader.{TableHeader}
use Rattle.model.specs.Reader.{byte, word, listed, body_start, header_at}
use Rattle.parts.specs.Place.{channels_before}
use Rattle.table.specs.Directory.{header_of}
use Rattle.refusal_place.specs.Ranges.{bytes_field, word_field, channel_field, allowed, number_at, fields_of, width_of, part_number}
use Rattle.refusal_place.specs.declared.Part.{Part}
use Rattle.refusal_place.specs.declared.Part.TheVariants.{ComponentLength, ComponentHead, Location, EdgeHead, ClockBound, DataBound, Update, Channel, Pair, ComponentEnd, TableEnd, Budget}
use Rattle.refusal_place.specs.declared.Subject.{Subject}
use Rattle.refusal_place.specs.declared.Field.{Field}
use Rattle.refusal_place.specs.declared.Place.{Place}
use Rattle.refusal_place.specs.declared.Walk.{Walk}

-- ## Stops

-- no place, and no component
abbrev pub nowhere : Place
nowhere =
    record {
      number = 0;
      component = 255;
      part = 0;
      edge = 0;
      index = 0;
      start = 0;
      offset = 0;
      width = 0;
      value = 0;
      least = 0;
      limit = 0;
      unbounded = false;
    }

abbrev pub going : Walk → Bool
going w = eqb w.place.number 0

-- a part that starts there, with the field at fault and its value
abbrev pub place_at : ℕ → Subject → ℕ → Field → ℕ → Place
place_at number who start f value =
    record {
      number = number;
      component = who.component;
      part = part_number who.part;
      edge = who.edge;
      index = who.index;
      start = start;
      offset = f.offset;
      width = f.width;
      value = value;
      least = f.least;
      limit = f.limit;
      unbounded = f.unbounded;
    }

-- the walk stops where a test finds a fault, unless it has stopped before
unfoldable pub stops_if : Bool → ℕ → Subject → Field → ℕ → Walk → Walk
stops_if fault number who f value w = cond (going w && fault) (record { at = w.at; place = place_at number who w.at f value }) w

-- a value must be in its range, else the walk stops with that number
abbrev pub judged : ℕ → Subject → Field → ℕ → Walk → Walk
judged number who f value w = stops_if (not (allowed f value)) number who f value w

-- ## Parts

-- 4: a part of n bytes must fit before `end`. No table has more than 8,192 bytes.
abbrev pub fits : ℕ → Subject → ℕ → Walk → Walk
fits end who n w = judged 4 who (bytes_field n 8193) (end - w.at) w

-- 4: no byte may be left before `end`
abbrev pub ends : ℕ → Subject → Walk → Walk
ends end who w = judged 4 who (bytes_field 0 1) (end - w.at) w

-- 5: a number of the part must be in its range
unfoldable pub ranged : List ℕ → Subject → Field → Walk → Walk
ranged bs who f w = judged 5 who f (number_at bs (w.at + f.offset) f.width) w

unfoldable pub contents : List ℕ → Subject → List Field → Walk → Walk
contents bs who [] w = w
contents bs who (f ∷ fs) w = contents bs who fs (ranged bs who f w)

-- 6: a pair's channel must be none of those of the pairs before it; the first pair stands at `from`
abbrev pub once : List ℕ → ℕ → Sizes → Subject → Walk → Walk
once bs from s who w = stops_if (listed (byte bs w.at) (channels_before (drop from bs) who.index)) 6 who (channel_field s) (byte bs w.at) w

-- the next part stands n bytes on
unfoldable pub passed : ℕ → Walk → Walk
passed n w = cond (going w) (record { at = w.at + n; place = w.place }) w

-- "each part must fit before its contents are tried"
unfoldable pub inside : List ℕ → ℕ → Sizes → Subject → Walk → Walk
inside bs end s who w = contents bs who (fields_of who.part s bs w.at) (fits end who (width_of who.part) w)

unfoldable pub one_part : List ℕ → ℕ → Sizes → Subject → Walk → Walk
one_part bs end s who w = passed (width_of who.part) (inside bs end s who w)

unfoldable pub one_pair : List ℕ → ℕ → ℕ → Sizes → Subject → Walk → Walk
one_pair bs end from s who w = passed (width_of who.part) (once bs from s who (inside bs end s who w))

-- ## Parts one after the other, numbered

unfoldable pub counted : (ℕ → Walk → Walk) → ℕ → ℕ → Walk → Walk
counted f i zero w = w
counted f i (suc n) w = counted f (suc i) n (f i w)

abbrev pub numbered : Subject → ℕ → Subject
numbered who i = record { component = who.component; part = who.part; edge = who.edge; index = i }

-- a part that belongs to no edge, and one of an edge
abbrev pub of_component : ℕ → Part → Subject
of_component c part = record { component = c; part = part; edge = 255; index = 255 }

abbrev pub of_edge : ℕ → ℕ → Part → Subject
of_edge c e part = record { component = c; part = part; edge = e; index = 255 }

-- n parts of one kind
abbrev pub several : List ℕ → ℕ → Sizes → Subject → ℕ → Walk → Walk
several bs end s who n w = counted (λ i. one_part bs end s (numbered who i)) 0 n w

-- the pairs of a receive edge, the first of them here
abbrev pub pairs : List ℕ → ℕ → Sizes → Subject → ℕ → Walk → Walk
pairs bs end s who n w = counted (λ i. one_pair bs end w.at s (numbered who i)) 0 n w

-- the items of edge e, by its kind
abbrev pub items : List ℕ → ℕ → Sizes → ℕ → ℕ → ℕ → ℕ → Walk → Walk
items bs end s c e zero n w = several bs end s (of_edge c e Update) n w
items bs end s c e (suc zero) n w = one_part bs end s (numbered (of_edge c e Channel) 0) w
items bs end s c e (suc (suc kind)) n w = pairs bs end s (of_edge c e Pair) n w

-- the budget of edge e, where edges have one
unfoldable pub budget_part : List ℕ → ℕ → Sizes → ℕ → ℕ → Walk → Walk
budget_part bs end s c e w = cond s.budgets (one_part bs end s (of_edge c e Budget) w) w

-- "The 7 bytes", the budget, then clock bounds, data bounds, items: the edge starts at `from`
unfoldable pub edge_from : List ℕ → ℕ → Sizes → ℕ → ℕ → ℕ → Walk → Walk
edge_from bs end s c e from w =
    items bs end s c e (byte bs from) (byte bs (from + 6))
    (several bs end s (of_edge c e DataBound) (byte bs (from + 5))
    (several bs end s (of_edge c e ClockBound) (byte bs (from + 4)) (budget_part bs end s c e (one_part bs end s (of_edge c e EdgeHead) w))))

unfoldable pub edge : List ℕ → ℕ → Sizes → ℕ → ℕ → Walk → Walk
edge bs end s c e w = cond (going w) (edge_from bs end s c e w.at w) w

-- the edges
abbrev pub edges : List ℕ → ℕ → Sizes → ℕ → ℕ → Walk → Walk
edges bs end s c n w = counted (edge bs end s c) 0 n w

-- ## Components

-- what the ranges of the component that starts there depend on
abbrev pub sizes_from : List ℕ → TableHeader → ℕ → Sizes
sizes_from bs header from =
    record { channels = header.channels; locations = byte bs (from + 2); clocks = byte bs (from + 4); variables = byte bs (from + 5); budgets = header.budgets }

-- where its own bytes end: at its stated length, if the table has as many
abbrev pub end_from : List ℕ → ℕ → ℕ
end_from bs from = from + min (word bs from) (length bs - from)

-- 4: its two length bytes fit the table, and so does the length that they state
unfoldable pub length_stated : List ℕ → ℕ → Walk → Walk
length_stated bs c w =
    judged 4 (of_component c ComponentLength) (word_field 0 0 (suc (length bs - w.at))) (word bs w.at)
    (fits (length bs) (of_component c ComponentLength) 2 w)

-- after its first 7 bytes: "then locations, then edges", and no byte more
unfoldable pub body_from : List ℕ → ℕ → Sizes → ℕ → ℕ → Walk → Walk
body_from bs end s c from w =
    ends end (of_component c ComponentEnd)
    (edges bs end s c (byte bs (from + 6)) (several bs end s (of_component c Location) (byte bs (from + 2)) w))

unfoldable pub component_from : List ℕ → TableHeader → ℕ → ℕ → Walk → Walk
component_from bs header c from w =
    let end = end_from bs from in
    let s = sizes_from bs header from in
    body_from bs end s c from (one_part bs end s (of_component c ComponentHead) (length_stated bs c w))

unfoldable pub component : List ℕ → TableHeader → ℕ → Walk → Walk
component bs header c w = cond (going w) (component_from bs header c w.at w) w

-- the components, "and the last component at the table's end"
unfoldable pub components : List ℕ → Walk → Walk
components bs w =
    ends (length bs) (of_component (pred (byte bs 3)) TableEnd) (counted (component bs (header_at bs)) 0 (byte bs 3) w)

-- Where checks 4 to 6 stop; nowhere where they do not, and where checks 1 to 3 refuse.
unfoldable pub place_of : List ℕ → Place
place_of bs =
    let walked = components bs (record { at = body_start bs; place = nowhere }) in
    cond (eqb (header_of bs) 0) walked.place nowhere
