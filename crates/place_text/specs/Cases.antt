-- Places in words, computed, against texts that were written down by hand.
use Rattle.std.specs.Prelude.{◌≡◌, refl, Bool, true, false, ℕ}
use Rattle.text.specs.Words.{ascii}
use Rattle.refusal_place.specs.declared.Place.{Place}
use Rattle.place_text.specs.PlaceText.{place_text}

-- number, component, part, edge, index, start, offset, width, value, least, limit, and whether it may be unbounded
abbrev place : ℕ → ℕ → ℕ → ℕ → ℕ → ℕ → ℕ → ℕ → ℕ → ℕ → ℕ → Bool → Place
place number component part edge index start offset width value least limit unbounded =
    record {
      number = number;
      component = component;
      part = part;
      edge = edge;
      index = index;
      start = start;
      offset = offset;
      width = width;
      value = value;
      least = least;
      limit = limit;
      unbounded = unbounded;
    }

-- docs/FORMATS.md: 1 to 16 locations
pub a_count : place_text (place 5 0 2 255 255 7 2 1 17 1 17 false) ≡ ascii "Component 0, its first 7 bytes (byte 9): count of locations is 17, allowed are 1 to 16.\n"
unfolding place_text
a_count = refl

-- a bound is 0 to 60,000
pub a_bound : place_text (place 5 0 3 255 1 17 1 2 60170 0 60001 false) ≡ ascii "Component 0, location 1 (byte 18): bound is 60170, allowed are 0 to 60000.\n"
unfolding place_text
a_bound = refl

-- and that of a clock may be none
pub a_high : place_text (place 5 0 5 0 0 27 3 2 65534 0 60001 true) ≡ ascii "Component 0, edge 0, its clock bound 0 (byte 30): high is 65534, allowed are 0 to 60000, or 65535 for none.\n"
unfolding place_text
a_high = refl

-- a component without variables has no data bound
pub no_variable : place_text (place 5 0 6 0 0 32 0 1 0 0 0 false) ≡ ascii "Component 0, edge 0, its data bound 0 (byte 32): variable is 0, none is allowed.\n"
unfolding place_text
no_variable = refl

-- a component that states 294 bytes in a table that has 96 of it
pub long_component : place_text (place 4 0 1 255 255 7 0 2 294 0 97 false) ≡ ascii "Component 0, its length (byte 7): it is 294, allowed are 0 to 96.\n"
unfolding place_text
long_component = refl

-- an edge more than there are
pub an_edge_missing : place_text (place 4 0 4 2 255 45 0 0 0 7 8193 false) ≡ ascii "Component 0, edge 2 (byte 45): bytes needed: 7, there: 0.\n"
unfolding place_text
an_edge_missing = refl

-- and one less
pub an_edge_more : place_text (place 4 0 10 255 255 33 0 0 12 0 1 false) ≡ ascii "Component 0, its end (byte 33): bytes left over: 12.\n"
unfolding place_text
an_edge_more = refl

-- a component that the header does not count
pub a_component_more : place_text (place 4 0 11 255 255 45 0 0 58 0 1 false) ≡ ascii "Component 0, behind it (byte 45): bytes left over: 58.\n"
unfolding place_text
a_component_more = refl

-- a channel in two pairs
pub channel_twice : place_text (place 6 1 9 0 1 75 0 1 0 0 1 false) ≡ ascii "Component 1, edge 0, its pair 1 (byte 75): channel 0 is listed before.\n"
unfolding place_text
channel_twice = refl

-- document 02, wish 8: "a 2-byte budget (0 to 60,000), a part of its own, after each edge's 7 bytes"
pub a_budget : place_text (place 5 0 12 0 255 27 0 2 60001 0 60001 false) ≡ ascii "Component 0, edge 0, its budget (byte 27): it is 60001, allowed are 0 to 60000.\n"
unfolding place_text
a_budget = refl

pub a_budget_cut : place_text (place 4 1 12 2 255 96 0 0 1 2 8193 false) ≡ ascii "Component 1, edge 2, its budget (byte 96): bytes needed: 2, there: 1.\n"
unfolding place_text
a_budget_cut = refl
