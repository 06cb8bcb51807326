-- The texts of a process and of the system, as they are written from a table's bytes.
use Rattle.std.specs.Prelude.{Bool, List, [], ◌∷◌, ◌++◌, ℕ, zero, suc, ◌≤◌, ◌<◌, length, drop}
use Rattle.model.specs.Lists.{each, from}
use Rattle.model.specs.Table.{Arc, Component, location_of}
use Rattle.model.specs.Reader.{byte}
use Rattle.model.specs.Places.{arc_length, arc_at}
use Rattle.words.specs.Words.{ascii, decimal}
use Rattle.translator.specs.Front.{arcs_place}
use Rattle.uppaal.specs.Xta.{Location, location}
use Rattle.uppaal.specs.XtaText.{location_text}
use Rattle.uppaal_steps.specs.Steps.{Writable, edge_text}

-- ## A component of a table that was read stands at the front

-- n edges stand whole and can be written; they leave locations of which there are so many
unfoldable pub ArcsWritable : Bool → ℕ → ℕ → List ℕ → Type 0
ArcsWritable b locations zero h = Unit {0}
ArcsWritable b locations (suc n) h = Writable b h × ((arc_at b h).edge.source < locations) × ArcsWritable b locations n (drop (arc_length b h) h)

pub record Exportable (b : Bool) (p : List ℕ) : Type 0 where
  pub locations : arcs_place p ≤ length p
  pub least_locations : 1 ≤ byte p 2
  pub most_locations : byte p 2 ≤ 16
  pub clocks : byte p 4 ≤ 4
  pub variables : byte p 5 ≤ 4
  pub least_arcs : 1 ≤ byte p 6
  pub most_arcs : byte p 6 ≤ 32
  pub arcs : ArcsWritable b (byte p 2) (byte p 6) (drop (arcs_place p) p)

-- ## Names, numbered from 0

-- one behind another
abbrev pub further_name : List ℕ → ℕ → List ℕ
further_name letter k = ascii ", " ++ (letter ++ decimal k)

unfoldable pub names_text : List ℕ → List ℕ → ℕ → List ℕ
unfolding decimal each
names_text before letter zero = []
names_text before letter (suc n) = before ++ (letter ++ decimal 0 ++ (each (further_name letter) (from 1 n) ++ ascii ";\n"))

-- what stands before a process's locations
abbrev pub head_text : ℕ → ℕ → ℕ → List ℕ
head_text p clocks variables =
    ascii "\nprocess P" ++ decimal p
    ++ (ascii "() {\n" ++ (names_text (ascii "clock ") (ascii "x") clocks ++ names_text (ascii "int[-32768,32767] ") (ascii "v") variables))

-- ## Locations and edges, each behind another

abbrev pub place_text : Location → List ℕ
place_text l = ascii ",\n  " ++ location_text l

-- one of the table's
abbrev pub plain_text : ℕ → Rattle.model.specs.declared.Location.Location → List ℕ
plain_text n l = place_text (record { name = location n; invariant = record { clock = l.clock; bound = l.bound } ∷ [] })

-- of the edges from number e on their transitions, or their waiting locations
unfoldable pub edges_text : Bool → Component → ℕ → List Arc → List ℕ
unfolding edge_text
edges_text steps C e [] = []
edges_text steps C e (a ∷ as') = edge_text steps (location_of C a.edge.source) C.clocks e a ++ edges_text steps C (suc e) as'
