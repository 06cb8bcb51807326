-- The lines as the code writes them: over all edges of the component, with all four clocks and variables.
use Rattle.std.specs.Prelude.{cond, List, [], ℕ, eqb}
use Rattle.model.specs.declared.Location.{Location}
use Rattle.model.specs.Lists.{each}
use Rattle.model.specs.Table.{Arc, Component, location_of, arc_of}
use Rattle.model.specs.Window.{Entry}
use Rattle.model.specs.Reasons.{edges_from}
use Rattle.reason_text.specs.ReasonText.{line_at}

-- nothing of an edge that leaves another location
abbrev pub line_if_here : Location → Entry → ℕ → ℕ → ℕ → ℕ → Arc → List ℕ
line_if_here l at taken ready end e a = cond (eqb a.edge.source at.location) (line_at l at taken ready end e a) []

abbrev pub lines_at : Component → Entry → ℕ → ℕ → ℕ → List ℕ
lines_at C at taken ready end = each (λ e. line_at (location_of C at.location) at taken ready end e (arc_of C e)) (edges_from C at.location)
