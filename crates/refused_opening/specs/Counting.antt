-- The reasons of edges that are no candidates, counted edge by edge; and a first update that is out of range.
use Rattle.std.specs.Prelude.{List, ℕ, eqb, length, Some, None}
use Rattle.std.specs.Prelude.{Option as Found}
use Rattle.std.proofs.Math.Option.{Option, none, some}
use Rattle.model.specs.declared.Location.{Location}
use Rattle.model.specs.Lists.{only}
use Rattle.model.specs.Table.{Arc}
use Rattle.model.specs.Window.{Entry, blocked, windowless}
use Rattle.opening_place.specs.Opening.{Reasons}
use Rattle.window.specs.declared.Standing.{Standing}
use Rattle.window.specs.declared.Standing.TheVariants.{Elsewhere, Blocked, Windowless, Candidate}
use Rattle.refused_opening.specs.declared.Tally.{Tally}
use Rattle.refused_opening.specs.declared.Overflow.{Overflow}
use Rattle.opening_place.specs.Opening.{Overflow as ToldOverflow}

-- ## Edges

-- how many of each kind it is
abbrev pub leaves : Standing → ℕ
leaves Elsewhere = 0
leaves (Blocked j) = 1
leaves Windowless = 1
leaves (Candidate ready past) = 1

abbrev pub fails : Standing → ℕ
fails Elsewhere = 0
fails (Blocked j) = 1
fails Windowless = 0
fails (Candidate ready past) = 0

abbrev pub shut : Standing → ℕ
shut Elsewhere = 0
shut (Blocked j) = 0
shut Windowless = 1
shut (Candidate ready past) = 0

abbrev pub reasons_of : Tally → Reasons
reasons_of t = record { leaving = t.leaving; blocked = t.blocked; windowless = t.windowless }

-- the reasons among some edges: for all edges of a component they are `reasons`
abbrev pub leaving_of : Entry → List Arc → List Arc
leaving_of at as' = only (λ a. eqb a.edge.source at.location) as'

abbrev pub reasons_among : Location → Entry → List Arc → Reasons
reasons_among l at as' =
    record {
      leaving = length (leaving_of at as');
      blocked = length (only (blocked at) (leaving_of at as'));
      windowless = length (only (windowless l at) (leaving_of at as'));
    }

-- ## Updates

-- the edge taken and its update that leaves the range
abbrev pub overflow_of : Found Overflow → Option ToldOverflow
overflow_of None = none
overflow_of (Some o) = some (record { edge = o.edge; update = o.update })
