-- What the code keeps while it makes the schedule, in the words of the definitions: the open passages, the rows, and the list so far.
use Rattle.std.specs.Prelude.{◌≡◌, List, [], map, ℕ, ◌-◌, ◌≤◌, ◌<◌, length, take, get_or}
use Rattle.std.proofs.Math.Option.{Option, some}
use Rattle.model.specs.Lists.{All, Answer, accepted, refused, ◌after◌}
use Rattle.model.specs.Table.{Component, size}
use Rattle.model.specs.Window.{Entry, leaves}
use Rattle.model.specs.Places.{start_of, read_of, component_in}
use Rattle.model.specs.Schedule.{Passage, passage_arc, message_in, opening, OpenedSoFar, begin, go_on, bare}
use Rattle.model.specs.Checks.{limit, passage_at}
use Rattle.model.specs.Calls.{verdict_of}
use Rattle.model.specs.declared.Verdict.TheVariants.{Accepted, Refused}
use Rattle.opening_place.specs.Opening.{Stop, begin_stop, schedule_stop}
use Rattle.window.specs.declared.TakenEdge.{TakenEdge}
use Rattle.window.specs.Views.{entry_of, opening_of, Placed}
use Rattle.window.specs.Indexed.{Indexed}
use Rattle.rows.specs.Rows.{num, message_of, row_passage, rows_of, RowsPlaced, Told}
use Rattle.schedule.specs.declared.Node.{Node}
use Rattle.schedule.specs.declared.Turn.{Turn}
use Rattle.schedule.specs.declared.Opened.{Opened}
use Rattle.schedule.specs.declared.Scheduled.{Scheduled}
use Rattle.schedule.specs.declared.Ended.{Ended}

-- the entry with the clocks and variables that the component has
abbrev pub cut : Component → Entry → Entry
cut C e = record { location = e.location; tick = e.tick; clocks = take C.clocks e.clocks; values = take C.variables e.values }

-- r has the least of the first n numbers, on a tie the lowest place
pub record Soonest (ends : List ℕ) (n r : ℕ) : Type 0 where
  pub there : r < n
  pub least : (i : ℕ) → i < n → get_or ends r 0 ≤ get_or ends i 0
  pub lowest : (i : ℕ) → i < r → get_or ends r 0 < get_or ends i 0

-- the index has the edges of all components
abbrev pub EdgesIndexed : List ℕ → List ℕ → Type 0
EdgesIndexed bs index = (c : ℕ) → c < size (read_of bs).table → Indexed bs index c (start_of bs c)

-- ## One passage closes, the next opens

-- what the code keeps of an open passage of component c goes with its row, of n rows
pub record Stands (l : List ℕ) (n c : ℕ) (node : Node) (until : ℕ) : Type 0 where
  pub row : node.row < n
  pub component : num l node.row 0 ≡ c
  pub place : num l node.row 7 ≡ node.place
  pub tick : num l node.row 3 ≡ node.entry.tick
  pub end : num l node.row 5 ≡ until
  pub young : All (λ x. x ≤ node.entry.tick) node.entry.clocks

-- the passage's message, the entry that it leads to, and what opens there
pub record Turned (bs l : List ℕ) (n c H : ℕ) (node : Node) (end : ℕ) (t : Turn) : Type 0 where
  pub message : message_of t.message ≡ message_in (read_of bs).table H (rows_of l n) (row_passage l node.row)
  pub leads : entry_of t.at
      ≡ leaves (passage_arc (read_of bs).table (row_passage l node.row)) (message_in (read_of bs).table H (rows_of l n) (row_passage l node.row)) end (entry_of node.entry)
  pub there : t.at.location < length (component_in bs c).locations
  pub young : All (λ x. x ≤ end) t.at.clocks
  pub opens : opening_of c (component_in bs c) (entry_of t.at) t.opening ≡ opening c (component_in bs c) (entry_of t.at)
  pub placed : Placed bs (start_of bs c) c t.opening

-- ## All open passages

-- what is kept of a passage over edge t, entered there, in that row
abbrev pub kept_of : Rattle.window.specs.declared.Entry.Entry → TakenEdge → ℕ → Node
kept_of at t row = record { entry = at; place = t.place; row = row }

-- node and until are what the code keeps of v, the open passage of component c
pub record Open (bs l : List ℕ) (n c : ℕ) (node : Node) (until : ℕ) (v : Passage) : Type 0 where
  pub component : v.component ≡ c
  pub entry : v.entry ≡ cut (component_in bs c) (entry_of node.entry)
  pub end : v.end ≡ until
  pub row : node.row < n
  pub shown : bare (row_passage l node.row) ≡ bare v
  pub place : num l node.row 7 ≡ node.place
  pub young : All (λ x. x ≤ node.entry.tick) node.entry.clocks

-- what an index past the end reads
abbrev pub blank : Node
blank = record { entry = record { location = 0; tick = 0; clocks = []; values = [] }; place = 0; row = 0 }

-- the first k components have an open passage
pub record Going (bs l : List ℕ) (n k : ℕ) (nodes : List Node) (ends : List ℕ) (p : OpenedSoFar) : Type 0 where
  pub placed : RowsPlaced bs l n
  pub rows : map bare (rows_of l n) ≡ map bare p.listed
  pub full : length p.current ≡ k
  pub each : (c : ℕ) → c < k → Open bs l n c (get_or nodes c blank) (get_or ends c 0) (passage_at p.current c)
  pub entered : (i c : ℕ) → i < n → c < k → num l i 3 ≤ get_or ends c 0

-- the passages so far are those that opened at tick 0
abbrev pub fresh : List Passage → OpenedSoFar
fresh vs = record { listed = vs; current = vs }

-- the openings at tick 0
abbrev pub begun : List ℕ → Answer (List Passage)
begun bs = begin limit 0 (read_of bs).table.components []

-- all components have opened at tick 0, and each has the row of its number
pub record Started (bs l : List ℕ) (nodes : List Node) (ends : List ℕ) : Type 0 where
  pub first : List Passage
  pub begins : begun bs ≡ accepted first
  pub going : Going bs l (size (read_of bs).table) (size (read_of bs).table) nodes ends (fresh first)
  pub own : (c : ℕ) → c < size (read_of bs).table → (get_or nodes c blank).row ≡ c

-- an opening that is refused: its number, how many passages were opened before it, the component, and the entry
abbrev pub stop_of : List ℕ → ℕ → ℕ → ℕ → Rattle.window.specs.declared.Entry.Entry → Stop
stop_of bs number passage c at =
    record { number = number; passage = passage; component = c; automaton = component_in bs c; entry = cut (component_in bs c) (entry_of at) }

-- where the openings at tick 0 stop, and where the schedule does
abbrev pub first_stop : List ℕ → Option Stop
first_stop bs = begin_stop limit 0 (read_of bs).table.components []

abbrev pub stop_in : List ℕ → Option Stop
stop_in bs = schedule_stop limit (read_of bs).table (read_of bs).horizon

-- they stop with number k at the opening of component c that is passage n, entered so; the component and the location are there
pub record StopsAt (bs : List ℕ) (stopped : Option Stop) (k n c : ℕ) (at : Rattle.window.specs.declared.Entry.Entry) : Type 0 where
  pub stop : stopped ≡ some (stop_of bs k n c at)
  pub few : n ≤ 1024
  pub component : c < size (read_of bs).table
  pub location : at.location < length (component_in bs c).locations

pub record Begins (bs later : List ℕ) (r : Opened) : Type 0 where
  pub verdict : r.verdict ≡ verdict_of (begun bs)
  pub started : r.verdict ≡ Accepted → Started bs later r.nodes r.ends
  pub stops : (k c : ℕ) → r.verdict ≡ Refused k c → StopsAt bs (first_stop bs) k c c r.at

-- ## The whole schedule, with the messages of the passages that end before the horizon

abbrev pub unfinished : List ℕ → Answer (List Passage)
unfinished bs = begun bs after λ vs. go_on (read_of bs).table (read_of bs).horizon (limit - size (read_of bs).table) (fresh vs)

pub record Listed (bs : List ℕ) (a : Answer (List Passage)) (r : Scheduled) (later : List ℕ) : Type 0 where
  pub verdict : r.verdict ≡ verdict_of a
  pub count : (S : List Passage) → a ≡ accepted S → r.count ≡ length S
  pub rows : (S : List Passage) → a ≡ accepted S → map bare (rows_of later r.count) ≡ map bare S
  pub placed : RowsPlaced bs later r.count
  pub told : (i : ℕ) → i < r.count → num later i 5 < (read_of bs).horizon → Told bs (read_of bs).horizon later r.count i
  pub none : (k c : ℕ) → a ≡ refused k c → r.count ≡ 0

-- after a refusal the opening refused is told
abbrev pub Stops : List ℕ → Ended → Type 0
Stops bs r = (k c : ℕ) → r.scheduled.verdict ≡ Refused k c → StopsAt bs (stop_in bs) k r.passage c r.at
