-- Document 01, "The program": statements, the blocks, the bytes, and the part of one node.
use Rattle.std.specs.Prelude.{cond, List, [], ◌∷◌, ◌++◌, map, ℕ, zero, suc, ◌+◌, ◌/◌, leb, ltb, eqb, ℤ, length, take, drop}
use Rattle.std.proofs.Math.Option.{Option, none, some}
use Rattle.model.specs.declared.Action.{Action}
use Rattle.model.specs.declared.Action.TheVariants.{Internal, Send, Receive}
use Rattle.model.specs.declared.Location.{Location}
use Rattle.model.specs.declared.ClockGuard.{ClockGuard}
use Rattle.model.specs.declared.DataGuard.{DataGuard}
use Rattle.model.specs.declared.Update.{Update}
use Rattle.model.specs.declared.Pair.{Pair}
use Rattle.model.specs.Lists.{be16, each, below}
use Rattle.model.specs.Table.{Arc, Component, Read, size, arc_of, location_of}
use Rattle.model.specs.Bytes.{unsigned}
use Rattle.model.specs.Reader.{byte, word}
use Rattle.model.specs.Window.{masked}

-- The statements, by document 01's names. A listen holds its pairs: they stand behind it, "skipped when run".
pub data Statement : Type 0 where
  sleep : Statement
  set_to : ℕ → ℤ → Statement
  add_to : ℕ → ℤ → Statement
  done : Statement
  send : ℕ → Statement
  listen : List Pair → Statement
  age : ℕ → Statement
  reset : ℕ → Statement
  enter : ℕ → Statement
  trial : Statement
  low : ℕ → ℕ → Statement
  high : ℕ → ℕ → Statement
  data_low : ℕ → ℤ → Statement
  data_high : ℕ → ℤ → Statement
  keep : ℕ → Statement
  budget : ℕ → Statement
  take_edge : Statement
  choose : Statement

-- ## Blocks

-- "per clock bound 0B low, and 0C high unless 65,535"
abbrev pub clock_tests : List ClockGuard → List Statement
clock_tests [] = []
clock_tests (g ∷ gs) = low g.clock g.low ∷ cond (eqb g.high 65535) (clock_tests gs) (high g.clock g.high ∷ clock_tests gs)

-- "per data bound 0D, 0E (low, high)"
abbrev pub data_tests : List DataGuard → List Statement
data_tests [] = []
data_tests (g ∷ gs) = data_low g.variable g.low ∷ data_high g.variable g.high ∷ data_tests gs

-- document 02, wish 8: "A new statement 12, k = budget, stands before keep in version 3 programs only"
abbrev pub budget_test : Option ℕ → List Statement
budget_test none = []
budget_test (some b) = budget b ∷ []

-- "per edge from it, 0A trial; 0C high for the invariant; per clock bound ..; per data bound ..; 0F keep, k = edge"
abbrev pub trial_of : Location → ℕ → Arc → List Statement
trial_of l e a = trial ∷ high l.clock l.bound ∷ (clock_tests a.clock_guards ++ (data_tests a.data_guards ++ (budget_test a.budget ++ (keep e ∷ []))))

-- "Location block: per edge from it": the edges from number e on that leave from `here`
unfoldable pub trials : Location → ℕ → ℕ → List Arc → List Statement
trials l here e [] = []
trials l here e (a ∷ as') = cond (eqb a.edge.source here) (trial_of l e a ++ trials l here (suc e) as') (trials l here (suc e) as')

-- "Last 10 take."
unfoldable pub location_block : Component → ℕ → List Statement
unfolding trials
location_block C here = trials (location_of C here) here 0 C.arcs ++ (take_edge ∷ [])

-- "Work. Internal: 01 set or 02 add (a = variable) each, then 03 done. Send: 04, a = channel. Receive: 05 listen, .. then pairs 06"
abbrev pub update_of : Update → Statement
update_of u = cond u.adds (add_to u.variable u.number) (set_to u.variable u.number)

abbrev pub work_of : Arc → Action → List Statement
work_of a Internal = map update_of a.updates ++ (done ∷ [])
work_of a (Send k) = send k ∷ []
work_of a Receive = listen a.pairs ∷ []

-- "per clock 08 zero if masked, else 07 age"
abbrev pub ageing : ℕ → ℕ → Statement
ageing mask i = cond (masked mask i) (reset i) (age i)

-- "Edge block: 00 sleep; work; per clock ..; 09 enter, k = destination; 11 choose."
abbrev pub edge_block_of : ℕ → Arc → List Statement
edge_block_of clocks a =
    sleep
    ∷ (work_of a a.edge.action
    ++ (map (ageing a.edge.mask) (below clocks) ++ (enter a.edge.destination ∷ choose ∷ [])))

unfoldable pub edge_block : Component → ℕ → List Statement
edge_block C e = edge_block_of C.clocks (arc_of C e)

-- ## Bytes

-- "A statement is op (hexadecimal), a, k (2 bytes); fields not named are 0."
abbrev pub quad : ℕ → ℕ → ℕ → List ℕ
quad op a k = op ∷ a ∷ be16 k

abbrev pub pair_quad : Pair → List ℕ
pair_quad q = quad 0x06 q.channel q.location

unfoldable pub code : Statement → List ℕ
unfolding each
code sleep = quad 0x00 0 0
code (set_to v k) = quad 0x01 v (unsigned k)
code (add_to v k) = quad 0x02 v (unsigned k)
code done = quad 0x03 0 0
code (send k) = quad 0x04 k 0
code (listen qs) = quad 0x05 (length qs) 0 ++ each pair_quad qs
code (age i) = quad 0x07 i 0
code (reset i) = quad 0x08 i 0
code (enter l) = quad 0x09 0 l
code trial = quad 0x0A 0 0
code (low i k) = quad 0x0B i k
code (high i k) = quad 0x0C i k
code (data_low v k) = quad 0x0D v (unsigned k)
code (data_high v k) = quad 0x0E v (unsigned k)
code (keep e) = quad 0x0F 0 e
code (budget k) = quad 0x12 0 k
code take_edge = quad 0x10 0 0
code choose = quad 0x11 0 0

unfoldable pub block_bytes : List Statement → List ℕ
unfolding each code
block_bytes b = each code b

-- how many statements of four bytes a block has, a listen's pairs counted each
unfoldable pub statements : List Statement → ℕ
unfolding block_bytes
statements b = length (block_bytes b) / 4

-- "for each location's block, then each edge's block"
unfoldable pub blocks : Component → List (List Statement)
unfolding location_block edge_block
blocks C = map (location_block C) (below (length C.locations)) ++ map (edge_block C) (below (length C.arcs))

-- "a 2-byte start, counted in statements", from the component's first block on
unfoldable pub start_bytes : ℕ → List (List Statement) → List ℕ
unfolding statements
start_bytes at [] = []
start_bytes at (b ∷ bs) = be16 at ++ start_bytes (at + statements b) bs

-- "Per component: length, these two bytes included (2 bytes); locations; edges; initial location; a zero byte; [starts]; then those blocks in that order."
unfoldable pub node_body : Component → List ℕ
unfolding blocks start_bytes block_bytes each
node_body C =
    (length C.locations ∷ length C.arcs ∷ C.initial ∷ 0 ∷ []) ++ (start_bytes 0 (blocks C) ++ each block_bytes (blocks C))

unfoldable pub node_bytes : Component → List ℕ
unfolding node_body
node_bytes C = be16 (2 + length (node_body C)) ++ node_body C

-- "Version 1; total length (2 bytes); component count; H (2 bytes)." Then each component. Document 02, wish 2: "A program begins with
-- its table's version".
unfoldable pub program_bytes : Read → List ℕ
unfolding each node_bytes
program_bytes t =
    let rest = each node_bytes t.table.components in
    (t.version ∷ be16 (6 + length rest)) ++ ((size t.table ∷ be16 t.horizon) ++ rest)

-- ## The part of one node, for any bytes

-- a range of bytes: its start and its length
pub record Range : Type 0 where
  pub start : ℕ
  pub long : ℕ

-- "a header or length that runs out of the bytes, gives an empty part"
abbrev pub no_part : Range
no_part = record { start = 0; long = 0 }

-- node c of those that begin at `at`: the lengths are walked
unfoldable pub part_from : List ℕ → ℕ → ℕ → Range
part_from bs at zero =
    let found : Range = record { start = at; long = word bs at } in
    let fits = cond (leb (at + word bs at) (length bs)) found no_part in
    cond (leb (at + 2) (length bs)) fits no_part
part_from bs at (suc c) =
    let onward = part_from bs (at + word bs at) c in
    let fits = cond (leb (at + word bs at) (length bs)) onward no_part in
    cond (leb (at + 2) (length bs)) fits no_part

-- "The part of the program bytes that belongs to one node can be had by its number; a number without a node .. gives an empty part."
unfoldable pub part_of : List ℕ → ℕ → Range
unfolding part_from
part_of bs c =
    let found = part_from bs 6 c in
    let present = cond (ltb c (byte bs 3)) found no_part in
    cond (leb 6 (length bs)) present no_part

abbrev pub within : Range → List ℕ → List ℕ
within r bs = take r.long (drop r.start bs)
