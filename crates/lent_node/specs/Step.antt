-- One step of a node whose registers are lent, and a message that it takes: what they leave, and when they are carried out.
use Rattle.std.specs.Prelude.{Bool, true, cond, ◌&&◌, not, List, ℕ, leb, eqb, ◌+ℤ◌, length, take, drop}
use Rattle.model.specs.Lists.{all}
use Rattle.model.specs.Reader.{byte, word, complement}
use Rattle.model.specs.Window.{value_at, in_range}
use Rattle.model.specs.Machine.{finish}
use Rattle.model.specs.Run.{names, stand_at}
use Rattle.node.specs.declared.Counts.{Counts}
use Rattle.node.specs.declared.Node.{Node}
use Rattle.node.specs.Views.{rest_at, node_of, op_in}
use Rattle.node.specs.After.{after, after_message}

-- how many clocks and variables the node has
abbrev pub held_of : ℕ → ℕ → Counts
held_of clocks variables = record { clocks = clocks; variables = variables }

-- there is a place for each
abbrev pub places_fit : Counts → Bool
places_fit held = leb held.clocks 4 && leb held.variables 4

-- the highest number from which a register that grows may grow further
abbrev pub highest : ℕ
highest = 4000000000000000000

abbrev pub registers_fit : Node → Bool
registers_fit r = leb r.t highest && leb r.sleeps highest && all (λ x. leb x highest) r.clocks

-- an addition at the front stays in range
abbrev pub adds_fit : List ℕ → Counts → Node → Bool
adds_fit h held r = cond (eqb (op_in h) 2) (in_range (value_at (take held.variables r.values) (byte h 1) +ℤ complement (word h 2))) true

-- whether the statement at the program counter of the part p is carried out
abbrev pub may_step : List ℕ → Counts → Node → Bool
may_step p held r = leb (length p) 65535 && places_fit held && registers_fit r && adds_fit (drop r.pc p) held r

-- the registers after the step
abbrev pub stepped_of : List ℕ → Counts → Node → Node
stepped_of p held r = cond (may_step p held r) (after p held r) r

-- the registers after a message on channel k
abbrev pub message_of : List ℕ → ℕ → Node → Node
message_of p k r = cond (leb (length p) 65535) (after_message p k r) r

-- ## In the words of the definitions

-- an edge is kept if a take stands at the front
abbrev pub take_fits : List ℕ → Node → Bool
take_fits h r = cond (eqb (op_in h) 16) r.kept.some true

-- the node after a step: its statement is finished, or nothing has changed
abbrev pub step_of : List ℕ → Counts → Node → Rattle.model.specs.Machine.Node
step_of p held r =
    cond (may_step p held r && take_fits (drop r.pc p) r) (finish p (node_of p held r) (node_of p held r).rest) (node_of p held r)

-- whether the node takes a message on channel k
abbrev pub may_take : List ℕ → ℕ → Node → Bool
may_take p k r = leb (length p) 65535 && (names k (stand_at (rest_at p r.pc)) && not r.taken)
