-- What the code asks of a node: whether its statement may be finished now, the tick at which it is due, and the last tick before it is late.
use Rattle.std.specs.Prelude.{Bool, true, false, not, List, ℕ, eqb, ◌+ℤ◌, take, drop}
use Rattle.model.specs.Lists.{is_none}
use Rattle.model.specs.Reader.{byte, word, complement}
use Rattle.model.specs.Window.{value_at, in_range}
use Rattle.model.specs.Machine.{Node}
use Rattle.model.specs.Run.{Stand, sleeping, sending, listening, finishing, adding, working, taking, elsewhere, nowhere, window_end}
use Rattle.node.specs.declared.Counts.{Counts}
use Rattle.node.specs.declared.Node

-- whether the node may finish its statement without another node
abbrev pub may_finish : ℕ → Node → Stand → Bool
may_finish now r sleeping = eqb now r.t
may_finish now r (sending k) = false
may_finish now r (listening qs) = eqb now (window_end r)
may_finish now r finishing = true
may_finish now r (adding v z) = in_range (value_at r.values v +ℤ z)
may_finish now r working = true
may_finish now r taking = not (is_none r.kept)
may_finish now r elsewhere = true
may_finish now r nowhere = false

-- whether the addition that the registers stand at stays in range
abbrev pub add_fits : List ℕ → Counts → Rattle.node.specs.declared.Node.Node → Bool
add_fits p held r =
    in_range (value_at (take held.variables r.values) (byte (drop r.pc p) 1) +ℤ complement (word (drop r.pc p) 2))

-- a tick that no run reaches, nor one that lies later by an offset
abbrev pub never : ℕ
never = 9223372036854775807

-- the tick at which a tick may not pass
abbrev pub due_tick : Node → Stand → ℕ
due_tick r sleeping = r.t
due_tick r (sending k) = never
due_tick r (listening qs) = window_end r
due_tick r finishing = never
due_tick r (adding v z) = never
due_tick r working = never
due_tick r taking = never
due_tick r elsewhere = never
due_tick r nowhere = never

-- the last tick before the node is late; `next` is the ready of its next passage
abbrev pub last_tick : Node → ℕ → Stand → ℕ
last_tick r next sleeping = never
last_tick r next (sending k) = window_end r
last_tick r next (listening qs) = window_end r
last_tick r next finishing = window_end r
last_tick r next (adding v z) = window_end r
last_tick r next working = window_end r
last_tick r next taking = next
last_tick r next elsewhere = next
last_tick r next nowhere = next
