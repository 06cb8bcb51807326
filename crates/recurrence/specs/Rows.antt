-- The readies of a longer schedule, from the rows of the table's own: what code goes by. Nothing that is promised rests on these.
use Rattle.std.specs.Prelude.{cond, List, ℕ, ◌+◌, ◌-◌, ◌*◌, ◌/◌, ◌%◌, ltb, length}
use Rattle.std.proofs.Math.Option.{Option, none, some}
use Rattle.model.specs.Lists.{only}
use Rattle.model.specs.Schedule.{Passage, own}
use Rattle.model.specs.Checks.{passage_at}

-- how many of component c's passages are entered before the tick
abbrev pub rows_before : List Passage → ℕ → ℕ → ℕ
rows_before S c x = length (only (λ v. ltb v.entry.tick x) (own c S))

-- Passage number k of a component that has u passages before a and w before b: the number of a passage before b, and how many periods it is moved.
-- Those before b are themselves; from there on the w − u passages between a and b come again.
abbrev pub place_row : ℕ → ℕ → ℕ → ℕ
place_row u w k = cond (ltb k w) k (u + (k - u) % (w - u))

abbrev pub place_turns : ℕ → ℕ → ℕ → ℕ
place_turns u w k = cond (ltb k w) 0 ((k - u) / (w - u))

-- the ready of passage k of component c, to whatever horizon; a component that is not there has none
abbrev pub rows_ready : List Passage → ℕ → ℕ → ℕ → ℕ → Option ℕ
rows_ready S a b c k =
    let u = rows_before S c a in
    let w = rows_before S c b in
    cond (ltb u w) (some ((passage_at (own c S) (place_row u w k)).ready + place_turns u w k * (b - a))) none
