-- The registers after one statement, field by field (document 01, 'The program', last paragraph). What a line does not name stays as it is.
use Rattle.std.specs.Prelude.{Bool, true, false, cond, ◌&&◌, not, List, [], ◌∷◌, ℕ, ◌+◌, ◌-◌, min, max, leb, ltb, eqb, ℤ, pos, ◌+ℤ◌, get_or, set, take, drop}
use Rattle.std.specs.Int.Signed.{le_z}
use Rattle.model.specs.Reader.{byte, word, complement}
use Rattle.model.specs.Window.{clock_at, value_at, paired}
use Rattle.model.specs.Machine.{number_in, statement_length, block_place}
use Rattle.model.specs.Run.{names, pairs_at, stand_at}
use Rattle.node.specs.declared.Counts.{Counts}
use Rattle.node.specs.declared.Trial.{Trial}
use Rattle.node.specs.declared.Kept.{Kept}
use Rattle.node.specs.declared.Node.{Node}
use Rattle.node.specs.Views.{rest_at, op_in}

-- ## Trials

-- "Trial starts with ready delay 0"
abbrev pub new_trial : Trial
new_trial = record { ready = 0; ended = false; end = 0; good = true }

-- "low raises it to k − clock"
abbrev pub raised_to : Trial → ℕ → ℕ → Trial
raised_to x k clock = record { ready = max x.ready (k - clock); ended = x.ended; end = x.end; good = x.good }

-- "high lowers the trial's end to k − clock; a bound not met fails the trial"
abbrev pub lowered_to : Trial → ℕ → ℕ → Trial
lowered_to x k clock =
    record { ready = x.ready; ended = true; end = cond x.ended (min x.end (k - clock)) (k - clock); good = x.good && leb clock k }

abbrev pub met_by : Trial → Bool → Trial
met_by x b = record { ready = x.ready; ended = x.ended; end = x.end; good = x.good && b }

-- "A new statement 12 .. fails the trial of a shorter window"
abbrev pub spans_by : Trial → ℕ → Bool
spans_by x k = cond x.ended (leb (x.ready + k) x.end) true

-- "Keep applies the candidate rule": a candidate that is ready earlier than the edge kept takes its place
abbrev pub kept_by : Trial → ℕ → Kept → Kept
kept_by x edge k =
    let candidate = x.ended && x.good && ltb x.ready x.end in
    let late = k.some && leb k.ready x.ready in
    cond (candidate && not late) (record { some = true; edge = edge; ready = x.ready; end = x.end }) k

abbrev pub nothing_kept : Kept
nothing_kept = record { some = false; edge = 0; ready = 0; end = 0 }

-- ## The registers with other clocks, variables, location, trial, edge kept, one more sleep, at another place

module _ (r : Node) where
  abbrev pub clocked : List ℕ → Node
  clocked l = record { pc = r.pc; location = r.location; clocks = l; values = r.values; t = r.t; n = r.n; d = r.d; edge = r.edge; taken = r.taken; goes = r.goes; tried = r.tried; kept = r.kept; sleeps = r.sleeps }

  abbrev pub valued : List ℤ → Node
  valued l = record { pc = r.pc; location = r.location; clocks = r.clocks; values = l; t = r.t; n = r.n; d = r.d; edge = r.edge; taken = r.taken; goes = r.goes; tried = r.tried; kept = r.kept; sleeps = r.sleeps }

  abbrev pub entered : ℕ → Node
  entered l = record { pc = r.pc; location = l; clocks = r.clocks; values = r.values; t = r.t; n = r.n; d = r.d; edge = r.edge; taken = false; goes = r.goes; tried = r.tried; kept = r.kept; sleeps = r.sleeps }

  abbrev pub trying : Trial → Node
  trying x = record { pc = r.pc; location = r.location; clocks = r.clocks; values = r.values; t = r.t; n = r.n; d = r.d; edge = r.edge; taken = r.taken; goes = r.goes; tried = x; kept = r.kept; sleeps = r.sleeps }

  abbrev pub keeping : Kept → Node
  keeping k = record { pc = r.pc; location = r.location; clocks = r.clocks; values = r.values; t = r.t; n = r.n; d = r.d; edge = r.edge; taken = r.taken; goes = r.goes; tried = r.tried; kept = k; sleeps = r.sleeps }

  abbrev pub sleeping : Node
  sleeping = record { pc = r.pc; location = r.location; clocks = r.clocks; values = r.values; t = r.t; n = r.n; d = r.d; edge = r.edge; taken = r.taken; goes = r.goes; tried = r.tried; kept = r.kept; sleeps = r.sleeps + 1 }

  abbrev pub moved : ℕ → Node
  moved pc = record { pc = pc; location = r.location; clocks = r.clocks; values = r.values; t = r.t; n = r.n; d = r.d; edge = r.edge; taken = r.taken; goes = r.goes; tried = r.tried; kept = r.kept; sleeps = r.sleeps }

  -- a message is taken, and enter will go to that location
  abbrev pub told : ℕ → Node
  told location = record { pc = r.pc; location = r.location; clocks = r.clocks; values = r.values; t = r.t; n = r.n; d = r.d; edge = r.edge; taken = true; goes = location; tried = r.tried; kept = r.kept; sleeps = r.sleeps }

  -- in the passage of the edge kept
  abbrev pub passing : ℕ → ℕ → ℕ → Node
  passing pc t d =
      record {
        pc = pc;
        location = r.location;
        clocks = r.clocks;
        values = r.values;
        t = t;
        n = r.kept.ready;
        d = d;
        edge = r.kept.edge;
        taken = r.taken;
        goes = r.goes;
        tried = r.tried;
        kept = nothing_kept;
        sleeps = r.sleeps;
      }

-- ## A statement that leads to no other place; h are its bytes, and the node stands behind it already

module _ (h : List ℕ) (held : Counts) (r : Node) where
  -- clock a and variable a become x; one that the node does not have stays as it is
  abbrev pub clock_set : ℕ → Node
  clock_set x = cond (ltb (byte h 1) held.clocks) (clocked r (set r.clocks (byte h 1) x)) r

  abbrev pub value_set : ℤ → Node
  value_set x = cond (ltb (byte h 1) held.variables) (valued r (set r.values (byte h 1) x)) r

  -- by op, from 00 on
  abbrev pub effects : List Node
  effects =
      let z = complement (word h 2) in
      let clock = clock_at (take held.clocks r.clocks) (byte h 1) in
      let value = value_at (take held.variables r.values) (byte h 1) in
      -- 00 sleep, 01 set, 02 add
      sleeping r ∷ value_set z ∷ value_set (get_or r.values (byte h 1) (pos 0) +ℤ z)
      -- 03 done, 04 send and 05 listen change no register; 06 is no statement of its own
      ∷ r
      ∷ r
      ∷ r
      ∷ r
      -- 07: "Age adds n + d"; 08 zero
      ∷ clock_set (get_or r.clocks (byte h 1) 0 + (r.n + r.d))
      ∷ clock_set 0
      -- 09: "Enter goes to location k, after a message to the paired one"
      ∷ entered r (cond r.taken r.goes (number_in h))
      -- 0A trial, 0B low, 0C high, 0D and 0E low and high of a variable, 0F keep
      ∷ trying r new_trial
      ∷ trying r (raised_to r.tried (word h 2) clock)
      ∷ trying r (lowered_to r.tried (word h 2) clock)
      ∷ trying r (met_by r.tried (le_z z value))
      ∷ trying r (met_by r.tried (le_z value z))
      ∷ keeping r (kept_by r.tried (number_in h) r.kept)
      -- 10 take and 11 choose lead to another place: below; 12 budget
      ∷ r
      ∷ r
      ∷ trying r (met_by r.tried (spans_by r.tried (word h 2)))
      ∷ []

  abbrev pub effect : Node
  effect = get_or effects (byte h 0) r

-- the trial after a bound on a clock (0B, 0C) and on a variable (0D, 0E)
abbrev pub clock_tried : List ℕ → Trial → ℕ → Trial
clock_tried h x clock = cond (eqb (byte h 0) 11) (raised_to x (word h 2) clock) (lowered_to x (word h 2) clock)

abbrev pub value_tried : List ℕ → Trial → ℤ → Trial
value_tried h x value = met_by x (cond (eqb (byte h 0) 13) (le_z (complement (word h 2)) value) (le_z value (complement (word h 2))))

-- ## Any statement of the part p

-- 10: "Take moves t by the old d, then by the new ready delay n, sets d (window length) and goes to the edge block"; "a take with nothing kept"
-- is not allowed, and does nothing
abbrev pub edge_taken : List ℕ → Node → Node
edge_taken p r =
    let k = r.kept in
    cond k.some (passing r (block_place p (byte p 2 + k.edge)) (r.t + r.d + k.ready) (k.end - k.ready)) r

-- 11: "Choose goes to the present location's block"
abbrev pub block_chosen : List ℕ → Node → Node
block_chosen p r = moved r (block_place p r.location)

-- behind the statement, a listen's pairs "skipped when run"
abbrev pub onward : List ℕ → Node → Node
onward p r = moved r (r.pc + statement_length (drop r.pc p))

-- the registers r after the statement at their program counter; as they are where there is none
abbrev pub after : List ℕ → Counts → Node → Node
after p held r =
    let op = op_in (drop r.pc p) in
    let other = effect (drop r.pc p) held (onward p r) in
    cond (eqb op 255) r (cond (eqb op 16) (edge_taken p r) (cond (eqb op 17) (block_chosen p r) other))

-- ## A message

-- "A send finishes its listener's statement too, a message between the two", here one on channel k; enter will go to the paired location
abbrev pub listened : List ℕ → ℕ → Node → Node
listened p k r = told (onward p r) (paired (pairs_at (stand_at (rest_at p r.pc))) k 0)

-- "a listener that names its channel, has taken nothing"; any other node stays as it is
abbrev pub after_message : List ℕ → ℕ → Node → Node
after_message p k r = cond (names k (stand_at (rest_at p r.pc)) && not r.taken) (listened p k r) r

-- ## The start

-- "Choose goes to the present location's block. It starts there with t, n, d all 0": in the initial location's block, a new trial, all else 0
abbrev pub start_of : List ℕ → Node
start_of p =
    record {
      pc = block_place p (byte p 4);
      location = byte p 4;
      clocks = 0 ∷ 0 ∷ 0 ∷ 0 ∷ [];
      values = pos 0 ∷ pos 0 ∷ pos 0 ∷ pos 0 ∷ [];
      t = 0;
      n = 0;
      d = 0;
      edge = 0;
      taken = false;
      goes = 0;
      tried = new_trial;
      kept = nothing_kept;
      sleeps = 0;
    }
