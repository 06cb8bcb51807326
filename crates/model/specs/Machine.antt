-- Document 01, "The program", last paragraph: what one statement does to a node's registers. Statements are decoded from the program's bytes.
use Rattle.std.specs.Prelude.{Bool, true, false, cond, ◌&&◌, ◌||◌, List, [], ◌∷◌, ℕ, zero, suc, ◌+◌, ◌-◌, ◌*◌, min, max, leb, ltb, eqb, ℤ, pos, ◌+ℤ◌, length, get_or, set, drop, replicate}
use Rattle.std.proofs.Math.Option.{Option, none, some}
use Rattle.std.specs.Int.Signed.{le_z}
use Rattle.model.specs.declared.Pair.{Pair}
use Rattle.model.specs.Lists.{or_else}
use Rattle.model.specs.Reader.{byte, word, complement}
use Rattle.model.specs.Places.{list_at}
use Rattle.model.specs.Window.{Pick, better, clock_at, value_at}
use Rattle.model.specs.Program.{Statement, sleep, set_to, add_to, done, send, listen, age, reset, enter, trial, low, high, data_low, data_high, keep, budget, take_edge, choose, part_of, within}

-- ## Statements from bytes

-- A location or an edge has a number of one byte: the lower byte of k, the upper one being 0 in every program.
abbrev pub number_in : List ℕ → ℕ
number_in bs = byte bs 3

-- a pair behind a listen: 06, a = channel, k = location
abbrev pub pair_at : List ℕ → Pair
pair_at bs = record { channel = byte bs 1; location = number_in bs }

-- by op, from 00 on; a pair (06) is no statement of its own
abbrev pub decodings : List ℕ → List (Option Statement)
decodings bs =
    let a = byte bs 1 in
    let k = word bs 2 in
    let z = complement k in
    some sleep ∷ some (set_to a z) ∷ some (add_to a z) ∷ some done ∷ some (send a) ∷ some (listen (list_at pair_at 4 a (drop 4 bs))) ∷ none ∷ some (age a)
    ∷ some (reset a)
    ∷ some (enter (number_in bs))
    ∷ some trial
    ∷ some (low a k)
    ∷ some (high a k)
    ∷ some (data_low a z)
    ∷ some (data_high a z)
    ∷ some (keep (number_in bs))
    ∷ some take_edge
    ∷ some choose
    ∷ some (budget k)
    ∷ []

-- The statement at the front; none where fewer than four bytes are left or the op is unknown, and then the block breaks off there and the
-- node cannot be chosen. Only the bytes of `program_bytes` are run, where neither happens and each field that is not named is 0.
unfoldable pub statement_at : List ℕ → Option Statement
unfolding list_at
statement_at bs = let found = get_or (decodings bs) (byte bs 0) none in cond (leb 4 (length bs)) found none

-- its bytes, with a listen's pairs, which are "skipped when run"
abbrev pub statement_length : List ℕ → ℕ
statement_length bs = cond (eqb (byte bs 0) 5) (4 + byte bs 1 * 4) 4

-- a block ends with take (10) or choose (11)
abbrev pub ends_block : List ℕ → Bool
ends_block bs = eqb (byte bs 0) 16 || eqb (byte bs 0) 17

abbrev pub followed : Option Statement → List Statement → List Statement
followed none rest = []
followed (some s) rest = s ∷ rest

-- the statements of the block at the front, so many at most
unfoldable pub decode_block : ℕ → List ℕ → List Statement
unfolding statement_at
decode_block zero bs = []
decode_block (suc most) bs =
    let more = decode_block most (drop (statement_length bs) bs) in
    let rest = cond (ends_block bs) [] more in
    followed (statement_at bs) rest

-- block i of a node's part: its start, counted in statements, stands in the part's table of starts
abbrev pub block_place : List ℕ → ℕ → ℕ
block_place p i = 6 + (byte p 2 + byte p 3) * 2 + word p (6 + i * 2) * 4

unfoldable pub block_at : List ℕ → ℕ → List Statement
unfolding decode_block
block_at p i = decode_block (length p) (drop (block_place p i) p)

-- "for each location's block, then each edge's block"
abbrev pub location_code : List ℕ → ℕ → List Statement
location_code p l = block_at p l

abbrev pub edge_code : List ℕ → ℕ → List Statement
edge_code p e = block_at p (byte p 2 + e)

-- the part of node c
abbrev pub part_bytes : List ℕ → ℕ → List ℕ
part_bytes program c = within (part_of program c) program

-- ## Registers

-- a trial: its ready delay, its end (none: not lowered yet), and whether no bound failed
pub record Trial : Type 0 where
  pub ready : ℕ
  pub end : Option ℕ
  pub good : Bool

-- One node. `rest` are the statements of the present block that are yet to be finished, the next one first: the program counter.
pub record Node : Type 0 where
  pub rest : List Statement
  pub location : ℕ
  pub clocks : List ℕ
  pub values : List ℤ
  pub t : ℕ
  pub n : ℕ
  pub d : ℕ
  pub edge : ℕ
  -- after a message: the location paired with it
  pub goes : Option ℕ
  pub tried : Trial
  pub kept : Option Pick
  -- sleeps finished: observations written
  pub sleeps : ℕ

-- "Trial starts with ready delay 0"
abbrev pub no_trial : Trial
no_trial = record { ready = 0; end = none; good = true }

-- "It starts there with t, n, d all 0", in the initial location's block; so many clocks and variables
abbrev pub start_node : List ℕ → ℕ → ℕ → Node
start_node p clocks variables =
    record {
      rest = location_code p (byte p 4);
      location = byte p 4;
      clocks = replicate clocks 0;
      values = replicate variables (pos 0);
      t = 0;
      n = 0;
      d = 0;
      edge = 0;
      goes = none;
      tried = no_trial;
      kept = none;
      sleeps = 0;
    }

module _ (r : Node) where
  abbrev pub to : List Statement → Node
  to x = record { rest = x; location = r.location; clocks = r.clocks; values = r.values; t = r.t; n = r.n; d = r.d; edge = r.edge; goes = r.goes; tried = r.tried; kept = r.kept; sleeps = r.sleeps }

  abbrev pub with_trial : Trial → Node
  with_trial x = record { rest = r.rest; location = r.location; clocks = r.clocks; values = r.values; t = r.t; n = r.n; d = r.d; edge = r.edge; goes = r.goes; tried = x; kept = r.kept; sleeps = r.sleeps }

  abbrev pub with_kept : Option Pick → Node
  with_kept x = record { rest = r.rest; location = r.location; clocks = r.clocks; values = r.values; t = r.t; n = r.n; d = r.d; edge = r.edge; goes = r.goes; tried = r.tried; kept = x; sleeps = r.sleeps }

  abbrev pub with_clocks : List ℕ → Node
  with_clocks x = record { rest = r.rest; location = r.location; clocks = x; values = r.values; t = r.t; n = r.n; d = r.d; edge = r.edge; goes = r.goes; tried = r.tried; kept = r.kept; sleeps = r.sleeps }

  abbrev pub with_values : List ℤ → Node
  with_values x = record { rest = r.rest; location = r.location; clocks = r.clocks; values = x; t = r.t; n = r.n; d = r.d; edge = r.edge; goes = r.goes; tried = r.tried; kept = r.kept; sleeps = r.sleeps }

  abbrev pub with_place : ℕ → Option ℕ → Node
  with_place l g = record { rest = r.rest; location = l; clocks = r.clocks; values = r.values; t = r.t; n = r.n; d = r.d; edge = r.edge; goes = g; tried = r.tried; kept = r.kept; sleeps = r.sleeps }

  abbrev pub slept : Node
  slept = record { rest = r.rest; location = r.location; clocks = r.clocks; values = r.values; t = r.t; n = r.n; d = r.d; edge = r.edge; goes = r.goes; tried = r.tried; kept = r.kept; sleeps = suc r.sleeps }

  -- "Take moves t by the old d, then by the new ready delay n, sets d (window length) and goes to the edge block."
  abbrev pub takes : List ℕ → Option Pick → Node
  takes p none = r
  takes p (some k) =
      record {
        rest = edge_code p k.edge;
        location = r.location;
        clocks = r.clocks;
        values = r.values;
        t = r.t + r.d + k.ready;
        n = k.ready;
        d = k.end - k.ready;
        edge = k.edge;
        goes = r.goes;
        tried = r.tried;
        kept = none;
        sleeps = r.sleeps;
      }

-- ## Trials

-- "low raises it to k − clock"
abbrev pub raised : Trial → ℕ → ℕ → Trial
raised x k clock = record { ready = max x.ready (k - clock); end = x.end; good = x.good }

-- "high lowers the trial's end to k − clock; a bound not met fails the trial"
abbrev pub lowest : Option ℕ → ℕ → ℕ
lowest none k = k
lowest (some e) k = min e k

abbrev pub lowered : Trial → ℕ → ℕ → Trial
lowered x k clock = record { ready = x.ready; end = some (lowest x.end (k - clock)); good = x.good && leb clock k }

abbrev pub met : Trial → Bool → Trial
met x b = record { ready = x.ready; end = x.end; good = x.good && b }

-- statement 12 "fails the trial of a shorter window"; an end that is not lowered yet is no shorter one
abbrev pub spans : Trial → ℕ → Option ℕ → Bool
spans x k none = true
spans x k (some end) = leb (x.ready + k) end

-- "Keep applies the candidate rule."
abbrev pub keeps : Trial → ℕ → Option ℕ → Option Pick → Option Pick
keeps x e none k = k
keeps x e (some end) k = cond (x.good && ltb x.ready end) (better k (record { edge = e; ready = x.ready; end = end })) k

-- ## One statement; the node stands behind it already

unfoldable pub exec : List ℕ → Node → Statement → Node
unfolding block_at
exec p r sleep = slept r
exec p r (set_to v k) = with_values r (set r.values v k)
exec p r (add_to v k) = with_values r (set r.values v (value_at r.values v +ℤ k))
exec p r done = r
exec p r (send k) = r
exec p r (listen qs) = r
-- "Age adds n + d."
exec p r (age i) = with_clocks r (set r.clocks i (clock_at r.clocks i + (r.n + r.d)))
exec p r (reset i) = with_clocks r (set r.clocks i 0)
-- "Enter goes to location k, after a message to the paired one."
exec p r (enter l) = with_place r (or_else r.goes l) none
exec p r trial = with_trial r no_trial
exec p r (low i k) = with_trial r (raised r.tried k (clock_at r.clocks i))
exec p r (high i k) = with_trial r (lowered r.tried k (clock_at r.clocks i))
exec p r (data_low v k) = with_trial r (met r.tried (le_z k (value_at r.values v)))
exec p r (data_high v k) = with_trial r (met r.tried (le_z (value_at r.values v) k))
exec p r (budget k) = with_trial r (met r.tried (spans r.tried k r.tried.end))
exec p r (keep e) = with_kept r (keeps r.tried e r.tried.end r.kept)
exec p r take_edge = takes r p r.kept
-- "Choose goes to the present location's block."
exec p r choose = to r (location_code p r.location)

-- that statement is finished
abbrev pub finish : List ℕ → Node → List Statement → Node
finish p r [] = r
finish p r (s ∷ ss) = exec p (to r ss) s
