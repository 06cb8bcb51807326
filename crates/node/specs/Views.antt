-- What the code's registers are in the words of the definitions (model's specs/Machine.antt).
use Rattle.std.specs.Prelude.{◌≡◌, cond, true, ◌&&◌, not, List, ℕ, ◌+◌, ◌≤◌, leb, ltb, eqb, ◌+ℤ◌, length, take, drop}
use Rattle.std.proofs.Math.Option.{Option, none, some}
use Rattle.model.specs.Lists.{All}
use Rattle.model.specs.Reader.{byte, word, complement}
use Rattle.model.specs.Window.{Pick, value_at, in_range}
use Rattle.model.specs.Program.{Statement}
use Rattle.model.specs.Machine.{statement_at, decode_block, with_trial, exec}
use Rattle.node.specs.declared.Counts.{Counts}
use Rattle.node.specs.declared.Trial.{Trial}
use Rattle.node.specs.declared.Kept.{Kept}
use Rattle.node.specs.declared.Node.{Node}

-- the statements from a place of a node's part to the end of their block: what the program counter stands for
unfoldable pub rest_at : List ℕ → ℕ → List Statement
unfolding decode_block
rest_at p at = decode_block (length p) (drop at p)

abbrev pub trial_of : Trial → Rattle.model.specs.Machine.Trial
trial_of x = record { ready = x.ready; end = cond x.ended (some x.end) none; good = x.good }

abbrev pub kept_of : Kept → Option Pick
kept_of k = cond k.some (some (record { edge = k.edge; ready = k.ready; end = k.end })) none

-- the node with the clocks and variables that it has
abbrev pub node_of : List ℕ → Counts → Node → Rattle.model.specs.Machine.Node
node_of p held r =
    record {
      rest = rest_at p r.pc;
      location = r.location;
      clocks = take held.clocks r.clocks;
      values = take held.variables r.values;
      t = r.t;
      n = r.n;
      d = r.d;
      edge = r.edge;
      goes = cond r.taken (some r.goes) none;
      tried = trial_of r.tried;
      kept = kept_of r.kept;
      sleeps = r.sleeps;
    }

-- there is a place for each clock and variable
pub record Held (k : Counts) : Type 0 where
  pub clocks : k.clocks ≤ 4
  pub variables : k.variables ≤ 4

-- no register that grows has grown beyond m
pub record Within (m : ℕ) (r : Node) : Type 0 where
  pub t : r.t ≤ m
  pub clocks : All (λ x. x ≤ m) r.clocks
  pub sleeps : r.sleeps ≤ m

-- the op of the statement at the front; 255 where there is none
abbrev pub op_in : List ℕ → ℕ
op_in bs =
    let known = cond (ltb (byte bs 0) 19 && not (eqb (byte bs 0) 6)) (byte bs 0) 255 in
    cond (leb 4 (length bs)) known 255

-- an addition at the front stays in range
pub record Addable (h : List ℕ) (held : Counts) (r : Node) : Type 0 where
  pub fits : op_in h ≡ 2 → in_range (value_at (take held.variables r.values) (byte h 1) +ℤ complement (word h 2)) ≡ true

-- q is r after the statement at the front, which leads to no other place
abbrev pub Executed : List ℕ → Counts → Node → Node → Type 0
Executed h held r q = (p : List ℕ) (s : Statement) → statement_at h ≡ some s → node_of p held q ≡ exec p (node_of p held r) s

-- x is the trial of r after the statement at the front, a trial or a bound
abbrev pub Tried : List ℕ → Counts → Node → Trial → Type 0
Tried h held r x = (p : List ℕ) (s : Statement) → statement_at h ≡ some s → with_trial (node_of p held r) (trial_of x) ≡ exec p (node_of p held r) s

-- the registers that grow have grown by one passage's length at most
abbrev pub Grown : Node → Node → Type 0
Grown r q = (m : ℕ) → Within m r → Within (m + 131070) q
