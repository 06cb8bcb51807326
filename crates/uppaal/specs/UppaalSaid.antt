-- What `SamePathsOf`, `DenseTimeOf`, `Carries` and `InRealTime` say, spelt out without their names: a hypothesis more in one of them, or a field less,
-- no longer gives these.
use Rattle.std.specs.Prelude.{◌≡◌, ◌↔◌, true, false, List, [], ◌∷◌, ◌++◌, map, ℕ, ◌+◌, ◌-◌, ◌*◌, ◌≤◌, ◌<◌, replicate}
use Rattle.std.proofs.Math.Option.{some}
use Rattle.model.specs.Lists.{◌∈◌, All, accepted}
use Rattle.model.specs.Table.{Table, Read}
use Rattle.model.specs.Reader.{read_table}
use Rattle.model.specs.Network.{State, Label, start, follow}
use Rattle.uppaal.specs.Xta.{Name, Upper, Transition, Location, Process, System, process_of}
use Rattle.uppaal.specs.XtaNetwork.{Stand, stand_of, grown, guard_holds, all_assigned, Move, delay, Path}
use Rattle.uppaal.specs.XtaReading.{read_text}
use Rattle.uppaal.specs.Declared.{names_of, Distinct, one_more, AtomIn, SyncIn, AssignmentIn, TransitionIn, ProcessIn}
use Rattle.uppaal.specs.Export.{system_for}
use Rattle.uppaal.specs.SamePaths.{view_of, moves_of, all_enter_well, SamePaths}
use Rattle.uppaal.specs.Dense.{finer, finer_move, cut, counted, steps_out, Act, Brought, Pairs, acts_from, time_from, Stuck, Dense}
use Rattle.uppaal.specs.RealNetwork.{Fractions, nothing, RealStand, RealMove, lasts, RealPath}
use Rattle.uppaal.specs.RealTime.{partly, RealAct, real_acts_from, real_time_from, Floored, AllFloored, as_real, RealStuck, RealTime, InRealTime}
use Rattle.uppaal.specs.UppaalCall.{SamePathsOf, DenseTimeOf, Carries}

-- ## "its paths are proved to be exactly those"

module _ (T : Table) (N : System) (p : SamePaths T N) where
  pub paths_written : (ls : List Label) (s : State) → follow T (start T) ls ≡ some s → all_enter_well T (start T) ls ≡ true
      → Path N (moves_of T (start T) ls) (view_of s)
  paths_written ls s f w = p.written ls s (record { follows = f; enters = w })

  pub paths_read : (ms : List Move) (y : List Stand) → Path N ms y
      → (ls : List Label) × (s : State) × (follow T (start T) ls ≡ some s) × (all_enter_well T (start T) ls ≡ true) × (moves_of T (start T) ls ≡ ms) × (view_of s ≡ y)
  paths_read ms y q = let r = p.read ms y q in (r.0, r.1, r.2.follows, r.2.enters, r.3, r.4)

  pub paths_once : (ls ks : List Label) (s u : State) → follow T (start T) ls ≡ some s → all_enter_well T (start T) ls ≡ true
      → follow T (start T) ks ≡ some u → all_enter_well T (start T) ks ≡ true → moves_of T (start T) ls ≡ moves_of T (start T) ks → ls ≡ ks
  paths_once ls ks s u f w g x e = p.once ls ks s u (record { follows = f; enters = w }) (record { follows = g; enters = x }) e

  pub paths_safe : (ms : List Move) (y : List Stand) → Path N ms y → (k : ℕ) (t : Transition) → t ∈ (process_of N k).transitions
      → (stand_of y k).at ≡ t.source → guard_holds (stand_of y k) t.guard ≡ true
      → (z : Stand) × (all_assigned t.assignments (record { at = t.target; clocks = (stand_of y k).clocks; values = (stand_of y k).values }) ≡ some z)
  paths_safe = p.safe

pub paths_of_says : (table : List ℕ) → SamePathsOf table → (t : Read) → read_table table ≡ accepted t → SamePaths t.table (system_for t.table)
paths_of_says table p t r = p t r

-- ## Time between the ticks

module _ (N : System) (n : ℕ) (d : Dense N n) where
  -- each path in n-ths is one at whole ticks, each step at the last whole tick not after it, with one rest for all clocks
  pub dense_whole : (ms : List Move) (y : List Stand) → Path (finer n N) ms y
      → (ks : List Move) × (z : List Stand) × (rest : ℕ) × (rest < n) × Path N ks z × (y ≡ map (counted n rest) z)
      × (time_from 0 ms ≡ n * time_from 0 ks + rest) × Pairs (Brought n) (acts_from 0 ms) (acts_from 0 ks)
  dense_whole ms y q = let w = d.whole ms y q in (w.steps, w.state, w.rest, w.less, w.path, w.same, w.time, w.acts)

  pub dense_finely : (ks : List Move) (z : List Stand) → Path N ks z → Path (finer n N) (cut n ks) (map (counted n 0) z)
  dense_finely = d.finely

  pub dense_awaits : (ms : List Move) (z : List Stand) (r : ℕ) → Path (finer n N) ms (map (counted n r) z) → 0 < r → r < n
      → Path (finer n N) (ms ++ replicate (n - r) delay) (map (counted n 0) (map grown z))
  dense_awaits = d.awaits

  pub dense_stuck : (ks : List Move) (z : List Stand) → Path N ks z → Stuck N z ↔ Stuck (finer n N) (map (counted n 0) z)
  dense_stuck = d.stuck

  pub dense_stuck_between : (ms : List Move) (z : List Stand) (r : ℕ) → Path (finer n N) ms (map (counted n r) z) → 0 < r → r < n
      → Stuck (finer n N) (map (counted n r) z) → Stuck N (map grown z)
  dense_stuck_between = d.stuck_between

-- a step in n-ths and its pair at a whole tick
pub brought_says : (n : ℕ) (a b : Act) → Brought n a b
    → (rest : ℕ) × (rest < n) × (a.time ≡ n * b.time + rest) × (a.move ≡ finer_move n b.move) × (steps_out b.move ≡ true → rest ≡ 0)
brought_says n a b p = (p.rest, p.less, p.time, p.move, p.out)

pub dense_of_says : (table : List ℕ) → DenseTimeOf table → (t : Read) → read_table table ≡ accepted t → (n : ℕ) → 1 ≤ n → Dense (system_for t.table) n
dense_of_says table p t r n l = p t r n l

-- ## Real time

module _ (Q : Fractions) (N : System) (d : RealTime Q N) where
  -- each path in real time is one at whole ticks, each step at the last whole tick not after it, with one fraction for all clocks
  pub real_whole : (ms : List (RealMove Q)) (y : List (RealStand Q)) → RealPath Q N ms y
      → (ks : List Move) × (z : List Stand) × (f : Q.F) × Path N ks z × (y ≡ map (partly Q f) z)
      × (real_time_from Q (nothing Q) ms ≡ record { ticks = time_from 0 ks; part = f }) × AllFloored Q (real_acts_from Q (nothing Q) ms) (acts_from 0 ks)
  real_whole ms y q = let w = d.whole ms y q in (w.steps, w.state, w.part, w.path, w.same, w.time, w.acts)

  pub real_really : (ks : List Move) (z : List Stand) → Path N ks z → RealPath Q N (map (as_real Q) ks) (map (partly Q Q.nil) z)
  real_really = d.really

  pub real_awaits : (ms : List (RealMove Q)) (z : List Stand) (f : Q.F) → RealPath Q N ms (map (partly Q f) z) → Q.is_nil f ≡ false
      → RealPath Q N (ms ++ (lasts (record { ticks = 0; part = Q.missing f }) ∷ [])) (map (partly Q Q.nil) (map grown z))
  real_awaits = d.awaits

  pub real_stuck : (ks : List Move) (z : List Stand) → Path N ks z → Stuck N z ↔ RealStuck Q N (map (partly Q Q.nil) z)
  real_stuck = d.stuck

  pub real_stuck_between : (ms : List (RealMove Q)) (z : List Stand) (f : Q.F) → RealPath Q N ms (map (partly Q f) z) → Q.is_nil f ≡ false
      → RealStuck Q N (map (partly Q f) z) → Stuck N (map grown z)
  real_stuck_between = d.stuck_between

-- a step in real time and its pair at a whole tick
pub floored_says : (Q : Fractions) (a : RealAct Q) (b : Act) → Floored Q a b
    → (a.time.ticks ≡ b.time) × (a.move ≡ b.move) × (steps_out b.move ≡ true → Q.is_nil a.time.part ≡ true)
floored_says Q a b p = (p.ticks, p.move, p.out)

pub real_of_says : (T : Table) → InRealTime T → (Q : Fractions) → RealTime Q (system_for T)
real_of_says T p Q = p Q

-- ## The bytes are read to a declared network which, between the ticks too, has the table's paths

pub carries_says : (table text : List ℕ) → Carries table text
    → (t : Read) × (N : System) × (read_table table ≡ accepted t) × (read_text text ≡ some N) × All (ProcessIn N.channels) N.processes
    × SamePaths t.table N × ((n : ℕ) → 1 ≤ n → Dense N n)
carries_says table text c = (c.given, c.network, c.known, c.read, c.declared, c.paths, c.time)

-- ## "each name that it uses is declared, none twice"

pub process_says : (channels : ℕ) (P : Process) → ProcessIn channels P
    → Distinct (names_of P) × (P.initial ∈ names_of P) × All (λ (l : Location). All (λ (u : Upper). u.clock < P.clocks) l.invariant) P.locations
    × All (TransitionIn channels P) P.transitions
process_says channels P d = (d.names, d.initial, d.invariants, d.transitions)

pub transition_says : (channels : ℕ) (P : Process) (t : Transition) → TransitionIn channels P t
    → (t.source ∈ names_of P) × (t.target ∈ names_of P) × All (AtomIn P) t.guard × SyncIn channels t.sync × All (AssignmentIn P) t.assignments
transition_says channels P t d = (d.source, d.target, d.guard, d.sync, d.assignments)

-- a name is not twice in them
pub once_says : (n : Name) (ns : List Name) → Distinct (n ∷ ns) → All (λ (m : Name). m ≡ n → ⊥) ns × Distinct ns
once_says n ns (one_more a d) = (a, d)
