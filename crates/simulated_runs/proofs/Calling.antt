-- The call, from what the checks and the runs answer. Assumes nothing.
use mathlib.Core.Path.{◌≡◌, refl, sym, ap, ap₂, subst, ◌∙◌}
use mathlib.Core.Bool.{Bool, true, false, cond, ◌&&◌}
use mathlib.Core.List.{List, []}
use Prim.Native.Nat.{ℕ, ◌≤◌, ◌<◌}
use native.Mathlib.Omega.{arith}
use borrow.Author.Tests.{ne_eqb, eqb-true, leb-true}
use lib.Dec.{leb, eqb}
use lib.IntN.{ℤ}
use Rattle.std.specs.Prelude.{Option, None, Some}
use Rattle.model.specs.declared.Verdict.TheVariants.{Accepted}
use Rattle.model.specs.Lists.{Bytes, Answer, accepted, refused}
use Rattle.model.specs.Table.{Read}
use Rattle.model.specs.Reader.{byte, word, read_table}
use Rattle.model.specs.Places.{Valid, read_of}
use Rattle.model.specs.Schedule.{Passage}
use Rattle.model.specs.Checks.{accepted_schedule_of}
use Rattle.model.specs.Program.{program_bytes}
use Rattle.model.specs.Run.{Setting, setting_of, Result, run}
use Rattle.model.proofs.Basics.Bools.{and_is}
use Rattle.model.proofs.Reader.Located.{valid_read}
use Rattle.machine.specs.Running.{setting_in}
use Rattle.run.specs.Ends.{Started, Planned, PlannedApart}
use Rattle.run.proofs.Handed.{setting_is}
use Rattle.simulation.specs.Simulated.{Span, simulated, SimulateCall, not_simulated, simulated_all, tryable, simulate_planned, simulate_read, simulate_call}
use Rattle.simulation.proofs.Counts.{late_placed}
use Rattle.simulator.specs.Answers.{TriedAs}
use Rattle.simulated_runs.specs.declared.Tally.{Tally}
use Rattle.simulated_runs.specs.declared.call.Simulation.{Simulation}
use Rattle.simulated_runs.specs.Answers.{TalliedAs, SimulatedAs}

-- ## One run

-- nodes that start together wake at 0
pub together : {table rows : List ℕ} {n : ℕ} → Planned 0 table rows n → PlannedApart table rows n []
together p = record { spread = 0; plan = p; permitted = λ c h. omega arith }

-- the run of the slices is that of the table and its schedule
pub tried_so : (table : List ℕ) → Bytes table → Valid table → {program rows : List ℕ} {n : ℕ} → program ≡ program_bytes (read_of table) → Planned 0 table rows n → {l : List ℕ} {v : List ℤ}
    → Started table program rows n [] l v → {H : ℕ} → H ≡ word table 5 → (w : Span) (seed : ℕ) {late : Option ℕ} {state : ℕ} → TriedAs (setting_in program H rows n l (byte table 3)) w seed late state
    → (S : List Passage) → accepted_schedule_of (read_of table) ≡ accepted S → TriedAs (setting_of (read_of table) S) w seed late state
tried_so table b valid e p s h w seed {late} {state} T S q =
    subst (λ (g : Setting). TriedAs g w seed late state) (setting_is table b valid e (together p) s h 0 S q) T

-- a late run of an accepted table has one of eight nodes
pub placed : (table : List ℕ) → Valid table → (S : List Passage) → accepted_schedule_of (read_of table) ≡ accepted S
    → (cs : List ℕ) → (run (setting_of (read_of table) S) cs).end ≡ 2 → (run (setting_of (read_of table) S) cs).node < 8
placed table valid S e = late_placed table (read_of table) S (valid_read table valid) e

-- so the late node of a simulated run is
pub late_among : (table : List ℕ) → Valid table → (S : List Passage) → accepted_schedule_of (read_of table) ≡ accepted S → (w : Span) (seed : ℕ) {late : Option ℕ} {state : ℕ}
    → TriedAs (setting_of (read_of table) S) w seed late state → (c : ℕ) → late ≡ Some c → c < 8
late_among table valid S e w seed {late} T c is = go (eqb ended.end 2) refl (sym T.0 ∙ is)
  where
    ended : Result
    ended = run (setting_of (read_of table) S) (simulated (setting_of (read_of table) S) w seed).choices

    go : (b : Bool) → eqb ended.end 2 ≡ b → cond b (Some ended.node) None ≡ Some c → c < 8
    go true t q =
        let same : ended.node ≡ c = cc in
        omega (arith, placed table valid S e (simulated (setting_of (read_of table) S) w seed).choices (eqb-true ended.end 2 t))
    go false t q = absurd (cc)

-- ## Refused by the checks

-- the numbers of a definition
pub answered : {c d : SimulateCall} {r : Simulation} → d ≡ c → SimulatedAs c r → SimulatedAs d r
answered {r = r} e A = subst (λ (x : SimulateCall). SimulatedAs x r) (sym e) A

module _ (table : List ℕ) (lo hi runs seed : ℕ) where
  abbrev w : Span
  w = record { lo = lo; hi = hi }

  -- 1 to 6
  pub read_not_simulated : {n c : ℕ} → read_table table ≡ refused n c → simulate_call table lo hi runs seed ≡ not_simulated n c
  unfolding simulate_call
  read_not_simulated e = ap (λ (a : Answer Read). simulate_read a w runs seed) e

  module _ (valid : Valid table) where
    of_plan : simulate_call table lo hi runs seed ≡ simulate_planned (read_of table) (accepted_schedule_of (read_of table)) w runs seed
    unfolding simulate_call
    of_plan = ap (λ (a : Answer Read). simulate_read a w runs seed) (valid_read table valid)

    -- 7 to 12, 15 to 17
    pub plan_not_simulated : {n c : ℕ} → accepted_schedule_of (read_of table) ≡ refused n c → simulate_call table lo hi runs seed ≡ not_simulated n c
    plan_not_simulated e = of_plan ∙ ap (λ (a : Answer (List Passage)). simulate_planned (read_of table) a w runs seed) e

    -- ## An accepted table

    module _ (S : List Passage) (e : accepted_schedule_of (read_of table) ≡ accepted S) where
      asked : simulate_call table lo hi runs seed
          ≡ cond (eqb seed 0) (not_simulated 22 255) (cond (tryable w runs) (simulated_all (setting_of (read_of table) S) w runs seed) (not_simulated 23 255))
      asked = of_plan ∙ ap (λ (a : Answer (List Passage)). simulate_planned (read_of table) a w runs seed) e

      pub seed_refused : seed ≡ 0 → simulate_call table lo hi runs seed ≡ not_simulated 22 255
      seed_refused z =
          asked
          ∙ ap (λ (k : ℕ). cond (eqb k 0) (not_simulated 22 255) (cond (tryable w runs) (simulated_all (setting_of (read_of table) S) w runs seed) (not_simulated 23 255))) z

      module _ (some : seed ≡ 0 → ⊥) where
        after_seed : {b : Bool} → tryable w runs ≡ b → simulate_call table lo hi runs seed ≡ cond b (simulated_all (setting_of (read_of table) S) w runs seed) (not_simulated 23 255)
        after_seed t =
            asked
            ∙ ap₂ (λ (a b : Bool). cond a (not_simulated 22 255) (cond b (simulated_all (setting_of (read_of table) S) w runs seed) (not_simulated 23 255))) (ne_eqb seed 0 some) t

        pub numbers_refused : tryable w runs ≡ false → simulate_call table lo hi runs seed ≡ not_simulated 23 255
        numbers_refused t = after_seed t

        pub is_simulated : tryable w runs ≡ true → {r : Tally} → TalliedAs (setting_of (read_of table) S) w runs seed r
            → SimulatedAs (simulate_call table lo hi runs seed) (record { verdict = Accepted; late = r.late; nodes = r.nodes; state = r.state })
        is_simulated t T = answered (after_seed t) (record { verdict = refl; late = T.late; nodes = T.nodes; state = T.state })

-- numbers that 23 lets pass
pub tried_with : (lo hi runs : ℕ) → tryable (record { lo = lo; hi = hi }) runs ≡ true → (lo ≤ hi) × (hi ≤ 60000) × (runs ≤ 10000)
tried_with lo hi runs e =
    let a = (and_is (leb lo hi && leb hi 60000 && leb 1 runs) (leb runs 10000)).0 e in
    let b = (and_is (leb lo hi && leb hi 60000) (leb 1 runs)).0 a.0 in
    let c = (and_is (leb lo hi) (leb hi 60000)).0 b.0 in
    (leb-true lo hi c.0, leb-true hi 60000 c.1, leb-true runs 10000 a.1)
