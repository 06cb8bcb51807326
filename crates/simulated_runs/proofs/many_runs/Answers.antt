-- `simulated_runs::many_runs` meets its contract. Assumes nothing.
use mathlib.Core.Path.{◌≡◌, refl, ap, ◌∙◌}
use Prim.Native.Nat.{ℕ, ◌-◌, ◌+◌, ◌<◌}
use lib.ListN.{get_or, set}
use native.Mathlib.Omega.{arith}
use Rattle.simulation.specs.Simulated.{Span}
use Rattle.simulator.proofs.Looping.{zero_at}
use Rattle.simulated_runs.proofs.Counting.{tally_first, counts_as, tally_late, tally_on, tally_done}
use Rattle.simulated_runs.proofs.many_runs.Goals as goal
use Rattle.simulated_runs.proofs.many_runs.Goals.{in-Some, in_default}

pub loop-init : goal.loop-init
loop-init c =
    let a = c.args in
    let all : a.runs - 0 ≡ a.runs = omega arith in
    rw all (tally_first a.table.now c.requires.0 (record { lo = a.lo; hi = a.hi }) refl (λ i h. zero_at 8 i))

pub fresh_run-tried-requires : goal.fresh_run-tried-requires
fresh_run-tried-requires c = let s = c in (s.requires.0, s.requires.1, s.requires.2, s.requires.3, s.requires.4, s.requires.5)

pub overflow_add-late : goal.overflow_add-late
overflow_add-late c = omega (arith, c.loop.invariant.few, c.requires.6)

pub loop-preserved : goal.loop-preserved
loop-preserved c =
    let a = c.args in
    let table = a.table.now in
    let span : Span = record { lo = a.lo; hi = a.hi } in
    let l = c.loop in
    let ran = c.fresh_run-tried.ensures in
    let some : 0 < a.runs - l.counter = omega (arith, c.loop-test.true) in
    let left : a.runs - (l.counter + 1) ≡ a.runs - l.counter - 1 = omega arith in
    rw left
    (elim c.match-tried.branch [
      | in-Some w ↦ counts_as table c.requires.0 span (tally_late table c.requires.0 span l.invariant some ran.run w.in-Some.is (ran.node w.in-Some.c w.in-Some.is)) w.late-is
          (w.nodes-is ∙ ap (λ (i : ℕ). set l.nodes i (get_or l.nodes i 0 + 1)) w.from.ensures)
      | in_default w ↦ counts_as table c.requires.0 span (tally_on table c.requires.0 span l.invariant some ran.run w.in_default.is) w.late-is w.nodes-is
    ])

pub returns : goal.returns
returns c =
    let s = c in
    let a = s.args in
    tally_done a.table.now s.requires.0 (record { lo = a.lo; hi = a.hi }) c.loop.invariant (omega arith)
