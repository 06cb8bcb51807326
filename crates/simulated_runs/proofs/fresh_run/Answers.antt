-- `simulated_runs::fresh_run` meets its contract. Assumes nothing.
use native.Mathlib.Omega.{arith}
use borrow.Author.Rules.{rules}
use Rattle.translator.proofs.Standing.{slice_bytes, few_nodes, valid_long}
use Rattle.simulation.specs.Simulated.{Span}
use Rattle.run.proofs.Handed.{small_offsets}
use Rattle.simulator.proofs.Looping.{zero_at}
use Rattle.simulated_runs.proofs.Calling.{together, tried_so, late_among}
use Rattle.simulated_runs.proofs.fresh_run.Goals as goal

pub start-requires : goal.start-requires
start-requires c =
    let s = c in
    let table = s.args.table.now in
    let bytes = slice_bytes table c.type_inv.table in
    (s.requires.0, s.requires.1, search rules, s.requires.3.stand, small_offsets table bytes s.requires.0 (together s.requires.3))

pub bounds-table-3 : goal.bounds-table-3
bounds-table-3 c = let s = c in omega (arith, valid_long s.args.table.now (slice_bytes s.args.table.now c.type_inv.table) s.requires.0)

pub overflow_cast-count : goal.overflow_cast-count
overflow_cast-count c = let s = c in omega (arith, few_nodes s.args.table.now (slice_bytes s.args.table.now c.type_inv.table) s.requires.0)

pub word_at-horizon-requires : goal.word_at-horizon-requires
word_at-horizon-requires c = let s = c in omega (arith, valid_long s.args.table.now (slice_bytes s.args.table.now c.type_inv.table) s.requires.0)

pub one_run-requires : goal.one_run-requires
one_run-requires c =
    let s = c in
    (c.start.ensures.running c.word_at-horizon.result, (λ i h. zero_at 8 i), search rules, s.requires.4, s.requires.5, omega arith)

pub returns : goal.returns
returns c =
    let s = c in
    let table = s.args.table.now in
    let bytes = slice_bytes table c.type_inv.table in
    let w : Span = record { lo = s.args.lo; hi = s.args.hi } in
    let plan = s.requires.3 in
    record {
      run = tried_so table bytes s.requires.0 s.requires.2 plan c.start.ensures c.word_at-horizon.ensures w s.args.seed c.one_run.ensures;
      node = late_among table s.requires.0 plan.passages plan.accepted_schedule w s.args.seed
          (tried_so table bytes s.requires.0 s.requires.2 plan c.start.ensures c.word_at-horizon.ensures w s.args.seed c.one_run.ensures plan.passages plan.accepted_schedule);
    }
