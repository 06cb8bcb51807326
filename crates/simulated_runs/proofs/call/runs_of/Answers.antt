-- `simulated_runs::call::runs_of` meets its contract. Assumes nothing.
use mathlib.Core.Path.{sym, ap, ◌∙◌}
use native.Mathlib.Omega.{arith}
use lib.ListN.{length}
use Rattle.model.specs.Places.{read_of}
use Rattle.model.specs.Program.{program_bytes}
use Rattle.translator.proofs.Standing.{slice_bytes}
use Rattle.translator.proofs.Programs.{program_most}
use Rattle.run.proofs.Handed.{front_fits, front_is}
use Rattle.simulated_runs.proofs.call.runs_of.Goals as goal

pub write_program-long-requires : goal.write_program-long-requires
write_program-long-requires c =
    let s = c in
    let table = s.args.table.now in
    (s.requires.0, s.requires.1, omega (arith, program_most table (slice_bytes table c.type_inv.table) s.requires.0))

pub slice_bounds-program-end : goal.slice_bounds-program-end
slice_bounds-program-end c =
    front_fits (program_bytes (read_of c.args.table.now)) _ c.write_program-long.ensures.0 c.write_program-long.ensures.1

pub slice_bounds-many_runs-end : goal.slice_bounds-many_runs-end
slice_bounds-many_runs-end c =
    let program = program_bytes (read_of c.args.table.now) in
    c.write_program-long.ensures.0 ∙ sym (ap length (front_is program _ c.write_program-long.ensures.0 c.write_program-long.ensures.1))

pub many_runs-requires : goal.many_runs-requires
many_runs-requires c =
    let s = c in
    (s.requires.0, s.requires.1, front_is (program_bytes (read_of s.args.table.now)) _ c.write_program-long.ensures.0 c.write_program-long.ensures.1, s.requires.2, s.requires.3, s.requires.4, s.requires.5)
