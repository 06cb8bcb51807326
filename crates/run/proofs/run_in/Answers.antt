-- `run::run_in` meets its contract. Assumes nothing.
use mathlib.Core.Path.{sym, ap, ◌∙◌}
use lib.ListN.{length}
use Rattle.model.specs.Places.{read_of}
use Rattle.model.specs.Program.{program_bytes}
use Rattle.run.proofs.Handed.{front_fits, front_is}
use Rattle.run.proofs.run_in.Goals as goal

pub write_program-long-requires : goal.write_program-long-requires
write_program-long-requires c = let s = c in (s.requires.0, s.requires.1, s.requires.2)

pub slice_bounds-run_program-end : goal.slice_bounds-run_program-end
slice_bounds-run_program-end c = front_fits (program_bytes (read_of c.args.table.now)) _ c.write_program-long.ensures.0 c.write_program-long.ensures.1

pub slice_bounds-run_program-end-2 : goal.slice_bounds-run_program-end-2
slice_bounds-run_program-end-2 c =
    let program = program_bytes (read_of c.args.table.now) in
    c.write_program-long.ensures.0 ∙ sym (ap length (front_is program _ c.write_program-long.ensures.0 c.write_program-long.ensures.1))

pub run_program-requires : goal.run_program-requires
run_program-requires c =
    let s = c in
    let program = program_bytes (read_of s.args.table.now) in
    (s.requires.0, s.requires.1, front_is program _ c.write_program-long.ensures.0 c.write_program-long.ensures.1, s.requires.3, s.requires.4, s.requires.5)
