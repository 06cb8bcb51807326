-- `long_run::steps::run_table` meets its contract. Assumes nothing.
use native.Mathlib.Omega.{arith}
use Rattle.long_run.proofs.steps.run_table.Goals as goal

pub run_in-requires-2 : goal.run_in-requires-2
run_in-requires-2 c =
    let p = c.requires in
    (p.0, p.1, omega (arith, c.program_length.ensures), p.2, p.3)
