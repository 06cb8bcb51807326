-- `run::run_table` meets its contract. Assumes nothing.
use native.Mathlib.Omega.{arith}
use Rattle.run.proofs.run_table.Goals as goal

pub run_in-requires-2 : goal.run_in-requires-2
run_in-requires-2 c =
    let s = c in
    (s.requires.0, s.requires.1, omega (arith, c.program_length.ensures), s.requires.2, s.requires.3, s.requires.4)
