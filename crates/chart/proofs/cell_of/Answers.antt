-- `chart::cell_of` meets its contract. Assumes nothing.
use native.Mathlib.Omega.{arith}
use Rattle.model.proofs.Schedule.Charted.{cell_there}
use Rattle.chart.proofs.cell_of.Goals as goal

pub overflow_cast-result : goal.overflow_cast-result
overflow_cast-result c = record { fits = omega (arith, (cell_there c.args.horizon c.args.tick c.requires.0).1) }

pub returns : goal.returns
returns c = cell_there c.args.horizon c.args.tick c.requires.0
