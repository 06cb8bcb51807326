-- `positions::positions` meets its contract. Assumes nothing.
use native.Mathlib.Omega.{arith}
use Rattle.model.proofs.Schedule.Batched.{batch_true}
use Rattle.table.proofs.Answered.{was_valid, its_starts, read_refused}
use Rattle.positions.proofs.Calling.{not_read}
use Rattle.positions.proofs.positions.Goals as goal

pub positions_read-requires : goal.positions_read-requires
positions_read-requires c =
    let bs = c.args.table.now in
    (was_valid bs c.read-r.result c.read-r.ensures c.in-Accepted.is, its_starts bs c.read-r.result c.read-r.ensures c.in-Accepted.is)

pub returns-in-Refused : goal.returns-in-Refused
returns-in-Refused c =
    let a = c.args in record { gives = not_read a.table.now a.pairs.now a.answers.now c.refused.result (read_refused a.table.now c.read-r.result c.read-r.ensures c.in-Refused.is) c.refused.ensures; positions_true = (batch_true a.table.now a.pairs.now a.answers.now, omega (arith, c.refused.ensures.1)) }

pub returns-in-Accepted : goal.returns-in-Accepted
returns-in-Accepted c =
    let a = c.args in record { gives = c.positions_read.ensures.0; positions_true = (batch_true a.table.now a.pairs.now a.answers.now, c.positions_read.ensures.1) }
