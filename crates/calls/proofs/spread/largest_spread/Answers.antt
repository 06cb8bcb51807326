-- `calls::spread::largest_spread` meets its contract. Assumes nothing.
use mathlib.Core.Path.{sym, ap}
use Rattle.model.specs.Calls.{verdict_of, check_call}
use Rattle.table.proofs.Answered.{was_valid, its_starts, was_refused}
use Rattle.calls.proofs.Spreading.{no_spread}
use Rattle.calls.proofs.spread.largest_spread.Goals as goal

pub largest_read-requires : goal.largest_read-requires
largest_read-requires c =
    let bs = c.args.table.now in
    (was_valid bs c.read-read.result c.read-read.ensures c.in-Accepted.is, its_starts bs c.read-read.result c.read-read.ensures c.in-Accepted.is)

pub returns-in-Refused : goal.returns-in-Refused
unfolding check_call
returns-in-Refused c =
    let bs = c.args.table.now in
    no_spread bs (sym (ap verdict_of (was_refused bs c.read-read.result c.read-read.ensures c.in-Refused.is)))
