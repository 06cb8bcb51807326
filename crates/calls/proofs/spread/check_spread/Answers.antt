-- `calls::spread::check_spread` meets its contract. Assumes nothing.
use Rattle.model.proofs.Checks.Acceptance.{accepted_at_is}
use Rattle.translator.proofs.Standing.{slice_bytes}
use Rattle.table.proofs.Answered.{refused_at, narrow, valid_at, starts_at}
use Rattle.calls.proofs.Spreading.{check_refused_at}
use Rattle.calls.proofs.spread.check_spread.Goals as goal

pub plan_verdict-requires : goal.plan_verdict-requires
plan_verdict-requires c =
    let a = c.args in (
      valid_at a.spread a.table.now c.read_at-read.result c.read_at-read.ensures c.in-Accepted.is,
      starts_at a.spread a.table.now c.read_at-read.result c.read_at-read.ensures c.in-Accepted.is,
      narrow a.spread a.table.now c.read_at-read.result c.read_at-read.ensures c.in-Accepted.is,
    )

pub returns-in-Refused : goal.returns-in-Refused
returns-in-Refused c =
    let a = c.args in
    let bs = a.table.now in (
      check_refused_at a.spread bs (refused_at a.spread bs c.read_at-read.result c.read_at-read.ensures c.in-Refused.is),
      accepted_at_is a.spread bs (slice_bytes bs c.type_inv.table),
    )

pub returns-in-Accepted : goal.returns-in-Accepted
returns-in-Accepted c =
    let a = c.args in
    let bs = a.table.now in
    (c.plan_verdict.ensures, accepted_at_is a.spread bs (slice_bytes bs c.type_inv.table))
