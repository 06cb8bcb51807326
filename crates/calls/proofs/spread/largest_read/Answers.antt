-- `calls::spread::largest_read` meets its contract. Assumes nothing.
use mathlib.Core.Path.{◌≡◌, sym, ◌∙◌}
use native.Mathlib.Omega.{arith}
use Rattle.model.specs.Calls.{check_call_at}
use Rattle.model.proofs.Run.CallsApart.{check_together}
use Rattle.calls.proofs.Spreading.{verdict-at, made_rows, no_spread, this_spread}
use Rattle.calls.proofs.spread.largest_read.Goals as goal

pub bisect-requires : goal.bisect-requires
bisect-requires c =
    let made-verdict : c.plan_rows-made.result.verdict ≡ check_call_at 0 c.args.table.now =
    (let e = c in
    verdict-at 0 e.args.table.now e.requires.0 (omega arith) c.plan_rows-made.result _ c.plan_rows-made.ensures) in
    let made = c in
    let e = made in
    (e.requires.0, sym made-verdict ∙ c.in-Accepted.is, made_rows e.args.table.now e.requires.0 made.plan_rows-made.result _ made.plan_rows-made.ensures c.in-Accepted.is)

pub returns-in-Refused : goal.returns-in-Refused
returns-in-Refused c =
    let made-verdict : c.plan_rows-made.result.verdict ≡ check_call_at 0 c.args.table.now =
    (let e = c in
    verdict-at 0 e.args.table.now e.requires.0 (omega arith) c.plan_rows-made.result _ c.plan_rows-made.ensures) in
    let made = c in
    let bs = made.args.table.now in
    no_spread bs (sym c.in-Refused.is ∙ made-verdict ∙ check_together bs)

pub returns-in-Accepted : goal.returns-in-Accepted
returns-in-Accepted c =
    let made-verdict : c.plan_rows-made.result.verdict ≡ check_call_at 0 c.args.table.now =
    (let e = c in
    verdict-at 0 e.args.table.now e.requires.0 (omega arith) c.plan_rows-made.result _ c.plan_rows-made.ensures) in
    let made = c in
    let bs = made.args.table.now in
    this_spread bs c.bisect.result (sym c.in-Accepted.is ∙ made-verdict ∙ check_together bs) c.bisect.ensures.0
