-- `timed_network::spread::timed_network_check_spread` meets its contract. Assumes nothing.
use mathlib.Core.Path.{sym, ap, ◌∙◌}
use Rattle.timed_network.proofs.Told.{faults_told_at}
use Rattle.model.specs.Calls.{check_call_at, number_of, concerned_of}
use Prim.Native.Nat.{ℕ}
use Rattle.model.specs.declared.Verdict.TheVariants.{Refused}
use Rattle.timed_network.proofs.Whole.{whole}
use Rattle.timed_network.proofs.spread.timed_network_check_spread.Goals as goal

pub returns-in-Err : goal.returns-in-Err
returns-in-Err c =
    let e = ap (λ (k : ℕ). Refused k 255) c.from.ensures ∙ sym c.in-Err.ensures.0 in
    (ap number_of e, ap concerned_of e, c.check_header_spread.ensures.1, faults_told_at _ _)

pub returns : goal.returns
returns c =
    let a = c.args in
    let e = c.check_spread-verdict.ensures.0 ∙ ap (check_call_at a.spread) (whole a.table.now) in
    (c.verdict_numbers.ensures.0 ∙ ap number_of e, c.verdict_numbers.ensures.1 ∙ ap concerned_of e, c.check_header_spread.ensures.1, faults_told_at a.spread a.table.now)
