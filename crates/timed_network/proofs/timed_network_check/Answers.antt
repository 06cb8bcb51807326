-- `timed_network::timed_network_check` meets its contract. Assumes nothing.
use mathlib.Core.Path.{sym, ap, ◌∙◌}
use Rattle.timed_network.proofs.Told.{earlier_rule, faults_told}
use Rattle.model.specs.Calls.{check_call, number_of, concerned_of}
use Prim.Native.Nat.{ℕ}
use Rattle.model.specs.declared.Verdict.TheVariants.{Refused}
use Rattle.timed_network.proofs.Whole.{whole}
use Rattle.timed_network.proofs.timed_network_check.Goals as goal

pub returns-in-Err : goal.returns-in-Err
returns-in-Err c =
    let e = ap (λ (k : ℕ). Refused k 255) c.from.ensures ∙ sym c.in-Err.ensures.0 in
    (ap number_of e, ap concerned_of e, c.check_header.ensures.1, earlier_rule _, faults_told _)

pub returns-in-Accepted : goal.returns-in-Accepted
returns-in-Accepted c =
    let bs = c.args.table.now in
    let e = sym c.in-Accepted.is ∙ c.check-v.ensures.0 ∙ ap check_call (whole bs) in
    (ap number_of e, ap concerned_of e, c.check_header.ensures.1, earlier_rule bs, faults_told bs)

pub returns-in-Refused : goal.returns-in-Refused
returns-in-Refused c =
    let bs = c.args.table.now in
    let e = sym c.in-Refused.is ∙ c.check-v.ensures.0 ∙ ap check_call (whole bs) in
    (ap number_of e, ap concerned_of e, c.check_header.ensures.1, earlier_rule bs, faults_told bs)
