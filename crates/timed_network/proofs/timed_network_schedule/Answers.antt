-- `timed_network::timed_network_schedule` meets its contract. Assumes nothing.
use mathlib.Core.Path.{refl, ap, ◌∙◌, sym}
use native.Mathlib.Omega.{arith}
use Rattle.model.specs.Calls.{Call, number_of, concerned_of, schedule_call}
use Rattle.timed_network.proofs.Header.{no_schedule}
use Rattle.table.proofs.Whole.{asks}
use Rattle.timed_network.proofs.Whole.{whole}
use Rattle.timed_network.proofs.Told.{budgets_kept}
use Rattle.timed_network.proofs.timed_network_schedule.Goals as goal

pub returns-in-Err : goal.returns-in-Err
returns-in-Err c =
    let a = c.args in
    rw (no_schedule a.table.now c.from.result (c.from.ensures ∙ c.in-Err.ensures) (λ z. asks c.in-Err.fault (sym c.from.ensures ∙ z)) a.list.now) (c.header_numbers.ensures.0, c.header_numbers.ensures.1, c.header_numbers.ensures.2, refl, budgets_kept _)

pub numbers_of-requires : goal.numbers_of-requires
numbers_of-requires c = omega (arith, c.schedule-c.ensures.3)

pub returns : goal.returns
returns c =
    let a = c.args in
    let w = ap (λ t. schedule_call t a.list.now) (whole a.table.now) in (
      c.numbers_of.ensures.0 ∙ ap number_of (c.schedule-c.ensures.0 ∙ ap (λ (k : Call). k.verdict) w),
      c.numbers_of.ensures.1 ∙ ap concerned_of (c.schedule-c.ensures.0 ∙ ap (λ (k : Call). k.verdict) w),
      c.numbers_of.ensures.2 ∙ c.schedule-c.ensures.1 ∙ ap (λ (k : Call). k.size) w,
      c.schedule-c.ensures.2 ∙ ap (λ (k : Call). k.lent) w,
      budgets_kept _,
    )
