-- `timed_network::timed_network_timing_chart` meets its contract. Assumes nothing.
use mathlib.Core.Path.{refl, ap, ◌∙◌, sym}
use native.Mathlib.Omega.{arith}
use Rattle.model.specs.Calls.{Call, number_of, concerned_of}
use Rattle.model.specs.Chart.{chart_call}
use Rattle.timed_network.proofs.Header.{no_chart}
use Rattle.table.proofs.Whole.{asks}
use Rattle.timed_network.proofs.Whole.{whole}
use Rattle.timed_network.proofs.timed_network_timing_chart.Goals as goal

pub returns-in-Err : goal.returns-in-Err
returns-in-Err c =
    let a = c.args in
    rw (no_chart a.table.now c.from.result (c.from.ensures ∙ c.in-Err.ensures) (λ z. asks c.in-Err.fault (sym c.from.ensures ∙ z)) a.chart.now) (c.header_numbers.ensures.0, c.header_numbers.ensures.1, c.header_numbers.ensures.2, refl)

pub numbers_of-requires : goal.numbers_of-requires
numbers_of-requires c = omega (arith, c.timing_chart-c.ensures.3)

pub returns : goal.returns
returns c =
    let a = c.args in
    let w = ap (λ t. chart_call t a.chart.now) (whole a.table.now) in (
      c.numbers_of.ensures.0 ∙ ap number_of (c.timing_chart-c.ensures.0 ∙ ap (λ (k : Call). k.verdict) w),
      c.numbers_of.ensures.1 ∙ ap concerned_of (c.timing_chart-c.ensures.0 ∙ ap (λ (k : Call). k.verdict) w),
      c.numbers_of.ensures.2 ∙ c.timing_chart-c.ensures.1 ∙ ap (λ (k : Call). k.size) w,
      c.timing_chart-c.ensures.2 ∙ ap (λ (k : Call). k.lent) w,
    )
