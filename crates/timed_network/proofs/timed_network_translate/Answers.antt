-- `timed_network::timed_network_translate` meets its contract. Assumes nothing.
use mathlib.Core.Path.{refl, ap, ◌∙◌, sym}
use native.Mathlib.Omega.{arith}
use Rattle.model.specs.Calls.{Call, number_of, concerned_of, translate_call}
use Rattle.timed_network.proofs.Header.{no_program}
use Rattle.table.proofs.Whole.{asks}
use Rattle.timed_network.proofs.Whole.{whole}
use Rattle.timed_network.proofs.Told.{earlier_rule}
use Rattle.timed_network.proofs.timed_network_translate.Goals as goal

pub returns-in-Err : goal.returns-in-Err
returns-in-Err c =
    let a = c.args in
    rw (no_program a.table.now c.from.result (c.from.ensures ∙ c.in-Err.ensures) (λ z. asks c.in-Err.fault (sym c.from.ensures ∙ z)) a.program.now) (c.header_numbers.ensures.0, c.header_numbers.ensures.1, c.header_numbers.ensures.2, refl, earlier_rule _)

pub numbers_of-requires : goal.numbers_of-requires
numbers_of-requires c = omega (arith, c.translate-c.ensures.3)

pub returns : goal.returns
returns c =
    let a = c.args in
    let w = ap (λ t. translate_call t a.program.now) (whole a.table.now) in (
      c.numbers_of.ensures.0 ∙ ap number_of (c.translate-c.ensures.0 ∙ ap (λ (k : Call). k.verdict) w),
      c.numbers_of.ensures.1 ∙ ap concerned_of (c.translate-c.ensures.0 ∙ ap (λ (k : Call). k.verdict) w),
      c.numbers_of.ensures.2 ∙ c.translate-c.ensures.1 ∙ ap (λ (k : Call). k.size) w,
      c.translate-c.ensures.2 ∙ ap (λ (k : Call). k.lent) w,
      earlier_rule _,
    )
