-- `refused_opening::locate_read` meets its contract. Assumes nothing.
use mathlib.Core.Path.{sym, ap, ◌∙◌}
use native.Mathlib.Omega.{arith}
use lib.ListN.{get_or}
use Rattle.opening_place.specs.Opening.{opening_told}
use Rattle.schedule.proofs.Tables.{few_components, start_read}
use Rattle.refused_opening.proofs.Telling.{nothing_told}
use Rattle.refused_opening.proofs.locate_read.Goals as goal

pub bounds-starts-wide : goal.bounds-starts-wide
bounds-starts-wide c =
    let s = c in
    omega (arith, c.wide.ensures.0, (c.schedule_to_end-ended.ensures.stops _ _ c.in-Refused.is).component, few_components s.args.table.now c.type_inv.table s.requires.0)

pub told-requires : goal.told-requires
told-requires c =
    let s = c in
    let bs = s.args.table.now in
    let t = c.schedule_to_end-ended.ensures.stops _ _ c.in-Refused.is in
    (s.requires.0, t.component, start_read bs c.type_inv.table s.requires.0 s.args.starts _ c.word_place-start.result s.requires.1 t.component (c.word_place-start.ensures.0 ∙ ap (λ j. get_or s.args.starts j 0) c.wide.ensures.0), t.location, t.few)

pub returns-in-Accepted : goal.returns-in-Accepted
returns-in-Accepted c =
    let bs = c.args.table.now in
    c.no_opening.ensures ∙ nothing_told bs (sym c.schedule_to_end-ended.ensures.fills.verdict ∙ c.in-Accepted.is)

pub returns-in-Refused : goal.returns-in-Refused
returns-in-Refused c = c.told.ensures ∙ sym (ap opening_told (c.schedule_to_end-ended.ensures.stops _ _ c.in-Refused.is).stop)
