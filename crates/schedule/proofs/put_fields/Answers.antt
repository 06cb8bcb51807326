use mathlib.Core.Path.{◌≡◌, refl, ap, ◌∙◌}
use native.Mathlib.Omega.{arith}
use lib.Seq.{sets}
use Rattle.model.specs.Lists.{each}
use Rattle.model.specs.Schedule.{seven_of}
use Rattle.rows.specs.Rows.{rows_from, rows_of}
use Rattle.schedule.proofs.Fields.{fields_turn, fields_done}
use Rattle.schedule.proofs.put_fields.Goals as goal

pub loop-i-init : goal.loop-i-init
unfolding each rows_from
loop-i-init c = (refl, refl)

pub loop-i-preserved : goal.loop-i-preserved
loop-i-preserved c =
    let a = c.args in
    let l = c.loop-i in
    (c.put_seven.auto.out ∙ l.invariant.0, fields_turn a.rows.now a.out.now l.out c.put_seven.new.out l.i l.invariant.1 c.put_seven.ensures)

pub shape_of-out : goal.shape_of-out
shape_of-out c = c.loop-i.invariant.0

pub returns : goal.returns
returns c =
    let a = c.args in
    let l = c.loop-i in
    let e : l.i ≡ a.count = omega arith in
    l.invariant.1 ∙ ap (λ k. sets a.out.now 0 (each seven_of (rows_of a.rows.now k))) e ∙ fields_done a.rows.now a.out.now a.count (omega arith)
