-- `run_text::offsets::put_listed` meets its contract. Assumes nothing.
use mathlib.Core.Path.{refl, ◌∙◌}
use mathlib.Core.List.{◌++◌}
use native.Mathlib.Omega.{arith}
use lib.ListN.{take}
use Rattle.model.specs.Run.{offset_in}
use Rattle.run_text.proofs.OffsetsTold.{rest, rest_turn, rest_done, all_listed}
use Rattle.run_text.proofs.offsets.put_listed.Goals as goal

pub loop-c-init : goal.loop-c-init
loop-c-init c =
    let s = c in
    (omega arith, omega (arith, s.requires.1), omega (arith, c.put_field-end.ensures.1, c.put_field-end.auto.out, s.requires.0), refl, omega arith, refl)

pub loop-c-preserved : goal.loop-c-preserved
loop-c-preserved c =
    let a = c.args in
    let l = c.loop-c in
    let inv = l.invariant in
    (omega arith, omega arith, inv.2, c.put_field-end-in-loop-c.auto.out ∙ inv.3, omega (arith, c.put_field-end-in-loop-c.ensures.1, inv.4), rest_turn (offset_in a.offsets.now) a.nodes l.out c.put_field-end-in-loop-c.new.out (take c.put_field-end.result c.put_field-end.new.out ++ rest (offset_in a.offsets.now) a.nodes 1) l.end c.put_field-end-in-loop-c.result l.c c.offset_of-in-loop-c.result (omega arith) c.offset_of-in-loop-c.ensures c.put_field-end-in-loop-c.ensures.0 inv.5)

pub shape_of-out : goal.shape_of-out
shape_of-out c = c.loop-c.invariant.3 ∙ c.put_field-end.auto.out

pub returns : goal.returns
returns c =
    let s = c in
    let a = s.args in
    let l = c.loop-c in
    let all = rest_done (offset_in a.offsets.now) a.nodes l.out (take c.put_field-end.result c.put_field-end.new.out ++ rest (offset_in a.offsets.now) a.nodes 1) l.end l.c (omega arith) l.invariant.5 in
    (all_listed (offset_in a.offsets.now) a.nodes c.offset_of.result s.requires.1 c.offset_of.ensures c.put_field-end.ensures.0 all, omega (arith, c.put_field-end.ensures.1, l.invariant.4, l.invariant.1))
