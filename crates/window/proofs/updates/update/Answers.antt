use mir.Syntax.{w16}
use mir.Val.{SFits}
use mir.ValLaws.{to_z-of_z}
use lib.IntN.{pos}
use mathlib.Core.Path.{refl, sym, ap, ◌∙◌}
use Prim.Native.Nat.{◌<◌, ◌-◌}
use native.Mathlib.Omega.{arith}
use lib.ListN.{get_or}
use Rattle.model.specs.Reader.{update_at}
use Rattle.window.proofs.Rests.{all_left, one_fewer, at_place, all_first, all_rest}
use Rattle.window.proofs.Updating.{new_as, update_stop, update_turn, update_done}
use borrow.Author.Rules.{rules}
use Rattle.window.proofs.updates.update.Goals as goal

pub loop-init : goal.loop-init
loop-init c = rw (all_left c.args.count) (omega arith, c.requires.1, refl)

pub bounds-changed-i : goal.bounds-changed-i
bounds-changed-i c =
    let a = c.args in
    let l = c.loop in
    let u = at_place update_at a.updates.now l.at c.update_at-update.ensures in
    let small : c.update_at-update.result.variable < 4 = rw u (all_first update_at 4 a.updates.now l.at (a.count - l.counter) (omega arith) l.invariant.1) in
    search rules

pub returns-in_err-changed : goal.returns-in_err-changed
returns-in_err-changed c =
    let a = c.args in
    let l = c.loop in
    let h = a.updates.now in
    let u = at_place update_at h l.at c.update_at-update.ensures in
    let f : SFits w16 (get_or l.changed c.from-i.result (pos 0)) = search rules in
    let e = new_as l.changed c.update_at-update.result _ c.from-i.result _ u c.from-i.ensures (to_z-of_z w16 _ f) c.new_value.ensures in
    rw c.from_residual.ensures (update_stop h l.at (a.count - l.counter) l.changed _ l.invariant.2 (omega arith) (sym e ∙ c.in_err-changed.was))

pub bounds-changed-i-in-loop : goal.bounds-changed-i-in-loop
bounds-changed-i-in-loop c =
    let a = c.args in
    let l = c.loop in
    let u = at_place update_at a.updates.now l.at c.update_at-update.ensures in
    let small : c.update_at-update.result.variable < 4 = rw u (all_first update_at 4 a.updates.now l.at (a.count - l.counter) (omega arith) l.invariant.1) in
    search rules

pub loop-preserved : goal.loop-preserved
loop-preserved c =
    let a = c.args in
    let l = c.loop in
    let h = a.updates.now in
    let u = at_place update_at h l.at c.update_at-update.ensures in
    let f : SFits w16 (get_or l.changed c.from-i.result (pos 0)) = search rules in
    let g : SFits w16 c.in_ok-changed.field-0 = search rules in
    let e = new_as l.changed c.update_at-update.result _ c.from-i.result _ u c.from-i.ensures (to_z-of_z w16 _ f) c.new_value.ensures in
    let j = c.from-i.ensures ∙ ap (λ x. x.variable) u in
    rw (one_fewer a.count l.counter) (
      omega arith,
      all_rest update_at 4 h l.at (a.count - l.counter) (omega arith) l.invariant.1,
      rw (to_z-of_z w16 c.in_ok-changed.field-0 g) (update_turn h l.at (a.count - l.counter) l.changed _ l.invariant.2 (omega arith) c.from-i.result c.in_ok-changed.field-0 j (sym e ∙ c.in_ok-changed.was)),
    )

pub returns : goal.returns
returns c =
    let a = c.args in
    let l = c.loop in
    update_done a.updates.now l.at (a.count - l.counter) l.changed _ l.invariant.2 (omega arith)
