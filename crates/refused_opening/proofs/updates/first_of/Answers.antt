-- `refused_opening::updates::first_of` meets its contract. Assumes nothing.
use mathlib.Core.Path.{refl, sym, ap, subst, ◌∙◌}
use Prim.Native.Nat.{◌<◌}
use native.Mathlib.Omega.{arith}
use Rattle.model.specs.Lists.{All}
use Rattle.window.proofs.Rests.{tail_long}
use Rattle.opening_place.specs.Opening.{first_out}
use Rattle.refused_opening.proofs.Outs.{rest_first, one_asked, rest_asked, stops_here, goes_on, none_left}
use Rattle.refused_opening.proofs.updates.first_of.Goals as goal

pub loop-done-init : goal.loop-done-init
loop-done-init c =
    let s = c in
    let e = rest_first s.args.updates.now s.args.count in
    (refl, s.requires.0, subst (λ us. All (λ u. u.variable < 4) us) e s.requires.1, ap (λ us. first_out 0 us s.args.values) (sym e))

pub slice_bounds-update-count : goal.slice_bounds-update-count
slice_bounds-update-count c = omega (arith, c.loop-done.invariant, c.loop-done-test.true)

pub slice_bounds-update-start : goal.slice_bounds-update-start
slice_bounds-update-start c = omega (arith, c.loop-done.invariant, c.loop-done-test.true)

pub update-requires : goal.update-requires
update-requires c =
    let l = c.loop-done in
    let us = c.args.updates.now in
    let n = c.args.count in
    let t = c.loop-done-test.true in
    (tail_long us l.at 4 (omega (arith, l.invariant.0, l.invariant.1)), one_asked us n l.at l.done t l.invariant.2)

pub returns-in-None : goal.returns-in-None
returns-in-None c =
    let l = c.loop-done in
    let a = c.args in
    sym (stops_here a.updates.now a.count l.at l.done c.loop-done-test.true l.changed c.update.result c.update.ensures c.in-None.is)
    ∙ l.invariant.3

pub overflow_add-at : goal.overflow_add-at
overflow_add-at c = omega (arith, c.loop-done.invariant, c.loop-done-test.true)

pub loop-done-preserved : goal.loop-done-preserved
loop-done-preserved c =
    let l = c.loop-done in
    let a = c.args in
    let t = c.loop-done-test.true in (
      omega (arith, l.invariant.0),
      l.invariant.1,
      rest_asked a.updates.now a.count l.at l.done t l.invariant.2,
      sym (goes_on a.updates.now a.count l.at l.done t l.changed c.update.result c.update.ensures c.in-Some.is)
          ∙ l.invariant.3,
    )

pub returns : goal.returns
returns c =
    let l = c.loop-done in
    let a = c.args in
    sym (none_left a.updates.now a.count l.at l.done l.changed (omega (arith, c.loop-done-test.false))) ∙ l.invariant.3
