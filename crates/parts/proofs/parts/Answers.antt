-- `parts::parts` meets its contract. Assumes nothing.
use mathlib.Core.Path.{◌≡◌, sym, ap, ◌∙◌}
use mathlib.Core.Bool.{true, false}
use Prim.Native.Nat.{◌-◌, ◌+◌}
use native.Mathlib.Omega.{arith}
use lib.ListN.{drop}
use Rattle.parts.specs.Place.{passes, width_of, fine_of}
use Rattle.parts.proofs.Skim.{tail, part_good, part_short, part_bad, turn, stop, done}
use Rattle.parts.proofs.parts.Goals as goal

pub returns-then-component-at : goal.returns-then-component-at
returns-then-component-at c =
    let a = c.args in
    let l = c.loop in
    let short = part_short (width_of a.kind) (fine_of a.kind a.sizes) (λ bs. tt) a.component.now l.at (omega (arith, c.width-w.ensures)) in
    record { says = stop (passes a.kind a.sizes) (a.count - l.counter) (a.count - (l.counter + 1)) (drop l.at a.component.now) _ (omega arith) short l.invariant.2; within = tt }

pub returns-then-not-fine : goal.returns-then-not-fine
returns-then-not-fine c =
    let a = c.args in
    let l = c.loop in
    let fine : fine_of a.kind a.sizes (drop l.at a.component.now) ≡ false =
    sym (c.fine.ensures ∙ ap (fine_of a.kind a.sizes) (tail a.component.now l.at)) ∙ c.if-not-fine.true in
    let w = c.width-w.ensures in
    let bad = part_bad (width_of a.kind) (fine_of a.kind a.sizes) (λ bs. tt) a.component.now l.at (omega (arith, w)) fine in
    record { says = stop (passes a.kind a.sizes) (a.count - l.counter) (a.count - (l.counter + 1)) (drop l.at a.component.now) _ (omega arith) bad l.invariant.2; within = tt }

pub loop-preserved : goal.loop-preserved
loop-preserved c =
    let a = c.args in
    let l = c.loop in
    let fine : fine_of a.kind a.sizes (drop l.at a.component.now) ≡ true =
    sym (c.fine.ensures ∙ ap (fine_of a.kind a.sizes) (tail a.component.now l.at)) ∙ c.if-not-fine.false in
    let w = c.width-w.ensures in
    let good = part_good (width_of a.kind) (fine_of a.kind a.sizes) (λ bs. tt) a.component.now l.at (omega (arith, w)) fine in
    let next = turn (passes a.kind a.sizes) (a.count - l.counter) (a.count - (l.counter + 1)) (drop l.at a.component.now) _ _ (omega arith) good l.invariant.2 in
    (omega arith, omega arith, rw w next)

pub returns : goal.returns
returns c =
    let a = c.args in
    let l = c.loop in
    record { says = done (passes a.kind a.sizes) (a.count - l.counter) (drop l.at a.component.now) _ (omega arith) l.invariant.2; within = (omega arith, omega arith) }
