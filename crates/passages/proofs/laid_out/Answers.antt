use mathlib.Core.Path.{◌≡◌, refl, ◌∙◌}
use native.Mathlib.Omega.{arith}
use lib.ListN.{replicate, length-set, length-replicate}
use Rattle.passages.specs.Copied.{blank}
use Rattle.passages.proofs.Laying.{none_alike, one_more}
use Rattle.passages.proofs.laid_out.Goals as goal

pub loop-i-init : goal.loop-i-init
loop-i-init c = rw c.blanks-items.ensures (length-replicate 1024 blank, none_alike c.args.numbers.now (replicate 1024 blank))

pub passage_at-requires : goal.passage_at-requires
passage_at-requires c =
    let a = c in (omega arith, omega arith, a.requires.2.each c.loop-i.i c.loop-i-test.true)

pub loop-i-preserved : goal.loop-i-preserved
loop-i-preserved c =
    let a = c.args in
    let l = c.loop-i in
    (length-set l.items l.i _ ∙ l.invariant.0, one_more a.numbers.now l.i l.items c.passage_at.result (omega (arith, l.invariant.0)) c.passage_at.ensures l.invariant.1)

pub returns : goal.returns
returns c =
    let a = c.args in
    let l = c.loop-i in
    let e : l.i ≡ a.count = omega arith in
    record { verdict = refl; count = refl; items = λ j h. l.invariant.1 j (omega arith) }
