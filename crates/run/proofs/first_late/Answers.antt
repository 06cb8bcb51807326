-- `run::first_late` meets its contract. Assumes nothing.
use mathlib.Core.Path.{◌≡◌}
use native.Mathlib.Omega.{arith}
use borrow.Author.Rules.{rules}
use Rattle.run.proofs.Looked.{one_more_timely}
use Rattle.run.proofs.first_late.Goals as goal

pub loop-c-init : goal.loop-c-init
loop-c-init c = (search rules, λ i h. absurd (omega arith))

pub returns-then-word-tick : goal.returns-then-word-tick
returns-then-word-tick c =
    let l = c.loop-c in
    record {
      first = record { among = search rules; before = l.invariant.1; there = λ h. omega (arith, c.word.ensures, c.if-word-tick.true) };
      node = λ i e. let q : l.c ≡ i = cc in omega arith;
    }

pub loop-c-preserved : goal.loop-c-preserved
loop-c-preserved c =
    let a = c.args in
    let l = c.loop-c in
    (search rules, one_more_timely a.words.now l.c a.tick l.invariant.1 (omega (arith, c.word.ensures, c.if-word-tick.false)))

pub returns : goal.returns
returns c =
    let l = c.loop-c in
    record {
      first = record { among = search rules; before = λ i h. l.invariant.1 i (search rules); there = λ h. absurd (omega arith) };
      node = λ i e. absurd (cc);
    }
