-- `run::calm_until` meets its contract. Assumes nothing.
use native.Mathlib.Omega.{arith}
use Rattle.registers.specs.Words.{word_in}
use Rattle.run.proofs.InARow.{least_more}
use Rattle.run.proofs.calm_until.Goals as goal

pub returns-then-horizon-eq0 : goal.returns-then-horizon-eq0
returns-then-horizon-eq0 c = record { due = λ i h. omega arith; last = λ i h. omega arith; before = omega arith }

pub loop-c-init : goal.loop-c-init
loop-c-init c = (omega arith, λ i h. absurd (omega arith), λ i h. absurd (omega arith), omega arith)

pub loop-c-preserved : goal.loop-c-preserved
loop-c-preserved c =
    let l = c.loop-c in
    let w = c.args.words.now in (
      omega (arith, c.loop-c-test.true),
      least_more (λ i. word_in w i 26) l.c l.calm c.min-calm.result (omega (arith, c.min-calm.ensures)) (omega (arith, c.min-calm.ensures, c.min.ensures, c.word-due.ensures)) l.invariant.1,
      least_more (λ i. word_in w i 27) l.c l.calm c.min-calm.result (omega (arith, c.min-calm.ensures)) (omega (arith, c.min-calm.ensures, c.min.ensures, c.word-last.ensures)) l.invariant.2,
      omega (arith, c.min-calm.ensures, l.invariant.3),
    )

pub returns : goal.returns
returns c =
    let l = c.loop-c in
    record { due = λ i h. l.invariant.1 i (omega (arith, c.loop-c-test.false)); last = λ i h. l.invariant.2 i (omega (arith, c.loop-c-test.false)); before = l.invariant.3 }
