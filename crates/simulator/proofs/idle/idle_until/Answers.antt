-- `simulator::idle::idle_until` meets its contract. Assumes nothing.
use native.Mathlib.Omega.{arith}
use Rattle.simulator.proofs.Idling.{idle_first, idle_next, idle_all}
use Rattle.simulator.proofs.idle.idle_until.Goals as goal

pub loop-c-init : goal.loop-c-init
loop-c-init c = let a = c.args in (omega arith, idle_first a.program.now a.words.now a.until.now a.count a.horizon c.calm_until-idle.ensures)

pub still_until-requires : goal.still_until-requires
still_until-requires c =
    let s = c in
    (s.requires.0, s.requires.1, omega (arith, s.requires.2, c.loop-c-test.true), s.requires.3 c.loop-c.c c.loop-c-test.true)

pub loop-c-preserved : goal.loop-c-preserved
loop-c-preserved c =
    let a = c.args in
    let l = c.loop-c in (
      omega (arith, c.loop-c-test.true),
      idle_next a.program.now a.words.now a.until.now a.count a.horizon l.invariant.1 c.still_until.ensures (omega (arith, c.min-idle.ensures)) (omega (arith, c.min-idle.ensures)),
    )

pub returns : goal.returns
returns c =
    let a = c.args in
    idle_all a.program.now a.words.now a.until.now a.count a.horizon c.loop-c.invariant.1 (omega (arith, c.loop-c-test.false))
