-- `simulator::early::first_ready` meets its contract. Assumes nothing.
use mathlib.Core.Path.{◌≡◌}
use mathlib.Core.Logic.{by_cases}
use native.Mathlib.Decide.{dec_le}
use Prim.Native.Nat.{◌<◌}
use native.Mathlib.Omega.{arith}
use borrow.Author.Tests.{not-false}
use Rattle.simulator.proofs.Passing.{passed_none, passed_next}
use Rattle.simulator.proofs.early.first_ready.Goals as goal

pub returns-then-left-le8 : goal.returns-then-left-le8
returns-then-left-le8 c = passed_none c.args.words.now c.args.count c.args.tick c.args.turn c.args.left c.requires.2

pub loop-c-init : goal.loop-c-init
loop-c-init c = passed_none c.args.words.now c.args.count c.args.tick c.args.turn c.args.left c.requires.2

pub returns-then-not-is_early : goal.returns-then-not-is_early
returns-then-not-is_early c = c.loop-c.invariant

pub loop-c-preserved : goal.loop-c-preserved
loop-c-preserved c = passed_next c.args.words.now c.args.count c.args.tick c.args.turn c.args.left c.loop-c.invariant c.loop-c-test.true c.requires.1 (omega (arith, c.if-left-le8.false)) (c.is_early.ensures (not-false c.is_early.result c.if-not-is_early.false-raw))

pub returns : goal.returns
returns c =
    let i = c.loop-c.invariant in
    let last : c.max.result ≡ c.loop-c.c =
    by_cases (dec_le c.loop-c.c c.args.turn)
    (λ k. omega (arith, c.max.ensures, i.from, c.loop-c-test.false))
    (λ k. let past : c.args.turn < c.loop-c.c = omega arith in omega (arith, c.max.ensures, i.to past, c.loop-c-test.false)) in
    rw last i
