-- `translator::clocks_length` meets its contract. Assumes nothing.
use mathlib.Core.Path.{◌≡◌}
use Prim.Native.Nat.{◌+◌, ◌-◌, ◌≤◌, ◌<◌}
use native.Mathlib.Omega.{arith}
use lib.ListN.{length, drop}
use Rattle.blocks.specs.declared.Kind.TheVariants.{ClockGuards}
use Rattle.blocks.specs.Made.{all_made}
use Rattle.translator.proofs.Laying.{left_there}
use Rattle.translator.proofs.Sizes.{clocks_most, clock_counted, none_counted}
use Rattle.translator.proofs.clocks_length.Goals as goal

pub loop-init : goal.loop-init
loop-init c = let z : c.args.count - 0 ≡ c.args.count = omega arith in rw z (omega arith, omega arith)

pub clock_length-long-requires : goal.clock_length-long-requires
clock_length-long-requires c = left_there c.args.bytes.now c.loop.place 5 (omega arith)

pub overflow_add-long : goal.overflow_add-long
overflow_add-long c =
    let loop = c.loop in
    let args = c.args in
    omega (arith, loop.invariant.1, clocks_most args.count args.bytes.now, c.clock_length-long.ensures.1)

pub loop-preserved : goal.loop-preserved
loop-preserved c =
    let args = c.args in
    let loop = c.loop in
    let more : 0 < args.count - c.loop.counter = omega (arith, c.loop-test.true) in
    let fewer : args.count - c.loop.counter - 1 ≡ args.count - (c.loop.counter + 1) = omega arith in
    rw (← fewer) (omega arith, clock_counted args.bytes.now loop.place (args.count - c.loop.counter) loop.long (length (all_made ClockGuards args.count args.bytes.now)) c.clock_length-long.result more loop.invariant.1 c.clock_length-long.ensures.0)

pub returns : goal.returns
returns c =
    let loop = c.loop in
    let args = c.args in
    let gone : args.count - c.loop.counter ≤ 0 = omega (arith, c.loop-test.false) in
    let z = none_counted (drop loop.place args.bytes.now) (args.count - c.loop.counter) gone in
    (omega (arith, loop.invariant.1), omega (arith, loop.invariant.1, clocks_most args.count args.bytes.now))
