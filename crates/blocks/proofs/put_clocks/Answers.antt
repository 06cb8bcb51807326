-- `blocks::put_clocks` meets its contract. Assumes nothing.
use mathlib.Core.Path.{◌≡◌, sym}
use Prim.Native.Nat.{◌-◌}
use native.Mathlib.Nat.{div-one}
use native.Mathlib.Omega.{arith}
use Rattle.blocks.proofs.Runs.{begin, writing_long}
use Rattle.blocks.proofs.Blocks.{clocks_from, halved, clock_asked, clock_put, clocks_done}
use Rattle.blocks.proofs.put_clocks.Goals as goal

pub loop-i-init : goal.loop-i-init
loop-i-init c =
    let args = c.args in
    let z : args.clocks - 0 ≡ args.clocks = omega arith in
    (omega arith, sym (div-one args.mask), rw z (begin args.out.now args.at (clocks_from args.mask 0 args.clocks)))

pub put_ageing-next-requires : goal.put_ageing-next-requires
put_ageing-next-requires c =
    let args = c.args in
    let loop = c.loop-i in
    let loop-test = c.loop-i-test in
    let pre = c.requires in
    clock_asked args.mask loop.bits loop.i args.clocks loop-test.true loop.invariant.1 loop.invariant.2 (pre)

pub loop-i-preserved : goal.loop-i-preserved
loop-i-preserved c =
    let args = c.args in
    let loop = c.loop-i in
    let loop-test = c.loop-i-test in
    (omega arith, halved args.mask loop.bits loop.i loop.invariant.1, clock_put args.mask loop.bits loop.i args.clocks loop-test.true loop.invariant.1 loop.invariant.2 c.put_ageing-next.ensures)

pub shape_of-out : goal.shape_of-out
shape_of-out c = writing_long c.loop-i.invariant.2

pub returns : goal.returns
returns c =
    let args = c.args in
    let loop = c.loop-i in
    let loop-test = c.loop-i-test in
    clocks_done args.mask loop.i args.clocks loop-test.false loop.invariant.2
