-- `blocks::put_parts` meets its contract. Assumes nothing.
use mathlib.Core.Path.{◌≡◌}
use Prim.Native.Nat.{◌+◌, ◌-◌, ◌<◌}
use native.Mathlib.Omega.{arith}
use lib.ListN.{length, drop}
use Rattle.blocks.specs.Made.{width_of, all_made}
use Rattle.blocks.proofs.Runs.{begin, writing_long}
use Rattle.blocks.proofs.Parts.{one_of, part_asked, part_put, parts_fit, parts_done}
use Rattle.blocks.proofs.put_parts.Goals as goal

pub loop-init : goal.loop-init
loop-init c =
    let args = c.args in
    let z : args.count - 0 ≡ args.count = omega arith in
    rw z (omega (arith, c.requires.0), begin args.out.now args.at (all_made args.kind args.count args.bytes.now))

pub put_part-next-requires : goal.put_part-next-requires
put_part-next-requires c =
    let args = c.args in
    let loop = c.loop in
    part_asked args.kind args.bytes.now (args.count - loop.counter) loop.place (omega (arith, c.loop-test.true)) loop.invariant.1 loop.invariant.0 c.requires.1

pub overflow_add-place : goal.overflow_add-place
overflow_add-place c =
    let loop = c.loop in
    let args = c.args in
    omega (arith, loop.invariant.0, one_of (args.count - loop.counter) (width_of args.kind) (omega (arith, c.loop-test.true)), c.width-w.ensures)

pub loop-preserved : goal.loop-preserved
loop-preserved c =
    let loop = c.loop in
    let args = c.args in
    let more : 0 < args.count - loop.counter = omega (arith, c.loop-test.true) in
    let fewer : args.count - loop.counter - 1 ≡ args.count - (loop.counter + 1) = omega arith in
    rw (c.width-w.ensures, ← fewer) (
      parts_fit (args.count - loop.counter) (width_of args.kind) loop.place (length args.bytes.now) more loop.invariant.0,
      part_put args.kind args.bytes.now (args.count - loop.counter) loop.place more loop.invariant.1 c.put_part-next.ensures,
    )

pub shape_of-out : goal.shape_of-out
shape_of-out c = writing_long c.loop.invariant.1

pub returns : goal.returns
returns c =
    let args = c.args in
    let loop = c.loop in
    parts_done args.kind (drop loop.place args.bytes.now) (args.count - loop.counter) (omega (arith, c.loop-test.false)) loop.invariant.1
