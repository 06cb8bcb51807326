-- `turning::turn` meets its contract. Assumes nothing.
use native.Mathlib.Omega.{arith}
use Rattle.turning.proofs.Back.{none_back, one_back, next_fewer, all_turned}
use Rattle.turning.proofs.turn.Goals as goal

pub move_rows-requires : goal.move_rows-requires
move_rows-requires c = c.requires.0

pub loop-c-init : goal.loop-c-init
loop-c-init c = (omega arith, none_back c.args.fewer c.args.first c.args.words.now)

pub overflow_add-first : goal.overflow_add-first
overflow_add-first c = omega (arith, c.requires.0.few, c.requires.2, c.requires.3)

pub turn_node-requires : goal.turn_node-requires
turn_node-requires c = (omega (arith, c.loop-c.invariant.1.long, c.requires.1), omega (arith, c.requires.2, c.loop-c-test.true), next_fewer c.loop-c.invariant.1 (c.requires.4 c.loop-c.c c.loop-c-test.true))

pub loop-c-preserved : goal.loop-c-preserved
loop-c-preserved c =
    let l = c.loop-c in
    (omega arith, one_back l.invariant.1 (omega (arith, l.invariant.1.long, c.requires.1)) (omega (arith, c.requires.2, c.loop-c-test.true)) c.turn_node.ensures)

pub shape_of-rows : goal.shape_of-rows
shape_of-rows c = c.move_rows.ensures.1

pub shape_of-words : goal.shape_of-words
shape_of-words c = c.loop-c.invariant.1.long

pub returns : goal.returns
returns c = all_turned c.move_rows.ensures c.loop-c.invariant.1 c.loop-c-test.false
