-- `blocks::put_update` meets its contract. Assumes nothing.
use native.Mathlib.Omega.{arith}
use Rattle.blocks.proofs.Parts.{adds, sets-to, update_room}
use Rattle.blocks.proofs.Runs.{put_is}
use Rattle.blocks.proofs.put_update.Goals as goal

pub put_quad-requires : goal.put_quad-requires
put_quad-requires c =
    let args = c.args in
    let pre = c.requires in
    update_room args.bytes.now args.out.now args.at pre.1

pub returns-then-bytes-eq1 : goal.returns-then-bytes-eq1
returns-then-bytes-eq1 c =
    let args = c.args in
    put_is (adds args.bytes.now c.word_at-number.result (omega arith) c.word_at-number.ensures c.if-bytes-eq1.true) c.put_quad.ensures

pub put_quad-requires-2 : goal.put_quad-requires-2
put_quad-requires-2 c =
    let args = c.args in
    let pre = c.requires in
    update_room args.bytes.now args.out.now args.at pre.1

pub returns : goal.returns
returns c =
    let args = c.args in
    put_is (sets-to args.bytes.now c.word_at-number.result (omega arith) c.word_at-number.ensures c.if-bytes-eq1.false) c.put_quad-2.ensures
