-- `blocks::put_data_test` meets its contract. Assumes nothing.
use native.Mathlib.Omega.{arith}
use Rattle.model.specs.Program.{quad}
use Rattle.blocks.proofs.Parts.{data_words, data_room}
use Rattle.blocks.proofs.Runs.{put_is, put_join, room_next}
use Rattle.blocks.proofs.put_data_test.Goals as goal

pub put_quad-next-requires : goal.put_quad-next-requires
put_quad-next-requires c =
    let args = c.args in
    let pre = c.requires in
    (data_room args.bytes.now args.out.now args.at pre.1).0

pub put_quad-requires : goal.put_quad-requires
put_quad-requires c =
    let args = c.args in
    let pre = c.requires in
    room_next c.put_quad-next.ensures (quad 0 0 0) (data_room args.bytes.now args.out.now args.at pre.1).1

pub returns : goal.returns
returns c =
    let args = c.args in
    let e = data_words args.bytes.now c.word_at.result c.word_at-2.result (omega arith) (omega arith) c.word_at.ensures c.word_at-2.ensures in
    put_is e (put_join c.put_quad-next.ensures c.put_quad.ensures)
