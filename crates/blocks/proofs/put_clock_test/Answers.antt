-- `blocks::put_clock_test` meets its contract. Assumes nothing.
use mathlib.Core.Path.{sym}
use Rattle.model.specs.Reader.{byte, clock_guard_at}
use Rattle.model.specs.Program.{quad}
use Rattle.blocks.proofs.Parts.{low_only, low_and_high, low_first}
use Rattle.blocks.proofs.Runs.{put_is, put_join, room_is, room_next}
use Rattle.blocks.proofs.put_clock_test.Goals as goal

pub put_quad-next-requires : goal.put_quad-next-requires
put_quad-next-requires c =
    let args = c.args in
    let pre = c.requires in
    low_first (clock_guard_at args.bytes.now) args.out.now args.at pre.1

pub returns-then-high : goal.returns-then-high
returns-then-high c =
    let args = c.args in
    put_is (low_only args.bytes.now c.word_at-low.result c.word_at-high.result c.word_at-low.ensures c.word_at-high.ensures c.if-high.true) c.put_quad-next.ensures

pub put_quad-requires : goal.put_quad-requires
put_quad-requires c =
    let args = c.args in
    let pre = c.requires in
    let e = low_and_high args.bytes.now c.word_at-low.result c.word_at-high.result c.word_at-low.ensures c.word_at-high.ensures c.if-high.false in
    room_next c.put_quad-next.ensures (quad 0x0C (byte args.bytes.now 0) c.word_at-high.result) (room_is args.out.now args.at (sym e) pre.1)

pub returns : goal.returns
returns c =
    let args = c.args in
    let e = low_and_high args.bytes.now c.word_at-low.result c.word_at-high.result c.word_at-low.ensures c.word_at-high.ensures c.if-high.false in
    put_is e (put_join c.put_quad-next.ensures c.put_quad.ensures)
