-- `blocks::put_ageing` meets its contract. Assumes nothing.
use Rattle.blocks.proofs.Runs.{put_is}
use Rattle.blocks.proofs.Blocks.{zeroed, grown}
use Rattle.blocks.proofs.put_ageing.Goals as goal

pub returns-then-bits-eq1 : goal.returns-then-bits-eq1
returns-then-bits-eq1 c =
    let args = c.args in
    put_is (zeroed args.bits args.clock c.if-bits-eq1.true) c.put_quad.ensures

pub returns : goal.returns
returns c =
    let args = c.args in
    put_is (grown args.bits args.clock c.if-bits-eq1.false) c.put_quad-2.ensures
