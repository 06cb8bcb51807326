-- `simulator::op_of` meets its contract. Assumes nothing.
use Rattle.machine.proofs.Loads.{op_read}
use Rattle.simulator.proofs.op_of.Goals as goal

pub returns : goal.returns
returns c v =
    let a = c.args in
    op_read a.program.now a.words.now v a.c c.word-base.result c.word.result c.word-pc.result c.op_at.result c.word-base.ensures c.word.ensures c.word-pc.ensures c.op_at.ensures
