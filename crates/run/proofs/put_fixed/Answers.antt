-- `run::put_fixed` meets its contract. Assumes nothing.
use Rattle.run.proofs.Beginning.{words_put}
use Rattle.run.proofs.put_fixed.Goals as goal

pub returns : goal.returns
returns c =
    let a = c.args in
    let pre = c.requires in
    words_put a.words.now a.c a.start a.long a.clocks a.variables a.row a.wake pre.0 pre.1 c.put_word.ensures c.put_word-2.ensures
    c.put_word-3.ensures c.put_word-4.ensures c.put_word-5.ensures c.put_word-6.ensures c.put_word-7.ensures
