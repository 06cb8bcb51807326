-- `words::put_words` meets its contract. Assumes nothing.
use Rattle.words.proofs.Stores.{words_past}
use Rattle.words.proofs.put_words.Goals as goal

pub returns-else-at-out : goal.returns-else-at-out
returns-else-at-out c = words_past c.args.out.now c.args.words.now c.args.at c.if-at-out.false
