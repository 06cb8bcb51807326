-- `spread_words::write` meets its contract. Assumes nothing.
use borrow.Author.Rules.{rules}
use Rattle.spread_words.proofs.write.Goals as goal

pub returns : goal.returns
returns c = record { prefix_len = c.put_printed.ensures.prefix_len; printed = c.put_printed.ensures.printed; upper_bound = search rules }
