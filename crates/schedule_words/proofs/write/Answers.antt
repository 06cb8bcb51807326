-- `schedule_words::write` meets its contract. Assumes nothing.
use borrow.Author.Rules.{rules}
use Rattle.schedule_words.proofs.write.Goals as goal

pub returns : goal.returns
returns c = record { prefix_len = c.put_printed.ensures.prefix_len; out_after = c.put_printed.ensures.out_after; upper_bound = search rules }
