-- `run_words::put_in_arrays` meets its contract. Assumes nothing.
use borrow.Author.Rules.{rules}
use Rattle.run_words.proofs.put_in_arrays.Goals as goal

pub returns : goal.returns
returns c = record { prefix_len = c.put_printed.ensures.prefix_len; out_after = c.put_printed.ensures.out_after; upper_bound = search rules }
