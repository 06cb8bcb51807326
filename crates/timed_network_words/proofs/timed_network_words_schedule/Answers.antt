-- `timed_network_words::timed_network_words_schedule` meets its contract. Assumes nothing.
use native.Mathlib.Omega.{arith}
use Rattle.timed_network_words.proofs.Laying.{worded}
use borrow.Author.Rules.{rules}
use Rattle.timed_network_words.proofs.timed_network_words_schedule.Goals as goal

pub returns : goal.returns
returns c =
    (worded c.write-n.ensures.out_after c.lay.ensures, omega (arith, c.lay.ensures.size, c.write-n.ensures.prefix_len.1, c.write-n.ensures.upper_bound))
