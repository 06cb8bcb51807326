-- `timed_network_words::timed_network_words_spread` meets its contract. Assumes nothing.
use native.Mathlib.Omega.{arith}
use borrow.Author.Rules.{rules}
use Rattle.timed_network_words.proofs.timed_network_words_spread.Goals as goal

pub returns : goal.returns
returns c =
    ((_, c.write-n.ensures.printed, c.lay.ensures), omega (arith, c.lay.ensures.size, c.write-n.ensures.prefix_len.1, c.write-n.ensures.upper_bound))
