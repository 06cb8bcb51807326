-- `timed_network_words::timed_network_words_refusal` meets its contract. Assumes nothing.
use native.Mathlib.Omega.{arith}
use Rattle.timed_network_words.proofs.Laying.{worded}
use borrow.Author.Rules.{rules}
use Rattle.timed_network_words.proofs.timed_network_words_refusal.Goals as goal

pub returns : goal.returns
returns c =
    (worded c.put_refusal-n.ensures.out_after c.lay.ensures, omega (arith, c.lay.ensures.size, c.put_refusal-n.ensures.prefix_len.1, c.put_refusal-n.ensures.upper_bound))
