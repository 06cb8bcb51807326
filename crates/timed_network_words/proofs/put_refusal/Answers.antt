-- `timed_network_words::put_refusal` meets its contract. Assumes nothing.
use native.Mathlib.Omega.{arith}
use Rattle.text.proofs.Appended.{counts}
use borrow.Author.Rules.{rules}
use Rattle.timed_network_words.proofs.put_refusal.Goals as goal

pub returns : goal.returns
returns c = record { prefix_len = counts c.put_refusal_text.result c.put_refusal_text.new.out (search rules); out_after = c.put_refusal_text.ensures.0.text; upper_bound = search rules }
