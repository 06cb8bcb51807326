-- `spread_words::put_printed` meets its contract. Assumes nothing.
use mathlib.Core.Path.{sym, ◌∙◌}
use native.Mathlib.Omega.{arith}
use lib.ListN.{take}
use Rattle.text.proofs.Appended.{counts}
use Rattle.spread_words.proofs.Determined.{printed_accepted, printed_refused}
use Rattle.spread_words.proofs.put_printed.Goals as goal

pub returns-in-Accepted : goal.returns-in-Accepted
returns-in-Accepted c =
    let s = c in record { prefix_len = counts c.put_spread.result c.put_spread.new.out (omega (arith, c.put_spread.ensures.1, c.put_spread.auto.out, s.requires)); printed = printed_accepted s.args.table.now (take c.put_spread.result c.put_spread.new.out) c.largest_spread-largest.result.spread (sym c.largest_spread-largest.ensures.0 ∙ c.in-Accepted.is) (c.largest_spread-largest.ensures.1 c.in-Accepted.is) c.put_spread.ensures.0.text }

pub returns-in-Refused : goal.returns-in-Refused
returns-in-Refused c =
    let s = c in record { prefix_len = counts c.put_refusal_text.result c.put_refusal_text.new.out (omega (arith, c.put_refusal_text.ensures.1, c.put_refusal_text.auto.out, s.requires)); printed = printed_refused s.args.table.now (take c.put_refusal_text.result c.put_refusal_text.new.out) _ _ (sym c.largest_spread-largest.ensures.0 ∙ c.in-Refused.is) c.put_refusal_text.ensures.0.text }
