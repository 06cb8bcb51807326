-- `verdict_words::put_printed` meets its contract. Assumes nothing.
use mathlib.Core.Path.{◌≡◌, ◌∙◌}
use mathlib.Core.List.{List}
use Prim.Native.Nat.{ℕ, ◌≤◌}
use native.Mathlib.Omega.{arith}
use lib.ListN.{length, replicate, length-replicate}
use Rattle.text.proofs.Appended.{next, counts}
use Rattle.verdict_words.proofs.VerdictCalled.{judged, few_listed, refused_words, accepted_words, at_none}
use Rattle.verdict_words.proofs.put_printed.Goals as goal

-- the numbers before the call
abbrev zeros : List ℕ
zeros = replicate 7175 0

long : length zeros ≡ 7175
long = length-replicate {A = ℕ} 7175 0

room : 7175 ≤ length zeros
room = omega (arith, long)

pub put_refused-requires : goal.put_refused-requires
put_refused-requires c =
    let s = c in
    let few = few_listed _ _ _ c.meetings_spread-r.ensures.2 in
    (s.requires, few, omega (arith, few, c.meetings_spread-r.auto.list, long), judged s.args.spread s.args.table.now zeros c.meetings_spread-r.ensures.0 c.in-Refused.is)

pub returns-in-Accepted : goal.returns-in-Accepted
returns-in-Accepted c =
    let s = c in
    let words = (next c.put-nodes.ensures.0 c.put_spread.ensures.0).text ∙ accepted_words s.args.spread s.args.table.now (judged s.args.spread s.args.table.now zeros c.meetings_spread-r.ensures.0 c.in-Accepted.is) in record { prefix_len = counts c.put_spread.result c.put_spread.new.out (omega (arith, c.put-nodes.ensures.1, c.put_spread.ensures.1, c.put-nodes.auto.out, c.put_spread.auto.out, s.requires)); out_after = words; out_after_2 = at_none s.args.spread s.args.table.now _ words }

pub returns-in-Refused : goal.returns-in-Refused
returns-in-Refused c =
    let s = c in
    let words = c.put_refused.ensures.out_after ∙ refused_words s.args.spread s.args.table.now zeros room c.meetings_spread-r.new.list c.meetings_spread-r.result.size c.meetings_spread-r.ensures.3 c.meetings_spread-r.ensures.2 _ _ (judged s.args.spread s.args.table.now zeros c.meetings_spread-r.ensures.0 c.in-Refused.is) in record { prefix_len = c.put_refused.ensures.prefix_len; out_after = words; out_after_2 = at_none s.args.spread s.args.table.now _ words }
