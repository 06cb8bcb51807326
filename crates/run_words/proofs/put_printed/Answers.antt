-- `run_words::put_printed` meets its contract. Assumes nothing.
use mathlib.Core.Path.{sym, ◌∙◌}
use native.Mathlib.Omega.{arith}
use Rattle.text.proofs.Appended.{counts}
use Rattle.run_words.proofs.RunCalled.{ran_words, not_run_words, text_none, few_nodes}
use Rattle.run_words.proofs.put_printed.Goals as goal

pub put_run-requires : goal.put_run-requires
put_run-requires c =
    let s = c in
    let a = s.args in
    let few = few_nodes a.spread a.table.now a.offsets.now a.choices.now a.observations.now (sym c.run_apart-r.ensures.0.verdict ∙ c.in-Accepted.is) in
    (s.requires.0, c.run_apart-r.ensures.0.few, omega (arith, c.run_apart-r.ensures.0.few, s.requires.1, c.run_apart-r.auto.observations), omega (arith, c.nodes_of.ensures, few))

pub returns-in-Accepted : goal.returns-in-Accepted
returns-in-Accepted c =
    let s = c in
    let a = s.args in
    let words = ran_words a.spread a.table.now a.offsets.now a.choices.now a.observations.now (sym c.run_apart-r.ensures.0.verdict ∙ c.in-Accepted.is) c.run_apart-r.result.end c.run_apart-r.result.tick c.run_apart-r.result.used c.run_apart-r.result.size c.nodes_of.result c.run_apart-r.new.observations c.run_apart-r.ensures.0.end c.run_apart-r.ensures.0.tick c.run_apart-r.ensures.0.used c.run_apart-r.ensures.0.size c.run_apart-r.ensures.0.lent c.nodes_of.ensures in
    let text = c.put_run.ensures.0.text ∙ words in record { prefix_len = counts c.put_run.result c.put_run.new.out (omega (arith, c.put_run.ensures.1, c.put_run.auto.out, s.requires.0)); out_after = text; out_after_2 = text_none a.spread a.table.now a.offsets.now a.choices.now a.observations.now text }

pub returns-in-Refused : goal.returns-in-Refused
returns-in-Refused c =
    let s = c in
    let a = s.args in
    let words = not_run_words a.spread a.table.now a.offsets.now a.choices.now a.observations.now _ _ (sym c.run_apart-r.ensures.0.verdict ∙ c.in-Refused.is) in
    let text = c.put_refusal_text.ensures.0.text ∙ words in record { prefix_len = counts c.put_refusal_text.result c.put_refusal_text.new.out (omega (arith, c.put_refusal_text.ensures.1, c.put_refusal_text.auto.out, s.requires.0)); out_after = text; out_after_2 = text_none a.spread a.table.now a.offsets.now a.choices.now a.observations.now text }
