-- `simulation_words::put_printed` meets its contract. Assumes nothing.
use mathlib.Core.Path.{◌∙◌}
use native.Mathlib.Omega.{arith}
use borrow.Author.Rules.{rules}
use Rattle.text.proofs.Appended.{counts}
use Rattle.simulation_words.proofs.Told.{simulated_words, refused_words, few_nodes}
use Rattle.simulation_words.proofs.put_printed.Goals as goal

pub put_simulation-requires : goal.put_simulation-requires
put_simulation-requires c =
    let s = c in
    let a = s.args in
    let few = few_nodes a.table.now a.lo a.hi a.runs a.seed c.simulate_from-answer.result c.simulate_from-answer.ensures.0 c.in-Accepted.is in
    (s.requires, omega (arith, c.nodes_of.ensures, few))

pub returns-in-Refused : goal.returns-in-Refused
returns-in-Refused c =
    let s = c in
    let a = s.args in
    let words = refused_words a.table.now a.lo a.hi a.runs a.seed c.simulate_from-answer.result c.simulate_from-answer.ensures.0 _ _ c.in-Refused.is in record { prefix_len = counts c.put_refusal_text.result c.put_refusal_text.new.out (omega (arith, c.put_refusal_text.ensures.1, c.put_refusal_text.auto.out, s.requires)); out_after = c.put_refusal_text.ensures.0.text ∙ words }

pub returns-in-Accepted : goal.returns-in-Accepted
returns-in-Accepted c =
    let s = c in
    let a = s.args in
    let words = simulated_words a.table.now a.lo a.hi a.runs a.seed c.simulate_from-answer.result c.simulate_from-answer.ensures.0 c.in-Accepted.is c.nodes_of.result c.nodes_of.ensures in record { prefix_len = counts c.put_simulation.result c.put_simulation.new.out (omega (arith, c.put_simulation.ensures.1, c.put_simulation.auto.out, s.requires)); out_after = c.put_simulation.ensures.0.text ∙ words }
