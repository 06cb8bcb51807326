-- `edge_choice::answered` meets its contract. Assumes nothing.
use mathlib.Core.Path.{sym, ap, ◌∙◌}
use native.Mathlib.Omega.{arith}
use Rattle.model.specs.EdgeChoice.{chosen_of}
use Rattle.window.proofs.Considering.{pick_some, pick_none}
use Rattle.edge_choice.proofs.answered.Goals as goal

pub returns-then-choice-gt65535 : goal.returns-then-choice-gt65535
returns-then-choice-gt65535 c =
    let a = c.args in
    c.none_taken.ensures ∙ ap (λ k. chosen_of k a.looked) (sym (pick_none a.choice (omega (arith, c.if-choice-gt65535.true))))

pub overflow_cast-result : goal.overflow_cast-result
overflow_cast-result c = omega (arith, c.requires (omega (arith, c.if-choice-gt65535.false)))

pub returns : goal.returns
returns c =
    let a = c.args in
    ap (λ k. chosen_of k a.looked) (sym (pick_some a.choice (omega (arith, c.if-choice-gt65535.false))))
