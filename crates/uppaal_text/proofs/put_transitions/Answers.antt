-- `uppaal_text::put_transitions` meets its contract. Assumes nothing.
use Rattle.uppaal_text.proofs.Processes.{transitions_put}
use native.Mathlib.Omega.{arith}
use Rattle.uppaal_text.proofs.put_transitions.Goals as goal

pub returns : goal.returns
returns c =
    let a = c.args in
    (transitions_put a.budgets a.component.now c.requires.0 c.put_edges-next.ensures.0 c.put_words.ensures, omega (arith, c.put_edges-next.ensures.1))
