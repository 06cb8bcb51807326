-- `uppaal_text::put_states` meets its contract. Assumes nothing.
use Rattle.uppaal_text.proofs.Processes.{states_put}
use native.Mathlib.Omega.{arith}
use Rattle.uppaal_text.proofs.put_states.Goals as goal

pub returns : goal.returns
returns c =
    let a = c.args in
    (states_put a.budgets a.component.now c.requires.0 c.put_locations-first.ensures.0 c.put_edges-next.ensures.0 c.put_words.ensures, omega (arith, c.put_locations-first.ensures.1, c.put_edges-next.ensures.1))
