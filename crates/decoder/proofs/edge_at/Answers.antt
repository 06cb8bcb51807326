-- `decoder::edge_at` meets its contract. Assumes nothing.
use Rattle.model.specs.Places.{arc_at}
use Rattle.decoder.proofs.edge_at.Goals as goal

pub returns : goal.returns
unfolding arc_at
returns c = rw c.action_at.ensures
