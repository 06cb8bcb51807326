-- `observation::put_observation` meets its contract. Assumes nothing.
use Rattle.model.specs.Run.{observes}
use Rattle.node.specs.Views.{node_of}
use Rattle.observation.proofs.Laid.{observation_put}
use borrow.Author.Rules.{rules}
use Rattle.observation.proofs.put_observation.Goals as goal

pub returns : goal.returns
returns c p =
    let a = c.args in
    observation_put a.out.now a.at (observes a.c a.tick (node_of p a.held a.registers)) c.put_quad.ensures c.put32.ensures c.put_clocks.ensures c.put_values.ensures
