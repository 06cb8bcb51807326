-- `observation::put_written` meets its contract. Assumes nothing.
use Rattle.model.specs.Run.{observes}
use Rattle.node.specs.Views.{node_of}
use Rattle.observation.proofs.Laid.{written_put}
use borrow.Author.Rules.{rules}
use Rattle.observation.proofs.put_written.Goals as goal

pub returns : goal.returns
returns c p =
    let a = c.args in
    written_put a.out.now a.at (record { observation = observes a.c a.tick (node_of p a.held a.registers); previous = a.previous })
    (c.put_observation.ensures p) c.put32.ensures
