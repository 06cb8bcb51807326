-- `uppaal_steps::put_pairs` meets its contract. Assumes nothing.
use Rattle.uppaal_steps.proofs.put_pairs.Goals as goal

pub returns-then-count-ge2 : goal.returns-then-count-ge2
returns-then-count-ge2 c = rw c.if-steps.true c.put_messages.ensures
