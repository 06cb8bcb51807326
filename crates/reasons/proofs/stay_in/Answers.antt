-- `reasons::stay_in` meets its contract. Assumes nothing.
use mathlib.Core.Path.{refl, ap}
use Rattle.window.specs.Views.{entry_of}
use Rattle.replay.specs.Growing.{relocated}
use Rattle.reasons.proofs.stay_in.Goals as goal

pub returns : goal.returns
returns c = (refl, ap (λ k. relocated k (entry_of c.args.at)) c.number.ensures)
