-- `rows::message_then` meets its contract. Assumes nothing.
use mathlib.Core.Path.{ap, ◌∙◌}
use native.Mathlib.Omega.{arith}
use Rattle.rows.specs.Rows.{message_of}
use Rattle.rows.proofs.message_then.Goals as goal

pub returns-then-number-horizon : goal.returns-then-number-horizon
returns-then-number-horizon c = ap message_of c.number-then-number-horizon.ensures ∙ c.requires.2 (omega (arith, c.if-number-horizon.true, c.number.ensures))

pub returns : goal.returns
returns c = ap message_of c.wide32.ensures.0 ∙ c.message.ensures
