-- `meetings::horizon` meets its contract. Assumes nothing.
use mathlib.Core.Path.{◌∙◌}
use native.Mathlib.Omega.{arith}
use Rattle.schedule.proofs.Tables.{header, horizon_is}
use Rattle.meetings.proofs.horizon.Goals as goal

pub word_at-requires : goal.word_at-requires
word_at-requires c = let e = c in omega (arith, header e.args.table.now c.type_inv.table e.requires)

pub returns : goal.returns
returns c = let e = c in c.word_at.ensures ∙ horizon_is e.args.table.now c.type_inv.table e.requires
