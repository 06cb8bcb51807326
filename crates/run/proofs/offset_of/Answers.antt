-- `run::offset_of` meets its contract. Assumes nothing.
use mathlib.Core.Path.{sym}
use lib.ListN.{get_or-eq_default}
use Rattle.run.proofs.offset_of.Goals as goal

pub returns-else-c-offsets : goal.returns-else-c-offsets
returns-else-c-offsets c = let a = c.args in sym (get_or-eq_default a.offsets.now 0 c.if-c-offsets.false)
