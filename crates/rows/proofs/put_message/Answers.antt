-- `rows::put_message` meets its contract. Assumes nothing.
use mathlib.Core.Path.{ap}
use lib.ListN.{set}
use Prim.Native.Nat.{◌+◌, ◌*◌}
use Rattle.rows.proofs.put_message.Goals as goal

pub returns : goal.returns
returns c = ap (set c.args.rows.now (c.args.i * 9 + 6)) c.wide32.ensures.0
