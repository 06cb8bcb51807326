-- `rows::message` meets its contract. Assumes nothing.
use mathlib.Core.Path.{◌∙◌}
use Rattle.rows.proofs.Channels.{row_holds}
use Rattle.rows.proofs.message.Goals as goal

pub returns : goal.returns
returns c = rw c.unwrap_or.ensures (row_holds c.message_channel.result c.message_channel.ensures.small ∙ c.message_channel.ensures.found)
