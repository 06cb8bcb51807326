-- `uppaal_steps::names::put_waiting_name` meets its contract. Assumes nothing.
use Rattle.uppaal_steps.proofs.Naming.{name_alone, name_with}
use native.Mathlib.Omega.{arith}
use Rattle.blocks.proofs.Runs.{put_is, put_join}
use Rattle.uppaal_steps.proofs.names.put_waiting_name.Goals as goal

pub returns-then-message-eq255 : goal.returns-then-message-eq255
returns-then-message-eq255 c = (put_is (name_alone c.args.edge c.args.message (omega arith)) (search), omega arith)

pub returns : goal.returns
returns c = (put_is (name_with c.args.edge c.args.message (λ z. omega arith)) (search put_join), omega arith)
