-- `translator::work_length` meets its contract. Assumes nothing.
use native.Mathlib.Omega.{arith}
use mathlib.Core.Path.{sym, ◌∙◌}
use Rattle.translator.proofs.Sizes.{send_length, internal_length, receive_length}
use Rattle.translator.proofs.work_length.Goals as goal

pub returns-in-Internal : goal.returns-in-Internal
returns-in-Internal c =
    let is = internal_length c.args.budgets c.args.bytes.now (sym c.in-Internal.is ∙ c.action_at-action.ensures) in
    (omega (arith, is, c.wide.ensures.0), omega (arith, c.wide.ensures))

pub returns-in-Send : goal.returns-in-Send
returns-in-Send c = (send_length c.args.budgets c.args.bytes.now _ (sym c.in-Send.is ∙ c.action_at-action.ensures), omega arith)

pub returns-in-Receive : goal.returns-in-Receive
returns-in-Receive c =
    let is = receive_length c.args.budgets c.args.bytes.now (sym c.in-Receive.is ∙ c.action_at-action.ensures) in
    (omega (arith, is, c.wide-in-Receive.ensures.0), omega (arith, c.wide-in-Receive.ensures))
