-- `translator::arc_share` meets its contract. Assumes nothing.
use Rattle.translator.proofs.Sizes.{shared}
use Rattle.translator.proofs.arc_share.Goals as goal

pub returns : goal.returns
returns c =
    let args = c.args in
    shared args.budgets args.bytes.now args.clocks c.clocks_length.result c.wide.result c.work_length.result c.wide-2.result c.budget_length-budget.result c.head_length-head.result c.head_length-head.ensures.0 c.clocks_length.ensures.0 c.wide.ensures.0 c.work_length.ensures.0 c.wide-2.ensures.0 c.budget_length-budget.ensures.0
