-- `blocks::put_trial_from` meets its contract. Assumes nothing.
use mathlib.Core.Path.{sym}
use Rattle.blocks.proofs.Runs.{put_is, put_none, room_is}
use Rattle.blocks.proofs.Blocks.{skipped, tried}
use Rattle.blocks.proofs.put_trial_from.Goals as goal

pub returns-then-edge-here : goal.returns-then-edge-here
returns-then-edge-here c =
    let args = c.args in
    put_is (skipped args.location args.here args.number args.budgets args.bytes.now c.edge_at-edge.result c.edge_at-edge.ensures c.if-edge-here.true) (put_none args.out.now args.at)

pub put_trial-requires : goal.put_trial-requires
put_trial-requires c =
    let pre = c.requires in
    let args = c.args in
    (pre.0, pre.1, room_is args.out.now args.at (sym (tried args.location args.here args.number args.budgets args.bytes.now c.edge_at-edge.result c.edge_at-edge.ensures c.if-edge-here.false)) pre.2)

pub returns : goal.returns
returns c =
    let args = c.args in
    put_is (tried args.location args.here args.number args.budgets args.bytes.now c.edge_at-edge.result c.edge_at-edge.ensures c.if-edge-here.false) c.put_trial.ensures
