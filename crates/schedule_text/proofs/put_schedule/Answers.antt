-- `schedule_text::put_schedule` meets its contract. Assumes nothing.
use Rattle.std.proofs.Common.{◌∙◌, arith}
use Rattle.schedule_text.proofs.Listed.{none_listed, more_listed}
use Rattle.schedule_text.proofs.put_schedule.Goals as goal

pub loop-passage-init : goal.loop-passage-init
loop-passage-init c = (omega arith, omega arith, c.put-at.ensures.0.text ∙ none_listed c.args.passages.now)

pub loop-passage-preserved : goal.loop-passage-preserved
loop-passage-preserved c =
    let l = c.loop-passage in
    (omega arith, omega arith, more_listed c.args.passages.now _ l.out c.put_passage-at.new.out l.at c.put_passage-at.result l.passage-index c.loop-passage-test.true c.put_passage-at.ensures.0 l.invariant.2)
