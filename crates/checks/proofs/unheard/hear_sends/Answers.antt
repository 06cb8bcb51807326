-- `checks::unheard::hear_sends` meets its contract. Assumes nothing.
use mathlib.Core.Path.{refl, ◌∙◌}
use mathlib.Core.Bool.{true, false}
use Rattle.model.specs.Places.{read_of}
use Rattle.model.specs.Checks.{unheard}
use Rattle.rows.specs.Rows.{rows_of}
use Rattle.checks.proofs.Answers.{ahead_at, ahead_on, ahead_none}
use Rattle.checks.proofs.Single.{is_unheard, is_heard, not_heard, marked_in, marked_out, none_crowded}
use Rattle.checks.proofs.unheard.hear_sends.Goals as goal
use Rattle.checks.proofs.unheard.hear_sends.Goals.{then-is_send+in-Ok, else-is_send}

pub returns-in-Err : goal.returns-in-Err
returns-in-Err c =
    let a = c.args in
    let T = (read_of a.table.now).table in
    let l = a.rows.now in
    let o = c.loop-send in
    let there = c.loop-send-test.true in
    let told = c.in-Err.ensures in
    let u = is_unheard a.spread T a.horizon l a.count o.send c.in-Err.hearing c.is_send.result c.is_send.ensures c.if-is_send.true told.0 told.1 in
    (ahead_at (unheard a.spread T a.horizon (rows_of l a.count)) l a.count o.send true there u refl o.invariant.0, there, told.0)

pub loop-send-preserved : goal.loop-send-preserved
loop-send-preserved c =
    let e = c in
    let a = e.args in
    let T = (read_of a.table.now).table in
    let l = a.rows.now in
    let s = c.is_send in
    let o = c.loop-send in
    let there = c.loop-send-test.true in
    let p = unheard a.spread T a.horizon (rows_of l a.count) in (
      elim c.if-is_send.branch [
        | then-is_send+in-Ok w ↦ ahead_on p l a.count o.send false there (is_heard a.spread T a.horizon l a.count o.send _ s.result s.ensures w.if-is_send.true w.in-Ok.ensures.told refl) refl o.invariant.0
        | else-is_send w ↦ ahead_on p l a.count o.send false there (not_heard a.spread T a.horizon l a.count o.send s.result s.ensures w.if-is_send.false) refl o.invariant.0
      ],
      elim c.if-is_send.branch [
        | then-is_send+in-Ok w ↦ marked_in a.spread T a.horizon l a.count o.send o.apart o.listens o.invariant.1 w.in-Ok.row w.in-Ok.ensures.there e.requires.few w.in-Ok.ensures.alone c.if-is_send.apart (w.apart-is ∙ w.both-apart.ensures) c.if-is_send.listens w.listens-is
        | else-is_send w ↦ marked_out a.spread T a.horizon l a.count o.send o.apart o.listens o.invariant.1 s.result c.if-is_send.apart c.if-is_send.listens s.ensures w.if-is_send.false w.apart-is w.listens-is
      ],
    )

pub returns-then-apart : goal.returns-then-apart
returns-then-apart c =
    let a = c.args in
    let T = (read_of a.table.now).table in
    let l = a.rows.now in
    let o = c.loop-send in
    let past = c.loop-send-test.false in
    (ahead_none (unheard a.spread T a.horizon (rows_of l a.count)) l a.count o.send past o.invariant.0, none_crowded a.spread T a.horizon l a.count o.send o.apart o.listens o.invariant.1 past c.if-apart.true)

pub returns : goal.returns
returns c =
    let a = c.args in
    let o = c.loop-send in
    ahead_none (unheard a.spread (read_of a.table.now).table a.horizon (rows_of a.rows.now a.count)) a.rows.now a.count o.send c.loop-send-test.false o.invariant.0
