-- `machine::move_node` meets its contract. Assumes nothing.
use mathlib.Core.Path.{sym, ◌∙◌}
use native.Mathlib.Omega.{arith}
use borrow.Author.Tests.{not-true, not-false}
use Rattle.registers.specs.Words.{held_in, node_in, part_in, wake_tick_in}
use Rattle.machine.proofs.Alone.{refused_asleep}
use Rattle.machine.proofs.Loads.{stands_there, all_inside}
use Rattle.machine.proofs.Ops.{addable}
use Rattle.machine.proofs.Unseen.{unwritten, refused_unseen, finished_unseen}
use Prim.Native.Nat.{◌≤◌}
use Rattle.machine.proofs.move_node.Goals as goal

pub returns-then-tick-since : goal.returns-then-tick-since
returns-then-tick-since c H =
    let s = c in
    let a = s.args in
    unwritten (refused_asleep a.program.now a.rows.now a.passages H a.count a.tick a.c a.words.now a.values.now _ 0 s.requires.0.most s.requires.1 (omega (arith, c.if-tick-since.true, c.word-since.ensures)))

pub send_message-requires : goal.send_message-requires
send_message-requires c =
    let s = c in
    (s.requires.0, s.requires.1, sym s.requires.2 ∙ c.if-op-eq-SEND.true)

pub returns-then-op-eq-SEND : goal.returns-then-op-eq-SEND
returns-then-op-eq-SEND c H =
    let up : let a = c.args in wake_tick_in a.words.now a.c ≤ a.tick =
    (omega (arith, c.if-tick-since.false, c.word-since.ensures)) in
    unwritten (c.send_message.ensures H 0 _ up)

pub may_finish-requires : goal.may_finish-requires
may_finish-requires c =
    let s = c in
    let a = s.args in
    let st = s.requires.0.each a.c s.requires.1 in
    (s.requires.0.eight, omega (arith, s.requires.0.most, s.requires.1), all_inside s.requires.0 a.c s.requires.1, st.held, omega (arith, st.within.t), s.requires.2)

pub returns-then-not-may_finish : goal.returns-then-not-may_finish
returns-then-not-may_finish c H =
    let up : let a = c.args in wake_tick_in a.words.now a.c ≤ a.tick =
    (omega (arith, c.if-tick-since.false, c.word-since.ensures)) in
    let s = c in
    let a = s.args in
    refused_unseen a.program.now a.rows.now a.passages H a.count a.tick a.c a.words.now a.values.now s.requires.0.most s.requires.1 up (λ z. c.if-op-eq-SEND.false (s.requires.2 ∙ z)) c.word-since.ensures (sym c.may_finish.ensures ∙ not-true c.may_finish.result c.if-not-may_finish.true-raw)

pub finish_node-requires : goal.finish_node-requires
finish_node-requires c =
    let s = c in
    let a = s.args in (
      s.requires.0.eight,
      s.requires.0.listed,
      (omega (arith, s.requires.0.most, s.requires.1)),
      stands_there s.requires.0 a.c s.requires.1,
      s.requires.2,
      addable (part_in a.program.now a.words.now a.c) (held_in a.words.now a.c) (node_in a.words.now a.values.now a.c) _ (sym c.may_finish.ensures ∙ not-false c.may_finish.result c.if-not-may_finish.false-raw),
    )

pub returns : goal.returns
returns c H =
    let up : let a = c.args in wake_tick_in a.words.now a.c ≤ a.tick =
    (omega (arith, c.if-tick-since.false, c.word-since.ensures)) in
    let s = c in
    let a = s.args in
    finished_unseen a.program.now a.rows.now a.passages H a.count a.tick a.c a.words.now a.values.now s.requires.0.most s.requires.1 up (λ z. c.if-op-eq-SEND.false (s.requires.2 ∙ z)) c.word-since.ensures (sym c.may_finish.ensures ∙ not-false c.may_finish.result c.if-not-may_finish.false-raw) c.finish_node.ensures.0 a.op s.requires.2 c.finish_node.ensures.1
