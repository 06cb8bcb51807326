-- `machine::hear` meets its contract. Assumes nothing.
use mathlib.Core.Path.{refl}
use native.Mathlib.Omega.{arith}
use Rattle.registers.specs.Words.{held_in}
use Rattle.stand.proofs.Message.{message_grows}
use borrow.Author.Rules.{rules}
use Rattle.machine.proofs.NodeMoves.{asks, message_moved, finish_heard}
use Rattle.machine.proofs.hear.Goals as goal

pub take_message-next-requires : goal.take_message-next-requires
take_message-next-requires c =
    let start = c in
    let a = start.args in
    let pre = start.requires in
    let asked =
    asks a.program.now a.rows.now a.passages a.words.now a.values.now a.i c.word-base.result c.word.result (held_in a.words.now a.i) c.load-before.result
    c.word-base.ensures
    c.word.ensures
    refl
    c.load-before.ensures
    pre.3 in
    (asked.short, asked.op pre.4)

pub put_node-requires : goal.put_node-requires
put_node-requires c =
    let start = c in
    let a = start.args in
    let pre = start.requires in
    let asked =
    asks a.program.now a.rows.now a.passages a.words.now a.values.now a.i c.word-base.result c.word.result (held_in a.words.now a.i) c.load-before.result
    c.word-base.ensures
    c.word.ensures
    refl
    c.load-before.ensures
    pre.3 in
    let before = asked.within in
    let after = asked.put c.take_message-next.result (message_grows _ a.channel c.load-before.result c.take_message-next.result c.take_message-next.ensures) in
    (pre.0, pre.1, pre.2, asked.inside, search rules, pre.3.wakes)

pub put_word-requires : goal.put_word-requires
put_word-requires c = (c.put_node.ensures.eight.words, c.requires.2, omega arith)

pub returns : goal.returns
returns c =
    let start = c in
    let a = start.args in
    let pre = start.requires in
    finish_heard a.tick pre.2
    (message_moved a.program.now a.rows.now a.passages a.words.now a.values.now a.i c.word-base.result c.word.result (held_in a.words.now a.i) c.take_message-next.result
    c.put_node.new.words
    c.put_node.new.values
    c.word-base.ensures
    c.word.ensures
    refl
    c.load-before.result
    a.channel
    c.load-before.ensures
    pre.4
    c.take_message-next.ensures
    c.put_node.ensures)
    c.put_word.ensures
