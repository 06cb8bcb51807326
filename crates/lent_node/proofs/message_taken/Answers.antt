-- `lent_node::message_taken` meets its contract. Assumes nothing.
use mathlib.Core.Path.{sym, ◌∙◌}
use Rattle.lent_node.proofs.Laws.{too_long, has_taken, not_named, takes_it, listens}
use borrow.Author.Rules.{rules}
use Rattle.lent_node.proofs.message_taken.Goals as goal

pub returns-then-part-gt65535 : goal.returns-then-part-gt65535
returns-then-part-gt65535 c =
    let a = c.args in
    too_long a.part.now a.channel a.registers (search rules)

pub returns-then-registers : goal.returns-then-registers
returns-then-registers c =
    let a = c.args in
    has_taken a.part.now a.channel a.registers (search rules) c.if-registers.true

pub take_message-requires : goal.take_message-requires
take_message-requires c =
    let a = c.args in
    (search rules, listens a.part.now a.channel a.registers (sym c.names.ensures ∙ c.if-names.true))

pub returns-then-names : goal.returns-then-names
returns-then-names c =
    let a = c.args in
    takes_it a.part.now a.channel a.registers (search rules) (sym c.names.ensures ∙ c.if-names.true) c.if-registers.false c.take_message.result c.take_message.ensures

pub returns : goal.returns
returns c =
    let a = c.args in
    not_named a.part.now a.channel a.registers (search rules) (sym c.names.ensures ∙ c.if-names.false)
