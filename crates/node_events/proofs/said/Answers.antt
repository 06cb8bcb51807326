-- `node_events::said` meets its contract. Assumes nothing.
use mathlib.Core.Path.{sym, ◌∙◌}
use borrow.Author.Tests.{not-true, not-false}
use Rattle.node_events.proofs.Laws.{no_tick, no-part, not_awaited, says_when}
use borrow.Author.Rules.{rules}
use Rattle.node_events.proofs.said.Goals as goal

-- src/lib.rt:159:9
pub returns-then-registers-gt4000000000000000000 : goal.returns-then-registers-gt4000000000000000000
returns-then-registers-gt4000000000000000000 c =
    let a = c.args in
    no_tick a.part.now a.what a.channel a.tick a.registers c.if-registers-gt4000000000000000000.true

-- src/lib.rt:162:9
pub returns-then-part-gt65535 : goal.returns-then-part-gt65535
returns-then-part-gt65535 c =
    let a = c.args in
    no-part a.part.now a.what a.channel a.tick a.registers (search rules) c.if-part-gt65535.true

-- src/lib.rt:165:9
pub returns-then-not-awaited : goal.returns-then-not-awaited
returns-then-not-awaited c =
    let a = c.args in
    not_awaited a.part.now a.what a.channel a.tick a.registers (sym c.awaited.ensures ∙ not-true _ c.if-not-awaited.true-raw)

-- src/lib.rt:155:1
pub returns : goal.returns
returns c =
    let a = c.args in
    says_when a.part.now a.what a.channel a.tick a.registers (sym c.awaited.ensures ∙ not-false _ c.if-not-awaited.false-raw) c.when.ensures
