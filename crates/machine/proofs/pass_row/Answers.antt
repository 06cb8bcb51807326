-- `machine::pass_row` meets its contract. Assumes nothing.
use borrow.Author.Rules.{rules}
use Rattle.machine.proofs.RowsOwn.{next_put, none_put}
use Rattle.machine.proofs.pass_row.Goals as goal

pub returns-then-row-passages : goal.returns-then-row-passages
returns-then-row-passages c =
    let start = c in
    let a = start.args in
    let pre = start.requires in
    next_put a.rows.now a.passages a.words.now a.c c.word-row.result c.next_row-next.result c.put_word.new.words pre.0 pre.2 c.word-row.ensures c.if-row-passages.true
    c.next_row-next.ensures.0
    c.next_row-next.ensures.1
    c.next_row-next.ensures.2
    c.put_word.ensures

pub returns-else-row-passages : goal.returns-else-row-passages
returns-else-row-passages c =
    let a = c.args in
    none_put a.rows.now a.passages a.words.now a.c c.word-row.result c.word-row.ensures (search rules)
