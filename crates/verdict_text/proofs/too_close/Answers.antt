-- `verdict_text::too_close` meets its contract. Assumes nothing.
use borrow.Author.Tests.{le-leb, lt-leb}
use lib.ListN.{get_or}
use Rattle.verdict_text.proofs.too_close.Goals as goal

pub returns-then-one-other : goal.returns-then-one-other
returns-then-one-other c =
    let a = c.args in
    rw (le-leb (get_or a.v.now 4 0) (get_or a.w.now 4 0) c.if-one-other.true) c.lacking.ensures

pub returns-else-one-other : goal.returns-else-one-other
returns-else-one-other c =
    let a = c.args in
    rw (lt-leb (get_or a.v.now 4 0) (get_or a.w.now 4 0) c.if-one-other.false) c.lacking-else-one-other.ensures
