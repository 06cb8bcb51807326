-- `turning::counted` meets its contract. Assumes nothing.
use mathlib.Core.Path.{sym, ◌∙◌}
use Rattle.turning.proofs.Between.{is-of, not_of}
use Rattle.turning.proofs.counted.Goals as goal

pub returns-then-index-c : goal.returns-then-index-c
returns-then-index-c c = is-of c.args.rows.now c.args.i c.args.c c.args.number (sym c.index.ensures ∙ c.if-index-c.true)

pub returns : goal.returns
returns c = not_of c.args.rows.now c.args.i c.args.c c.args.number (λ e. c.if-index-c.false (c.index.ensures ∙ e))
