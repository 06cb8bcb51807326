-- `turning::rows_of_each` meets its contract. Assumes nothing.
use mathlib.Core.Path.{refl, ◌∙◌}
use native.Mathlib.Omega.{arith}
use lib.ListN.{length-set}
use Rattle.rows.specs.Rows.{rows_of}
use Rattle.turning.specs.Turned.{between}
use Rattle.turning.proofs.Between.{one_counted}
use Rattle.turning.proofs.rows_of_each.Goals as goal

pub loop-c-init : goal.loop-c-init
loop-c-init c = (omega arith, refl, λ n k h b. absurd (omega arith))

pub rows_between-requires : goal.rows_between-requires
rows_between-requires c = (c.requires.0, c.requires.1, c.requires.2)

pub loop-c-preserved : goal.loop-c-preserved
loop-c-preserved c =
    let a = c.args in
    let l = c.loop-c in (
      omega arith,
      length-set l.numbers l.c c.rows_between.result ∙ l.invariant.1,
      λ n k h. one_counted l.numbers (between (rows_of a.rows.now n) a.first a.second) l.c c.rows_between.result (omega (arith, l.invariant.1, c.requires.3, c.loop-c-test.true)) (λ k b. l.invariant.2 n k h b) (c.rows_between.ensures n h) k,
    )

pub returns : goal.returns
returns c = λ n k h b. c.loop-c.invariant.2 n k h (omega (arith, b, c.loop-c-test.false))
