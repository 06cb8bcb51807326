-- `words::put_field` meets its contract. Assumes nothing.
use native.Mathlib.Omega.{arith}
use Rattle.blocks.proofs.Runs.{put_join}
use Rattle.words.proofs.Numerals.{decimal_long}
use Rattle.words.proofs.put_field.Goals as goal

pub returns : goal.returns
returns c =
    let a = c.args in
    (search put_join, omega (arith, decimal_long 9 a.n (omega arith)))
