-- `refusal_place::edges::one_part` meets its contract. Assumes nothing.
use mathlib.Core.Path.{◌≡◌}
use native.Mathlib.Omega.{arith}
use Rattle.refusal_place.specs.Walk.{one_part}
use Rattle.refusal_place.proofs.Within.{part_within}
use Rattle.refusal_place.proofs.edges.one_part.Goals as goal

pub returns : goal.returns
unfolding one_part
returns c =
    let a = c.args in
    let e : c.passed.result ≡ one_part a.table.now a.end a.sizes a.who a.w =
    rw (c.passed.ensures, c.inside.ensures.0, c.width.ensures.0) in
    (e, rw e (part_within a.table.now a.end a.sizes a.who a.w (omega arith)))
