-- `simulator::node_turn` meets its contract. Assumes nothing.
use mathlib.Core.Path.{refl}
use native.Mathlib.Omega.{arith}
use Rattle.simulator.proofs.Turning.{node_went, node_stays}
use Rattle.simulator.proofs.node_turn.Goals as goal

-- it moved
pub returns-in-Some : goal.returns-in-Some
returns-in-Some c =
    let s = c in
    let a = s.args in
    ((λ H y h m. node_went a.program.now a.rows.now a.passages H a.count a.tick a.c a.lo a.hi a.state a.words.now a.values.now a.until.now h (c.in-Some.ensures H) s.requires.1 refl), refl, omega arith)

-- it did not
pub returns : goal.returns
returns c =
    let s = c in
    let a = s.args in
    ((λ H y h m. node_stays a.program.now a.rows.now a.passages H a.count a.tick a.c a.lo a.hi a.state a.words.now a.values.now a.until.now h (c.in_default.ensures H) s.requires.1 refl a.moved m), refl, omega arith)
