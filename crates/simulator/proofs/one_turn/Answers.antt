-- `simulator::one_turn` meets its contract. Assumes nothing.
use mathlib.Core.Path.{◌≡◌, ap, ◌∙◌}
use native.Mathlib.Omega.{arith}
use Rattle.simulator.specs.declared.Turn.{Turn}
use Rattle.simulator.proofs.Still.{placed}
use Rattle.simulator.proofs.Turning.{turned_is, begun_anew}
use Rattle.simulator.proofs.one_turn.Goals as goal

-- a node's
pub returns-then-turn-count : goal.returns-then-turn-count
returns-then-turn-count c =
    let s = c in
    ((λ y h m. c.node_turn.ensures.0 s.args.horizon y h m), record { some = omega (arith, c.node_turn.ensures.1); most = omega (arith, c.node_turn.ensures.1, s.requires.6); ticks = omega (arith, c.node_turn.ensures.1, c.node_turn.ensures.2) })

-- once more
pub returns-then-moved : goal.returns-then-moved
returns-then-moved c =
    let s = c in
    let a = s.args in
    let one : c.anew_at.result.turns ≡ 1 = ap (λ (x : Turn). x.turns) c.anew_at.ensures in
    ((λ y h m. turned_is c.anew_at.ensures (begun_anew a.program.now a.rows.now a.passages a.horizon a.count a.tick a.turn a.lo a.hi a.state a.words.now a.values.now a.until.now h c.if-turn-count.false (m ∙ c.if-moved.true))), record { some = omega (arith, one); most = omega (arith, one, s.requires.6); ticks = omega (arith, one, ap (λ (x : Turn). x.tick) c.anew_at.ensures) })

pub rest_turn-requires : goal.rest_turn-requires
rest_turn-requires c =
    let s = c in
    let R = s.requires.0.running in
    (R.eight.words, s.requires.1, R.most, (λ i h. placed (R.each i h)), s.requires.4, s.requires.5, s.requires.6)

-- the tick
pub returns : goal.returns
returns c =
    let a = c.args in
    ((λ y h m. c.rest_turn.ensures.0 a.rows.now a.passages a.lo a.hi a.values.now y h c.if-turn-count.false (m ∙ c.if-moved.false)), c.rest_turn.ensures.1)
