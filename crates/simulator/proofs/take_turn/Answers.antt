-- `simulator::take_turn` meets its contract. Assumes nothing.
use native.Mathlib.Omega.{arith}
use Rattle.simulator.proofs.Passing.{holds_ready, passed_turned, few_passed}
use Rattle.simulator.proofs.take_turn.Goals as goal

pub overflow_sub-passed : goal.overflow_sub-passed
overflow_sub-passed c = c.first_ready-first.ensures.from

pub overflow_sub-left : goal.overflow_sub-left
overflow_sub-left c = omega (arith, c.first_ready-first.ensures.few, c.first_ready-first.ensures.from)

pub one_turn-next-requires : goal.one_turn-next-requires
one_turn-next-requires c = (c.requires.0, c.requires.1, c.requires.2, c.requires.3, c.requires.4, c.requires.5, omega (arith, c.first_ready-first.ensures.few, c.first_ready-first.ensures.from))

pub overflow_add-next : goal.overflow_add-next
overflow_add-next c = omega (arith, c.one_turn-next.ensures.1.most)

pub returns : goal.returns
returns c =
    let a = c.args in
    ((λ y h m. passed_turned a.program.now a.rows.now a.passages a.horizon a.count a.tick a.turn a.lo a.hi a.state a.left c.first_ready-first.result a.words.now a.values.now a.until.now h c.first_ready-first.ensures (c.one_turn-next.ensures.0 _ (holds_ready a.program.now a.rows.now a.passages a.horizon a.count a.tick a.turn a.lo a.hi a.state a.left c.first_ready-first.result a.words.now a.values.now a.until.now h c.first_ready-first.ensures) m)), few_passed c.first_ready-first.ensures c.one_turn-next.ensures.1)
