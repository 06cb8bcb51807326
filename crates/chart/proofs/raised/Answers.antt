-- `chart::raised` meets its contract. Assumes nothing.
use borrow.Author.Tests.{eq-eqb, ne_eqb}
use Rattle.chart.proofs.raised.Goals as goal

pub returns-then-shown-eq-SPACE : goal.returns-then-shown-eq-SPACE
returns-then-shown-eq-SPACE c = rw (eq-eqb c.args.shown 32 c.if-shown-eq-SPACE.true)

pub returns-then-shown-eq-SEND : goal.returns-then-shown-eq-SEND
returns-then-shown-eq-SEND c = let a = c.args in rw (ne_eqb a.shown 32 c.if-shown-eq-SPACE.false, eq-eqb a.shown 83 c.if-shown-eq-SEND.true)

pub returns-then-letter-eq-SEND : goal.returns-then-letter-eq-SEND
returns-then-letter-eq-SEND c =
    let a = c.args in
    rw (ne_eqb a.shown 32 c.if-shown-eq-SPACE.false, ne_eqb a.shown 83 c.if-shown-eq-SEND.false, eq-eqb a.letter 83 c.if-letter-eq-SEND.true)

pub returns-then-shown-eq-RECEIVE : goal.returns-then-shown-eq-RECEIVE
returns-then-shown-eq-RECEIVE c =
    let a = c.args in
    rw (
      ne_eqb a.shown 32 c.if-shown-eq-SPACE.false,
      ne_eqb a.shown 83 c.if-shown-eq-SEND.false,
      ne_eqb a.letter 83 c.if-letter-eq-SEND.false,
      eq-eqb a.shown 82 c.if-shown-eq-RECEIVE.true,
    )

pub returns : goal.returns
returns c =
    let a = c.args in
    rw (
      ne_eqb a.shown 32 c.if-shown-eq-SPACE.false,
      ne_eqb a.shown 83 c.if-shown-eq-SEND.false,
      ne_eqb a.letter 83 c.if-letter-eq-SEND.false,
      ne_eqb a.shown 82 c.if-shown-eq-RECEIVE.false,
    )
