-- `simulator::attempt` meets its contract. Assumes nothing.
use mathlib.Core.Path.{sym, subst, ◌∙◌}
use Prim.Native.Nat.{ℕ}
use native.Mathlib.Omega.{arith}
use borrow.Author.Tests.{not-true, not-false}
use Rattle.simulator.specs.Tries.{StillBy}
use Rattle.simulator.proofs.Still.{told_working}
use Rattle.simulator.proofs.Attempts.{still, refused, standing, part_inside, no_sleep, then_listens, then_draws}
use Rattle.simulator.proofs.attempt.Goals as goal

pub op_of-op-requires : goal.op_of-op-requires
op_of-op-requires c =
    let s = c in
    (s.requires.0.running.eight.words, omega (arith, s.requires.0.running.most, s.requires.1), part_inside s.requires.0.running s.args.c s.requires.1)

-- it works
pub returns-then-waits_at : goal.returns-then-waits_at
returns-then-waits_at c H =
    let s = c in
    let a = s.args in
    still a.program.now a.rows.now a.passages H a.count a.tick a.c a.lo a.hi a.state a.words.now a.values.now a.until.now s.requires.1
    (subst (λ (k : ℕ). StillBy k a.words.now a.until.now a.c a.tick) (c.op_of-op.ensures a.values.now)
    (told_working c.op_of-op.result a.words.now a.until.now a.c a.tick (sym c.waits_at.ensures ∙ c.if-waits_at.true)))

pub move_node-allowed-requires : goal.move_node-allowed-requires
move_node-allowed-requires c =
    let s = c in
    let a = s.args in
    (standing s.requires.0, s.requires.1, c.op_of-op.ensures a.values.now)

-- it may not finish its statement
pub returns-then-not-allowed : goal.returns-then-not-allowed
returns-then-not-allowed c H =
    let s = c in
    let a = s.args in
    refused a.program.now a.rows.now a.passages H a.count a.tick a.c a.lo a.hi a.state a.words.now a.values.now a.until.now s.requires.1 (c.move_node-allowed.ensures H).chosen ((c.move_node-allowed.ensures H).may ∙ not-true c.move_node-allowed.result c.if-not-allowed.true-raw)

-- no sleep
pub returns-then-op-ne-SLEEP : goal.returns-then-op-ne-SLEEP
returns-then-op-ne-SLEEP c H =
    let s = c in
    let a = s.args in
    no_sleep a.program.now a.rows.now a.passages H a.count a.tick a.c a.lo a.hi a.state a.words.now a.values.now a.until.now s.requires.1 (c.move_node-allowed.ensures H).chosen s.requires.0 ((c.move_node-allowed.ensures H).may ∙ not-false c.move_node-allowed.result c.if-not-allowed.false-raw)
    (c.op_of-op.ensures a.values.now) (sym c.waits_at.ensures ∙ c.if-waits_at.false) s.requires.2 c.if-op-ne-SLEEP.true

pub op_of-requires : goal.op_of-requires
op_of-requires c =
    let s = c in
    let a = s.args in
    let A = (c.move_node-allowed.ensures 0).chosen.allows ((c.move_node-allowed.ensures 0).may ∙ not-false c.move_node-allowed.result c.if-not-allowed.false-raw) s.requires.0.state s.requires.0.running s.requires.0.at in
    (A.running.eight.words, omega (arith, s.requires.0.running.most, s.requires.1), part_inside A.running a.c s.requires.1)

-- a sleep before a listen
pub returns-then-op_of-eq-LISTEN : goal.returns-then-op_of-eq-LISTEN
returns-then-op_of-eq-LISTEN c H =
    let s = c in
    let a = s.args in
    then_listens a.program.now a.rows.now a.passages H a.count a.tick a.c a.lo a.hi a.state a.words.now a.values.now a.until.now s.requires.1 (c.move_node-allowed.ensures H).chosen s.requires.0 ((c.move_node-allowed.ensures H).may ∙ not-false c.move_node-allowed.result c.if-not-allowed.false-raw)
    (c.op_of-op.ensures a.values.now) (sym c.waits_at.ensures ∙ c.if-waits_at.false) s.requires.2 c.if-op-ne-SLEEP.false (c.op_of.ensures a.values.now) c.if-op_of-eq-LISTEN.true

pub draw_work-requires : goal.draw_work-requires
draw_work-requires c =
    let s = c in
    (s.requires.2, omega (arith, s.requires.0.running.most, s.requires.1), s.requires.3, s.requires.4, s.requires.5)

-- a sleep before a send or an internal edge
pub returns : goal.returns
returns c H =
    let s = c in
    let a = s.args in
    then_draws a.program.now a.rows.now a.passages H a.count a.tick a.c a.lo a.hi a.state a.words.now a.values.now a.until.now s.requires.1 (c.move_node-allowed.ensures H).chosen s.requires.0 ((c.move_node-allowed.ensures H).may ∙ not-false c.move_node-allowed.result c.if-not-allowed.false-raw)
    (c.op_of-op.ensures a.values.now) (sym c.waits_at.ensures ∙ c.if-waits_at.false) s.requires.2 c.if-op-ne-SLEEP.false (c.op_of.ensures a.values.now) c.if-op_of-eq-LISTEN.false c.draw_work.ensures.0 c.draw_work.ensures.1
