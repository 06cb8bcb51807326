-- `run::carry_out` meets its contract. Assumes nothing.
use mathlib.Core.Path.{refl, sym, ◌∙◌}
use Prim.Native.Nat.{◌<◌}
use native.Mathlib.Omega.{arith}
use borrow.Author.Rules.{rules}
use lib.ListN.{get_or}
use Rattle.run.proofs.Stages.{first_stage, used-up, few_used, standing, tick_forbidden, tick_late, tick_horizon, tick_stage, room, node_forbidden, node_stage}
use Rattle.run.proofs.Bulk.{ticks_stage}
use Rattle.run.proofs.carry_out.Goals as goal

pub loop-used-init : goal.loop-used-init
loop-used-init c =
    let e = c in
    let a = e.args in
    (λ s lent b. first_stage a.program.now a.horizon a.rows.now a.passages a.count a.words.now a.choices.now lent s b, omega arith, refl, refl, refl, e.requires.2.running.eight, e.requires.2.running.most)

pub ticks_in_a_row-k-requires : goal.ticks_in_a_row-k-requires
ticks_in_a_row-k-requires c =
    (c.loop-used-test.true, omega (arith, c.if-tick-calm.true), c.if-choice.true)

pub overflow_add-tick : goal.overflow_add-tick
overflow_add-tick c = omega (arith, c.ticks_in_a_row-k.ensures.1, c.if-tick-calm.true, c.calm_until-calm.ensures.before)

pub overflow_add-used : goal.overflow_add-used
overflow_add-used c = omega (arith, c.ticks_in_a_row-k.ensures.2)

pub loop-used-smaller-then-tick-calm : goal.loop-used-smaller-then-tick-calm
loop-used-smaller-then-tick-calm c = omega (arith, c.ticks_in_a_row-k.ensures.0, c.loop-used-test.true)

pub loop-used-preserved-then-tick-calm : goal.loop-used-preserved-then-tick-calm
loop-used-preserved-then-tick-calm c =
    let e = c in
    let i = c.loop-used in
    (λ s lent b. ticks_stage (i.invariant.0 s lent b) b.brief c.calm_until-calm.ensures c.ticks_in_a_row-k.result (omega (arith, c.ticks_in_a_row-k.ensures.1, c.if-tick-calm.true)) c.ticks_in_a_row-k.ensures.2 c.ticks_in_a_row-k.ensures.3, c.ticks_in_a_row-k.ensures.2, i.invariant.2, i.invariant.3, i.invariant.4, i.invariant.5, i.invariant.6)

pub returns-then-some_due : goal.returns-then-some_due
returns-then-some_due c =
    let e = c in
    let i = c.loop-used in
    λ s lent b. tick_forbidden (i.invariant.0 s lent b) c.loop-used-test.true b.brief c.if-choice.true (sym c.some_due.ensures ∙ c.if-some_due.true) c.end_of.ensures

pub overflow_add-tick-else-tick-calm : goal.overflow_add-tick-else-tick-calm
overflow_add-tick-else-tick-calm c =
    let w = c.requires in
    let St = c.loop-used.invariant.0 w.0 w.1 w.2 in
    omega (arith, St.early, few_used St w.2.brief)

pub returns-in-Some : goal.returns-in-Some
returns-in-Some c =
    let e = c in
    let i = c.loop-used in
    λ s lent b. tick_late (i.invariant.0 s lent b) c.loop-used-test.true b.brief c.if-choice.true (sym c.some_due.ensures ∙ c.if-some_due.false) c.in-Some.ensures.first (c.in-Some.ensures.node c.in-Some.c refl)
    c.end_of-in-Some.ensures

pub returns-then-tick-horizon : goal.returns-then-tick-horizon
returns-then-tick-horizon c =
    let e = c in
    let i = c.loop-used in
    λ s lent b. tick_horizon (i.invariant.0 s lent b) c.loop-used-test.true b.brief c.if-choice.true (sym c.some_due.ensures ∙ c.if-some_due.false) c.in_default.ensures.first (omega arith)
    c.if-tick-horizon.true c.end_of-then-tick-horizon.ensures

pub loop-used-preserved-else-tick-horizon : goal.loop-used-preserved-else-tick-horizon
loop-used-preserved-else-tick-horizon c =
    let e = c in
    let i = c.loop-used in (
      λ s lent b. tick_stage (i.invariant.0 s lent b) c.loop-used-test.true b.brief c.if-choice.true (sym c.some_due.ensures ∙ c.if-some_due.false) c.in_default.ensures.first (omega arith)
          c.if-tick-horizon.false,
      search rules,
      i.invariant.2,
      i.invariant.3,
      i.invariant.4,
      i.invariant.5,
      i.invariant.6,
    )

pub choose_node-requires : goal.choose_node-requires
choose_node-requires c =
    let t = c in
    let e = t in
    let i = t.loop-used in
    let small : get_or e.args.choices.now i.used 0 < 255 = omega (arith, c.type_inv.choices i.used) in
    let w = e.requires in
    let St = i.invariant.0 w.0 w.1 w.2 in
    let brief = w.2.brief in
    (standing St brief, small, room St t.loop-used-test.true brief w.2.roomy c.if-choice.false, omega (arith, St.few, few_used St brief))

pub returns-in_default-choose_node : goal.returns-in_default-choose_node
returns-in_default-choose_node c =
    let t = c in
    let e = t in
    let i = t.loop-used in
    λ s lent b. node_forbidden (i.invariant.0 s lent b) t.loop-used-test.true b.brief (c.choose_node.ensures e.args.horizon) c.in_default-choose_node.is c.end_of-in_default-choose_node.ensures

pub loop-used-preserved : goal.loop-used-preserved
loop-used-preserved c =
    let t = c in
    let e = t in
    let i = t.loop-used in
    let w = e.requires in
    let New = node_stage (i.invariant.0 w.0 w.1 w.2) t.loop-used-test.true w.2.brief (c.choose_node.ensures e.args.horizon) c.in-Some-choose_node.is w.2.roomy in
    (λ s lent b. node_stage (i.invariant.0 s lent b) t.loop-used-test.true b.brief (c.choose_node.ensures e.args.horizon) c.in-Some-choose_node.is b.roomy, search rules, search rules, search rules, search rules, New.running.eight, New.running.most)

pub returns : goal.returns
returns c = λ s lent b. used-up (c.loop-used.invariant.0 s lent b) c.loop-used-test.false c.end_of-2.ensures
