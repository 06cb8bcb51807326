-- `simulator::runs::one_run` meets its contract. Assumes nothing.
use mathlib.Core.Path.{refl, ◌∙◌}
use native.Mathlib.Omega.{arith}
use Rattle.simulator.proofs.Looping.{going_first, somewhere, going_stops, going_over, going_on}
use Rattle.simulator.proofs.runs.one_run.Goals as goal

pub loop-left-init : goal.loop-left-init
loop-left-init c =
    let s = c in
    let a = s.args in
    (going_first a.program.now a.rows.now a.passages a.horizon a.count a.lo a.hi a.seed a.words.now s.requires.0 s.requires.1, omega arith, refl, refl, refl, s.requires.2, s.requires.3, s.requires.4, s.requires.5)

pub take_turn-next-requires : goal.take_turn-next-requires
take_turn-next-requires c =
    let l = c.loop-left in
    let a = c.args in
    (somewhere a.program.now a.rows.now a.passages a.horizon a.count a.lo a.hi a.seed a.words.now l.invariant.0, omega (arith, l.invariant.4, l.invariant.5), l.invariant.6, l.invariant.7, omega (arith, l.invariant.1), l.invariant.8, omega arith)

pub shape_of-words-in-Over : goal.shape_of-words-in-Over
shape_of-words-in-Over c = c.take_turn-next.auto.words ∙ c.loop-left.invariant.2

pub shape_of-values-in-Over : goal.shape_of-values-in-Over
shape_of-values-in-Over c = c.take_turn-next.auto.values ∙ c.loop-left.invariant.3

pub shape_of-until-in-Over : goal.shape_of-until-in-Over
shape_of-until-in-Over c = c.take_turn-next.auto.until ∙ c.loop-left.invariant.4

pub returns-in-Over : goal.returns-in-Over
returns-in-Over c =
    let l = c.loop-left in
    let a = c.args in
    going_over a.program.now a.rows.now a.passages a.horizon a.count a.lo a.hi a.seed a.words.now l.invariant.0 c.take_turn-next.ensures.1 (c.take_turn-next.ensures.0 l.invariant.0.trying l.invariant.0.holds l.invariant.0.moves) c.in-Over.late c.in-Over.is

pub loop-left-preserved : goal.loop-left-preserved
loop-left-preserved c =
    let l = c.loop-left in
    let a = c.args in (
      going_on a.program.now a.rows.now a.passages a.horizon a.count a.lo a.hi a.seed a.words.now l.invariant.0 c.take_turn-next.ensures.1 (c.take_turn-next.ensures.0 l.invariant.0.trying l.invariant.0.holds l.invariant.0.moves) c.in-GoesOn.is,
      omega (arith, c.take_turn-next.ensures.1.ticks, c.take_turn-next.ensures.1.most, l.invariant.1),
      c.take_turn-next.auto.words ∙ l.invariant.2,
      c.take_turn-next.auto.values ∙ l.invariant.3,
      c.take_turn-next.auto.until ∙ l.invariant.4,
      l.invariant.5,
      l.invariant.6,
      l.invariant.7,
      l.invariant.8,
    )

pub shape_of-words : goal.shape_of-words
shape_of-words c = c.loop-left.invariant.2

pub shape_of-values : goal.shape_of-values
shape_of-values c = c.loop-left.invariant.3

pub shape_of-until : goal.shape_of-until
shape_of-until c = c.loop-left.invariant.4

pub returns : goal.returns
returns c =
    let l = c.loop-left in
    let a = c.args in
    going_stops a.program.now a.rows.now a.passages a.horizon a.count a.lo a.hi a.seed a.words.now l.invariant.0 (omega arith)
