-- `simulator::tick_turn` meets its contract. Assumes nothing.
use mathlib.Core.Path.{refl, sym, ap, ◌∙◌}
use native.Mathlib.Omega.{arith}
use Rattle.std.specs.Prelude.{None, Some}
use Rattle.simulator.specs.declared.Turn.{Turn}
use Rattle.simulator.proofs.Ticking.{due_ends, late-ends, horizon_ends}
use Rattle.simulator.proofs.Turning.{turned_is, is_over, ticked_on}
use Rattle.simulator.proofs.tick_turn.Goals as goal

-- somebody is due
pub returns-then-some_due : goal.returns-then-some_due
returns-then-some_due c =
    let s = c in
    let a = s.args in (
      (λ program rows n lo hi v until y h all none. turned_is c.over_at.ensures
          (is_over None a.tick a.turn a.state (due_ends program a.horizon rows n a.words.now v a.count lo hi a.tick a.turn a.state until h all none s.requires.2 (sym c.some_due.ensures ∙ c.if-some_due.true)))),
      ap (λ (x : Turn). x.turns) c.over_at.ensures,
      omega (arith, ap (λ (x : Turn). x.tick) c.over_at.ensures),
    )

-- a node is late
pub returns-in-Some : goal.returns-in-Some
returns-in-Some c =
    let s = c in
    let a = s.args in (
      (λ program rows n lo hi v until y h all none. turned_is c.over_at-in-Some.ensures
          (is_over (Some c.in-Some.c) a.tick a.turn a.state (late-ends program a.horizon rows n a.words.now v a.count lo hi a.tick a.turn a.state until h all none s.requires.2 (sym c.some_due.ensures ∙ c.if-some_due.false) c.in-Some.ensures.first (c.in-Some.ensures.node c.in-Some.c refl)))),
      ap (λ (x : Turn). x.turns) c.over_at-in-Some.ensures,
      omega (arith, ap (λ (x : Turn). x.tick) c.over_at-in-Some.ensures),
    )

-- the horizon is reached
pub returns-then-tick-horizon : goal.returns-then-tick-horizon
returns-then-tick-horizon c =
    let s = c in
    let a = s.args in (
      (λ program rows n lo hi v until y h all none. turned_is c.over_at-then-tick-horizon.ensures
          (is_over None a.tick a.turn a.state (horizon_ends program a.horizon rows n a.words.now v a.count lo hi a.tick a.turn a.state until h all none s.requires.2 (sym c.some_due.ensures ∙ c.if-some_due.false) c.in_default.ensures.first (omega arith) c.if-tick-horizon.true))),
      ap (λ (x : Turn). x.turns) c.over_at-then-tick-horizon.ensures,
      omega (arith, ap (λ (x : Turn). x.tick) c.over_at-then-tick-horizon.ensures),
    )

-- it goes on
pub returns : goal.returns
returns c =
    let s = c in
    let a = s.args in (
      (λ program rows n lo hi v until y h all none. turned_is c.anew_at.ensures
          (ticked_on program rows n a.horizon a.count a.tick a.turn lo hi a.state a.words.now v until h all none s.requires.2 (sym c.some_due.ensures ∙ c.if-some_due.false) c.in_default.ensures.first (omega arith) c.if-tick-horizon.false)),
      ap (λ (x : Turn). x.turns) c.anew_at.ensures,
      omega (arith, ap (λ (x : Turn). x.tick) c.anew_at.ensures),
    )
