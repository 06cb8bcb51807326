-- `simulator::idle::rest_turn` meets its contract. Assumes nothing.
use mathlib.Core.Path.{◌≡◌, refl, ap₂}
use Prim.Native.Nat.{ℕ, suc, ◌+◌, ◌-◌, ◌*◌, ◌≤◌}
use native.Mathlib.Omega.{arith}
use Rattle.simulator.proofs.Idling.{holds_idle, rested_turned, ticks_few, turns_fit}
use Rattle.simulator.proofs.idle.rest_turn.Goals as goal

-- a node may move at the next tick
pub returns-then-idle-tick : goal.returns-then-idle-tick
returns-then-idle-tick c =
    let a = c.args in (
      (λ rows n lo hi v y h all none. c.tick_turn.ensures.0 a.program.now rows n lo hi v a.until.now y h all none),
      record { some = omega (arith, c.tick_turn.ensures.1); most = omega (arith, c.tick_turn.ensures.1, c.requires.6); ticks = omega (arith, c.tick_turn.ensures.1, c.tick_turn.ensures.2) },
    )

pub overflow_mul-turns : goal.overflow_mul-turns
overflow_mul-turns c =
    let s = c in
    let fit = turns_fit (c.idle_until-idle.result - s.args.tick) (s.args.count + 1) (omega (arith, c.idle_until-idle.ensures.calm.before, s.requires.5)) (omega (arith, s.requires.2)) in
    omega (arith, fit)

-- fewer turns are left
pub returns-then-left-turns : goal.returns-then-left-turns
returns-then-left-turns c =
    let a = c.args in (
      (λ rows n lo hi v y h all none. c.tick_turn-then-left-turns.ensures.0 a.program.now rows n lo hi v a.until.now y h all none),
      record { some = omega (arith, c.tick_turn-then-left-turns.ensures.1); most = omega (arith, c.tick_turn-then-left-turns.ensures.1, c.requires.6); ticks = omega (arith, c.tick_turn-then-left-turns.ensures.1, c.tick_turn-then-left-turns.ensures.2) },
    )

pub tick_turn-next-requires : goal.tick_turn-next-requires
tick_turn-next-requires c =
    let s = c in
    (s.requires.0, s.requires.2, omega (arith, c.idle_until-idle.ensures.calm.before, s.requires.5))

-- the ticks pass at once
pub returns : goal.returns
returns c =
    let s = c in
    let a = s.args in
    let j = c.idle_until-idle.result - a.tick - 1 in
    let one : c.idle_until-idle.result - a.tick ≡ suc j = omega (arith, c.if-idle-tick.false) in
    let fits : a.tick + suc j ≡ c.idle_until-idle.result = omega (arith, one, c.if-idle-tick.false) in
    let turns : (c.idle_until-idle.result - a.tick) * (a.count + 1) ≡ suc j * suc a.count = ap₂ (λ (x y : ℕ). x * y) one (let e : a.count + 1 ≡ suc a.count = omega arith in e) in
    let few : suc j ≤ (c.idle_until-idle.result - a.tick) * (a.count + 1) = omega (arith, turns, ticks_few (suc j) a.count) in (
      (λ rows n lo hi v y h all none.
          rested_turned a.program.now a.horizon rows n a.words.now v a.count lo hi a.tick a.turn a.state a.until.now h none c.idle_until-idle.ensures s.requires.5 all j fits ((c.idle_until-idle.result - a.tick) * (a.count + 1)) turns c.tick_turn-next.ensures.1 few
          (c.tick_turn-next.ensures.0 a.program.now rows n lo hi v a.until.now _ (holds_idle a.program.now a.horizon rows n a.words.now v a.count lo hi a.tick a.turn a.state a.until.now h none c.idle_until-idle.ensures s.requires.5 all j fits) (omega arith) refl)),
      record { some = omega arith; most = omega (arith, c.if-left-turns.false); ticks = omega (arith, c.tick_turn-next.ensures.2, few, one, c.if-idle-tick.false) },
    )
