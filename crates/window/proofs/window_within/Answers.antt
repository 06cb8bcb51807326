-- `window::window_within` meets its contract. Assumes nothing.
use mathlib.Core.Path.{◌≡◌, refl}
use Prim.Native.Nat.{◌+◌, ◌-◌, max, ◌<◌}
use native.Mathlib.Omega.{arith}
use lib.ListN.{drop}
use Rattle.model.specs.Reader.{clock_guard_at}
use Rattle.model.specs.Places.{list_at}
use Rattle.model.specs.Window.{ready_of}
use Rattle.window.proofs.Rests.{all_left, one_fewer, at_place, all_first, all_rest}
use Rattle.window.proofs.Narrowing.{ready_as, past_as, ready_turn, past_turn, ready_done, past_done}
use borrow.Author.Rules.{rules}
use Rattle.window.proofs.window_within.Goals as goal

pub loop-init : goal.loop-init
loop-init c = rw (all_left c.args.count) (omega arith, omega arith, omega arith, c.requires.2, omega arith, refl)

pub bounds-clocks-from : goal.bounds-clocks-from
bounds-clocks-from c =
    let a = c.args in
    let l = c.loop in
    let g = at_place clock_guard_at a.guards.now l.at c.clock_guard_at-guard.ensures in
    let b = all_first clock_guard_at 5 a.guards.now l.at (a.count - l.counter) (omega arith) l.invariant.3 in
    let small : c.clock_guard_at-guard.result.clock < 4 = rw g b in
    search rules

pub returns-then-before-delays : goal.returns-then-before-delays
returns-then-before-delays c =
    let turned : max c.narrowed-delays.result.ready (ready_of (list_at clock_guard_at 5 ((c.args.count - c.loop.counter) - 1) (drop (c.loop.at + 5) c.args.guards.now)) c.args.clocks) ≡ ready_of (list_at clock_guard_at 5 c.args.count c.args.guards.now) c.args.clocks =
    (let a = c.args in
    let l = c.loop in
    let h = a.guards.now in
    let is = at_place clock_guard_at h l.at c.clock_guard_at-guard.ensures in
    let ready = ready_as a.clocks c.clock_guard_at-guard.result (clock_guard_at (drop l.at h)) c.from.result l.delays.ready is c.from.ensures c.narrowed-delays.ensures.0 in
    ready_turn h l.at (a.count - l.counter) a.clocks (omega arith) l.delays.ready _ _ ready l.invariant.4) in
    (λ h. absurd (omega (arith, h, c.if-before-delays.true)), omega (arith, turned), c.narrowed-delays.ensures.2, c.narrowed-delays.ensures.3)

pub loop-preserved : goal.loop-preserved
loop-preserved c =
    let turned : max c.narrowed-delays.result.ready (ready_of (list_at clock_guard_at 5 ((c.args.count - c.loop.counter) - 1) (drop (c.loop.at + 5) c.args.guards.now)) c.args.clocks) ≡ ready_of (list_at clock_guard_at 5 c.args.count c.args.guards.now) c.args.clocks =
    (let a = c.args in
    let l = c.loop in
    let h = a.guards.now in
    let is = at_place clock_guard_at h l.at c.clock_guard_at-guard.ensures in
    let ready = ready_as a.clocks c.clock_guard_at-guard.result (clock_guard_at (drop l.at h)) c.from.result l.delays.ready is c.from.ensures c.narrowed-delays.ensures.0 in
    ready_turn h l.at (a.count - l.counter) a.clocks (omega arith) l.delays.ready _ _ ready l.invariant.4) in
    let a = c.args in
    let l = c.loop in
    let h = a.guards.now in
    let g' = clock_guard_at (drop l.at h) in
    let is = at_place clock_guard_at h l.at c.clock_guard_at-guard.ensures in
    let past = past_as a.clocks c.clock_guard_at-guard.result g' c.from.result l.delays.past is c.from.ensures c.narrowed-delays.ensures.1 in
    rw (one_fewer a.count l.counter) (
      omega arith,
      c.narrowed-delays.ensures.2,
      c.narrowed-delays.ensures.3,
      all_rest clock_guard_at 5 h l.at (a.count - l.counter) (omega arith) l.invariant.3,
      turned,
      past_turn h l.at (a.count - l.counter) a.clocks (omega arith) l.delays.past _ _ past l.invariant.5,
    )

pub returns : goal.returns
returns c =
    let a = c.args in
    let l = c.loop in
    let h = a.guards.now in
    let bs = drop l.at h in
    let ready = ready_done bs (a.count - l.counter) a.clocks (omega arith) l.delays.ready _ l.invariant.4 in (
      (λ b. (ready, past_done bs (a.count - l.counter) a.clocks (omega arith) l.delays.past _ l.invariant.5)),
      omega (arith, ready),
      l.invariant.1,
      l.invariant.2,
    )
