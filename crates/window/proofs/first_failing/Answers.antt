-- `window::first_failing` meets its contract. Assumes nothing.
use mathlib.Core.Path.{◌≡◌, sym, ap, ◌∙◌}
use mathlib.Core.Bool.{true, false}
use Prim.Native.Nat.{◌-◌}
use native.Mathlib.Omega.{arith}
use borrow.Author.Tests.{not-true, not-false}
use lib.ListN.{drop}
use Rattle.model.specs.Reader.{data_guard_at}
use Rattle.model.specs.Window.{data_within}
use Rattle.window.proofs.Rests.{all_left, one_fewer, at_place, all_first, all_rest, fails_stop, fails_turn, fails_done}
use Rattle.window.proofs.first_failing.Goals as goal

pub loop-held-init : goal.loop-held-init
loop-held-init c = rw (all_left c.args.count) (omega arith, c.requires.1, omega arith)

pub data_within-requires : goal.data_within-requires
data_within-requires c =
    let a = c.args in
    let l = c.loop-held in
    let g = at_place data_guard_at a.guards.now l.at c.data_guard_at-guard.ensures in
    rw g (all_first data_guard_at 5 a.guards.now l.at (a.count - l.held) (omega arith) l.invariant.1)

pub returns-then-not-data_within : goal.returns-then-not-data_within
returns-then-not-data_within c =
    let a = c.args in
    let l = c.loop-held in
    let g = at_place data_guard_at a.guards.now l.at c.data_guard_at-guard.ensures in
    let w : data_within (data_guard_at (drop l.at a.guards.now)) a.values ≡ false =
    sym (ap (λ d. data_within d a.values) g) ∙ sym c.data_within.ensures ∙ not-true _ c.if-not-data_within.true-raw in
    fails_stop (λ d. data_within d a.values) data_guard_at 5 a.guards.now l.at (a.count - l.held) _ _ l.invariant.2 (omega arith) w

pub loop-held-preserved : goal.loop-held-preserved
loop-held-preserved c =
    let a = c.args in
    let l = c.loop-held in
    let g = at_place data_guard_at a.guards.now l.at c.data_guard_at-guard.ensures in
    let w : data_within (data_guard_at (drop l.at a.guards.now)) a.values ≡ true =
    sym (ap (λ d. data_within d a.values) g) ∙ sym c.data_within.ensures ∙ not-false _ c.if-not-data_within.false-raw in
    rw (one_fewer a.count l.held) (
      omega arith,
      all_rest data_guard_at 5 a.guards.now l.at (a.count - l.held) (omega arith) l.invariant.1,
      fails_turn (λ d. data_within d a.values) data_guard_at 5 a.guards.now l.at (a.count - l.held) _ _ l.invariant.2 (omega arith) w,
    )

pub returns : goal.returns
returns c =
    let a = c.args in
    let l = c.loop-held in
    let t = fails_done (λ d. data_within d a.values) data_guard_at 5 a.guards.now l.at (a.count - l.held) _ _ l.invariant.2 (omega arith) in
    omega (arith, t)
