-- `reason_text::sentences::deciding` meets its contract. Assumes nothing.
use mathlib.Core.Path.{◌≡◌, sym, ◌∙◌}
use mathlib.Core.List.{[], ◌∷◌}
use Prim.Native.Nat.{◌+◌, ◌-◌, ◌<◌}
use native.Mathlib.Omega.{arith}
use borrow.Author.Tests.{not-true, not-false}
use lib.ListN.{drop}
use Rattle.model.specs.Reader.{clock_guard_at}
use Rattle.model.specs.Places.{list_at}
use Rattle.window.proofs.Rests.{all_first, all_rest, fails_stop, fails_turn, fails_done}
use Rattle.reason_text.specs.ReasonText.{wider}
use Rattle.reason_text.proofs.Deciding.{one_asked, one_wider}
use Rattle.reason_text.proofs.sentences.deciding.Goals as goal

pub loop-k-init : goal.loop-k-init
loop-k-init c =
    let all : c.args.count - 0 ≡ c.args.count = omega arith in
    rw all (omega (arith, c.requires.whole), c.requires.clocks, omega arith, omega arith)

pub window-one-requires : goal.window-one-requires
window-one-requires c =
    let s = c in
    let l = c.loop-k in
    let left : 0 < s.args.count - l.k = omega (arith, c.loop-k-test.true) in
    let g = one_asked s.args.guards.now l.at (omega (arith, l.invariant.0, left)) (all_first clock_guard_at 5 s.args.guards.now l.at (s.args.count - l.k) left l.invariant.1) in
    (g.0, s.requires.invariant, g.1)

pub returns-then-not-is_wider : goal.returns-then-not-is_wider
returns-then-not-is_wider c =
    let same : c.is_wider.result ≡ wider c.args.over c.args.location (list_at clock_guard_at 5 c.args.count c.args.guards.now) c.args.clocks (clock_guard_at (drop c.loop-k.at c.args.guards.now) ∷ []) =
    (let s = c in
    c.is_wider.ensures ∙ one_wider s.args.location s.args.clocks (list_at clock_guard_at 5 s.args.count s.args.guards.now) s.args.over s.requires.ready s.requires.past s.args.guards.now c.loop-k.at c.window-one.ensures.0 c.window-one.ensures.1) in
    let l = c.loop-k in
    fails_stop (λ g. wider c.args.over c.args.location (list_at clock_guard_at 5 c.args.count c.args.guards.now) c.args.clocks (g ∷ [])) clock_guard_at 5 c.args.guards.now l.at (c.args.count - l.k) l.k _ l.invariant.2 (omega (arith, c.loop-k-test.true))
    (sym same ∙ not-true _ c.if-not-is_wider.true-raw)

pub loop-k-preserved : goal.loop-k-preserved
loop-k-preserved c =
    let same : c.is_wider.result ≡ wider c.args.over c.args.location (list_at clock_guard_at 5 c.args.count c.args.guards.now) c.args.clocks (clock_guard_at (drop c.loop-k.at c.args.guards.now) ∷ []) =
    (let s = c in
    c.is_wider.ensures ∙ one_wider s.args.location s.args.clocks (list_at clock_guard_at 5 s.args.count s.args.guards.now) s.args.over s.requires.ready s.requires.past s.args.guards.now c.loop-k.at c.window-one.ensures.0 c.window-one.ensures.1) in
    let s = c in
    let l = c.loop-k in
    let left : 0 < s.args.count - l.k = omega (arith, c.loop-k-test.true) in
    let next : s.args.count - (l.k + 1) ≡ s.args.count - l.k - 1 = omega arith in
    let t = fails_turn (λ g. wider s.args.over s.args.location (list_at clock_guard_at 5 s.args.count s.args.guards.now) s.args.clocks (g ∷ [])) clock_guard_at 5 s.args.guards.now l.at (s.args.count - l.k) l.k _ l.invariant.2 left
    (sym same ∙ not-false _ c.if-not-is_wider.false-raw) in
    rw next (omega (arith, l.invariant.0, left), all_rest clock_guard_at 5 s.args.guards.now l.at (s.args.count - l.k) left l.invariant.1, t, omega (arith, c.loop-k-test.true))

pub returns : goal.returns
returns c =
    let s = c in
    let l = c.loop-k in
    let t = fails_done (λ g. wider s.args.over s.args.location (list_at clock_guard_at 5 s.args.count s.args.guards.now) s.args.clocks (g ∷ [])) clock_guard_at 5 s.args.guards.now l.at (s.args.count - l.k) l.k _ l.invariant.2 (omega (arith, c.loop-k-test.false)) in
    omega (arith, t, l.invariant.3, c.loop-k-test.false)
