-- `verdict_text::put_each_met` meets its contract. Assumes nothing.
use mathlib.Core.Path.{◌≡◌, refl, ◌∙◌}
use mathlib.Core.List.{◌++◌}
use native.Mathlib.Omega.{arith}
use lib.ListN.{take}
use Rattle.verdict_text.specs.VerdictText.{met_at, met_line}
use Rattle.text.proofs.Lines.{left, left_turn, left_done}
use Rattle.verdict_text.proofs.put_each_met.Goals as goal

pub loop-i-init : goal.loop-i-init
loop-i-init c =
    let s = c in
    (omega arith, omega (arith, s.requires.2), s.requires.0, s.requires.1, refl, omega arith, refl)

pub loop-i-preserved : goal.loop-i-preserved
loop-i-preserved c =
    let s = c.args in
    let l = c.loop-i in
    let line = met_line s.spread s.number (met_at s.list.now) in
    (omega arith, omega arith, l.invariant.2, l.invariant.3, c.put_met-end.auto.out ∙ l.invariant.4, omega (arith, c.put_met-end.ensures.1, l.invariant.5), left_turn 7 met_at line s.list.now l.out c.put_met-end.new.out (take s.at s.out.now ++ left 7 met_at line s.list.now s.n 1) l.end c.put_met-end.result s.n l.i (omega arith) c.put_met-end.ensures.0 l.invariant.6)

pub shape_of-out : goal.shape_of-out
shape_of-out c = c.loop-i.invariant.4

pub returns : goal.returns
unfolding left
returns c =
    let s = c.args in
    let l = c.loop-i in
    let line = met_line s.spread s.number (met_at s.list.now) in
    let e : l.i ≡ s.n = omega arith in
    (record { text = left_done 7 met_at line s.list.now l.out (take s.at s.out.now ++ left 7 met_at line s.list.now s.n 1) l.end s.n l.i e l.invariant.6 }, omega (arith, l.invariant.5, e))
