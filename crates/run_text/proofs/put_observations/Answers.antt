-- `run_text::put_observations` meets its contract. Assumes nothing.
use mathlib.Core.Path.{◌≡◌, refl, ◌∙◌}
use mathlib.Core.List.{◌++◌}
use native.Mathlib.Omega.{arith}
use lib.ListN.{take}
use Rattle.run_text.specs.RunText.{observation_line, observation_lines}
use Rattle.text.proofs.Lines.{left_start, left_turn, left_done}
use Rattle.run_text.proofs.put_observations.Invariants.{itself}
use Rattle.run_text.proofs.put_observations.Goals as goal

pub loop-i-init : goal.loop-i-init
unfolding observation_lines
loop-i-init c =
    let s = c in
    (omega arith, s.requires.0, s.requires.1, refl, omega arith, left_start 36 itself observation_line s.args.bytes.now s.args.out.now s.args.at s.args.n)

pub loop-i-preserved : goal.loop-i-preserved
loop-i-preserved c =
    let s = c.args in
    let l = c.loop-i in
    (omega arith, l.invariant.1, l.invariant.2, c.put_observation-end.auto.out ∙ l.invariant.3, omega (arith, c.put_observation-end.ensures.1, l.invariant.4), left_turn 36 itself observation_line s.bytes.now l.out c.put_observation-end.new.out (take s.at s.out.now ++ observation_lines s.bytes.now s.n) l.end c.put_observation-end.result s.n l.i (omega arith) c.put_observation-end.ensures.0 l.invariant.5)

pub shape_of-out : goal.shape_of-out
shape_of-out c = c.loop-i.invariant.3

pub returns : goal.returns
returns c =
    let s = c.args in
    let l = c.loop-i in
    let e : l.i ≡ s.n = omega arith in
    (record { text = left_done 36 itself observation_line s.bytes.now l.out (take s.at s.out.now ++ observation_lines s.bytes.now s.n) l.end s.n l.i e l.invariant.5 }, omega (arith, l.invariant.4, e))
