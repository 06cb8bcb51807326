-- `simulation_text::put_nodes` meets its contract. Assumes nothing.
use mathlib.Core.Path.{refl, ◌∙◌}
use mathlib.Core.List.{◌++◌}
use native.Mathlib.Omega.{arith}
use borrow.Author.Rules.{rules}
use lib.ListN.{take}
use Rattle.simulation_text.specs.SimulationText.{node_lines}
use Rattle.simulation_text.proofs.Lining.{rest_all, rest_turn, rest_done}
use Rattle.simulation_text.proofs.put_nodes.Goals as goal

pub loop-c-init : goal.loop-c-init
loop-c-init c =
    let s = c in
    let a = s.args in
    let b = s.args.nodes in
    (omega arith, s.requires.1, search rules, s.requires.0, refl, omega arith, rest_all b a.count a.out.now a.at)

pub loop-c-preserved : goal.loop-c-preserved
loop-c-preserved c =
    let a = c.args in
    let b = c.args.nodes in
    let l = c.loop-c in
    (omega arith, l.invariant.1, l.invariant.2, l.invariant.3, c.put_node-end.auto.out ∙ l.invariant.4, omega (arith, c.put_node-end.ensures.1, l.invariant.5), rest_turn b a.count l.out c.put_node-end.new.out (take a.at a.out.now ++ node_lines b a.count) l.end c.put_node-end.result l.c c.loop-c-test.true c.put_node-end.ensures.0 l.invariant.6)

pub shape_of-out : goal.shape_of-out
shape_of-out c = c.loop-c.invariant.4

pub returns : goal.returns
returns c =
    let a = c.args in
    let b = c.args.nodes in
    let l = c.loop-c in
    (record { text = rest_done b a.count l.out (take a.at a.out.now ++ node_lines b a.count) l.end l.c (omega arith) l.invariant.6 }, omega (arith, l.invariant.5, l.invariant.0))
