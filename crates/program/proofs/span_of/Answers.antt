-- `program::span_of` meets its contract: the part to find from `at` on is the part to find. Assumes nothing.
use borrow.Author.Rules.{rules}
use mathlib.Core.Path.{◌≡◌, sym, ◌∙◌}
use Prim.Native.Nat.{◌≤◌}
use native.Mathlib.Omega.{arith}
use lib.ListN.{length}
use Rattle.model.specs.Program.{part_from, part_of}
use Rattle.program.proofs.Parting.{headless, absent, begun, lengthless, too_long, here, onward, spans_none, spans_here}
use Rattle.program.proofs.span_of.Goals as goal

pub returns-then-program-lt-PROGRAM_HEADER : goal.returns-then-program-lt-PROGRAM_HEADER
returns-then-program-lt-PROGRAM_HEADER c = spans_none c.args.program.now (headless c.args.program.now c.args.node c.if-program-lt-PROGRAM_HEADER.true)

pub returns-then-program-node : goal.returns-then-program-node
returns-then-program-node c = spans_none c.args.program.now (absent c.args.program.now c.args.node c.if-program-lt-PROGRAM_HEADER.false c.if-program-node.true)

pub loop-at-init : goal.loop-at-init
loop-at-init c = (search rules, begun c.args.program.now c.args.node c.if-program-lt-PROGRAM_HEADER.false c.if-program-node.false)

pub returns-then-program-at : goal.returns-then-program-at
returns-then-program-at c =
    let s = c.args.program.now in
    let l = c.loop-at in
    let w = c.word_at-n in
    spans_none s (sym l.invariant.1 ∙ too_long s l.at l.left w.result w.ensures (omega arith) (omega arith))

pub returns-then-left-eq0 : goal.returns-then-left-eq0
returns-then-left-eq0 c =
    let s = c.args.program.now in
    let l = c.loop-at in
    let w = c.word_at-n in
    spans_here s l.at w.result (sym l.invariant.1 ∙ here s l.at l.left w.result w.ensures (omega arith) c.if-left-eq0.true (omega arith)) (omega arith)

pub loop-at-preserved : goal.loop-at-preserved
loop-at-preserved c =
    let s = c.args.program.now in
    let l = c.loop-at in
    let w = c.word_at-n in
    (omega arith, sym (onward s l.at l.left w.result w.ensures (omega arith) (omega arith) (omega arith)) ∙ l.invariant.1)

pub returns : goal.returns
returns c =
    let s = c.args.program.now in
    let l = c.loop-at in
    spans_none s (sym l.invariant.1 ∙ lengthless s l.at l.left (omega arith))
