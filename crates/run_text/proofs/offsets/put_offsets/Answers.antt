-- `run_text::offsets::put_offsets` meets its contract. Assumes nothing.
use mathlib.Core.Path.{sym}
use native.Mathlib.Omega.{arith}
use Rattle.text.proofs.Appended.{next, nothing, same_words}
use Rattle.run_text.specs.RunText.{offsets_text}
use Rattle.run_text.proofs.OffsetsTold.{some_node, no_line, with_line}
use Rattle.run_text.proofs.offsets.put_offsets.Goals as goal

pub returns-then-is_together : goal.returns-then-is_together
returns-then-is_together c =
    let a = c.args in
    let none = no_line a.nodes a.offsets.now c.is_together.result c.is_together.ensures c.if-is_together.true in
    (same_words (offsets_text a.nodes a.offsets.now) (nothing a.out.now a.at) (sym none), omega arith)

pub put_listed-end-requires : goal.put_listed-end-requires
put_listed-end-requires c =
    let s = c in
    (omega (arith, s.requires), some_node s.args.nodes s.args.offsets.now c.is_together.result c.is_together.ensures c.if-is_together.false)

pub returns : goal.returns
returns c =
    let a = c.args in
    let line = with_line a.nodes a.offsets.now c.is_together.result c.is_together.ensures c.if-is_together.false in
    (same_words (offsets_text a.nodes a.offsets.now) (next c.put_listed-end.ensures.0 c.put.ensures.0) line, omega (arith, c.put_listed-end.ensures.1, c.put.ensures.1))
