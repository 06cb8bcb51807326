-- `statement::take_edge` meets its contract. Assumes nothing.
use Prim.Native.Nat.{◌+◌}
use borrow.Author.Tests.{not-true, not-false}
use Rattle.statement.proofs.Carries.{finished_nowhere, finished_taken}
use native.Mathlib.Omega.{arith}
use mathlib.Core.Path.{◌∙◌}
use Rattle.statement.proofs.take_edge.Goals as goal

pub returns-then-not-kept : goal.returns-then-not-kept
returns-then-not-kept c v =
    let s = c in
    let a = s.args in
    let p = s.requires in
    finished_nowhere a.part.now a.words.now v a.c c.load_kept-kept.result c.load_kept-kept.ensures p.2 (not-true _ c.if-not-kept.true) (c.put_place.ensures v)

pub put_kept-requires : goal.put_kept-requires
put_kept-requires c =
    let s = c in
    let a = s.args in
    let p = s.requires in
    (omega (arith, c.put_passage.auto.words, c.put_place-2.auto.words, p.0), p.1)

pub returns : goal.returns
returns c v =
    let s = c in
    let a = s.args in
    let p = s.requires in
    finished_taken a.part.now a.words.now v a.c c.load_kept-kept.result c.block_place-to.result (c.word-2.result + c.wide64-2.result + c.wide64-3.result) c.left_of-window.result
    c.load_kept-kept.ensures p.2 (not-false _ c.if-not-kept.false)
    (c.block_place-to.ensures ∙ rw (c.wide-2.ensures.0, c.wide.ensures.0, c.byte_at.ensures))
    (rw (c.word-2.ensures, c.wide64-2.ensures.0, c.half-before.ensures, c.word.ensures, c.wide64-3.ensures.0))
    (c.left_of-window.ensures ∙ rw c.wide64.ensures.0)
    (c.put_place-2.ensures v)
    (c.put_passage.ensures v)
    (c.put_kept.ensures v)
