-- `positions::put_answers` meets its contract. Assumes nothing.
use mathlib.Core.Path.{refl, sym, ap, ◌∙◌}
use Prim.Native.Nat.{◌+◌, ◌*◌, ◌<◌}
use native.Mathlib.Omega.{arith}
use lib.ListN.{get_or}
use Rattle.model.specs.Positions.{window_byte}
use Rattle.rows.specs.Rows.{num}
use Rattle.positions.proofs.Answering.{start, small_component, read_further, has_room, row_within, turn, read_all, all_laid}
use Rattle.positions.proofs.put_answers.Goals as goal

pub loop-k-init : goal.loop-k-init
loop-k-init c = let s = c in (start s.args.rows.now s.args.count s.args.pairs.now s.args.answers.now s.args.latest.now s.requires.0, s.requires.1, refl)

pub overflow_cast-c : goal.overflow_cast-c
overflow_cast-c c =
    let small : get_or c.args.pairs.now (c.loop-k.k * 2) 0 < 8 =
    (let a = c.args in
    let l = c.loop-k in
    small_component a.rows.now a.count a.pairs.now a.answers.now l.latest l.read l.k l.answers l.invariant.0 c.loop-k-test.true) in
    omega (arith, small)

pub read_on-read-requires : goal.read_on-read-requires
read_on-read-requires c =
    let a = c.args in
    let l = c.loop-k in
    (read_further a.rows.now a.count a.pairs.now a.answers.now l.latest l.read l.k l.answers l.invariant.0 c.loop-k-test.true, l.invariant.1)

pub offset_bounds-latest-c : goal.offset_bounds-latest-c
offset_bounds-latest-c c =
    let small : get_or c.args.pairs.now (c.loop-k.k * 2) 0 < 8 =
    (let a = c.args in
    let l = c.loop-k in
    small_component a.rows.now a.count a.pairs.now a.answers.now l.latest l.read l.k l.answers l.invariant.0 c.loop-k-test.true) in
    omega (arith, small)

pub bounds-latest-c : goal.bounds-latest-c
bounds-latest-c c =
    let small : get_or c.args.pairs.now (c.loop-k.k * 2) 0 < 8 =
    (let a = c.args in
    let l = c.loop-k in
    small_component a.rows.now a.count a.pairs.now a.answers.now l.latest l.read l.k l.answers l.invariant.0 c.loop-k-test.true) in
    omega (arith, small, c.read_on-read.auto.latest, c.loop-k.invariant.1)

pub number-ready-requires : goal.number-ready-requires
number-ready-requires c =
    let a = c.args in
    let l = c.loop-k in
    omega (arith, row_within a.rows.now a.count a.pairs.now a.answers.now l.latest l.read l.k l.answers l.invariant.0 c.loop-k-test.true _ c.read_on-read.result c.read_on-read.ensures.whole c.read_on-read.ensures.all, c.word_place.ensures.0, c.read_on-read.ensures.whole.fits)

pub put_answer-requires : goal.put_answer-requires
put_answer-requires c =
    let s = c in
    let a = s.args in
    let l = c.loop-k in
    omega (arith, has_room a.rows.now a.count a.pairs.now a.answers.now l.latest l.read l.k l.answers l.invariant.0 c.loop-k-test.true s.requires.2, l.invariant.2)

pub loop-k-preserved : goal.loop-k-preserved
loop-k-preserved c =
    let a = c.args in
    let l = c.loop-k in
    let ready = c.number-ready.ensures ∙ ap (λ i. num a.rows.now i 4) c.word_place.ensures.0 in (
      turn a.rows.now a.count a.pairs.now a.answers.now l.latest l.read l.k l.answers l.invariant.0 c.loop-k-test.true _ c.read_on-read.result c.read_on-read.ensures.whole c.read_on-read.ensures.all _ _ _ refl (c.window_byte.ensures ∙ ap (window_byte (get_or a.pairs.now (l.k * 2 + 1) 0)) ready) c.put_answer.ensures,
      c.read_on-read.auto.latest ∙ l.invariant.1,
      c.put_answer.auto.answers ∙ l.invariant.2,
    )

pub shape_of-latest : goal.shape_of-latest
shape_of-latest c = c.loop-k.invariant.1 ∙ sym c.requires.1

pub shape_of-answers : goal.shape_of-answers
shape_of-answers c = c.loop-k.invariant.2

pub returns : goal.returns
returns c =
    let s = c in
    let a = s.args in
    let l = c.loop-k in record { reads = read_all a.rows.now a.count a.pairs.now a.answers.now l.latest l.read l.k l.answers l.invariant.0 c.loop-k-test.false; puts = all_laid a.rows.now a.count a.pairs.now a.answers.now l.latest l.read l.k l.answers l.invariant.0 c.loop-k-test.false s.requires.2 }
