-- `machine::finish_node` meets its contract. Assumes nothing.
use Rattle.registers.proofs.Frames.{stored_eight}
use Rattle.machine.proofs.NodeMoves.{Passing, passing_length, passes, words_moved, finish_noted, place_stored, time_stored, wake_stored}
use Rattle.machine.proofs.Quiet.{quiet_kept}
use Rattle.machine.specs.Chosen.{RowPassed}
use mathlib.Core.Logic.{inl, inr}
use mathlib.Core.Path.{sym, subst, ◌∙◌}
use native.Mathlib.Omega.{arith}
use Rattle.machine.proofs.finish_node.Goals as goal
use Rattle.machine.proofs.finish_node.Goals.{then-op-eq-SLEEP, else-op-eq-SLEEP}

pub finish-pc-requires : goal.finish-pc-requires
finish-pc-requires c =
    let s = c in
    let a = s.args in
    let way : Passing a.rows.now a.passages a.words.now a.c a.op c.if-op-eq-SLEEP.words =
    elim c.if-op-eq-SLEEP.branch [
      | then-op-eq-SLEEP w ↦ inl (w.if-op-eq-SLEEP.true, subst (RowPassed a.rows.now a.passages a.words.now a.c) (sym w.words-is) w.pass_row.ensures)
      | else-op-eq-SLEEP w ↦ inr (w.if-op-eq-SLEEP.false, w.words-is)
    ] in
    let asked =
    passes a.program.now a.rows.now a.passages a.words.now a.values.now a.c c.word-base.result c.word.result a.op c.if-op-eq-SLEEP.words c.word-base.ensures c.word.ensures
    s.requires.0 s.requires.3 s.requires.4 s.requires.5 way in
    (asked.short, asked.eight, s.requires.2, asked.held, asked.within, asked.addable, asked.op_is)

pub note_next-requires : goal.note_next-requires
note_next-requires c =
    let s = c in
    let a = s.args in
    let way : Passing a.rows.now a.passages a.words.now a.c a.op c.if-op-eq-SLEEP.words =
    elim c.if-op-eq-SLEEP.branch [
      | then-op-eq-SLEEP w ↦ inl (w.if-op-eq-SLEEP.true, subst (RowPassed a.rows.now a.passages a.words.now a.c) (sym w.words-is) w.pass_row.ensures)
      | else-op-eq-SLEEP w ↦ inr (w.if-op-eq-SLEEP.false, w.words-is)
    ] in
    let asked =
    passes a.program.now a.rows.now a.passages a.words.now a.values.now a.c c.word-base.result c.word.result a.op c.if-op-eq-SLEEP.words c.word-base.ensures c.word.ensures
    s.requires.0 s.requires.3 s.requires.4 s.requires.5 way in (
      (stored_eight c.finish-pc.ensures.stored asked.eight).words,
      s.requires.1,
      s.requires.2,
      time_stored c.finish-pc.ensures.stored (asked.put c.finish-pc.ensures.node c.finish-pc.ensures.grown),
      c.finish-pc.ensures.place ∙ place_stored c.finish-pc.ensures.stored,
      wake_stored c.finish-pc.ensures.stored asked.wakes,
      quiet_kept a.program.now a.rows.now a.passages a.words.now a.values.now a.c 3000000000000000000 a.op c.if-op-eq-SLEEP.words c.finish-pc.ensures.node _ _ s.requires.3 s.requires.4 way c.finish-pc.ensures.stored,
    )

pub note_finish-requires : goal.note_finish-requires
note_finish-requires c =
    let s = c in
    let a = s.args in
    let way : Passing a.rows.now a.passages a.words.now a.c a.op c.if-op-eq-SLEEP.words =
    elim c.if-op-eq-SLEEP.branch [
      | then-op-eq-SLEEP w ↦ inl (w.if-op-eq-SLEEP.true, subst (RowPassed a.rows.now a.passages a.words.now a.c) (sym w.words-is) w.pass_row.ensures)
      | else-op-eq-SLEEP w ↦ inr (w.if-op-eq-SLEEP.false, w.words-is)
    ] in
    let asked =
    passes a.program.now a.rows.now a.passages a.words.now a.values.now a.c c.word-base.result c.word.result a.op c.if-op-eq-SLEEP.words c.word-base.ensures c.word.ensures
    s.requires.0 s.requires.3 s.requires.4 s.requires.5 way in
    (omega (arith, c.note_next.auto.words, (stored_eight c.finish-pc.ensures.stored asked.eight).words), s.requires.2)

pub shape_of-words : goal.shape_of-words
shape_of-words c =
    let s = c in
    let a = s.args in
    let way : Passing a.rows.now a.passages a.words.now a.c a.op c.if-op-eq-SLEEP.words =
    elim c.if-op-eq-SLEEP.branch [
      | then-op-eq-SLEEP w ↦ inl (w.if-op-eq-SLEEP.true, subst (RowPassed a.rows.now a.passages a.words.now a.c) (sym w.words-is) w.pass_row.ensures)
      | else-op-eq-SLEEP w ↦ inr (w.if-op-eq-SLEEP.false, w.words-is)
    ] in
    let asked =
    passes a.program.now a.rows.now a.passages a.words.now a.values.now a.c c.word-base.result c.word.result a.op c.if-op-eq-SLEEP.words c.word-base.ensures c.word.ensures
    s.requires.0 s.requires.3 s.requires.4 s.requires.5 way in
    c.note_finish.auto.words ∙ (c.note_next.auto.words ∙ (c.finish-pc.auto.words ∙ passing_length a.rows.now a.passages a.words.now a.c a.op c.if-op-eq-SLEEP.words way))

pub returns : goal.returns
returns c =
    let s = c in
    let a = s.args in
    let way : Passing a.rows.now a.passages a.words.now a.c a.op c.if-op-eq-SLEEP.words =
    elim c.if-op-eq-SLEEP.branch [
      | then-op-eq-SLEEP w ↦ inl (w.if-op-eq-SLEEP.true, subst (RowPassed a.rows.now a.passages a.words.now a.c) (sym w.words-is) w.pass_row.ensures)
      | else-op-eq-SLEEP w ↦ inr (w.if-op-eq-SLEEP.false, w.words-is)
    ] in
    let asked =
    passes a.program.now a.rows.now a.passages a.words.now a.values.now a.c c.word-base.result c.word.result a.op c.if-op-eq-SLEEP.words c.word-base.ensures c.word.ensures
    s.requires.0 s.requires.3 s.requires.4 s.requires.5 way in
    finish_noted a.op a.tick s.requires.2
    (words_moved a.program.now a.rows.now a.passages a.words.now a.values.now a.c c.word-base.result c.word.result a.op c.finish-pc.result c.if-op-eq-SLEEP.words c.finish-pc.new.words c.finish-pc.new.values
    c.note_next.new.words s.requires.2 c.word-base.ensures c.word.ensures s.requires.4 way asked c.finish-pc.ensures c.note_next.ensures)
    c.note_finish.ensures
