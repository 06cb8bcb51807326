-- `machine::put_node` meets its contract. Assumes nothing.
use Rattle.machine.proofs.Lent.{lent_is}
use Rattle.registers.proofs.Frames.{stored_eight}
use Rattle.machine.proofs.NodeMoves.{still_inside, node_noted, place_stored, time_stored, wake_stored}
use native.Mathlib.Omega.{arith}
use Rattle.machine.proofs.put_node.Goals as goal

pub overflow_add-end : goal.overflow_add-end
overflow_add-end c =
    let s = c in
    let a = s.args in
    let i = still_inside a.program.now a.words.now a.values.now a.c a.next c.store.new.words c.store.new.values c.store.ensures s.requires.3 in
    omega (arith, c.word.ensures, c.word-base.ensures, i.inside)

pub slice_bounds-note-end : goal.slice_bounds-note-end
slice_bounds-note-end c =
    let s = c in
    let a = s.args in
    let i = still_inside a.program.now a.words.now a.values.now a.c a.next c.store.new.words c.store.new.values c.store.ensures s.requires.3 in
    omega (arith, c.word.ensures, c.word-base.ensures, i.inside)

pub note-requires : goal.note-requires
note-requires c =
    let s = c in
    let a = s.args in (
      (stored_eight c.store.ensures s.requires.0).words,
      s.requires.1,
      s.requires.2,
      time_stored c.store.ensures s.requires.4,
      place_stored c.store.ensures,
      wake_stored c.store.ensures s.requires.5,
    )

pub returns : goal.returns
returns c =
    let s = c in
    let a = s.args in
    node_noted s.requires.0 s.requires.2 c.store.ensures (lent_is a.program.now c.store.new.words a.c c.word-base.result c.word.result c.word-base.ensures c.word.ensures) c.note.ensures
