-- `machine::try_node` meets its contract. Assumes nothing.
use mathlib.Core.Logic.{inr}
use mathlib.Core.Path.{◌≡◌, refl, ◌∙◌}
use mathlib.Core.List.{List}
use Prim.Native.Nat.{ℕ, ◌≤◌}
use native.Mathlib.Omega.{arith}
use Rattle.node.specs.declared.Counts.{Counts}
use Rattle.node.specs.declared.Node.{Node}
use Rattle.node.specs.Views.{op_in, Addable}
use Rattle.registers.proofs.Frames.{stored_eight}
use Rattle.machine.proofs.NodeMoves.{Passing, passes, words_moved, place_stored, time_stored, wake_stored}
use Rattle.machine.proofs.Quiet.{quiet_kept}
use Rattle.machine.proofs.try_node.Goals as goal

-- the row stays: it is no sleep
alike : (rows : List ℕ) (n : ℕ) (l : List ℕ) (c op : ℕ) → 10 ≤ op → Passing rows n l c op l
alike rows n l c op h = inr (λ z. omega (arith, z, h), refl)

-- and no addition
adds-nothing : {h : List ℕ} {held : Counts} {r : Node} (op : ℕ) → op ≡ op_in h → 10 ≤ op → Addable h held r
adds-nothing op e l = record { fits = λ o. absurd (omega (arith, o, e, l)) }

pub finish_trial-pc-requires : goal.finish_trial-pc-requires
finish_trial-pc-requires c =
    let s = c in
    let a = s.args in
    let way = alike a.rows.now a.passages a.words.now a.c a.op s.requires.5 in
    let asked = passes a.program.now a.rows.now a.passages a.words.now a.values.now a.c c.word-base.result c.word.result a.op a.words.now c.word-base.ensures c.word.ensures s.requires.0 s.requires.3 s.requires.4 (adds-nothing a.op s.requires.4 s.requires.5) way in
    (asked.short, asked.eight, s.requires.2, asked.held, asked.op_is, s.requires.5, s.requires.6)

pub note_next-requires : goal.note_next-requires
note_next-requires c =
    let s = c in
    let a = s.args in
    let way = alike a.rows.now a.passages a.words.now a.c a.op s.requires.5 in
    let asked = passes a.program.now a.rows.now a.passages a.words.now a.values.now a.c c.word-base.result c.word.result a.op a.words.now c.word-base.ensures c.word.ensures s.requires.0 s.requires.3 s.requires.4 (adds-nothing a.op s.requires.4 s.requires.5) way in (
      (stored_eight c.finish_trial-pc.ensures.stored asked.eight).words,
      s.requires.1,
      s.requires.2,
      time_stored c.finish_trial-pc.ensures.stored (asked.put c.finish_trial-pc.ensures.node c.finish_trial-pc.ensures.grown),
      c.finish_trial-pc.ensures.place ∙ place_stored c.finish_trial-pc.ensures.stored,
      wake_stored c.finish_trial-pc.ensures.stored asked.wakes,
      quiet_kept a.program.now a.rows.now a.passages a.words.now a.values.now a.c 3000000000000000000 a.op a.words.now c.finish_trial-pc.ensures.node _ _ s.requires.3 s.requires.4 way c.finish_trial-pc.ensures.stored,
    )

pub returns : goal.returns
returns c =
    let s = c in
    let a = s.args in
    let way = alike a.rows.now a.passages a.words.now a.c a.op s.requires.5 in
    let asked = passes a.program.now a.rows.now a.passages a.words.now a.values.now a.c c.word-base.result c.word.result a.op a.words.now c.word-base.ensures c.word.ensures s.requires.0 s.requires.3 s.requires.4 (adds-nothing a.op s.requires.4 s.requires.5) way in
    words_moved a.program.now a.rows.now a.passages a.words.now a.values.now a.c c.word-base.result c.word.result a.op c.finish_trial-pc.result a.words.now _ a.values.now _ s.requires.2 c.word-base.ensures c.word.ensures s.requires.4 way asked c.finish_trial-pc.ensures
    c.note_next.ensures
