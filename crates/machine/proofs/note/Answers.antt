-- `machine::note` meets its contract. Assumes nothing.
use mathlib.Core.Path.{◌≡◌, sym, ap, subst, ◌∙◌}
use mathlib.Core.List.{List, []}
use Prim.Native.Nat.{ℕ, ◌%◌, ◌≤◌}
use native.Mathlib.Omega.{arith}
use lib.IntN.{ℤ}
use lib.ListN.{drop}
use Rattle.model.specs.Run.{stand_of, window_end}
use Rattle.rows.specs.Rows.{rows_of}
use Rattle.node.specs.declared.Counts.{Counts}
use Rattle.node.specs.Views.{op_in, node_of}
use Rattle.stand.specs.Stands.{never, due_tick, last_tick}
use Rattle.registers.specs.Words.{word_in, node_in, held_in}
use Rattle.machine.specs.Running.{ready_at}
use Rattle.machine.proofs.Ops.{due_most, last_most}
use Rattle.machine.proofs.note.Goals as goal

pub put_ticks-requires : goal.put_ticks-requires
put_ticks-requires c =
    let next-there : let a = c.args in c.next_ready-next.result ≡ ready_at (rows_of a.rows.now a.passages) (word_in a.words.now a.c 25) =
    (let a = c.args in
    c.next_ready-next.ensures.0 ∙ ap (ready_at (rows_of a.rows.now a.passages)) c.word-2.ensures) in
    let next-most : let a = c.args in ready_at (rows_of a.rows.now a.passages) (word_in a.words.now a.c 25) ≤ never =
    (subst (λ (k : ℕ). k ≤ never) next-there c.next_ready-next.ensures.1) in
    let op-there : let a = c.args in c.op_at-op.result ≡ op_in (drop (word_in a.words.now a.c 0) a.part.now) =
    (let a = c.args in
    c.op_at-op.ensures ∙ ap (λ (i : ℕ). op_in (drop i a.part.now)) c.requires.4) in
    let window-there : let a = c.args in c.half-window.result ≡ word_in a.words.now a.c 7 % 65536 =
    (c.half-window.ensures ∙ ap (λ (x : ℕ). x % 65536) c.word.ensures) in
    let due-is : let a = c.args in (held : Counts) (v : List ℤ)
    → c.due_by-due.result ≡ due_tick (node_of a.part.now held (node_in a.words.now v a.c)) (stand_of (node_of a.part.now held (node_in a.words.now v a.c))) =
    (λ held v. let a = c.args in
    c.due_by-due.ensures a.part.now held (node_in a.words.now v a.c) op-there c.word-ready.ensures window-there) in
    let last-is : let a = c.args in (held : Counts) (v : List ℤ)
    → c.last_by-last.result
    ≡ last_tick (node_of a.part.now held (node_in a.words.now v a.c)) (ready_at (rows_of a.rows.now a.passages) (word_in a.words.now a.c 25)) (stand_of (node_of a.part.now held (node_in a.words.now v a.c))) =
    (λ held v. let a = c.args in
    let r = node_of a.part.now held (node_in a.words.now v a.c) in
    c.last_by-last.ensures a.part.now held (node_in a.words.now v a.c) op-there c.word-ready.ensures window-there
    ∙ ap (λ (m : ℕ). last_tick r m (stand_of r)) next-there) in
    let d = c in
    let s = c in
    let a = s.args in
    let r = node_of a.part.now (held_in a.words.now a.c) (node_in a.words.now [] a.c) in
    let end : window_end r ≤ never = omega (arith, s.requires.3) in (
      s.requires.0,
      s.requires.2,
      s.requires.5,
      subst (λ (k : ℕ). k ≤ never) (sym (due-is (held_in a.words.now a.c) [])) (due_most r (stand_of r) end),
      subst (λ (k : ℕ). k ≤ never) (sym (last-is (held_in a.words.now a.c) [])) (last_most r _ (stand_of r) end next-most),
    )

pub returns : goal.returns
returns c =
    let op-there : let a = c.args in c.op_at-op.result ≡ op_in (drop (word_in a.words.now a.c 0) a.part.now) =
    (let a = c.args in
    c.op_at-op.ensures ∙ ap (λ (i : ℕ). op_in (drop i a.part.now)) c.requires.4) in
    let window-there : let a = c.args in c.half-window.result ≡ word_in a.words.now a.c 7 % 65536 =
    (c.half-window.ensures ∙ ap (λ (x : ℕ). x % 65536) c.word.ensures) in
    let due-is : let a = c.args in (held : Counts) (v : List ℤ)
    → c.due_by-due.result ≡ due_tick (node_of a.part.now held (node_in a.words.now v a.c)) (stand_of (node_of a.part.now held (node_in a.words.now v a.c))) =
    (λ held v. let a = c.args in
    c.due_by-due.ensures a.part.now held (node_in a.words.now v a.c) op-there c.word-ready.ensures window-there) in
    let next-there : let a = c.args in c.next_ready-next.result ≡ ready_at (rows_of a.rows.now a.passages) (word_in a.words.now a.c 25) =
    (let a = c.args in
    c.next_ready-next.ensures.0 ∙ ap (ready_at (rows_of a.rows.now a.passages)) c.word-2.ensures) in
    let last-is : let a = c.args in (held : Counts) (v : List ℤ)
    → c.last_by-last.result
    ≡ last_tick (node_of a.part.now held (node_in a.words.now v a.c)) (ready_at (rows_of a.rows.now a.passages) (word_in a.words.now a.c 25)) (stand_of (node_of a.part.now held (node_in a.words.now v a.c))) =
    (λ held v. let a = c.args in
    let r = node_of a.part.now held (node_in a.words.now v a.c) in
    c.last_by-last.ensures a.part.now held (node_in a.words.now v a.c) op-there c.word-ready.ensures window-there
    ∙ ap (λ (m : ℕ). last_tick r m (stand_of r)) next-there) in
    let d = c in
    record {
      due = d.due_by-due.result;
      last = d.last_by-last.result;
      dues = due-is;
      lasts = last-is;
      put = c.put_ticks.ensures;
    }
