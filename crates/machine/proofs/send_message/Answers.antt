-- `machine::send_message` meets its contract. Assumes nothing.
use mathlib.Core.Path.{◌≡◌, refl, sym, ap, ◌∙◌}
use Prim.Native.Nat.{ℕ, ◌+◌}
use native.Mathlib.Omega.{arith}
use borrow.Author.Rules.{rules}
use lib.ListN.{drop}
use Rattle.model.specs.Reader.{byte}
use Rattle.registers.specs.Words.{word_in, node_in, held_in, part_in}
use Rattle.machine.proofs.Lent.{lent}
use Rattle.machine.proofs.Frames.{same_stands}
use Rattle.machine.proofs.Loads.{Loaded, inside, pc_low, channel, sends_safe, stands_there, all_heard, op_still}
use Rattle.machine.proofs.Sending.{unheard, taken}
use Rattle.machine.proofs.send_message.Goals as goal

pub overflow_add-end : goal.overflow_add-end
overflow_add-end c =
    let f = c in
    let s = f.requires.0.each f.args.c f.requires.1 in
    search rules

pub slice_bounds-byte_at-end : goal.slice_bounds-byte_at-end
slice_bounds-byte_at-end c =
    let loaded : let a = c.args in
    Loaded a.program.now a.rows.now a.passages a.words.now a.values.now a.c c.word-base.result c.word.result (held_in a.words.now a.c) (node_in a.words.now a.values.now a.c) =
    (record { begins = c.word-base.ensures; spans = c.word.ensures; counts = refl; node = refl; stands = c.requires.0.each c.args.c c.requires.1 }) in
    let e = inside loaded in search rules

pub overflow_add-pc : goal.overflow_add-pc
overflow_add-pc c =
    let loaded : let a = c.args in
    Loaded a.program.now a.rows.now a.passages a.words.now a.values.now a.c c.word-base.result c.word.result (held_in a.words.now a.c) (node_in a.words.now a.values.now a.c) =
    (record { begins = c.word-base.ensures; spans = c.word.ensures; counts = refl; node = refl; stands = c.requires.0.each c.args.c c.requires.1 }) in
    let d = c in let e = pc_low loaded c.requires.2 in omega (arith, d.word-pc.ensures)

pub listener-requires : goal.listener-requires
listener-requires c =
    let f = c in
    (search rules, search rules, search rules, all_heard f.requires.0)

pub returns-in_default : goal.returns-in_default
returns-in_default c H written out wake =
    let loaded : let a = c.args in
    Loaded a.program.now a.rows.now a.passages a.words.now a.values.now a.c c.word-base.result c.word.result (held_in a.words.now a.c) (node_in a.words.now a.values.now a.c) =
    (record { begins = c.word-base.ensures; spans = c.word.ensures; counts = refl; node = refl; stands = c.requires.0.each c.args.c c.requires.1 }) in
    let on-channel : let a = c.args in
    c.byte_at-channel.result ≡ byte (drop (word_in a.words.now a.c 0) (part_in a.program.now a.words.now a.c)) 1 =
    (let d = c in
    let a = c.args in
    channel loaded c.byte_at-channel.result (c.byte_at-channel.ensures ∙ ap (λ (i : ℕ). byte (lent a.program.now d.word-base.result d.word.result) (i + 1)) d.word-pc.ensures)) in
    let d = c in
    let f = c in
    let a = f.args in
    unheard a.program.now a.rows.now a.passages H a.count a.tick a.c a.words.now a.values.now out written f.requires.0.most f.requires.1 wake f.requires.2 c.byte_at-channel.result
    on-channel
    c.in_default.ensures

pub finish_node-requires : goal.finish_node-requires
finish_node-requires c =
    let loaded : let a = c.args in
    Loaded a.program.now a.rows.now a.passages a.words.now a.values.now a.c c.word-base.result c.word.result (held_in a.words.now a.c) (node_in a.words.now a.values.now a.c) =
    (record { begins = c.word-base.ensures; spans = c.word.ensures; counts = refl; node = refl; stands = c.requires.0.each c.args.c c.requires.1 }) in
    let d = c in
    let f = c in (
      f.requires.0.eight,
      f.requires.0.listed,
      (omega (arith, f.requires.0.most, f.requires.1)),
      stands_there f.requires.0 f.args.c f.requires.1,
      sym f.requires.2,
      sends_safe loaded f.requires.2,
    )

pub hear-requires : goal.hear-requires
hear-requires c =
    let d = c in
    let f = c in
    let w = c.in-Some.ensures.stands c.in-Some.i refl in (
      c.finish_node.ensures.0.eight,
      f.requires.0.listed,
      (omega (arith, f.requires.0.most, w.0)),
      same_stands (c.finish_node.ensures.0.others c.in-Some.i w.1) (stands_there f.requires.0 c.in-Some.i w.0),
      op_still f.args.program.now 5 (c.finish_node.ensures.0.others c.in-Some.i w.1) w.2,
    )

pub returns : goal.returns
returns c H written out wake =
    let loaded : let a = c.args in
    Loaded a.program.now a.rows.now a.passages a.words.now a.values.now a.c c.word-base.result c.word.result (held_in a.words.now a.c) (node_in a.words.now a.values.now a.c) =
    (record { begins = c.word-base.ensures; spans = c.word.ensures; counts = refl; node = refl; stands = c.requires.0.each c.args.c c.requires.1 }) in
    let on-channel : let a = c.args in
    c.byte_at-channel.result ≡ byte (drop (word_in a.words.now a.c 0) (part_in a.program.now a.words.now a.c)) 1 =
    (let d = c in
    let a = c.args in
    channel loaded c.byte_at-channel.result (c.byte_at-channel.ensures ∙ ap (λ (i : ℕ). byte (lent a.program.now d.word-base.result d.word.result) (i + 1)) d.word-pc.ensures)) in
    let d = c in
    let f = c in
    let a = f.args in
    taken a.program.now a.rows.now a.passages H a.count a.tick a.c a.words.now a.values.now out written f.requires.0.most f.requires.1 wake f.requires.2 c.byte_at-channel.result
    on-channel
    c.in-Some.i
    c.in-Some.ensures
    c.finish_node.ensures.0
    c.hear.ensures.0
    (c.finish_node.ensures.1 ∙ c.own_tick-sent.ensures)
    (c.hear.ensures.1 ∙ c.own_tick-heard.ensures)

pub own_tick-heard-requires : goal.own_tick-heard-requires
own_tick-heard-requires c =
    let w = c.in-Some.ensures.stands c.in-Some.i refl in
    (search rules, omega (arith, c.requires.0.most, w.0))
