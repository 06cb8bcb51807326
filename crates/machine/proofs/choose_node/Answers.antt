-- `machine::choose_node` meets its contract. Assumes nothing.
use mathlib.Core.Path.{◌≡◌, sym, ap, subst, ◌∙◌}
use mathlib.Core.Bool.{true}
use Prim.Native.Nat.{ℕ, ◌-◌, ◌≤◌, ◌<◌}
use native.Mathlib.Omega.{arith}
use borrow.Author.Rules.{rules}
use Rattle.registers.specs.Words.{wake_tick_in}
use Rattle.machine.specs.Chosen.{op_of, observes_now}
use Rattle.machine.proofs.Loads.{op_read}
use Rattle.machine.proofs.Alone.{refused_absent, refused_asleep}
use Rattle.machine.proofs.choose_node.Goals as goal

pub returns-then-count-c : goal.returns-then-count-c
returns-then-count-c c H =
    let f = c in
    let a = f.args in
    refused_absent a.program.now a.rows.now a.passages H a.count a.tick a.choice a.words.now a.values.now a.out.now a.written f.requires.1 c.if-count-c.true

pub returns-then-tick-wake : goal.returns-then-tick-wake
returns-then-tick-wake c H =
    let f = c in
    let a = f.args in
    refused_asleep a.program.now a.rows.now a.passages H a.count a.tick a.choice a.words.now a.values.now a.out.now a.written f.requires.0.most
    (omega (arith, c.if-count-c.false))
    (omega (arith, c.if-tick-wake.true, c.word-wake.ensures))

pub overflow_add-end : goal.overflow_add-end
overflow_add-end c =
    let f = c in
    let s = f.requires.0.each f.args.choice (omega (arith, c.if-count-c.false)) in
    search rules

pub slice_bounds-op_at-end : goal.slice_bounds-op_at-end
slice_bounds-op_at-end c =
    let present : c.args.choice < c.args.count =
    (omega (arith, c.if-count-c.false)) in
    let s = c.requires.0.each c.args.choice present in
    search rules

pub send_message-requires : goal.send_message-requires
send_message-requires c =
    let present : c.args.choice < c.args.count =
    (omega (arith, c.if-count-c.false)) in
    let op-there : let a = c.args in c.op_at-op.result ≡ op_of a.program.now a.words.now a.values.now a.choice =
    (let d = c in
    let a = c.args in
    op_read a.program.now a.words.now a.values.now a.choice d.word-base.result d.word.result d.word-pc.result c.op_at-op.result
    d.word-base.ensures d.word.ensures d.word-pc.ensures c.op_at-op.ensures) in
    let d = c in
    (c.requires.0, present, sym op-there ∙ c.if-op-eq-SEND.true)

pub returns-then-op-eq-SEND : goal.returns-then-op-eq-SEND
returns-then-op-eq-SEND c H =
    let up : wake_tick_in c.args.words.now c.args.choice ≤ c.args.tick =
    (omega (arith, c.if-tick-wake.false, c.word-wake.ensures)) in
    let d = c in
    let a = c.args in
    rw c.then_some.ensures (c.send_message.ensures H a.written a.out.now up)

pub go_alone-requires : goal.go_alone-requires
go_alone-requires c =
    let present : c.args.choice < c.args.count =
    (omega (arith, c.if-count-c.false)) in
    let up : wake_tick_in c.args.words.now c.args.choice ≤ c.args.tick =
    (omega (arith, c.if-tick-wake.false, c.word-wake.ensures)) in
    let op-there : let a = c.args in c.op_at-op.result ≡ op_of a.program.now a.words.now a.values.now a.choice =
    (let d = c in
    let a = c.args in
    op_read a.program.now a.words.now a.values.now a.choice d.word-base.result d.word.result d.word-pc.result c.op_at-op.result
    d.word-base.ensures d.word.ensures d.word-pc.ensures c.op_at-op.ensures) in
    let d = c in
    let f = c in
    let a = f.args in (
      f.requires.0,
      present,
      op-there,
      (λ e. c.if-op-eq-SEND.false (op-there ∙ e)),
      (λ o. f.requires.2 present up (subst (λ (k : ℕ). observes_now a.program.now a.words.now a.values.now a.choice (a.tick - k) ≡ true) d.word-wake.ensures o)),
      f.requires.3,
    )

pub returns : goal.returns
returns c H =
    let up : wake_tick_in c.args.words.now c.args.choice ≤ c.args.tick =
    (omega (arith, c.if-tick-wake.false, c.word-wake.ensures)) in
    let d = c in
    let a = c.args in
    c.go_alone.ensures H a.tick up (ap (λ (k : ℕ). a.tick - k) d.word-wake.ensures)
