-- `node::finish` meets its contract. Assumes nothing.
use mathlib.Core.Path.{sym, ◌∙◌}
use Prim.Native.Nat.{◌+◌, ◌-◌, ◌≤◌}
use native.Mathlib.Omega.{arith}
use lib.ListN.{length, take, drop}
use Rattle.parts.proofs.Skim.{tail}
use Rattle.node.proofs.Ops.{Opens, opens}
use Rattle.node.proofs.Moves.{inside, below_ends, moved_within}
use Rattle.node.proofs.Effects.{after_none, after_take, after_choose, after_by}
use borrow.Author.Rules.{rules}
use Rattle.node.proofs.finish.Goals as goal

pub returns-then-op : goal.returns-then-op
returns-then-op c =
    let a = c.args in
    sym (after_none a.part.now a.held a.registers (sym c.op_at-op.ensures ∙ c.if-op.true))

pub returns-then-op-eq-TAKE : goal.returns-then-op-eq-TAKE
returns-then-op-eq-TAKE c =
    let a = c.args in
    c.take_edge.ensures ∙ sym (after_take a.part.now a.held a.registers (sym c.op_at-op.ensures ∙ c.if-op-eq-TAKE.true))

pub returns-then-op-eq-CHOOSE : goal.returns-then-op-eq-CHOOSE
returns-then-op-eq-CHOOSE c =
    let a = c.args in
    c.choose_block.ensures ∙ sym (after_choose a.part.now a.held a.registers (sym c.op_at-op.ensures ∙ c.if-op-eq-CHOOSE.true))

pub slice_bounds-statement-count : goal.slice_bounds-statement-count
slice_bounds-statement-count c =
    let opened : Opens (drop c.args.registers.pc c.args.part.now) c.op_at-op.result =
    (opens _ _ (sym c.op_at-op.ensures) c.if-op.false) in
    let placed : let a = c.args in a.registers.pc + 4 ≤ length a.part.now =
    (let a = c.args in inside a.part.now a.registers.pc c.op_at-op.result opened) in
    omega (arith, placed)

pub slice_bounds-statement-start : goal.slice_bounds-statement-start
slice_bounds-statement-start c =
    let a = c.args in
    let w : a.registers.pc ≤ length a.part.now = slice_bounds-statement-count c in
    search rules

pub statement_length-requires : goal.statement_length-requires
statement_length-requires c =
    let opened : Opens (drop c.args.registers.pc c.args.part.now) c.op_at-op.result =
    (opens _ _ (sym c.op_at-op.ensures) c.if-op.false) in
    let front : let a = c.args in
    let at = a.registers.pc in
    Opens (take (length a.part.now - at) (drop at a.part.now)) c.op_at-op.result =
    (let a = c.args in rw (tail a.part.now a.registers.pc) opened) in
    front.fits

pub overflow_add-next : goal.overflow_add-next
overflow_add-next c =
    let opened : Opens (drop c.args.registers.pc c.args.part.now) c.op_at-op.result =
    (opens _ _ (sym c.op_at-op.ensures) c.if-op.false) in
    let placed : let a = c.args in a.registers.pc + 4 ≤ length a.part.now =
    (let a = c.args in inside a.part.now a.registers.pc c.op_at-op.result opened) in
    omega (arith, placed, c.statement_length.ensures.1)

pub work_statement-requires : goal.work_statement-requires
work_statement-requires c =
    let opened : Opens (drop c.args.registers.pc c.args.part.now) c.op_at-op.result =
    (opens _ _ (sym c.op_at-op.ensures) c.if-op.false) in
    let front : let a = c.args in
    let at = a.registers.pc in
    Opens (take (length a.part.now - at) (drop at a.part.now)) c.op_at-op.result =
    (let a = c.args in rw (tail a.part.now a.registers.pc) opened) in
    let e = c in
    let s = e in
    let o = front in
    (o.fits, omega (arith, o.first), s.requires.1, moved_within _ _ _ s.requires.2, rw (tail s.args.part.now s.args.registers.pc) (record { fits = s.requires.3.fits }))

pub returns-then-op-lt-TRIAL : goal.returns-then-op-lt-TRIAL
returns-then-op-lt-TRIAL c =
    let opened : Opens (drop c.args.registers.pc c.args.part.now) c.op_at-op.result =
    (opens _ _ (sym c.op_at-op.ensures) c.if-op.false) in
    let e = c in
    let s = e in
    let a = s.args in
    after_by a.part.now a.held a.registers _ (tail a.part.now a.registers.pc) (omega (arith, e.op_at-op.ensures, opened.low)) (λ q. e.if-op-eq-TAKE.false (e.op_at-op.ensures ∙ q)) (λ q. e.if-op-eq-CHOOSE.false (e.op_at-op.ensures ∙ q)) c.statement_length.result
    c.statement_length.ensures.0
    c.work_statement.result
    c.work_statement.ensures

pub try_statement-requires : goal.try_statement-requires
try_statement-requires c =
    let opened : Opens (drop c.args.registers.pc c.args.part.now) c.op_at-op.result =
    (opens _ _ (sym c.op_at-op.ensures) c.if-op.false) in
    let front : let a = c.args in
    let at = a.registers.pc in
    Opens (take (length a.part.now - at) (drop at a.part.now)) c.op_at-op.result =
    (let a = c.args in rw (tail a.part.now a.registers.pc) opened) in
    let e = c in
    let s = e in
    let o = front in
    (o.fits, omega (arith, o.first), below_ends _ _ o e.if-op-eq-TAKE.false e.if-op-eq-CHOOSE.false, s.requires.1)

pub returns : goal.returns
returns c =
    let opened : Opens (drop c.args.registers.pc c.args.part.now) c.op_at-op.result =
    (opens _ _ (sym c.op_at-op.ensures) c.if-op.false) in
    let e = c in
    let s = e in
    let a = s.args in
    let w = opened.low in
    after_by a.part.now a.held a.registers _ (tail a.part.now a.registers.pc) (omega (arith, e.op_at-op.ensures, opened.low)) (λ q. e.if-op-eq-TAKE.false (e.op_at-op.ensures ∙ q)) (λ q. e.if-op-eq-CHOOSE.false (e.op_at-op.ensures ∙ q)) c.statement_length.result
    c.statement_length.ensures.0
    c.try_statement.result
    c.try_statement.ensures
