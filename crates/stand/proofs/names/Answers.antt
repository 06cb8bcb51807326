-- `stand::names` meets its contract. Assumes nothing.
use mathlib.Core.Path.{sym, ap, ◌∙◌}
use Prim.Native.Nat.{◌+◌, ◌≤◌}
use native.Mathlib.Omega.{arith}
use lib.ListN.{length}
use Rattle.model.specs.Run.{names}
use Rattle.stand.proofs.ByOp.{sort_is, stands_whole, listens_at, unnamed}
use borrow.Author.Rules.{rules}
use Rattle.stand.proofs.names.Goals as goal

pub overflow_add-at : goal.overflow_add-at
overflow_add-at c =
    let whole : c.args.at + 4 ≤ length c.args.part.now =
    (let a = c.args in
    stands_whole a.part.now a.at c.op_at.ensures 5 c.if-op_at-eq-LISTEN.true (omega arith)) in
    let h = whole in search rules

pub overflow_add-at-then-op_at-eq-LISTEN : goal.overflow_add-at-then-op_at-eq-LISTEN
overflow_add-at-then-op_at-eq-LISTEN c =
    let whole : c.args.at + 4 ≤ length c.args.part.now =
    (let a = c.args in
    stands_whole a.part.now a.at c.op_at.ensures 5 c.if-op_at-eq-LISTEN.true (omega arith)) in
    let h = whole in search rules

pub bounds-part-at : goal.bounds-part-at
bounds-part-at c =
    let whole : c.args.at + 4 ≤ length c.args.part.now =
    (let a = c.args in
    stands_whole a.part.now a.at c.op_at.ensures 5 c.if-op_at-eq-LISTEN.true (omega arith)) in
    let h = whole in search rules

pub lists_channel-requires : goal.lists_channel-requires
lists_channel-requires c =
    let whole : c.args.at + 4 ≤ length c.args.part.now =
    (let a = c.args in
    stands_whole a.part.now a.at c.op_at.ensures 5 c.if-op_at-eq-LISTEN.true (omega arith)) in
    let h = whole in search rules

pub returns-then-op_at-eq-LISTEN : goal.returns-then-op_at-eq-LISTEN
returns-then-op_at-eq-LISTEN c =
    let a = c.args in
    c.lists_channel.ensures
    ∙ sym (ap (names a.channel) (listens_at a.part.now a.at c.op_at.ensures c.if-op_at-eq-LISTEN.true))

pub returns : goal.returns
returns c =
    let a = c.args in
    unnamed a.channel (sort_is a.part.now a.at _ c.op_at.ensures) c.if-op_at-eq-LISTEN.false
