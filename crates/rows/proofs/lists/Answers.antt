-- `rows::lists` meets its contract. Assumes nothing.
use mathlib.Core.Path.{sym, ◌∙◌}
use Prim.Native.Nat.{◌+◌, ◌-◌, ◌*◌}
use native.Mathlib.Omega.{arith}
use Rattle.model.specs.Reader.{byte}
use Rattle.rows.specs.Rows.{option_of}
use Rattle.rows.proofs.Channels.{lists_only, lists_start, lists_found, lists_turn, lists_done, lists_within}
use Rattle.rows.proofs.lists.Goals as goal

pub returns-in_default-action_at : goal.returns-in_default-action_at
returns-in_default-action_at c =
    lists_only (option_of c.args.channel) c.args.budgets c.args.edge.now (λ e. c.in_default-action_at.not-Receive (c.action_at.ensures ∙ sym e))

pub loop-k-init : goal.loop-k-init
loop-k-init c =
    let a = c.args in
    let receive = sym c.in-Receive.is ∙ c.action_at.ensures in
    let place = c.items_place-items.ensures.0 in
    lists_start a.edge.now c.in-Some.channel a.budgets _ _ receive (omega (arith, place)) (omega arith)

pub bounds-edge-items : goal.bounds-edge-items
bounds-edge-items c =
    let receive = sym c.in-Receive.is ∙ c.action_at.ensures in
    omega (arith, c.items_place-items.ensures.0, c.from-k-end.ensures, c.loop-k-test.true, lists_within c.args.budgets c.args.edge.now c.requires receive)

pub returns-then-edge-items : goal.returns-then-edge-items
returns-then-edge-items c =
    let l = c.loop-k in
    rw c.in-Some.is
    (lists_found c.args.edge.now c.in-Some.channel (c.items_place-items.result + 2 * l.k) (byte c.args.edge.now 6 - l.k) _ (omega (arith, c.from-k-end.ensures, c.loop-k-test.true)) c.if-edge-items.true l.invariant)

pub loop-k-preserved : goal.loop-k-preserved
loop-k-preserved c =
    let l = c.loop-k in
    let at = c.items_place-items.result + 2 * l.k in
    let left = byte c.args.edge.now 6 - l.k in
    lists_turn c.args.edge.now c.in-Some.channel at left _ (omega (arith, c.from-k-end.ensures, c.loop-k-test.true)) c.if-edge-items.false l.invariant _ _ (omega arith) (omega arith)

pub returns : goal.returns
returns c =
    let l = c.loop-k in
    rw c.in-Some.is
    (lists_done c.args.edge.now c.in-Some.channel (c.items_place-items.result + 2 * l.k) (byte c.args.edge.now 6 - l.k) _ (omega (arith, c.from-k-end.ensures, c.loop-k-test.false)) l.invariant)
