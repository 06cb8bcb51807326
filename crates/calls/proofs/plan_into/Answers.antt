use mathlib.Core.Path.{sym, ap, ◌∙◌}
use native.Mathlib.Omega.{arith}
use Rattle.model.specs.Calls.{Call}
use Rattle.calls.proofs.Answering.{plan_refused, call_refused, few, room, too_short, written}
use Rattle.calls.proofs.plan_into.Goals as goal

-- src/lib.rt:101:29
pub overflow_mul-n : goal.overflow_mul-n
overflow_mul-n c = let f = few 0 c.args.table.now c.plan_rows-r.result _ c.plan_rows-r.ensures c.in-Accepted.is in omega arith

-- src/lib.rt:102:17
pub returns-then-list-n : goal.returns-then-list-n
returns-then-list-n c =
    let a = c.args in
    let k = too_short c.args.table.now c.requires.0 c.plan_rows-r.result _ c.plan_rows-r.ensures c.in-Accepted.is a.list.now c.if-list-n.true in
    (c.refused-then-list-n.ensures.0 ∙ sym (ap (λ (x : Call). x.verdict) k), c.refused-then-list-n.ensures.1 ∙ sym (ap (λ (x : Call). x.size) k), sym (ap (λ (x : Call). x.lent) k), omega (arith, c.refused-then-list-n.ensures.1), omega (arith, c.refused-then-list-n.ensures.1))

-- src/lib.rt:104:13
pub put_fields-requires : goal.put_fields-requires
put_fields-requires c =
    (room 0 c.args.table.now c.plan_rows-r.result _ c.plan_rows-r.ensures c.in-Accepted.is, omega arith, few 0 c.args.table.now c.plan_rows-r.result _ c.plan_rows-r.ensures c.in-Accepted.is)

-- src/lib.rt:90:1
pub returns-in-Refused : goal.returns-in-Refused
returns-in-Refused c =
    let a = c.args in
    let k = call_refused a.table.now a.list.now (plan_refused c.args.table.now c.requires.0 c.plan_rows-r.result _ c.plan_rows-r.ensures c.in-Refused.is) in
    (c.refused.ensures.0 ∙ sym (ap (λ (x : Call). x.verdict) k), c.refused.ensures.1 ∙ sym (ap (λ (x : Call). x.size) k), sym (ap (λ (x : Call). x.lent) k), omega (arith, c.refused.ensures.1), omega (arith, c.refused.ensures.1))

-- src/lib.rt:90:1
pub returns-else-list-n : goal.returns-else-list-n
returns-else-list-n c =
    let a = c.args in
    let k = written c.args.table.now c.requires.0 c.plan_rows-r.result _ c.plan_rows-r.ensures c.in-Accepted.is a.list.now (omega arith) in
    (sym (ap (λ (x : Call). x.verdict) k), sym (ap (λ (x : Call). x.size) k), c.put_fields.ensures ∙ sym (ap (λ (x : Call). x.lent) k), few 0 c.args.table.now c.plan_rows-r.result _ c.plan_rows-r.ensures c.in-Accepted.is, omega arith)
