-- `stand::due_by` meets its contract. Assumes nothing.
use Prim.Native.Nat.{◌+◌}
use Rattle.stand.proofs.ByOp.{sort_is, stand-at, undue}
use Rattle.stand.specs.Stands.{due_tick}
use Rattle.node.specs.Views.{node_of}
use mathlib.Core.Path.{◌≡◌, sym, ap, ◌∙◌}
use native.Mathlib.Omega.{arith}
use Rattle.stand.proofs.due_by.Goals as goal

pub returns-then-op-gt-LISTEN : goal.returns-then-op-gt-LISTEN
returns-then-op-gt-LISTEN c p held r eo et ed =
    undue (node_of p held r) (sort_is p r.pc _ eo) (λ e. absurd (omega (arith, e, c.if-op-gt-LISTEN.true))) (λ e. absurd (omega (arith, e, c.if-op-gt-LISTEN.true)))

pub returns-then-op-eq-SLEEP : goal.returns-then-op-eq-SLEEP
returns-then-op-eq-SLEEP c p held r eo et ed = et ∙ sym (ap (due_tick (node_of p held r)) (stand-at p r.pc eo 0 c.if-op-eq-SLEEP.true))

pub returns-then-op-eq-LISTEN : goal.returns-then-op-eq-LISTEN
returns-then-op-eq-LISTEN c p held r eo et ed =
    let e : c.args.ready + c.wide64.result ≡ r.t + r.d = rw (c.wide64.ensures.0, et, ed) in
    e ∙ sym (ap (due_tick (node_of p held r)) (stand-at p r.pc eo 5 c.if-op-eq-LISTEN.true))

pub returns : goal.returns
returns c p held r eo et ed = undue (node_of p held r) (sort_is p r.pc _ eo) c.if-op-eq-SLEEP.false c.if-op-eq-LISTEN.false
