-- `stand::may_by` meets its contract. Assumes nothing.
use lib.Dec.{eqb}
use Prim.Native.Nat.{◌+◌}
use Rattle.stand.proofs.ByOp.{sort_is, stand-at, kept_some, unbound}
use Rattle.stand.specs.Stands.{may_finish}
use Rattle.node.specs.Views.{node_of}
use mathlib.Core.Path.{◌≡◌, sym, ap, ◌∙◌}
use Rattle.stand.proofs.may_by.Goals as goal

pub returns-then-op-eq-SLEEP : goal.returns-then-op-eq-SLEEP
returns-then-op-eq-SLEEP c p held r eo et ed ek ef = ap (eqb c.args.tick) et ∙ sym (ap (may_finish c.args.tick (node_of p held r)) (stand-at p r.pc eo 0 c.if-op-eq-SLEEP.true))

pub returns-then-op-eq-LISTEN : goal.returns-then-op-eq-LISTEN
returns-then-op-eq-LISTEN c p held r eo et ed ek ef =
    let e : c.args.ready + c.wide64.result ≡ r.t + r.d = rw (c.wide64.ensures.0, et, ed) in
    ap (eqb c.args.tick) e ∙ sym (ap (may_finish c.args.tick (node_of p held r)) (stand-at p r.pc eo 5 c.if-op-eq-LISTEN.true))

pub returns-then-op-eq-ADD : goal.returns-then-op-eq-ADD
returns-then-op-eq-ADD c p held r eo et ed ek ef = ef c.if-op-eq-ADD.true ∙ sym (ap (may_finish c.args.tick (node_of p held r)) (stand-at p r.pc eo 2 c.if-op-eq-ADD.true))

pub returns-then-op-eq-TAKE : goal.returns-then-op-eq-TAKE
returns-then-op-eq-TAKE c p held r eo et ed ek ef = ek ∙ kept_some r.kept ∙ sym (ap (may_finish c.args.tick (node_of p held r)) (stand-at p r.pc eo 16 c.if-op-eq-TAKE.true))

pub returns-then-op-eq-SEND : goal.returns-then-op-eq-SEND
returns-then-op-eq-SEND c p held r eo et ed ek ef = sym (ap (may_finish c.args.tick (node_of p held r)) (stand-at p r.pc eo 4 c.if-op-eq-SEND.true))

pub returns : goal.returns
returns c p held r eo et ed ek ef =
    unbound c.args.tick (node_of p held r) (sort_is p r.pc _ eo) c.if-op-eq-SLEEP.false c.if-op-eq-LISTEN.false c.if-op-eq-ADD.false c.if-op-eq-TAKE.false c.if-op-eq-SEND.false
