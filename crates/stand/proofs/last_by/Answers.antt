-- `stand::last_by` meets its contract. Assumes nothing.
use Prim.Native.Nat.{◌+◌}
use Rattle.stand.proofs.ByOp.{sort_is, stand-at, by_window, by_ready}
use Rattle.stand.specs.Stands.{last_tick}
use Rattle.node.specs.Views.{node_of}
use mathlib.Core.Path.{◌≡◌, sym, ap, ◌∙◌}
use native.Mathlib.Omega.{arith}
use Rattle.stand.proofs.last_by.Goals as goal

pub returns-then-op-gt-LISTEN : goal.returns-then-op-gt-LISTEN
returns-then-op-gt-LISTEN c p held r eo et ed = by_ready (node_of p held r) c.args.next (sort_is p r.pc _ eo) (omega (arith, c.if-op-gt-LISTEN.true))

pub returns-then-op-eq-SLEEP : goal.returns-then-op-eq-SLEEP
returns-then-op-eq-SLEEP c p held r eo et ed = sym (ap (last_tick (node_of p held r) c.args.next) (stand-at p r.pc eo 0 c.if-op-eq-SLEEP.true))

pub returns : goal.returns
returns c p held r eo et ed =
    let e : c.args.ready + c.wide64.result ≡ r.t + r.d = rw (c.wide64.ensures.0, et, ed) in
    e ∙ by_window (node_of p held r) c.args.next (sort_is p r.pc _ eo) c.if-op-eq-SLEEP.false (omega (arith, c.if-op-gt-LISTEN.false))
