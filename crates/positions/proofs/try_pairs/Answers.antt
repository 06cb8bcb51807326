-- `positions::try_pairs` meets its contract. Assumes nothing.
use mathlib.Core.Path.{subst, ◌≡◌, refl, ◌∙◌}
use Prim.Native.Nat.{◌+◌, ◌*◌}
use native.Mathlib.Omega.{arith}
use lib.ListN.{get_or, drop}
use Rattle.model.specs.Table.{size}
use Rattle.model.specs.Places.{read_of}
use Rattle.model.specs.Positions.{asked, bad_pair}
use Rattle.schedule.proofs.Tables.{counted, header, horizon_is}
use Rattle.positions.proofs.Asking.{pair_on, absent, too-late, earlier, goes_on, all_fine}
use Rattle.positions.proofs.try_pairs.Goals as goal

pub bounds-table-3 : goal.bounds-table-3
bounds-table-3 c = let s = c in omega (arith, header s.args.table.now c.type_inv.table s.requires)

pub word_at-requires : goal.word_at-requires
word_at-requires c = let s = c in omega (arith, header s.args.table.now c.type_inv.table s.requires)

pub loop-pair-init : goal.loop-pair-init
loop-pair-init c = refl

pub returns-then-components-component : goal.returns-then-components-component
returns-then-components-component c =
    let s = c in
    let a = s.args in
    let t = read_of a.table.now in
    let size_is : c.wide32-components.result ≡ size t.table = c.wide32-components.ensures.0 ∙ counted a.table.now c.type_inv.table s.requires in
    let H : c.word32-horizon.result ≡ t.horizon = c.word32-horizon.ensures.0 ∙ c.word_at.ensures ∙ horizon_is a.table.now c.type_inv.table s.requires in
    let l = c.loop-pair in
    absent t a.pairs.now (l.pair * 2) l.last _ (omega arith) l.invariant (omega (arith, c.if-components-component.true, size_is))

pub returns-then-horizon-tick : goal.returns-then-horizon-tick
returns-then-horizon-tick c =
    let s = c in
    let a = s.args in
    let t = read_of a.table.now in
    let size_is : c.wide32-components.result ≡ size t.table = c.wide32-components.ensures.0 ∙ counted a.table.now c.type_inv.table s.requires in
    let H : c.word32-horizon.result ≡ t.horizon = c.word32-horizon.ensures.0 ∙ c.word_at.ensures ∙ horizon_is a.table.now c.type_inv.table s.requires in
    let l = c.loop-pair in
    too-late t a.pairs.now (l.pair * 2) l.last _ (omega arith) l.invariant (omega (arith, c.if-horizon-tick.true, H))

pub returns-then-tick-last : goal.returns-then-tick-last
returns-then-tick-last c =
    let s = c in
    let a = s.args in
    let t = read_of a.table.now in
    let size_is : c.wide32-components.result ≡ size t.table = c.wide32-components.ensures.0 ∙ counted a.table.now c.type_inv.table s.requires in
    let H : c.word32-horizon.result ≡ t.horizon = c.word32-horizon.ensures.0 ∙ c.word_at.ensures ∙ horizon_is a.table.now c.type_inv.table s.requires in
    let l = c.loop-pair in
    earlier t a.pairs.now (l.pair * 2) l.last _ (omega arith) l.invariant (omega (arith, c.if-components-component.false, size_is)) (omega (arith, c.if-horizon-tick.false, H)) c.if-tick-last.true

pub loop-pair-preserved : goal.loop-pair-preserved
loop-pair-preserved c =
    let s = c in
    let a = s.args in
    let t = read_of a.table.now in
    let size_is : c.wide32-components.result ≡ size t.table = c.wide32-components.ensures.0 ∙ counted a.table.now c.type_inv.table s.requires in
    let H : c.word32-horizon.result ≡ t.horizon = c.word32-horizon.ensures.0 ∙ c.word_at.ensures ∙ horizon_is a.table.now c.type_inv.table s.requires in
    let l = c.loop-pair in
    subst (λ i. bad_pair t (get_or a.pairs.now (l.pair * 2 + 1) 0) (asked (drop i a.pairs.now)) ≡ bad_pair t 0 (asked a.pairs.now)) (pair_on l.pair)
    (goes_on t a.pairs.now (l.pair * 2) l.last _ (omega arith) l.invariant (omega (arith, c.if-components-component.false, size_is)) (omega (arith, c.if-horizon-tick.false, H)) c.if-tick-last.false)

pub returns : goal.returns
returns c =
    let a = c.args in
    let l = c.loop-pair in
    all_fine (read_of a.table.now) a.pairs.now (l.pair * 2) l.last _ (omega arith) l.invariant
