-- `window::paired_location` meets its contract. Assumes nothing.
use mathlib.Core.Path.{refl, sym, ap, ◌∙◌}
use Prim.Native.Nat.{◌-◌}
use native.Mathlib.Omega.{arith}
use Rattle.model.specs.declared.Pair.{Pair}
use Rattle.model.specs.Reader.{pair_at}
use Rattle.window.proofs.Rests.{all_left, one_fewer, at_place}
use Rattle.window.proofs.Leaving.{pair_found, pair_passed, pair_none}
use Rattle.window.proofs.paired_location.Goals as goal

pub loop-init : goal.loop-init
loop-init c = rw (all_left c.args.count) (omega arith, refl)

pub returns-then-pair-channel : goal.returns-then-pair-channel
returns-then-pair-channel c =
    let a = c.args in
    let l = c.loop in
    let h = a.pairs.now in
    let pair = at_place pair_at h l.at c.pair_at-pair.ensures in
    ap (λ (q : Pair). q.location) pair ∙ pair_found h l.at (a.count - l.counter) a.channel a.other _ l.invariant.1 (omega arith) (sym (ap (λ (q : Pair). q.channel) pair) ∙ c.if-pair-channel.true)

pub loop-preserved : goal.loop-preserved
loop-preserved c =
    let a = c.args in
    let l = c.loop in
    let h = a.pairs.now in
    let pair = at_place pair_at h l.at c.pair_at-pair.ensures in
    rw (one_fewer a.count l.counter) (omega arith, pair_passed h l.at (a.count - l.counter) a.channel a.other _ l.invariant.1 (omega arith) (λ e. c.if-pair-channel.false (ap (λ (q : Pair). q.channel) pair ∙ e)))

pub returns : goal.returns
returns c =
    let a = c.args in
    let l = c.loop in
    pair_none a.pairs.now l.at (a.count - l.counter) a.channel a.other _ l.invariant.1 (omega arith)
