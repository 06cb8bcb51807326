-- `stand::paired_location` meets its contract. Assumes nothing.
use borrow.Author.Rules.{rules}
use mathlib.Core.Path.{◌≡◌, refl, sym, ◌∙◌}
use Prim.Native.Nat.{◌+◌, ◌*◌, ◌≤◌}
use Rattle.stand.proofs.Pairs.{location, location_found, location_passed, no-location}
use Rattle.stand.proofs.paired_location.Goals as goal

pub loop-i-init : goal.loop-i-init
loop-i-init c = (search rules, refl)

pub returns-then-byte_at-channel : goal.returns-then-byte_at-channel
returns-then-byte_at-channel c =
    let a = c.args in
    let l = c.loop-i in
    c.byte_at-then-byte_at-channel.ensures
    ∙ sym (location_found a.part.now a.channel l.at l.i c.loop-i-test.true (sym c.byte_at.ensures ∙ c.if-byte_at-channel.true))
    ∙ l.invariant.1

pub loop-i-preserved : goal.loop-i-preserved
loop-i-preserved c =
    let a = c.args in
    let l = c.loop-i in
    (search rules, sym (location_passed a.part.now a.channel l.at l.i c.loop-i-test.true (λ e. c.if-byte_at-channel.false (c.byte_at.ensures ∙ e))) ∙ l.invariant.1)

pub returns : goal.returns
returns c =
    let a = c.args in
    let l = c.loop-i in
    sym (no-location a.part.now a.channel l.at l.i c.loop-i-test.false) ∙ l.invariant.1
