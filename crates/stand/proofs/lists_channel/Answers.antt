-- `stand::lists_channel` meets its contract. Assumes nothing.
use borrow.Author.Rules.{rules}
use mathlib.Core.Path.{◌≡◌, refl, sym, ◌∙◌}
use Prim.Native.Nat.{◌+◌, ◌*◌, ◌≤◌}
use Rattle.stand.proofs.Pairs.{listed, found, passed, none_listed}
use Rattle.stand.proofs.lists_channel.Goals as goal

pub loop-i-init : goal.loop-i-init
loop-i-init c = (search rules, refl)

pub returns-then-byte_at-channel : goal.returns-then-byte_at-channel
returns-then-byte_at-channel c =
    let a = c.args in
    let l = c.loop-i in
    sym (found a.part.now a.channel l.at l.i c.loop-i-test.true (sym c.byte_at.ensures ∙ c.if-byte_at-channel.true)) ∙ l.invariant.1

pub loop-i-preserved : goal.loop-i-preserved
loop-i-preserved c =
    let a = c.args in
    let l = c.loop-i in
    (search rules, sym (passed a.part.now a.channel l.at l.i c.loop-i-test.true (λ e. c.if-byte_at-channel.false (c.byte_at.ensures ∙ e))) ∙ l.invariant.1)

pub returns : goal.returns
returns c =
    let a = c.args in
    let l = c.loop-i in
    sym (none_listed a.part.now a.channel l.at l.i c.loop-i-test.false) ∙ l.invariant.1
