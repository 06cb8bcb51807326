-- `parts::pairs` meets its contract. Assumes nothing.
use mathlib.Core.Bool.{true, false}
use mathlib.Core.Path.{◌≡◌, refl, sym, ap, ◌∙◌}
use mathlib.Core.List.{List}
use Prim.Native.Nat.{ℕ, ◌+◌, ◌-◌, ◌*◌}
use native.Mathlib.Omega.{arith}
use lib.ListN.{drop, get_or}
use Rattle.model.specs.Reader.{pair_fine, listed}
use Rattle.parts.specs.Place.{channels_before}
use Rattle.parts.proofs.Skim.{tail}
use Rattle.parts.proofs.EdgeItems.{pairs_short, pairs_bad, pairs_twice, pairs_turn, pairs_done}
use Rattle.parts.proofs.pairs.Goals as goal

pub loop-i-init : goal.loop-i-init
unfolding channels_before
loop-i-init c =
    let a = c.args in
    let e : a.from + 0 ≡ a.from = omega arith in
    let n : a.count - 0 ≡ a.count = omega arith in
    (omega arith, rw (e, n))

pub returns-then-component-at-lt-PAIR_WIDTH : goal.returns-then-component-at-lt-PAIR_WIDTH
returns-then-component-at-lt-PAIR_WIDTH c =
    let a = c.args in
    let i = c.loop-i.i in
    record { says = pairs_short a.sizes a.component.now a.from (a.from + i * 2) i (a.count - i) (a.count - (i + 1)) _ (omega arith) c.loop-i.invariant.1 c.if-component-at-lt-PAIR_WIDTH.true; within = tt }

pub returns-then-not-pair_fine : goal.returns-then-not-pair_fine
returns-then-not-pair_fine c =
    let a = c.args in
    let i = c.loop-i.i in
    let at = a.from + i * 2 in
    let fine : pair_fine a.sizes (drop at a.component.now) ≡ false =
    sym (c.pair_fine.ensures ∙ ap (pair_fine a.sizes) (tail a.component.now at)) ∙ c.if-not-pair_fine.true in
    record { says = pairs_bad a.sizes a.component.now a.from at i (a.count - i) (a.count - (i + 1)) _ (omega arith) c.loop-i.invariant.1 (omega arith) fine; within = tt }

pub returns-then-listed_before : goal.returns-then-listed_before
returns-then-listed_before c =
    let a = c.args in
    let i = c.loop-i.i in
    let at = a.from + i * 2 in
    let fine : pair_fine a.sizes (drop at a.component.now) ≡ true =
    sym (c.pair_fine.ensures ∙ ap (pair_fine a.sizes) (tail a.component.now at)) ∙ c.if-not-pair_fine.false in
    let seen : c.listed_before.result ≡ listed (get_or a.component.now at 0) (channels_before (drop a.from a.component.now) i) =
    c.listed_before.ensures ∙ ap (λ (h : List ℕ). listed (get_or a.component.now at 0) (channels_before h i)) (tail a.component.now a.from) in
    record {
      says = pairs_twice a.sizes a.component.now a.from at i (a.count - i) (a.count - (i + 1)) _ (omega arith) c.loop-i.invariant.1 (omega arith) fine (sym seen ∙ c.if-listed_before.true);
      within = tt;
    }

pub loop-i-preserved : goal.loop-i-preserved
loop-i-preserved c =
    let a = c.args in
    let i = c.loop-i.i in
    let at = a.from + i * 2 in
    let fine : pair_fine a.sizes (drop at a.component.now) ≡ true =
    sym (c.pair_fine.ensures ∙ ap (pair_fine a.sizes) (tail a.component.now at)) ∙ c.if-not-pair_fine.false in
    let seen : c.listed_before.result ≡ listed (get_or a.component.now at 0) (channels_before (drop a.from a.component.now) i) =
    c.listed_before.ensures ∙ ap (λ (h : List ℕ). listed (get_or a.component.now at 0) (channels_before h i)) (tail a.component.now a.from) in
    let on : a.from + (i + 1) * 2 ≡ at + 2 = omega arith in (
      omega arith,
      rw on (pairs_turn a.sizes a.component.now a.from at i (a.count - i) (a.count - (i + 1)) _ (omega arith) c.loop-i.invariant.1 refl (omega arith) fine (sym seen ∙ c.if-listed_before.false)),
    )

pub returns : goal.returns
returns c =
    let a = c.args in
    let i = c.loop-i.i in
    let end : a.from + i * 2 ≡ a.from + c.from.result * 2 = omega (arith, c.from.ensures, c.from-i-end.ensures) in
    record {
      says = pairs_done a.sizes (channels_before (drop a.from a.component.now) i) (drop (a.from + c.from.result * 2) a.component.now) (a.count - i) _ (omega arith) (rw (← end) c.loop-i.invariant.1);
      within = (omega arith, omega arith);
    }
