-- `refusal_place::edges::inside` meets its contract. Assumes nothing.
use mathlib.Core.Path.{refl, ap, ◌∙◌}
use Prim.Native.Nat.{ℕ}
use Rattle.refusal_place.specs.Walk.{fits, contents}
use Rattle.refusal_place.specs.declared.Part.TheVariants.{ComponentLength, ComponentHead, Location, EdgeHead, ClockBound, DataBound, Update, Channel, Pair, ComponentEnd, TableEnd, Budget}
use Rattle.refusal_place.proofs.Within.{inside_as}
use Rattle.refusal_place.proofs.edges.inside.Goals as goal

pub returns-in-ComponentLength : goal.returns-in-ComponentLength
unfolding contents
returns-in-ComponentLength c =
    let s = c in
    let a = s.args in (
      inside_as a.table.now a.end a.sizes a.who a.w ComponentLength s.fits-fit.result s.fits-fit.result c.in-ComponentLength.is (s.fits-fit.ensures.0 ∙ ap (λ (n : ℕ). fits a.end a.who n a.w) s.width.ensures.0) s.fits-fit.ensures.1 refl,
      s.fits-fit.ensures.1,
    )

pub returns-in-ComponentHead : goal.returns-in-ComponentHead
returns-in-ComponentHead c =
    let s = c in
    let a = s.args in (
      inside_as a.table.now a.end a.sizes a.who a.w ComponentHead s.fits-fit.result c.component_head.result c.in-ComponentHead.is (s.fits-fit.ensures.0 ∙ ap (λ (n : ℕ). fits a.end a.who n a.w) s.width.ensures.0) s.fits-fit.ensures.1 c.component_head.ensures.0,
      c.component_head.ensures.1 ∙ s.fits-fit.ensures.1,
    )

pub returns-in-Location : goal.returns-in-Location
returns-in-Location c =
    let s = c in
    let a = s.args in (
      inside_as a.table.now a.end a.sizes a.who a.w Location s.fits-fit.result c.location.result c.in-Location.is (s.fits-fit.ensures.0 ∙ ap (λ (n : ℕ). fits a.end a.who n a.w) s.width.ensures.0) s.fits-fit.ensures.1 c.location.ensures.0,
      c.location.ensures.1 ∙ s.fits-fit.ensures.1,
    )

pub returns-in-EdgeHead : goal.returns-in-EdgeHead
returns-in-EdgeHead c =
    let s = c in
    let a = s.args in (
      inside_as a.table.now a.end a.sizes a.who a.w EdgeHead s.fits-fit.result c.edge_head.result c.in-EdgeHead.is (s.fits-fit.ensures.0 ∙ ap (λ (n : ℕ). fits a.end a.who n a.w) s.width.ensures.0) s.fits-fit.ensures.1 c.edge_head.ensures.0,
      c.edge_head.ensures.1 ∙ s.fits-fit.ensures.1,
    )

pub returns-in-ClockBound : goal.returns-in-ClockBound
returns-in-ClockBound c =
    let s = c in
    let a = s.args in (
      inside_as a.table.now a.end a.sizes a.who a.w ClockBound s.fits-fit.result c.clock_bound.result c.in-ClockBound.is (s.fits-fit.ensures.0 ∙ ap (λ (n : ℕ). fits a.end a.who n a.w) s.width.ensures.0) s.fits-fit.ensures.1 c.clock_bound.ensures.0,
      c.clock_bound.ensures.1 ∙ s.fits-fit.ensures.1,
    )

pub returns-in-DataBound : goal.returns-in-DataBound
returns-in-DataBound c =
    let s = c in
    let a = s.args in (
      inside_as a.table.now a.end a.sizes a.who a.w DataBound s.fits-fit.result c.data_bound.result c.in-DataBound.is (s.fits-fit.ensures.0 ∙ ap (λ (n : ℕ). fits a.end a.who n a.w) s.width.ensures.0) s.fits-fit.ensures.1 c.data_bound.ensures.0,
      c.data_bound.ensures.1 ∙ s.fits-fit.ensures.1,
    )

pub returns-in-Update : goal.returns-in-Update
returns-in-Update c =
    let s = c in
    let a = s.args in (
      inside_as a.table.now a.end a.sizes a.who a.w Update s.fits-fit.result c.update.result c.in-Update.is (s.fits-fit.ensures.0 ∙ ap (λ (n : ℕ). fits a.end a.who n a.w) s.width.ensures.0) s.fits-fit.ensures.1 c.update.ensures.0,
      c.update.ensures.1 ∙ s.fits-fit.ensures.1,
    )

pub returns-in-Channel : goal.returns-in-Channel
returns-in-Channel c =
    let s = c in
    let a = s.args in (
      inside_as a.table.now a.end a.sizes a.who a.w Channel s.fits-fit.result c.channel.result c.in-Channel.is (s.fits-fit.ensures.0 ∙ ap (λ (n : ℕ). fits a.end a.who n a.w) s.width.ensures.0) s.fits-fit.ensures.1 c.channel.ensures.0,
      c.channel.ensures.1 ∙ s.fits-fit.ensures.1,
    )

pub returns-in-Pair : goal.returns-in-Pair
returns-in-Pair c =
    let s = c in
    let a = s.args in (
      inside_as a.table.now a.end a.sizes a.who a.w Pair s.fits-fit.result c.pair.result c.in-Pair.is (s.fits-fit.ensures.0 ∙ ap (λ (n : ℕ). fits a.end a.who n a.w) s.width.ensures.0) s.fits-fit.ensures.1 c.pair.ensures.0,
      c.pair.ensures.1 ∙ s.fits-fit.ensures.1,
    )

pub returns-in-ComponentEnd : goal.returns-in-ComponentEnd
unfolding contents
returns-in-ComponentEnd c =
    let s = c in
    let a = s.args in (
      inside_as a.table.now a.end a.sizes a.who a.w ComponentEnd s.fits-fit.result s.fits-fit.result c.in-ComponentEnd.is (s.fits-fit.ensures.0 ∙ ap (λ (n : ℕ). fits a.end a.who n a.w) s.width.ensures.0) s.fits-fit.ensures.1 refl,
      s.fits-fit.ensures.1,
    )

pub returns-in-TableEnd : goal.returns-in-TableEnd
unfolding contents
returns-in-TableEnd c =
    let s = c in
    let a = s.args in (
      inside_as a.table.now a.end a.sizes a.who a.w TableEnd s.fits-fit.result s.fits-fit.result c.in-TableEnd.is (s.fits-fit.ensures.0 ∙ ap (λ (n : ℕ). fits a.end a.who n a.w) s.width.ensures.0) s.fits-fit.ensures.1 refl,
      s.fits-fit.ensures.1,
    )

pub returns-in-Budget : goal.returns-in-Budget
returns-in-Budget c =
    let s = c in
    let a = s.args in (
      inside_as a.table.now a.end a.sizes a.who a.w Budget s.fits-fit.result c.budget.result c.in-Budget.is (s.fits-fit.ensures.0 ∙ ap (λ (n : ℕ). fits a.end a.who n a.w) s.width.ensures.0) s.fits-fit.ensures.1 c.budget.ensures.0,
      c.budget.ensures.1 ∙ s.fits-fit.ensures.1,
    )
