-- `site::put_load` meets its contract. Assumes nothing.
use mathlib.Core.Path.{ap, ◌∙◌}
use mathlib.Core.Option.{Option}
use native.Mathlib.Omega.{arith}
use borrow.Author.Tests.{not-true, not-false}
use Rattle.site.specs.Airtime.{Load, placed}
use Rattle.site.specs.Lent.{site_in, carried}
use Rattle.site.proofs.Keeping.{held_some, put_outside, put_filled, put_strange, put_full, put_fits}
use Rattle.site.proofs.put_load.Goals as goal

pub returns-then-k-ge4 : goal.returns-then-k-ge4
returns-then-k-ge4 c = let a = c.args in c.refuse.ensures ∙ put_outside a.site a.place (record { horizon = a.horizon; airtime = a.airtime }) (omega (arith, c.if-k-ge4.true, c.from-k.ensures))

pub returns-then-site-k-ne0 : goal.returns-then-site-k-ne0
returns-then-site-k-ne0 c =
    let a = c.args in
    c.refuse-then-site-k-ne0.ensures ∙ put_filled a.site a.place (record { horizon = a.horizon; airtime = a.airtime }) (omega (arith, c.if-k-ge4.false, c.from-k.ensures)) (rw c.from-k.ensures at c.if-site-k-ne0.true)

pub returns-then-not-one_horizon : goal.returns-then-not-one_horizon
returns-then-not-one_horizon c =
    let a = c.args in
    c.refuse-then-not-one_horizon.ensures
    ∙ put_strange a.site a.place (record { horizon = a.horizon; airtime = a.airtime }) (omega (arith, c.if-k-ge4.false, c.from-k.ensures)) (rw c.from-k.ensures at c.if-site-k-ne0.false) c.one_horizon.ensures (not-true c.one_horizon.result c.if-not-one_horizon.true-raw)

pub overflow_add-in_use : goal.overflow_add-in_use
overflow_add-in_use c = omega (arith, c.in_use.ensures.1)

pub returns-then-from-in_use : goal.returns-then-from-in_use
returns-then-from-in_use c =
    let a = c.args in
    c.refuse-then-from-in_use.ensures
    ∙ put_full a.site a.place (record { horizon = a.horizon; airtime = a.airtime }) (omega (arith, c.if-k-ge4.false, c.from-k.ensures))
    (rw c.from-k.ensures at c.if-site-k-ne0.false) c.one_horizon.ensures (not-false c.one_horizon.result c.if-not-one_horizon.false-raw) c.in_use.ensures.0 (omega (arith, c.if-from-in_use.true, c.from.ensures, c.from-2.ensures))

pub returns : goal.returns
returns c =
    let a = c.args in
    let e = c.requires in
    (rw c.from-k.ensures at c.set_place.ensures)
    ∙ ap (λ (p : Option Load). carried a.site a.place (placed (site_in a.site) a.place p)) (held_some a.horizon a.airtime e)
    ∙ put_fits a.site a.place (record { horizon = a.horizon; airtime = a.airtime }) (omega (arith, c.if-k-ge4.false, c.from-k.ensures))
    (rw c.from-k.ensures at c.if-site-k-ne0.false) c.one_horizon.ensures (not-false c.one_horizon.result c.if-not-one_horizon.false-raw) c.in_use.ensures.0 (omega (arith, c.if-from-in_use.false, c.from.ensures, c.from-2.ensures))
