-- `timed_network::places::timed_network_refused_opening` meets its contract. Assumes nothing.
use mathlib.Core.Path.{ap, subst, ◌∙◌, sym}
use Rattle.opening_place.specs.declared.RefusedOpening.{RefusedOpening}
use Rattle.opening_place.specs.Opening.{opening_of}
use Rattle.refused_opening.proofs.Promised.{promised}
use Rattle.timed_network.proofs.Header.{no-opening}
use Rattle.table.proofs.Whole.{questioned}
use Rattle.timed_network.proofs.Whole.{whole}
use Rattle.timed_network.specs.Numbers.{OpeningNumbersOf}
use Rattle.timed_network.proofs.places.timed_network_refused_opening.Goals as goal

pub returns-then-is_err : goal.returns-then-is_err
returns-then-is_err c =
    let bs = c.args.table.now in
    (subst (λ (o : RefusedOpening). OpeningNumbersOf o c.no_opening.result) (no-opening bs _ c.header.ensures (questioned c.header.result (sym c.is_err.ensures.value ∙ c.if-is_err.true))) c.no_opening.ensures, promised bs)

pub returns : goal.returns
returns c =
    let bs = c.args.table.now in
    let e = c.locate-opening.ensures ∙ ap opening_of (whole bs) in (
      record {
        number = ap (λ (o : RefusedOpening). o.number) e;
        component = ap (λ (o : RefusedOpening). o.component) e;
        leaving = ap (λ (o : RefusedOpening). o.leaving) e;
        blocked = ap (λ (o : RefusedOpening). o.blocked) e;
        windowless = ap (λ (o : RefusedOpening). o.windowless) e;
        edge = ap (λ (o : RefusedOpening). o.edge) e;
        update = ap (λ (o : RefusedOpening). o.update) e;
        passage = ap (λ (o : RefusedOpening). o.passage) e;
        tick = ap (λ (o : RefusedOpening). o.tick) e;
        enters = ap (λ (o : RefusedOpening). o.component) e;
        location = ap (λ (o : RefusedOpening). o.location) e;
        clocks = ap (λ (o : RefusedOpening). o.clocks) e;
        values = ap (λ (o : RefusedOpening). o.values) e;
      },
      promised bs,
    )
