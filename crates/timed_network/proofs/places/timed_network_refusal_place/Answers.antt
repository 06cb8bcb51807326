-- `timed_network::places::timed_network_refusal_place` meets its contract. Assumes nothing.
use mathlib.Core.Path.{sym, ap, subst}
use native.Mathlib.Omega.{arith}
use borrow.Author.Rules.{rules}
use Rattle.model.proofs.Reader.Located.{are_bytes}
use Rattle.refusal_place.specs.Walk.{place_of}
use Rattle.refusal_place.specs.Told.{Bounded}
use Rattle.refusal_place.specs.declared.Place.{Place}
use Rattle.refusal_place.proofs.Whole.{told}
use Rattle.refusal_place.proofs.Bounds.{bounded}
use Rattle.timed_network.proofs.places.timed_network_refusal_place.Goals as goal

pub overflow_cast-result : goal.overflow_cast-result
overflow_cast-result c =
    let place-bounded : Bounded (place_of c.args.table.now) =
    (let s = c.args.table.now in
    bounded s (are_bytes s (λ i. omega (arith, c.type_inv.table i)))) in
    let found-bounded : Bounded c.locate-place.result =
    (subst Bounded (sym c.locate-place.ensures.value) place-bounded) in
    let b = found-bounded in search rules

pub overflow_cast-result-2 : goal.overflow_cast-result-2
overflow_cast-result-2 c =
    let place-bounded : Bounded (place_of c.args.table.now) =
    (let s = c.args.table.now in
    bounded s (are_bytes s (λ i. omega (arith, c.type_inv.table i)))) in
    let found-bounded : Bounded c.locate-place.result =
    (subst Bounded (sym c.locate-place.ensures.value) place-bounded) in
    let b = found-bounded in search rules

pub overflow_cast-result-3 : goal.overflow_cast-result-3
overflow_cast-result-3 c =
    let place-bounded : Bounded (place_of c.args.table.now) =
    (let s = c.args.table.now in
    bounded s (are_bytes s (λ i. omega (arith, c.type_inv.table i)))) in
    let found-bounded : Bounded c.locate-place.result =
    (subst Bounded (sym c.locate-place.ensures.value) place-bounded) in
    let b = found-bounded in search rules

pub overflow_cast-result-4 : goal.overflow_cast-result-4
overflow_cast-result-4 c =
    let place-bounded : Bounded (place_of c.args.table.now) =
    (let s = c.args.table.now in
    bounded s (are_bytes s (λ i. omega (arith, c.type_inv.table i)))) in
    let found-bounded : Bounded c.locate-place.result =
    (subst Bounded (sym c.locate-place.ensures.value) place-bounded) in
    let b = found-bounded in search rules

pub overflow_cast-result-5 : goal.overflow_cast-result-5
overflow_cast-result-5 c =
    let place-bounded : Bounded (place_of c.args.table.now) =
    (let s = c.args.table.now in
    bounded s (are_bytes s (λ i. omega (arith, c.type_inv.table i)))) in
    let found-bounded : Bounded c.locate-place.result =
    (subst Bounded (sym c.locate-place.ensures.value) place-bounded) in
    let b = found-bounded in search rules

pub overflow_cast-result-6 : goal.overflow_cast-result-6
overflow_cast-result-6 c =
    let place-bounded : Bounded (place_of c.args.table.now) =
    (let s = c.args.table.now in
    bounded s (are_bytes s (λ i. omega (arith, c.type_inv.table i)))) in
    let found-bounded : Bounded c.locate-place.result =
    (subst Bounded (sym c.locate-place.ensures.value) place-bounded) in
    let b = found-bounded in search rules

pub returns : goal.returns
returns c =
    let place-bounded : Bounded (place_of c.args.table.now) =
    (let s = c.args.table.now in
    bounded s (are_bytes s (λ i. omega (arith, c.type_inv.table i)))) in
    let found = c in (
      record {
        number = ap (λ (p : Place). p.number) found.locate-place.ensures.value;
        component = ap (λ (p : Place). p.component) found.locate-place.ensures.value;
        part = ap (λ (p : Place). p.part) found.locate-place.ensures.value;
        edge = ap (λ (p : Place). p.edge) found.locate-place.ensures.value;
        index = ap (λ (p : Place). p.index) found.locate-place.ensures.value;
        unbounded = ap (λ (p : Place). p.unbounded) found.locate-place.ensures.value;
        start = ap (λ (p : Place). p.start) found.locate-place.ensures.value;
        offset = ap (λ (p : Place). p.offset) found.locate-place.ensures.value;
        width = ap (λ (p : Place). p.width) found.locate-place.ensures.value;
        value = ap (λ (p : Place). p.value) found.locate-place.ensures.value;
        least = ap (λ (p : Place). p.least) found.locate-place.ensures.value;
        limit = ap (λ (p : Place). p.limit) found.locate-place.ensures.value;
      },
      told found.args.table.now,
      place-bounded,
    )
