-- `refusal_place::edges::one_pair` meets its contract. Assumes nothing.
use mathlib.Core.Path.{◌≡◌, sym, ap, ◌∙◌}
use mathlib.Core.Bool.{true, false}
use Prim.Native.Nat.{◌+◌, ◌*◌, ◌≤◌}
use native.Mathlib.Omega.{arith}
use borrow.Author.Tests.{not-true, not-false}
use Rattle.parts.proofs.Skim.{tail}
use Rattle.refusal_place.specs.Ranges.{width_of}
use Rattle.refusal_place.specs.Walk.{going, one_pair}
use Rattle.refusal_place.proofs.Within.{pair_within, pair_halts, pair_room}
use borrow.Author.Rules.{rules}
use Rattle.refusal_place.proofs.edges.one_pair.Goals as goal

pub returns-then-not-going : goal.returns-then-not-going
returns-then-not-going c =
    let a = c.args in
    let d : going c.inside-tried.result ≡ false = sym c.going.ensures ∙ not-true _ c.if-not-going.true-raw in
    let e = c.inside-tried.ensures.0 ∙ pair_halts a.table.now a.end a.sizes a.who a.w a.from (sym (ap going c.inside-tried.ensures.0) ∙ d) in
    (e, rw e (pair_within a.table.now a.end a.sizes a.who a.w (omega arith) a.from))

pub bounds-table-at : goal.bounds-table-at
bounds-table-at c =
    let stands : let a = c.args in (a.w.at ≡ a.from + a.who.index * 2) × (a.w.at + 2 ≤ a.end) =
    (let a = c.args in
    let p = c.requires in
    let on : going c.inside-tried.result ≡ true = sym c.going.ensures ∙ not-false _ c.if-not-going.false-raw in
    pair_room a.table.now a.end a.sizes a.who a.w a.from p.3 p.0 p.4 (sym (ap going c.inside-tried.ensures.0) ∙ on)) in
    let k = stands in search rules

pub slice_bounds-listed_before-count : goal.slice_bounds-listed_before-count
slice_bounds-listed_before-count c =
    let stands : let a = c.args in (a.w.at ≡ a.from + a.who.index * 2) × (a.w.at + 2 ≤ a.end) =
    (let a = c.args in
    let p = c.requires in
    let on : going c.inside-tried.result ≡ true = sym c.going.ensures ∙ not-false _ c.if-not-going.false-raw in
    pair_room a.table.now a.end a.sizes a.who a.w a.from p.3 p.0 p.4 (sym (ap going c.inside-tried.ensures.0) ∙ on)) in
    let k = stands in search rules

pub slice_bounds-listed_before-start : goal.slice_bounds-listed_before-start
slice_bounds-listed_before-start c =
    let stands : let a = c.args in (a.w.at ≡ a.from + a.who.index * 2) × (a.w.at + 2 ≤ a.end) =
    (let a = c.args in
    let p = c.requires in
    let on : going c.inside-tried.result ≡ true = sym c.going.ensures ∙ not-false _ c.if-not-going.false-raw in
    pair_room a.table.now a.end a.sizes a.who a.w a.from p.3 p.0 p.4 (sym (ap going c.inside-tried.ensures.0) ∙ on)) in
    let k = stands in search rules

pub listed_before-twice-requires : goal.listed_before-twice-requires
listed_before-twice-requires c =
    let stands : let a = c.args in (a.w.at ≡ a.from + a.who.index * 2) × (a.w.at + 2 ≤ a.end) =
    (let a = c.args in
    let p = c.requires in
    let on : going c.inside-tried.result ≡ true = sym c.going.ensures ∙ not-false _ c.if-not-going.false-raw in
    pair_room a.table.now a.end a.sizes a.who a.w a.from p.3 p.0 p.4 (sym (ap going c.inside-tried.ensures.0) ∙ on)) in
    let k = stands in search rules

pub returns : goal.returns
unfolding one_pair
returns c =
    let l = c in
    let t = l in
    let a = t.args in
    let two : width_of a.who.part ≡ 2 = ap width_of t.requires.3 in
    let e : c.passed.result ≡ one_pair a.table.now a.end a.from a.sizes a.who a.w =
    rw (
      c.passed.ensures,
      c.stops_if.ensures.0,
      c.from-3.ensures,
      l.listed_before-twice.ensures,
      tail a.table.now a.from,
      l.from-2.ensures,
      l.from.ensures,
      t.inside-tried.ensures.0,
      two,
    ) in
    (e, rw e (pair_within a.table.now a.end a.sizes a.who a.w (omega arith) a.from))
