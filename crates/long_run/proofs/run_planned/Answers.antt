-- `long_run::run_planned` meets its contract. Assumes nothing.
use mathlib.Core.Path.{sym, ◌∙◌}
use Prim.Native.Nat.{◌<◌}
use native.Mathlib.Omega.{arith}
use borrow.Author.Tests.{not-true, not-false}
use Rattle.schedule.proofs.Tables.{horizon_is, horizon_small}
use Rattle.translator.proofs.Standing.{slice_bytes, valid_long}
use Rattle.long_run.proofs.Bounds.{passages_most}
use Rattle.long_run.proofs.Answering.{reach_is, reached, reached_to, not_reached, too_short, is_done}
use Rattle.long_run.proofs.run_planned.Goals as goal

pub word_at-requires : goal.word_at-requires
word_at-requires c =
    let s = c.args in
    omega (arith, valid_long s.table.now (slice_bytes s.table.now c.type_inv.table) c.requires.0)

pub pair_beyond-pair-requires : goal.pair_beyond-pair-requires
pair_beyond-pair-requires c =
    let p = c.requires in (p.2, p.1)

pub returns-then-not-reaches : goal.returns-then-not-reaches
returns-then-not-reaches c =
    let a = c.args in
    let p = c.requires in
    let bs = a.table.now in
    let own = c.word32-own.ensures.0 ∙ c.word_at.ensures ∙ horizon_is bs c.type_inv.table p.0 in
    let S = p.2.passages in
    let is = reach_is bs a.rows.now a.count p.2 c.pair_beyond-pair.result c.word32-own.result a.horizon own c.pair_beyond-pair.ensures.0 in
    let no = sym is ∙ sym c.reaches.ensures ∙ not-true _ c.if-not-reaches.true-raw in
    rw (not_reached bs a.horizon a.choices.now a.observations.now p.0 S p.2.accepted_schedule no) (c.not_run.ensures a.observations.now)

pub passages_to-passages-requires : goal.passages_to-passages-requires
passages_to-passages-requires c =
    let a = c.args in
    let p = c.requires in
    let bs = a.table.now in
    let own = c.word32-own.ensures.0 ∙ c.word_at.ensures ∙ horizon_is bs c.type_inv.table p.0 in
    let S = p.2.passages in
    let is = reach_is bs a.rows.now a.count p.2 c.pair_beyond-pair.result c.word32-own.result a.horizon own c.pair_beyond-pair.ensures.0 in
    let r = reached bs a.rows.now a.count p.2 c.pair_beyond-pair.result c.word32-own.result a.horizon own c.pair_beyond-pair.ensures.0 (sym c.reaches.ensures ∙ not-false _ c.if-not-reaches.false-raw) in
    (p.2, c.pair_beyond-pair.ensures.0, own, omega (arith, own, horizon_small bs c.type_inv.table p.0), r.least, λ h. r.found (omega (arith, h, own)))

pub holds-requires : goal.holds-requires
holds-requires c =
    let a = c.args in
    let p = c.requires in
    let bs = a.table.now in
    let own = c.word32-own.ensures.0 ∙ c.word_at.ensures ∙ horizon_is bs c.type_inv.table p.0 in
    let S = p.2.passages in
    let is = reach_is bs a.rows.now a.count p.2 c.pair_beyond-pair.result c.word32-own.result a.horizon own c.pair_beyond-pair.ensures.0 in
    let r = reached bs a.rows.now a.count p.2 c.pair_beyond-pair.result c.word32-own.result a.horizon own c.pair_beyond-pair.ensures.0 (sym c.reaches.ensures ∙ not-false _ c.if-not-reaches.false-raw) in
    let u = reached_to p.0 r in
    omega (arith, c.passages_to-passages.ensures u.passages u.planned, passages_most bs (slice_bytes bs c.type_inv.table) p.0 a.horizon (omega (arith, c.ranges.horizon)) u.passages u.planned)

pub returns-then-not-holds : goal.returns-then-not-holds
returns-then-not-holds c =
    let a = c.args in
    let p = c.requires in
    let bs = a.table.now in
    let own = c.word32-own.ensures.0 ∙ c.word_at.ensures ∙ horizon_is bs c.type_inv.table p.0 in
    let S = p.2.passages in
    let is = reach_is bs a.rows.now a.count p.2 c.pair_beyond-pair.result c.word32-own.result a.horizon own c.pair_beyond-pair.ensures.0 in
    let yes = sym c.reaches.ensures ∙ not-false _ c.if-not-reaches.false-raw in
    let u = reached_to p.0 (reached bs a.rows.now a.count p.2 c.pair_beyond-pair.result c.word32-own.result a.horizon own c.pair_beyond-pair.ensures.0 yes) in
    let short = c.holds.ensures.1 (not-true _ c.if-not-holds.true-raw) in
    rw (too_short bs a.horizon a.choices.now a.observations.now p.0 S p.2.accepted_schedule (sym is ∙ yes) u.passages u.planned (omega (arith, short, c.passages_to-passages.ensures u.passages u.planned))) (c.not_run-then-not-holds.ensures a.observations.now)

pub run_permitted-requires : goal.run_permitted-requires
run_permitted-requires c =
    let a = c.args in
    let p = c.requires in
    let bs = a.table.now in
    let own = c.word32-own.ensures.0 ∙ c.word_at.ensures ∙ horizon_is bs c.type_inv.table p.0 in
    let S = p.2.passages in
    let is = reach_is bs a.rows.now a.count p.2 c.pair_beyond-pair.result c.word32-own.result a.horizon own c.pair_beyond-pair.ensures.0 in
    let yes = sym c.reaches.ensures ∙ not-false _ c.if-not-reaches.false-raw in
    let r = reached bs a.rows.now a.count p.2 c.pair_beyond-pair.result c.word32-own.result a.horizon own c.pair_beyond-pair.ensures.0 yes in
    (p.0, p.1, r, λ L q. omega (arith, c.holds.ensures.0 (not-false _ c.if-not-holds.false-raw), c.passages_to-passages.ensures L q))

pub returns : goal.returns
returns c =
    let a = c.args in
    let p = c.requires in
    let bs = a.table.now in
    let own = c.word32-own.ensures.0 ∙ c.word_at.ensures ∙ horizon_is bs c.type_inv.table p.0 in
    let S = p.2.passages in
    let is = reach_is bs a.rows.now a.count p.2 c.pair_beyond-pair.result c.word32-own.result a.horizon own c.pair_beyond-pair.ensures.0 in
    let yes = sym c.reaches.ensures ∙ not-false _ c.if-not-reaches.false-raw in
    let u = reached_to p.0 (reached bs a.rows.now a.count p.2 c.pair_beyond-pair.result c.word32-own.result a.horizon own c.pair_beyond-pair.ensures.0 yes) in
    rw (is_done bs a.horizon a.choices.now a.observations.now p.0 S p.2.accepted_schedule (sym is ∙ yes) u.passages u.planned (omega (arith, c.holds.ensures.0 (not-false _ c.if-not-holds.false-raw), c.passages_to-passages.ensures u.passages u.planned))) (c.run_permitted.ensures u.passages u.planned)
