-- `parts::arc` meets its contract. Assumes nothing.
use mathlib.Core.Path.{◌≡◌, sym, ap, ◌∙◌}
use native.Mathlib.Omega.{arith}
use borrow.Author.Tests.{not-true, not-false}
use lib.ListN.{drop}
use Rattle.model.specs.Reader.{edge_fine}
use Rattle.parts.proofs.Skim.{tail}
use Rattle.parts.proofs.Sequence.{moved, further, arc_short, arc_bad, arc_good}
use Rattle.parts.proofs.arc.Goals as goal

pub returns-then-component-at-lt-EDGE_HEADER : goal.returns-then-component-at-lt-EDGE_HEADER
returns-then-component-at-lt-EDGE_HEADER c = let a = c.args in record { says = arc_short a.sizes a.component.now a.at c.if-component-at-lt-EDGE_HEADER.true; within = tt }

pub returns-then-not-edge_fine : goal.returns-then-not-edge_fine
returns-then-not-edge_fine c =
    let a = c.args in
    let fine : c.edge_fine.result ≡ edge_fine a.sizes (drop a.at a.component.now) =
    c.edge_fine.ensures ∙ ap (edge_fine a.sizes) (tail a.component.now a.at) in
    record { says = arc_bad a.sizes a.component.now a.at (omega arith) (sym fine ∙ not-true _ c.if-not-edge_fine.true-raw); within = tt }

pub returns : goal.returns
returns c =
    let a = c.args in
    let fine : c.edge_fine.result ≡ edge_fine a.sizes (drop a.at a.component.now) =
    c.edge_fine.ensures ∙ ap (edge_fine a.sizes) (tail a.component.now a.at) in
    further c.arc_body.result (omega arith)
    (moved (arc_good a.sizes a.component.now a.at (omega arith) (sym fine ∙ not-false _ c.if-not-edge_fine.false-raw)) c.arc_body.ensures)
