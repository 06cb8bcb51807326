-- `uppaal_steps::conditions::put_edge_ranges` meets its contract. Assumes nothing.
use mathlib.Core.Path.{ap, ◌∙◌}
use mathlib.Core.List.{List}
use Prim.Native.Nat.{ℕ}
use lib.ListN.{drop}
use Rattle.model.specs.Reader.{byte}
use Rattle.parts.proofs.Skim.{tail}
use Rattle.uppaal_parts.specs.Marks.{ranges_text}
use Rattle.uppaal_parts.proofs.Turns.{lent_long}
use Rattle.uppaal_steps.proofs.Guarding.{updates_long, ranges_there, ranges_none}
use native.Mathlib.Omega.{arith}
use Rattle.blocks.proofs.Runs.{put_is, put_none}
use Rattle.uppaal_steps.proofs.conditions.put_edge_ranges.Goals as goal

pub returns-then-edge-ne0 : goal.returns-then-edge-ne0
returns-then-edge-ne0 c =
    let a = c.args in
    (put_is (ranges_none a.budgets a.edge.now c.if-edge-ne0.true) (put_none a.out.now a.at), omega arith)

pub put_ranges-requires : goal.put_ranges-requires
put_ranges-requires c =
    let a = c.args in
    let w = c.requires.0 in
    (omega (arith, lent_long a.edge.now c.items_place-items.result, c.items_place-items.ensures.0, updates_long a.budgets a.edge.now c.if-edge-ne0.false, w.ready.decodable.whole), w.updates c.if-edge-ne0.false, omega arith)

pub returns : goal.returns
returns c =
    let a = c.args in
    let h = a.edge.now in
    let e = ap (λ (l : List ℕ). ranges_text l 0 (byte h 6)) (tail h c.items_place-items.result ∙ ap (λ (n : ℕ). drop n h) c.items_place-items.ensures.0) in
    (put_is (e ∙ ranges_there a.budgets h c.if-edge-ne0.false) c.put_ranges.ensures.0, omega arith)
