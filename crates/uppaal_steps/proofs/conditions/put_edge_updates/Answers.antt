-- `uppaal_steps::conditions::put_edge_updates` meets its contract. Assumes nothing.
use mathlib.Core.Path.{ap, ◌∙◌}
use mathlib.Core.Bool.{true}
use Prim.Native.Nat.{ℕ}
use lib.ListN.{drop}
use Rattle.model.specs.Reader.{byte}
use Rattle.parts.proofs.Skim.{tail}
use Rattle.uppaal_parts.specs.Marks.{updates_text}
use Rattle.uppaal_parts.proofs.Turns.{lent_long}
use Rattle.uppaal_steps.proofs.Guarding.{updates_long, updates_there, updates_none}
use native.Mathlib.Omega.{arith}
use Rattle.blocks.proofs.Runs.{put_is, put_none}
use Rattle.uppaal_steps.proofs.conditions.put_edge_updates.Goals as goal

pub returns-then-edge-ne0 : goal.returns-then-edge-ne0
returns-then-edge-ne0 c =
    let a = c.args in
    let u = updates_none a.budgets a.edge.now c.if-edge-ne0.true in
    (put_is u.0 (put_none a.out.now a.at), u.1, omega arith)

pub put_updates-requires : goal.put_updates-requires
put_updates-requires c =
    let a = c.args in
    let w = c.requires.0 in
    (omega (arith, lent_long a.edge.now c.items_place-items.result, c.items_place-items.ensures.0, updates_long a.budgets a.edge.now c.if-edge-ne0.false, w.ready.decodable.whole), omega (arith, w.updates c.if-edge-ne0.false))

pub returns : goal.returns
returns c =
    let a = c.args in
    let h = a.edge.now in
    let u = updates_there a.budgets h c.if-edge-ne0.false in
    let e = ap (updates_text true (byte h 6)) (tail h c.items_place-items.result ∙ ap (λ (n : ℕ). drop n h) c.items_place-items.ensures.0) in
    (put_is (e ∙ u.0) c.put_updates.ensures.0, c.put_updates.ensures.1 ∙ u.1, omega (arith, c.put_updates.ensures.2, c.requires.0.updates c.if-edge-ne0.false))
