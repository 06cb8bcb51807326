-- `uppaal_steps::put_edge` meets its contract. Assumes nothing.
use mathlib.Core.Path.{sym, ap, ◌∙◌}
use Prim.Native.Nat.{ℕ}
use lib.ListN.{drop}
use Rattle.model.specs.Reader.{byte, pair_at}
use Rattle.parts.proofs.Skim.{tail}
use Rattle.uppaal_parts.specs.Marks.{all_told}
use Rattle.uppaal_parts.proofs.Turns.{lent_long}
use Rattle.uppaal_steps.specs.Steps.{outcome_told}
use Rattle.uppaal_steps.proofs.Stepping.{edge_internal, edge_send, edge_receive, pairs_whole}
use native.Mathlib.Omega.{arith}
use Rattle.blocks.proofs.Runs.{put_is, put_join}
use Rattle.uppaal_steps.proofs.put_edge.Goals as goal

pub put_pairs-next-requires : goal.put_pairs-next-requires
put_pairs-next-requires c =
    let a = c.args in
    let w = c.requires.0 in
    let o = a.origin in
    let h = a.edge.now in
    let s = pairs_whole o.budgets h (sym c.in-Receive.is ∙ c.action_at-action.ensures) in
    (w, c.requires.1, omega (arith, lent_long h c.items_place-items.result, c.items_place-items.ensures.0, s.0, w.ready.decodable.whole), omega (arith, s.1, w.pairs), omega (arith, s.1, w.pairs))

pub put_outcome-requires-in-Receive : goal.put_outcome-requires-in-Receive
put_outcome-requires-in-Receive c =
    let p = c.requires in
    let h = c.args.edge.now in
    let s = pairs_whole c.args.origin.budgets h (sym c.in-Receive.is ∙ c.action_at-action.ensures) in
    (p.0, p.1, omega (arith, c.put_pairs-next.ensures.1, s.1, p.0.pairs))

pub returns-in-Internal : goal.returns-in-Internal
returns-in-Internal c =
    let a = c.args in
    let o = a.origin in
    let h = a.edge.now in
    let is = sym c.in-Internal.is ∙ c.action_at-action.ensures in
    (put_is (edge_internal a.steps o.location o.clocks o.number o.budgets h is) c.put_outcome.ensures.0, omega arith)

pub returns-in-Send : goal.returns-in-Send
returns-in-Send c =
    let a = c.args in
    let o = a.origin in
    let h = a.edge.now in
    let is = sym c.in-Send.is ∙ c.action_at-action.ensures in
    (put_is (edge_send a.steps o.location o.clocks o.number o.budgets h _ (c.requires.0.sent _ is) is) c.put_outcome-in-Send.ensures.0, omega arith)

pub returns-in-Receive : goal.returns-in-Receive
returns-in-Receive c =
    let a = c.args in
    let w = c.requires.0 in
    let o = a.origin in
    let h = a.edge.now in
    let is = sym c.in-Receive.is ∙ c.action_at-action.ensures in
    let e = ap (all_told (λ q. outcome_told a.steps o h (pair_at q).channel) 2 (byte h 6)) (tail h c.items_place-items.result ∙ ap (λ (n : ℕ). drop n h) c.items_place-items.ensures.0) in
    (put_is (edge_receive a.steps o.location o.clocks o.number o.budgets h is w.heard) (put_join (put_is e c.put_pairs-next.ensures.0) c.put_outcome-in-Receive.ensures.0), omega (arith, c.put_pairs-next.ensures.1, c.put_outcome-in-Receive.ensures.1, (pairs_whole o.budgets h is).1, w.pairs))
