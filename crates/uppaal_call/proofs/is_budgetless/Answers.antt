-- `uppaal_call::is_budgetless` meets its contract. Assumes nothing.
use mathlib.Core.Path.{◌≡◌, ap, sym, subst, ◌∙◌}
use mathlib.Core.Bool.{true}
use Prim.Native.Nat.{ℕ, ◌+◌, ◌-◌, ◌*◌, ◌<◌}
use lib.ListN.{drop}
use Rattle.model.specs.Reader.{byte}
use Rattle.blocks.specs.FrontEdges.{ArcsFit}
use Rattle.blocks.proofs.Arcs.{edge-head, edge_on, edges_on}
use Rattle.translator.specs.Front.{arcs_place}
use Rattle.uppaal_call.proofs.Working.{resting, resting_all, resting_done, budget_there, resting_not, resting_on}
use native.Mathlib.Omega.{arith}
use Rattle.uppaal_call.proofs.is_budgetless.Goals as goal

pub loop-init : goal.loop-init
loop-init c =
    let p = c.args.component.now in
    let first = 7 + c.from-locations.result * 3 in
    let e : first ≡ arcs_place p = omega arith in
    let all : byte p 6 - 0 ≡ byte p 6 = omega arith in (
      omega (arith, e, c.requires.locations),
      subst (λ (n : ℕ). ArcsFit true n (drop first p)) (sym all) (subst (λ (i : ℕ). ArcsFit true (byte p 6) (drop i p)) (sym e) c.requires.arcs),
      ap (λ (n : ℕ). resting n (drop first p)) all ∙ resting_all p first e,
    )

pub word_at-requires : goal.word_at-requires
word_at-requires c =
    let p = c.args.component.now in
    let l = c.loop in
    omega (arith, budget_there p l.place (byte p 6 - l.counter) (omega arith) l.invariant.0 l.invariant.1)

pub returns-then-word_at-ne0 : goal.returns-then-word_at-ne0
returns-then-word_at-ne0 c =
    let p = c.args.component.now in
    let l = c.loop in
    sym (resting_not p l.place (byte p 6 - l.counter) (omega arith) c.word_at.result c.word_at.ensures c.if-word_at-ne0.true) ∙ l.invariant.2

pub arc_length-place-requires : goal.arc_length-place-requires
arc_length-place-requires c =
    let p = c.args.component.now in
    let l = c.loop in
    edge-head true p l.place (byte p 6 - l.counter) (omega arith) l.invariant.0 l.invariant.1

pub loop-preserved : goal.loop-preserved
loop-preserved c =
    let p = c.args.component.now in
    let l = c.loop in
    let k = byte p 6 - l.counter in
    let q : 0 < k = omega arith in
    let long = c.arc_length-place.result in
    let is = c.arc_length-place.ensures in
    let one : byte p 6 - l.counter - 1 ≡ byte p 6 - (l.counter + 1) = omega arith in
    let rest : resting k (drop l.place p) ≡ resting (byte p 6 - (l.counter + 1)) (drop (l.place + long) p) =
    resting_on p l.place k q c.word_at.result c.word_at.ensures c.if-word_at-ne0.false long is ∙ ap (λ (n : ℕ). resting n (drop (l.place + long) p)) one in
    (edge_on true p l.place k q l.invariant.0 l.invariant.1 long is, rw one at (edges_on true p l.place k q l.invariant.0 l.invariant.1 long is), sym rest ∙ l.invariant.2)

pub returns : goal.returns
returns c =
    let p = c.args.component.now in
    sym (resting_done (byte p 6 - c.loop.counter) (drop c.loop.place p) (omega arith)) ∙ c.loop.invariant.2
