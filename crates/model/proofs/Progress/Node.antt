-- What a node has yet to do falls with each statement that it finishes, in every phase. Assumes nothing.
use mathlib.Core.Path.{◌≡◌, refl, sym, ap, subst, ◌∙◌}
use mathlib.Core.Bool.{true, false}
use mathlib.Core.List.{List, [], ◌∷◌, ◌++◌}
use mathlib.Core.Option.{Option, none, some}
use Prim.Native.Nat.{ℕ, suc, ◌≤◌, ◌<◌}
use native.Mathlib.Omega.{arith}
use lib.ListN.{length, length-append}
use Rattle.model.specs.Lists.{all, is_none}
use Rattle.model.specs.Table.{TableHeader, header_of, Component, Read, size, component_of, arc_of}
use Rattle.model.specs.Limits.{ComponentIn}
use Rattle.model.specs.Window.{Entry, Pick, choice}
use Rattle.model.specs.Schedule.{Passage, own}
use Rattle.model.specs.Program.{Statement, sleep, done, send, listen, enter, take_edge, choose, update_of, ageing, edge_block, program_bytes}
use Rattle.model.specs.Network.{Observation}
use Rattle.model.specs.Machine.{Node, finish, part_bytes}
use Rattle.model.specs.Run.{taking, stand_of}
use Rattle.model.proofs.Basics.Bools.{clash, and_is}
use Rattle.model.proofs.Program.BlockLaw.{tests}
use Rattle.model.proofs.Window.Choice.{choice_picked}
use Rattle.model.proofs.Node.Choosing.{Coded, Choosing, left_tests, choosing_taking, at_take, Asleep, take_step, asleep_sleeping}
use Rattle.model.proofs.Node.Ageing.{Ageing, ageing_from, Entered, choose_step}
use Rattle.model.proofs.Node.Working.{Doing, updating, to_send, to_listen, Working}
use Rattle.model.proofs.Node.Phase.{Heading, is_ageing, is_entered, is_choosing}
use Rattle.model.proofs.Run.Tied.{Given, Held, coming, waiting, busy, leaving, resting, Tie, coded, component-in}
use Rattle.model.proofs.Progress.Weight.{weight, toil, tests_plain, plain_falls, less_falls, sleep_falls}
use Rattle.model.proofs.Progress.Block.{location_light, update_plain, ageing_plain, edge_light}

-- ## One phase

module _ {p : List ℕ} {channels : TableHeader} {C : Component} (codes : Coded p C) (fits : ComponentIn channels C) (most i : ℕ) {at : Entry} {r : Node} where
  -- between the work and the enter
  ageing_falls : Ageing C i at r → toil most (finish p r r.rest) < toil most r
  ageing_falls g = go g.young refl
    where
      go : (ys : List ℕ) → g.young ≡ ys → toil most (finish p r r.rest) < toil most r
      go [] e =
          plain_falls p most r (enter g.destination) (choose ∷ [])
          (g.rest ∙ ap (λ (l : List ℕ). ageing_from g.mask g.destination (length g.old) (length l)) e)
          refl
      go (y ∷ ys) e =
          plain_falls p most r (ageing g.mask (length g.old)) (ageing_from g.mask g.destination (suc (length g.old)) (length ys))
          (g.rest ∙ ap (λ (l : List ℕ). ageing_from g.mask g.destination (length g.old) (length l)) e)
          (ageing_plain g.mask (length g.old))

  -- at the choose
  entered_falls : Entered C i at r → toil most (finish p r r.rest) < toil most r
  entered_falls g = less_falls p most r choose [] g.rest light
    where
      q : Choosing C i at (finish p r r.rest)
      q = choose_step codes g

      light : weight (finish p r r.rest).rest < 643
      light = omega (arith, ap weight q.rest, location_light fits q.past q.left at.location q.block (left_tests q))

  -- in the location's block
  choosing_falls : Choosing C i at r → i ≤ most → (stand_of r ≡ taking → is_none r.kept ≡ false) → toil most (finish p r r.rest) < toil most r
  choosing_falls g l kept = go g.left refl
    where
      take : (o : Option Pick) → choice C at ≡ o → g.left ≡ [] → is_none o ≡ false → toil most (finish p r r.rest) < toil most r
      take none f e n = clash (sym n)
      take (some k) f e n =
          let q = take_step codes g e f in
          sleep_falls p most r take_edge [] (g.rest ∙ ap (λ (x : List Statement). x ++ (take_edge ∷ [])) e) (omega (arith, g.sleeps)) refl (asleep_sleeping q)
          (omega (arith, ap weight q.rest, edge_light fits k.edge (choice_picked C at f).present))
          (omega arith)

      go : (ss : List Statement) → g.left ≡ ss → toil most (finish p r r.rest) < toil most r
      go [] e = take (choice C at) refl e (ap is_none (sym (at_take g e)) ∙ kept (choosing_taking g e))
      go (s ∷ ss) e =
          let ok : all tests (s ∷ ss) ≡ true = subst (λ (x : List Statement). all tests x ≡ true) e (left_tests g) in
          plain_falls p most r s (ss ++ (take_edge ∷ [])) (g.rest ∙ ap (λ (x : List Statement). x ++ (take_edge ∷ [])) e)
          (tests_plain s ((and_is (tests s) (all tests ss)).0 ok).0)

  -- on the way to a sleep
  pub heading_falls : Heading C i at r → i ≤ most → (stand_of r ≡ taking → is_none r.kept ≡ false) → toil most (finish p r r.rest) < toil most r
  heading_falls (is_ageing g) l k = ageing_falls g
  heading_falls (is_entered g) l k = entered_falls g
  heading_falls (is_choosing g) l k = choosing_falls g l k

  -- at the sleep
  pub asleep_falls : {k : Pick} → Asleep C i at k r → toil most (finish p r r.rest) < toil most r
  unfolding edge_block
  asleep_falls g = plain_falls p most r sleep _ g.rest refl

  -- at work
  pub working_falls : {k : Pick} → Working C i at k r → toil most (finish p r r.rest) < toil most r
  working_falls {k} g = go g.doing
    where
      go : Doing C (arc_of C k.edge) g.results r → toil most (finish p r r.rest) < toil most r
      go (updating [] act leads rest) = plain_falls p most r done _ rest refl
      go (updating (u ∷ us) act leads rest) = plain_falls p most r (update_of u) _ rest (update_plain u)
      go (to_send c act acted rest) = plain_falls p most r (send c) _ rest refl
      go (to_listen act acted rest) = plain_falls p most r (listen (arc_of C k.edge).pairs) _ rest refl

-- ## One node

-- node c of a state that is the schedule's has less to do after its statement
pub node_falls : {t : Read} {H : ℕ} {S : List Passage} {offs : List ℕ} (G : Given t H S offs) {c τ : ℕ} {r : Node} {os : List Observation} {ahead : List Passage} → c < size t.table
    → Tie t.table H S c τ r os ahead → (stand_of r ≡ taking → is_none r.kept ≡ false)
    → toil (length (own c S)) (finish (part_bytes (program_bytes t) c) r r.rest) < toil (length (own c S)) r
node_falls {t} {H} {S} G {c} {τ} {r} {os} {ahead} h k kept = go k.held
  where
    few : k.count ≤ length (own c S)
    few = omega (arith, k.counts, ap length k.whole, length-append k.fin ahead)

    go : Held H (component_of t.table c) τ k.count r ahead k.more
        → toil (length (own c S)) (finish (part_bytes (program_bytes t) c) r r.rest) < toil (length (own c S)) r
    go (coming v vs e m l p) = heading_falls (coded G c h) (component-in G c h) (length (own c S)) k.count p few kept
    go (waiting v vs e m l j p) = asleep_falls (coded G c h) (component-in G c h) (length (own c S)) k.count p
    go (busy v vs e m l b j p) = working_falls (coded G c h) (component-in G c h) (length (own c S)) k.count p
    go (leaving at e m l p) = heading_falls (coded G c h) (component-in G c h) (length (own c S)) k.count p few kept
    go (resting at e m l j p) = asleep_falls (coded G c h) (component-in G c h) (length (own c S)) k.count p
