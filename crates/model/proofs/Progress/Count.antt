-- How many choices a run carries out: at most one for each tick below the horizon, 658 for each passage and 1,299 for each node. Assumes nothing.
use mathlib.Core.Path.{◌≡◌, refl, ap}
use mathlib.Core.List.{List, []}
use Prim.Native.Nat.{ℕ, zero, suc, ◌+◌, ◌*◌, ◌≤◌, ◌<◌}
use native.Mathlib.Omega.{arith}
use lib.Dec.{ltb}
use lib.ListN.{length}
use Rattle.model.specs.Table.{Read, size, component_of, location_of}
use Rattle.model.specs.Schedule.{Passage, own}
use Rattle.model.specs.Program.{location_block}
use Rattle.model.specs.Machine.{Node}
use Rattle.model.specs.Run.{setting_at, node_of, start_run, run}
use Rattle.model.proofs.Program.BlockLaw.{trials_test}
use Rattle.model.proofs.Program.Decode.{start_code}
use Rattle.model.proofs.Node.Choosing.{trials_at}
use Rattle.model.proofs.Run.Tied.{Given, component-in}
use Rattle.model.proofs.Run.Start.{start-node, tied_start}
use Rattle.model.proofs.Run.Tick.{Live}
use Rattle.model.proofs.Run.Count.{only_few}
use Rattle.model.proofs.Run.Few.{under, one_on, none_under}
use Rattle.model.proofs.Progress.Weight.{weight}
use Rattle.model.proofs.Progress.Block.{location_light}
use Rattle.model.proofs.Progress.Move.{total, total_least, toil_at, toil_of}
use Rattle.model.proofs.Progress.Run.{uses}

-- ## Sums

-- the passages of the components below n, counted one component after the other
own_counted : (n : ℕ) (S : List Passage) → total n (λ c. length (own c S)) ≡ length (under (λ (v : Passage). v.component) n S)
own_counted zero S = omega (arith, none_under (λ (v : Passage). v.component) S)
own_counted (suc n) S = omega (arith, own_counted n S, one_on (λ (v : Passage). v.component) n S)

-- they are no more than all
own_few : (n : ℕ) (S : List Passage) → total n (λ c. length (own c S)) ≤ length S
own_few n S = omega (arith, own_counted n S, only_few (λ (v : Passage). ltb v.component n) S)

-- so much for each of each, and so much for each besides
total_times : (n : ℕ) (f : ℕ → ℕ) → total n (λ c. f c * 658 + 1299) ≡ total n f * 658 + n * 1299
total_times zero f = omega arith
total_times (suc n) f = omega (arith, total_times n f)

-- ## The start

module _ {t : Read} {H : ℕ} {S : List Passage} {offs : List ℕ} (G : Given t H S offs) where
  -- the start lies before the horizon
  pub start_live : Live G (start_run (setting_at t H S offs))
  start_live = record { tied = tied_start G; below = omega (arith, G.least) }

  -- a node starts in the block of its initial location
  start_light : (c : ℕ) → c < size t.table → weight (node_of (start_run (setting_at t H S offs)) c).rest ≤ 641
  unfolding location_block
  start_light c h =
      let C = component_of t.table c in
      omega (
        arith,
        ap (λ (r : Node). weight r.rest) (start-node G c h),
        ap weight (start_code t G.limits c h),
        location_light (component-in G c h) [] (trials_at C C.initial) C.initial refl (trials_test (location_of C C.initial) C.initial 0 C.arcs),
      )

  -- what all nodes have to do
  pub start_toil : toil_of t S (start_run (setting_at t H S offs)) ≤ length S * 658 + size t.table * 1299
  start_toil =
      let n = size t.table in
      let each = total_least n (λ c. length (own c S) * 658 + 1299) (toil_at S (start_run (setting_at t H S offs))) (λ c h. omega (arith, start_light c h)) in
      omega (arith, each, total_times n (λ c. length (own c S)), own_few n S)

  -- a run carries out no more choices than that and the ticks
  pub carried_few : (cs : List ℕ) → (run (setting_at t H S offs) cs).state.used ≤ H + (length S * 658 + size t.table * 1299)
  unfolding run
  carried_few cs = omega (arith, uses G cs start_live, start_toil)
