-- The start: the lanes of a schedule, each at its first passage, are where the network starts. Assumes nothing.
use mathlib.Core.Path.{◌≡◌, refl, sym, ap, subst, ◌∙◌}
use mathlib.Core.Bool.{false}
use mathlib.Core.List.{List, [], ◌∷◌, map}
use Prim.Native.Nat.{ℕ, ◌+◌, ◌<◌}
use native.Mathlib.Omega.{arith}
use lib.ListN.{length, get_or, length-map, get_or-map}
use lib.Seq.{ext_get_or}
use Rattle.model.specs.Lists.{below, empty}
use Rattle.model.specs.Table.{Table, size, component_of, no_component}
use Rattle.model.specs.Window.{Entry}
use Rattle.model.specs.Schedule.{Passage, own}
use Rattle.model.specs.Chains.{IsSchedule}
use Rattle.model.specs.Network.{State, PathPassage, no_path_passage, start, start_passage, enters_at}
use Rattle.model.proofs.Basics.Bools.{clash}
use Rattle.model.proofs.Basics.Sums.{length_from, at_from}
use Rattle.model.proofs.Network.Links.{Linked, schedule_linked}
use Rattle.model.proofs.Network.Ways.{no_way, same_way}
use Rattle.model.proofs.Network.Lanes.{Lane, lane, no_lane, lane_at, place, state_of, ahead, Settled, place_at}
use Rattle.model.proofs.Network.Reached.{Stands, Reached}

-- a component at the first of its passages
abbrev pub lane_from : List Passage → Lane
lane_from [] = no_lane
lane_from (v ∷ vs) = lane v false vs

-- all of them
abbrev pub start_lanes : List Passage → ℕ → List Lane
start_lanes S n = map (λ c. lane_from (own c S)) (below n)

module _ (limit : ℕ) (T : Table) (H : ℕ) (S : List Passage) (sched : IsSchedule limit T H S) where
  -- the lanes at the start
  abbrev L : List Lane
  L = start_lanes S (size T)

  -- the lane of component c at the start
  start_lane : (c : ℕ) (h : c < size T) (k : Linked T H S c) → lane_at L c ≡ lane k.head false k.tail
  start_lane c h k =
      let z : 0 + c ≡ c = omega arith in
      at_from (λ c. lane_from (own c S)) no_lane 0 (size T) c h ∙ ap (λ (i : ℕ). lane_from (own i S)) z ∙ ap lane_from k.is

  -- all its passages are ahead
  pub start_ahead : (c : ℕ) → c < size T → ahead (lane_at L c) ≡ own c S
  start_ahead c h = let k = schedule_linked limit T H S sched c h in ap ahead (start_lane c h k) ∙ sym k.is

  -- one for each component
  start_count : length L ≡ size T
  start_count = length-map (below (size T)) (λ c. lane_from (own c S)) ∙ length_from 0 (size T)

  -- where the network starts
  pub start_state : start T ≡ state_of 0 L
  start_state = ap (λ (ps : List PathPassage). let s : State = record { tick = 0; present = ps } in s)
      (ext_get_or no_path_passage (map start_passage T.components) (map place L) sizes same)
    where
      sizes : length (map start_passage T.components) ≡ length (map place L)
      sizes = length-map T.components start_passage ∙ sym (length-map L place ∙ start_count)

      same : (c : ℕ) → c < length (map start_passage T.components) → get_or (map start_passage T.components) c no_path_passage ≡ get_or (map place L) c no_path_passage
      same c h =
          let i : c < size T = omega (arith, length-map T.components start_passage) in
          let k = schedule_linked limit T H S sched c i in
          let e : place (lane_at L c) ≡ start_passage (component_of T c) = ap place (start_lane c i k) ∙ ap enters_at k.starts in
          get_or-map start_passage T.components c no_component ∙ sym (place_at 0 L c ∙ e)

  -- from the start no step leads to the first passage of each component
  pub reached_start : Reached T H S [] 0 L []
  reached_start =
      record {
        count = start_count;
        past = λ c. [];
        way = same_way T (no_way T (start T)) refl start_state (λ c. refl) refl;
        stands = λ c h.
            let k = schedule_linked limit T H S sched c h in
            subst (λ (K : Lane). Stands H (component_of T c) (own c S) 0 [] K) (sym (start_lane c h k)) (stands c k);
        settled = λ c h.
            subst (λ (K : Lane). Settled H 0 K) (sym (start_lane c h (schedule_linked limit T H S sched c h))) (λ e. clash e);
      }
    where
      stands : (c : ℕ) (k : Linked T H S c) → Stands H (component_of T c) (own c S) 0 [] (lane k.head false k.tail)
      stands c k =
          let t : k.head.entry.tick ≡ 0 = ap (λ (x : Entry). x.tick) k.starts in
          record { whole = sym k.is; over = empty; good = record { linked = k.linked; since = omega arith; before = omega arith; begun = λ e. clash e } }
