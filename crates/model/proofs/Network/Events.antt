-- The event lemmas: from lanes that are good, a tick or a finished work and the steps out that it brings are steps of the network, to the
-- lanes after it; with the passages left on the way and the works finished. Assumes nothing.
use mathlib.Core.Path.{◌≡◌, refl, sym, ap, subst, ◌∙◌}
use mathlib.Core.Bool.{Bool, true, false}
use mathlib.Core.List.{List, [], ◌∷◌, ◌++◌, map, append-nil}
use mathlib.Core.Option.{Option, some}
use Prim.Native.Nat.{ℕ, suc, ◌≤◌, ◌<◌}
use native.Mathlib.Omega.{arith}
use borrow.Author.Tests.{eqb-true, eqb-false}
use lib.Dec.{eqb}
use lib.ListN.{length, length-set}
use lib.Seq.{get_or-set_same, get_or-set_other}
use Rattle.model.specs.Table.{Component, Table, size, component_of}
use Rattle.model.specs.Network.{Label, tick, step_in, together, step, left_by, Work, one, two, channel_number, work_by}
use Rattle.model.proofs.Network.Ways.{Way, one_way, then_way, same_way}
use Rattle.model.proofs.Network.Lanes.{Lane, no_lane, lane_at, state_of, waited, finished, finish, leaving, settle_all, outs, Good, Settled}
use Rattle.model.proofs.Network.Outs.{outs_way}
use Rattle.model.proofs.Network.Steps.{tick_step, Alone, in_step, Joins, joint_step}

-- ## What happens to a lane

-- a good lane that does not end now is good at the next tick
pub good_later : {H τ : ℕ} {C : Component} {K : Lane} → Good H C τ K → τ < K.passage.end → Good H C (suc τ) K
good_later g h = record { linked = g.linked; since = omega (arith, g.since); before = h; begun = λ d. omega (arith, g.begun d) }

-- a good lane whose work is finished is good, if it was ready
pub good_finished : {H τ : ℕ} {C : Component} {K : Lane} → Good H C τ K → K.passage.ready ≤ τ → Good H C τ (finished K)
good_finished g h = record { linked = g.linked; since = g.since; before = g.before; begun = λ d. h }

-- below the horizon a settled lane ends later if it does so with its work unfinished
pub ends-later : {H τ : ℕ} (K : Lane) → Settled H τ K → τ < H → (K.done ≡ false → τ < K.passage.end) → τ < K.passage.end
ends-later {H} {τ} K w below h = go K.done refl
  where
    go : (t : Bool) → K.done ≡ t → τ < K.passage.end
    go true e = w e below
    go false e = h e

-- the lane of the component whose work is finished
pub finish_at : (L : List Lane) (c : ℕ) → c < length L → lane_at (finish L c) c ≡ finished (lane_at L c)
finish_at L c h = get_or-set_same L c (finished (lane_at L c)) no_lane h

-- the lanes of the others
pub finish_other : (L : List Lane) (c d : ℕ) → (d ≡ c → ⊥) → lane_at (finish L c) d ≡ lane_at L d
finish_other L c d h = get_or-set_other L c d (finished (lane_at L c)) no_lane h

-- as many lanes as before
pub finish_count : (L : List Lane) (c : ℕ) → length (finish L c) ≡ length L
finish_count L c = length-set L c (finished (lane_at L c))

-- what holds of each lane holds after a work is finished, if it does so of the one whose work it is
pub finish_each : (P : ℕ → Lane → Type 0) (n : ℕ) (L : List Lane) (c : ℕ) → c < length L → (P c (lane_at L c) → P c (finished (lane_at L c)))
    → ((d : ℕ) → d < n → P d (lane_at L d)) → (d : ℕ) → d < n → P d (lane_at (finish L c) d)
finish_each P n L c there this all d h = go (eqb d c) refl
  where
    go : (t : Bool) → eqb d c ≡ t → P d (lane_at (finish L c) d)
    go true e =
        let i : d ≡ c = eqb-true d c e in
        let s : P c (lane_at L c) = subst (λ (j : ℕ). P j (lane_at L j)) i (all d h) in
        subst (λ (j : ℕ). P j (lane_at (finish L c) j)) (sym i) (subst (P c) (sym (finish_at L c there)) (this s))
    go false e = subst (P d) (sym (finish_other L c d (eqb-false d c e))) (all d h)

-- ## The event lemmas

module _ (T : Table) (H : ℕ) where
  -- each lane is good
  abbrev pub AllGood : ℕ → List Lane → Type 0
  AllGood τ L = (c : ℕ) → c < size T → Good H (component_of T c) τ (lane_at L c)

  -- the steps ls lead from lanes L at τ, by an event to lanes M at τ' and by the steps out that are due then; ws are the works finished
  abbrev pub Event : ℕ → List Lane → List Label → ℕ → List Lane → List Work → Type 0
  Event τ L ls τ' M ws = Way T (state_of τ L) ls (state_of τ' (settle_all τ' M)) (λ c. map waited (leaving τ' (lane_at M c))) ws

  -- one step that leaves no passage, then the steps out
  event : (τ τ' : ℕ) (L M : List Lane) (l : Label) → length M ≡ size T → AllGood τ' M → step T (state_of τ L) l ≡ some (state_of τ' M)
      → ((c : ℕ) → left_by (state_of τ L) c l ≡ []) → Event τ L (l ∷ outs τ' 0 M) τ' M (work_by T (state_of τ L) l)
  event τ τ' L M l count gs e none =
      same_way T (then_way T (one_way T (state_of τ L) l (state_of τ' M) e) (outs_way T H τ' M count gs)) refl refl
      (λ c. ap (λ (x : List _). x ++ map waited (leaving τ' (lane_at M c))) (none c))
      (append-nil (work_by T (state_of τ L) l))

  module _ (τ : ℕ) (L : List Lane) (count : length L ≡ size T) (gs : AllGood τ L) where
    -- a tick, where every present passage ends later
    pub tick_event : ((c : ℕ) → c < size T → τ < (lane_at L c).passage.end) → Event τ L (tick ∷ outs (suc τ) 0 L) (suc τ) L []
    tick_event hs = event τ (suc τ) L L tick count (λ c h. good_later (gs c h) (hs c h)) (tick_step T H τ L count gs hs) (λ c. refl)

    -- component c finishes its work alone, in its window
    pub alone_event : (c : ℕ) → c < size T → (lane_at L c).done ≡ false → (lane_at L c).passage.ready ≤ τ → Alone (component_of T c) τ (lane_at L c).passage
        → Event τ L (step_in c (lane_at L c).passage.edge ∷ outs τ 0 (finish L c)) τ (finish L c) (one c τ ∷ [])
    alone_event c there undone ready a =
        event τ τ L (finish L c) (step_in c (lane_at L c).passage.edge) (finish_count L c ∙ count)
        (finish_each (λ d K. Good H (component_of T d) τ K) (size T) L c (omega (arith, count)) (λ g. good_finished g ready) gs)
        (in_step T H τ L c there (gs c there) undone ready a)
        (λ d. refl)

    -- a send of component a and a receive of component b finish together, on channel k
    pub together_event : (a b k : ℕ) → Joins T τ L a b k
        → Event τ L (together a (lane_at L a).passage.edge b (lane_at L b).passage.edge ∷ outs τ 0 (finish (finish L a) b)) τ (finish (finish L a) b) (two a b k τ ∷ [])
    together_event a b k j =
        subst (λ (x : Option ℕ). Event τ L ls τ (finish (finish L a) b) (two a b (channel_number x) τ ∷ [])) j.channel
        (event τ τ L (finish (finish L a) b) (together a (lane_at L a).passage.edge b (lane_at L b).passage.edge) (finish_count (finish L a) b ∙ finish_count L a ∙ count)
        (finish_each (λ d K. Good H (component_of T d) τ K) (size T) (finish L a) b (omega (arith, j.receiver, finish_count L a, count)) (λ g. good_finished g ready)
        (finish_each (λ d K. Good H (component_of T d) τ K) (size T) L a (omega (arith, j.sender, count)) (λ g. good_finished g j.send_ready) gs))
        (joint_step T H τ L a b k j (gs a j.sender) (gs b j.receiver))
        (λ d. refl))
      where
        ls : List Label
        ls = together a (lane_at L a).passage.edge b (lane_at L b).passage.edge ∷ outs τ 0 (finish (finish L a) b)

        ready : (lane_at (finish L a) b).passage.ready ≤ τ
        ready = subst (λ (K : Lane). K.passage.ready ≤ τ) (sym (finish_other L a b (λ e. j.differ (sym e)))) j.receive_ready
