-- Where a path that passes as the schedule says has led: the relation between a path and the lanes, and that ticks and finished works keep
-- it. Assumes nothing.
use mathlib.Core.Path.{◌≡◌, refl, sym, ap, subst, ◌∙◌}
use mathlib.Core.Bool.{false}
use mathlib.Core.List.{List, [], ◌∷◌, ◌++◌, map, append-nil}
use Prim.Native.Nat.{ℕ, suc, ◌≤◌, ◌<◌}
use native.Mathlib.Omega.{arith}
use lib.ListN.{length, length-map}
use lib.Seq.{append_snoc}
use Rattle.model.specs.Lists.{All, empty, more}
use Rattle.model.specs.Table.{Component, Table, size, component_of}
use Rattle.model.specs.Schedule.{Passage, own}
use Rattle.model.specs.Network.{Label, tick, step_in, together, start, Work, one, two}
use Rattle.model.proofs.Basics.Words.{all_join}
use Rattle.model.proofs.Schedule.Own.{all_then}
use Rattle.model.proofs.Network.Passage.{Fits}
use Rattle.model.proofs.Network.Links.{first_fits}
use Rattle.model.proofs.Network.Ways.{Way, then_way, same_way}
use Rattle.model.proofs.Network.Lanes.{Lane, lane_at, state_of, waited, finished, finish, settle, leaving, settle_all, outs, Turn, stays, moves, turn, Good, Settled, settle_good, settled_at}
use Rattle.model.proofs.Network.Steps.{Alone, Joins}
use Rattle.model.proofs.Network.Events.{good_later, good_finished, ends-later, finish_other, finish_count, finish_each, Event, tick_event, alone_event, together_event}

-- ## The relation

-- component C in lane K at tick τ: vs are its passages in the schedule, past those that it has left
pub record Stands (H : ℕ) (C : Component) (vs : List Passage) (τ : ℕ) (past : List Passage) (K : Lane) : Type 0 where
  pub whole : past ++ (K.passage ∷ K.next) ≡ vs
  pub over : All (λ v. Fits C v × (v.end ≤ τ)) past
  pub good : Good H C τ K

-- the path p leads from the start to the lanes L at tick τ; each component has left its first passages of the schedule, stepped in as the
-- schedule says; ws are the works finished
pub record Reached (T : Table) (H : ℕ) (S : List Passage) (p : List Label) (τ : ℕ) (L : List Lane) (ws : List Work) : Type 0 where
  pub count : length L ≡ size T
  pub past : ℕ → List Passage
  pub way : Way T (start T) p (state_of τ L) (λ c. map waited (past c)) ws
  pub stands : (c : ℕ) → c < size T → Stands H (component_of T c) (own c S) τ (past c) (lane_at L c)
  pub settled : (c : ℕ) → c < size T → Settled H τ (lane_at L c)

-- ## Lists

-- the image of two lists, one after the other
pub map_append : {A B : Type 0} (f : A → B) (xs ys : List A) → map f (xs ++ ys) ≡ map f xs ++ map f ys
map_append f [] ys = refl
map_append f (x ∷ xs) ys = ap (λ (l : List _). f x ∷ l) (map_append f xs ys)

-- ## Those step out that are to

-- one component
settle_stands : {H : ℕ} {C : Component} {vs : List Passage} {τ : ℕ} {past : List Passage} (K : Lane) → Stands H C vs τ past K
    → Stands H C vs τ (past ++ leaving τ K) (settle τ K)
settle_stands {H} {C} {vs} {τ} {past} K s = go (turn τ K)
  where
    good : Good H C τ (settle τ K)
    good = (settle_good K s.good).0

    go : Turn τ K → Stands H C vs τ (past ++ leaving τ K) (settle τ K)
    go (stays e l o h) =
        let x : past ++ leaving τ K ≡ past = ap (λ (y : List Passage). past ++ y) l ∙ append-nil past in
        record {
          whole = ap (λ (M : Lane). (past ++ leaving τ K) ++ (M.passage ∷ M.next)) e ∙ ap (λ (y : List Passage). y ++ (K.passage ∷ K.next)) x ∙ s.whole;
          over = subst (λ (y : List Passage). All (λ v. Fits C v × (v.end ≤ τ)) y) (sym x) s.over;
          good = good;
        }
    go (moves v ns d e n i l o) =
        record {
          whole =
              ap (λ (M : Lane). (past ++ leaving τ K) ++ (M.passage ∷ M.next)) i
              ∙ ap (λ (y : List Passage). (past ++ y) ++ (v ∷ ns)) l
              ∙ append_snoc past K.passage (v ∷ ns)
              ∙ ap (λ (y : List Passage). past ++ (K.passage ∷ y)) (sym n)
              ∙ s.whole;
          over = all_join s.over (subst (λ (y : List Passage). All (λ v. Fits C v × (v.end ≤ τ)) y) (sym l) (more (first_fits s.good.linked, omega arith) empty));
          good = good;
        }

-- ## The events keep it

module _ (T : Table) (H : ℕ) (S : List Passage) where
  -- the present passage of component d, at tick τ, with the passages left so far
  abbrev StandsAt : (ℕ → List Passage) → ℕ → ℕ → Lane → Type 0
  StandsAt past τ d K = Stands H (component_of T d) (own d S) τ (past d) K

  -- after an event to lanes that stand
  further : {p ls : List Label} {τ τ' : ℕ} {L : List Lane} (M : List Lane) {ws vs : List Work} (r : Reached T H S p τ L ws) → Event T H τ L ls τ' M vs
      → length M ≡ size T → ((c : ℕ) → c < size T → StandsAt r.past τ' c (lane_at M c)) → Reached T H S (p ++ ls) τ' (settle_all τ' M) (ws ++ vs)
  further {τ' = τ'} M r e count stands =
      record {
        count = length-map M (settle τ') ∙ count;
        past = λ c. r.past c ++ leaving τ' (lane_at M c);
        way = same_way T (then_way T r.way e) refl refl (λ c. sym (map_append waited (r.past c) (leaving τ' (lane_at M c)))) refl;
        stands = λ c h.
            subst (λ (K : Lane). Stands H (component_of T c) (own c S) τ' (r.past c ++ leaving τ' (lane_at M c)) K) (sym (settled_at τ' M c))
            (settle_stands (lane_at M c) (stands c h));
        settled = λ c h. subst (λ (K : Lane). Settled H τ' K) (sym (settled_at τ' M c)) (settle_good (lane_at M c) (stands c h).good).1;
      }

  module _ {p : List Label} {τ : ℕ} {L : List Lane} {ws : List Work} (r : Reached T H S p τ L ws) where
    -- the lanes are good
    goods : (c : ℕ) → c < size T → Good H (component_of T c) τ (lane_at L c)
    goods c h = (r.stands c h).good

    -- a component whose work is finished stands as before, if it was ready
    stands_finished : (past : ℕ → List Passage) (c : ℕ) (K : Lane) → K.passage.ready ≤ τ → StandsAt past τ c K → StandsAt past τ c (finished K)
    stands_finished past c K ready s = record { whole = s.whole; over = s.over; good = good_finished s.good ready }

    -- Below the horizon, where no unfinished work ends now, a tick passes, and those step out that reach their end.
    pub reached_tick : τ < H → ((c : ℕ) → c < size T → (lane_at L c).done ≡ false → τ < (lane_at L c).passage.end)
        → Reached T H S (p ++ (tick ∷ outs (suc τ) 0 L)) (suc τ) (settle_all (suc τ) L) ws
    reached_tick below unfinished =
        subst (λ (vs : List Work). Reached T H S (p ++ (tick ∷ outs (suc τ) 0 L)) (suc τ) (settle_all (suc τ) L) vs) (append-nil ws)
        (further L r (tick_event T H τ L r.count goods later) r.count (λ c h.
        let s = r.stands c h in
        record { whole = s.whole; over = all_then (λ v k. (k.0, omega (arith, k.1))) s.over; good = good_later s.good (later c h) }))
      where
        later : (c : ℕ) → c < size T → τ < (lane_at L c).passage.end
        later c h = ends-later (lane_at L c) (r.settled c h) below (unfinished c h)

    -- A component finishes its work alone, in its window; then it steps out if its end is now.
    pub reached_alone : (c : ℕ) → c < size T → (lane_at L c).done ≡ false → (lane_at L c).passage.ready ≤ τ → Alone (component_of T c) τ (lane_at L c).passage
        → Reached T H S (p ++ (step_in c (lane_at L c).passage.edge ∷ outs τ 0 (finish L c))) τ (settle_all τ (finish L c)) (ws ++ (one c τ ∷ []))
    reached_alone c there undone ready a =
        further (finish L c) r (alone_event T H τ L r.count goods c there undone ready a) (finish_count L c ∙ r.count)
        (finish_each (StandsAt r.past τ) (size T) L c (omega (arith, r.count)) (stands_finished r.past c (lane_at L c) ready) r.stands)

    -- A send and a receive that takes it finish together; then those step out whose end is now.
    pub reached_together : (a b k : ℕ) → Joins T τ L a b k
        → Reached T H S (p ++ (together a (lane_at L a).passage.edge b (lane_at L b).passage.edge ∷ outs τ 0 (finish (finish L a) b))) τ
        (settle_all τ (finish (finish L a) b))
        (ws ++ (two a b k τ ∷ []))
    reached_together a b k j =
        further (finish (finish L a) b) r (together_event T H τ L r.count goods a b k j) (finish_count (finish L a) b ∙ finish_count L a ∙ r.count)
        (finish_each (StandsAt r.past τ) (size T) (finish L a) b (omega (arith, j.receiver, finish_count L a, r.count)) (stands_finished r.past b (lane_at (finish L a) b) ready)
        (finish_each (StandsAt r.past τ) (size T) L a (omega (arith, j.sender, r.count)) (stands_finished r.past a (lane_at L a) j.send_ready) r.stands))
      where
        ready : (lane_at (finish L a) b).passage.ready ≤ τ
        ready = subst (λ (K : Lane). K.passage.ready ≤ τ) (sym (finish_other L a b (λ e. j.differ (sym e)))) j.receive_ready
