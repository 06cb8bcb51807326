-- The network side of demand 3, as it is used: what is ahead of each component (its passages whose work is unfinished), and events on that.
-- Lanes and paths stay inside. Assumes nothing.
use mathlib.Core.Path.{◌≡◌, refl, sym, ap, subst, ◌∙◌}
use mathlib.Core.Bool.{Bool, true, false}
use mathlib.Core.List.{List, [], ◌∷◌, ◌++◌}
use mathlib.Core.Option.{some}
use Prim.Native.Nat.{ℕ, suc, ◌≤◌, ◌<◌}
use native.Mathlib.Omega.{arith}
use borrow.Author.Tests.{eqb-true, eqb-false, leb-true, leb-false}
use lib.Dec.{leb, eqb}
use Rattle.model.specs.Table.{Table, size, component_of, arc_of}
use Rattle.model.specs.Window.{channel_of, listens}
use Rattle.model.specs.Schedule.{Passage, own, names}
use Rattle.model.specs.Chains.{IsSchedule}
use Rattle.model.specs.Network.{Label, Work, one, two}
use Rattle.model.proofs.Network.Links.{first_fits}
use Rattle.model.proofs.Network.Lanes.{Lane, lane, lane_at, finish, settle_all, ahead, ahead_of, settle_ahead, settled_at, at-work}
use Rattle.model.proofs.Network.Steps.{Alone, Joins}
use Rattle.model.proofs.Network.Events.{finish_at, finish_other, finish_count}
use Rattle.model.proofs.Network.Reached.{Reached, reached_tick, reached_alone, reached_together}
use Rattle.model.proofs.Network.Start.{start_lanes, start_ahead, reached_start}

-- At tick τ, on a path that passes as the schedule S says and misses no window, A c are the passages of component c whose work is unfinished,
-- and ws are the works finished.
pub record Passing (T : Table) (H : ℕ) (S : List Passage) (τ : ℕ) (A : ℕ → List Passage) (ws : List Work) : Type 0 where
  pub path : List Label
  pub lanes : List Lane
  pub reached : Reached T H S path τ lanes ws
  pub aheads : (c : ℕ) → c < size T → ahead (lane_at lanes c) ≡ A c

-- at the start all passages of the schedule are ahead
pub passing_start : (limit : ℕ) (T : Table) (H : ℕ) (S : List Passage) → IsSchedule limit T H S → Passing T H S 0 (λ c. own c S) []
passing_start limit T H S s =
    record { path = []; lanes = start_lanes S (size T); reached = reached_start limit T H S s; aheads = start_ahead limit T H S s }

-- a send and a receive that takes it: sender a in passage v, receiver b in passage w, channel k
pub record Partners (T : Table) (a : ℕ) (v : Passage) (b : ℕ) (w : Passage) (k : ℕ) : Type 0 where
  pub differ : a ≡ b → ⊥
  pub channel : channel_of (arc_of (component_of T a) v.edge) ≡ some k
  pub receives : listens (arc_of (component_of T b) w.edge) ≡ true
  pub named : names (arc_of (component_of T b) w.edge) (some k) ≡ true
  pub message : w.message ≡ some k

module _ (T : Table) (H : ℕ) (S : List Passage) {τ : ℕ} {A : ℕ → List Passage} {ws : List Work} (g : Passing T H S τ A ws) where
  -- the lanes
  abbrev L : List Lane
  L = g.lanes

  -- the lane of a component that is in the window of the first passage ahead
  here : (c : ℕ) → c < size T → (v : Passage) (vs : List Passage) → A c ≡ v ∷ vs → v.ready ≤ τ → lane_at L c ≡ lane v false vs
  here c h v vs e ready = at-work (lane_at L c) (g.reached.stands c h).good (g.reached.settled c h) v vs (g.aheads c h ∙ e) ready

  -- ## Events

  -- Below the horizon a tick passes if no passage ahead that is ready ends now.
  pub passing_tick : τ < H → ((c : ℕ) → c < size T → (v : Passage) (vs : List Passage) → A c ≡ v ∷ vs → v.ready ≤ τ → τ < v.end) → Passing T H S (suc τ) A ws
  passing_tick below later =
      record {
        path = _;
        lanes = settle_all (suc τ) L;
        reached = reached_tick T H S g.reached below unfinished;
        aheads = λ c h. ap ahead (settled_at (suc τ) L c) ∙ settle_ahead (suc τ) (lane_at L c) ∙ g.aheads c h;
      }
    where
      unfinished : (c : ℕ) → c < size T → (lane_at L c).done ≡ false → τ < (lane_at L c).passage.end
      unfinished c h d = go (leb K.passage.ready τ) refl
        where
          K : Lane
          K = lane_at L c

          first : A c ≡ K.passage ∷ K.next
          first = sym (g.aheads c h) ∙ ap (λ (t : Bool). ahead_of t K.passage K.next) d

          go : (t : Bool) → leb K.passage.ready τ ≡ t → τ < K.passage.end
          go true e = later c h K.passage K.next first (leb-true K.passage.ready τ e)
          go false e = omega (arith, leb-false K.passage.ready τ e, (first_fits (g.reached.stands c h).good.linked).window)

  -- Component c finishes alone the work of the first passage ahead, in its window: an internal edge, or a timeout.
  pub passing_alone : (c : ℕ) → c < size T → (v : Passage) (vs : List Passage) → A c ≡ v ∷ vs → v.ready ≤ τ → Alone (component_of T c) τ v
      → (B : ℕ → List Passage) → B c ≡ vs → ((d : ℕ) → d < size T → (d ≡ c → ⊥) → B d ≡ A d) → Passing T H S τ B (ws ++ (one c τ ∷ []))
  passing_alone c h v vs e ready a B this others =
      record {
        path = _;
        lanes = settle_all τ (finish L c);
        reached =
            reached_alone T H S g.reached c h (ap (λ (K : Lane). K.done) k)
            (subst (λ (K : Lane). K.passage.ready ≤ τ) (sym k) ready)
            (subst (λ (K : Lane). Alone (component_of T c) τ K.passage) (sym k) a);
        aheads = λ d i. ap ahead (settled_at τ (finish L c) d) ∙ settle_ahead τ (lane_at (finish L c) d) ∙ after d i (eqb d c) refl;
      }
    where
      k : lane_at L c ≡ lane v false vs
      k = here c h v vs e ready

      after : (d : ℕ) → d < size T → (t : Bool) → eqb d c ≡ t → ahead (lane_at (finish L c) d) ≡ B d
      after d i true q =
          let j : d ≡ c = eqb-true d c q in
          subst (λ (x : ℕ). ahead (lane_at (finish L c) x) ≡ B x) (sym j)
          (ap ahead (finish_at L c (omega (arith, g.reached.count))) ∙ ap (λ (K : Lane). K.next) k ∙ sym this)
      after d i false q =
          let n = eqb-false d c q in
          ap ahead (finish_other L c d n) ∙ g.aheads d i ∙ sym (others d i n)

  -- A send and a receive finish together the works of the first passages ahead of them, both in their windows.
  pub passing_together : (a b k : ℕ) → a < size T → b < size T → (v w : Passage) (vs us : List Passage) → A a ≡ v ∷ vs → A b ≡ w ∷ us → v.ready ≤ τ → w.ready ≤ τ
      → Partners T a v b w k → (B : ℕ → List Passage) → B a ≡ vs → B b ≡ us → ((d : ℕ) → d < size T → (d ≡ a → ⊥) → (d ≡ b → ⊥) → B d ≡ A d)
      → Passing T H S τ B (ws ++ (two a b k τ ∷ []))
  passing_together a b k ha hb v w vs us ea eb ra rb p B this_a this_b others =
      record {
        path = _;
        lanes = settle_all τ (finish (finish L a) b);
        reached = reached_together T H S g.reached a b k joins;
        aheads = λ d i. ap ahead (settled_at τ (finish (finish L a) b) d) ∙ settle_ahead τ (lane_at (finish (finish L a) b) d) ∙ after d i (eqb d b) refl (eqb d a) refl;
      }
    where
      ka : lane_at L a ≡ lane v false vs
      ka = here a ha v vs ea ra

      kb : lane_at L b ≡ lane w false us
      kb = here b hb w us eb rb

      joins : Joins T τ L a b k
      joins =
          record {
            sender = ha;
            receiver = hb;
            differ = p.differ;
            send_open = ap (λ (K : Lane). K.done) ka;
            receive_open = ap (λ (K : Lane). K.done) kb;
            send_ready = subst (λ (K : Lane). K.passage.ready ≤ τ) (sym ka) ra;
            receive_ready = subst (λ (K : Lane). K.passage.ready ≤ τ) (sym kb) rb;
            channel = subst (λ (K : Lane). channel_of (arc_of (component_of T a) K.passage.edge) ≡ some k) (sym ka) p.channel;
            receives = subst (λ (K : Lane). listens (arc_of (component_of T b) K.passage.edge) ≡ true) (sym kb) p.receives;
            named = subst (λ (K : Lane). names (arc_of (component_of T b) K.passage.edge) (some k) ≡ true) (sym kb) p.named;
            message = subst (λ (K : Lane). K.passage.message ≡ some k) (sym kb) p.message;
          }

      after : (d : ℕ) → d < size T → (t : Bool) → eqb d b ≡ t → (u : Bool) → eqb d a ≡ u → ahead (lane_at (finish (finish L a) b) d) ≡ B d
      after d i true q u z =
          let j : d ≡ b = eqb-true d b q in
          subst (λ (x : ℕ). ahead (lane_at (finish (finish L a) b) x) ≡ B x) (sym j)
          (ap ahead (finish_at (finish L a) b (omega (arith, finish_count L a, g.reached.count)))
          ∙ ap (λ (K : Lane). K.next) (finish_other L a b (λ f. p.differ (sym f)) ∙ kb)
          ∙ sym this_b)
      after d i false q true z =
          let j : d ≡ a = eqb-true d a z in
          ap ahead (finish_other (finish L a) b d (eqb-false d b q))
          ∙ subst (λ (x : ℕ). ahead (lane_at (finish L a) x) ≡ B x) (sym j)
          (ap ahead (finish_at L a (omega (arith, g.reached.count))) ∙ ap (λ (K : Lane). K.next) ka ∙ sym this_a)
      after d i false q false z =
          ap ahead (finish_other (finish L a) b d (eqb-false d b q) ∙ finish_other L a d (eqb-false d a z))
          ∙ g.aheads d i
          ∙ sym (others d i (eqb-false d a z) (eqb-false d b q))
