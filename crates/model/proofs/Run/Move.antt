-- A node finishes its statement, not a send: the run's state stays the schedule's. Assumes nothing.
use mathlib.Core.Path.{◌≡◌, refl, sym, ap, subst, ◌∙◌}
use mathlib.Core.Bool.{Bool, true, false, cond}
use mathlib.Core.List.{List, [], ◌∷◌, ◌++◌, map, append-nil}
use mathlib.Core.Option.{Option, some}
use Prim.Native.Nat.{ℕ, suc, ◌+◌, ◌≤◌, ◌<◌}
use native.Mathlib.Omega.{arith}
use borrow.Author.Tests.{eqb-true, eqb-false, ne_eqb}
use lib.Dec.{eqb}
use lib.ListN.{length, get_or, set, length-append, length-set}
use lib.Seq.{append_snoc, get_or-set_same, get_or-set_other}
use Rattle.model.specs.Table.{Table, Read, size, component_of, arc_of}
use Rattle.model.specs.Window.{Entry, Pick, choice, leaves}
use Rattle.model.specs.Lists.{All, empty, more}
use Rattle.model.specs.Schedule.{Passage, own}
use Rattle.model.specs.Network.{Work, Observation}
use Rattle.model.specs.Machine.{Node}
use Rattle.model.specs.Order.{work_tick}
use Rattle.model.specs.Run.{setting_at, offset_of, Run, no_node, on, moved}
use Rattle.model.specs.Apart.{own_work, work_node}
use Rattle.model.proofs.Basics.Words.{all_join}
use Rattle.model.proofs.Basics.Members.{only_append}
use Rattle.model.proofs.Schedule.Own.{all_then}
use Rattle.model.proofs.Node.Phase.{Heading, afterwards}
use Rattle.model.proofs.Node.Passage.{passage_pick, passage_leads}
use Rattle.model.proofs.Network.Says.{seen}
use Rattle.model.proofs.Network.Links.{Links, next_is, next_later, last_beyond}
use Rattle.model.proofs.Network.Reached.{map_append}
use Rattle.model.proofs.Network.Order.{Fires, Comes, stop, next, Sorted}
use Rattle.model.proofs.Network.Whole.{comes_then}
use Rattle.model.proofs.Run.Tied.{Given, Held, coming, leaving, Tie, shown_by, Logged, clock_at, Along, Tied, opened_first, ahead_before, ahead_linked}
use Rattle.model.proofs.Run.Tick.{Live, Leads, onward, no_tick}

-- ## The frame

-- a work at the end, none before it later
sorted_snoc : (ws : List Work) (w : Work) → Sorted ws → All (λ x. work_tick x ≤ work_tick w) ws → Sorted (ws ++ (w ∷ []))
sorted_snoc [] w s a = (empty, tt)
sorted_snoc (x ∷ ws) w s (more p a) = (all_join s.0 (more p empty), sorted_snoc ws w s.1 a)

module _ {T : Table} {H : ℕ} {S : List Passage} where
  -- the same tie, of equal things
  pub same_tie : {c τ : ℕ} {r r' : Node} {os os' : List Observation} {as' bs : List Passage} → r ≡ r' → os ≡ os' → as' ≡ bs
      → Tie T H S c τ r os as' → Tie T H S c τ r' os' bs
  same_tie {c} {τ} {r} {r'} {os} {os'} {as'} {bs} e f i k =
      subst (λ (q : Node). Tie T H S c τ q os' bs) e
      (subst (λ (q : List Observation). Tie T H S c τ r q bs) f (subst (λ (q : List Passage). Tie T H S c τ r os q) i k))

module _ {t : Read} {H : ℕ} {S : List Passage} {offs : List ℕ} (G : Given t H S offs) {s : Run} (k : Live G s) where
  -- a choice of node c, which is awake, that leads to a tied state at the same tick
  pub stays : (c : ℕ) → c < size t.table → offset_of (setting_at t H S offs) c ≤ s.tick → (u : Run) → Tied G u → u.tick ≡ s.tick → u.used ≡ suc s.used → Leads G s c (on u)
  stays c h w u p e f =
      onward u (record { tied = p; below = omega (arith, k.below) }) f (e ∙ ap (λ (x : Bool). cond x (suc s.tick) s.tick) (sym (ne_eqb c 255 (no_tick G c h)))) (λ i. w)

  -- the network's side with so many works more, at the same tick
  pub record Grown (B : ℕ → List Passage) (ws : List Work) : Type 0 where
    pub along : Along G (clock_at G s.tick) B
    pub came : Comes t.table (λ c. own c S) (map (own_work (setting_at t H S offs)) (s.works ++ ws)) B
    pub logged : Logged (size t.table) s.tick (s.works ++ ws)

  -- none more
  pub grown_none : Grown k.tied.ahead []
  grown_none =
      record {
        along = k.tied.along;
        came = subst (λ (l : List Work). Comes t.table (λ c. own c S) (map (own_work (setting_at t H S offs)) l) k.tied.ahead) (sym (append-nil s.works)) k.tied.came;
        logged = subst (Logged (size t.table) s.tick) (sym (append-nil s.works)) k.tied.logged;
      }

  -- one more, now
  pub grown_one : (B : ℕ → List Passage) (w : Work) → work_node w < size t.table → work_tick w ≡ s.tick → Along G (clock_at G s.tick) B
      → Fires t.table (own_work (setting_at t H S offs) w) k.tied.ahead B → Grown B (w ∷ [])
  grown_one B w h e a f =
      record {
        along = a;
        came =
            subst (λ (l : List Work). Comes t.table (λ c. own c S) l B) (sym (map_append (own_work (setting_at t H S offs)) s.works (w ∷ [])))
            (comes_then k.tied.came (next f (stop (λ d i. refl))));
        logged =
            record {
              sorted = sorted_snoc s.works w k.tied.logged.sorted (all_then (λ x p. omega (arith, p.1)) k.tied.logged.each);
              each = all_join k.tied.logged.each (more (h, omega arith) empty);
            };
      }

  -- one node moved: the others are as before
  pub tied_moved : (c : ℕ) → c < size t.table → offset_of (setting_at t H S offs) c ≤ s.tick → (r : Node) (os : List Observation) (fs : List ℕ) (ws : List Work) (B : ℕ → List Passage) → Grown B ws
      → ((d : ℕ) → d < size t.table → (d ≡ c → ⊥) → B d ≡ k.tied.ahead d) → ((d : ℕ) → (d ≡ c → ⊥) → shown_by d os ≡ [])
      → Tie t.table H S c (clock_at G s.tick c) r (shown_by c s.observations ++ shown_by c os) (B c) → Tied G (moved s c r os fs ws)
  tied_moved c h wake r os fs ws B g others none' tie =
      record { ahead = B; along = g.along; came = g.came; logged = g.logged; silent = quiet; full = length-set s.nodes c r ∙ k.tied.full; ties = λ d i. go d i (eqb d c) refl }
    where
      split : (d : ℕ) → shown_by d (s.observations ++ os) ≡ shown_by d s.observations ++ shown_by d os
      split d = only_append (λ (o : Observation). eqb o.component d) s.observations os

      quiet : (d : ℕ) → d < size t.table → s.tick < offset_of (setting_at t H S offs) d → shown_by d (s.observations ++ os) ≡ []
      quiet d i l =
          split d
          ∙ (ap (λ (x : List Observation). x ++ shown_by d os) (k.tied.silent d i l)
          ∙ none' d (λ e. let z : offset_of (setting_at t H S offs) d ≤ s.tick = subst (λ (n : ℕ). offset_of (setting_at t H S offs) n ≤ s.tick) (sym e) wake in omega arith))

      go : (d : ℕ) → d < size t.table → (x : Bool) → eqb d c ≡ x
          → Tie t.table H S d (clock_at G s.tick d) (get_or (set s.nodes c r) d no_node) (shown_by d (s.observations ++ os)) (B d)
      go d i true q =
          subst (λ (n : ℕ). Tie t.table H S n (clock_at G s.tick n) (get_or (set s.nodes c r) n no_node) (shown_by n (s.observations ++ os)) (B n)) (sym (eqb-true d c q))
          (same_tie {T = t.table} {S = S} (sym (get_or-set_same s.nodes c r no_node (omega (arith, k.tied.full)))) (sym (split c)) refl tie)
      go d i false q =
          let n = eqb-false d c q in
          same_tie {T = t.table} {S = S} (sym (get_or-set_other s.nodes c d r no_node n))
          (sym (split d ∙ (ap (λ (l : List Observation). shown_by d s.observations ++ l) (none' d n) ∙ append-nil (shown_by d s.observations))))
          (sym (others d i n))
          (k.tied.ties d i)

  -- one node moved that finished no work and wrote nothing
  pub tied_silent : (c : ℕ) → c < size t.table → offset_of (setting_at t H S offs) c ≤ s.tick → (r : Node) → Tie t.table H S c (clock_at G s.tick c) r (shown_by c s.observations) (k.tied.ahead c) → Tied G (moved s c r [] [] [])
  tied_silent c h wake r tie =
      tied_moved c h wake r [] [] [] k.tied.ahead grown_none (λ d i n. refl) (λ d n. refl)
      (same_tie {T = t.table} {S = S} refl (sym (append-nil (shown_by c s.observations))) refl tie)

-- ## The work of the first passage ahead finished

module _ {t : Read} {H : ℕ} {S : List Passage} {offs : List ℕ} (G : Given t H S offs) {clock : ℕ → ℕ} {A : ℕ → List Passage} (g : Along G clock A) (c : ℕ) (h : c < size t.table) (v : Passage)
    (vs : List Passage) (e : A c ≡ v ∷ vs) where
  -- the edge of the window chosen is the passage's
  pub edge_same : {j : Pick} → choice (component_of t.table c) v.entry ≡ some j → v.edge ≡ j.edge
  edge_same {j} f = (passage_pick (opened_first G g c h v vs e) f).0

  -- a node that heads for the entry that the passage leads to is held there
  leaves_held : {i : ℕ} {r : Node} → Heading (component_of t.table c) i (leaves (arc_of (component_of t.table c) v.edge) v.message v.end v.entry) r
      → Held H (component_of t.table c) (clock c) i r vs []
  unfolding leaves
  leaves_held {i} {r} p = go vs (ahead_linked G g c h v vs e)
    where
      before : (clock c) ≤ v.end
      before = ahead_before G g c h v vs e

      go : (us : List Passage) → Links H (component_of t.table c) v us → Held H (component_of t.table c) (clock c) i r us []
      go [] l = leaving (leaves (arc_of (component_of t.table c) v.edge) v.message v.end v.entry) refl refl (last_beyond l) p
      go (w ∷ us) l = coming w us refl refl (omega (arith, before, (next_later l).0)) (subst (λ (at : Entry). Heading (component_of t.table c) i at r) (sym (next_is l)) p)

  -- with its message
  pub finished_held : {i : ℕ} {r : Node} (j : Pick) (m : Option ℕ) → choice (component_of t.table c) v.entry ≡ some j → v.message ≡ m
      → Heading (component_of t.table c) i (afterwards (component_of t.table c) v.entry j m) r → Held H (component_of t.table c) (clock c) i r vs []
  finished_held {i} {r} j m f n p =
      let o = opened_first G g c h v vs e in
      leaves_held
      (subst (λ (at : Entry). Heading (component_of t.table c) i at r)
      (passage_leads o f m ∙ ap (λ (x : Option ℕ). leaves (arc_of (component_of t.table c) v.edge) x v.end v.entry) (sym n)) p)

  -- its tie
  pub finished_tie : {r q : Node} {os : List Observation} (k : Tie t.table H S c (clock c) r os (A c)) → k.more ≡ v ∷ []
      → Held H (component_of t.table c) (clock c) (suc k.count) q vs [] → Tie t.table H S c (clock c) q os vs
  finished_tie {r} {q} {os} k m p =
      record {
        fin = k.fin ++ (v ∷ []);
        more = [];
        count = suc k.count;
        counts = length-append k.fin (v ∷ []) ∙ (let z : length k.fin + 1 ≡ suc k.count = omega (arith, k.counts) in z);
        whole = append_snoc k.fin v vs ∙ (ap (λ (l : List Passage). k.fin ++ l) (sym e) ∙ k.whole);
        held = p;
        shown = k.shown ∙ ap (map (seen (component_of t.table c) c)) (ap (λ (l : List Passage). k.fin ++ l) m ∙ sym (append-nil (k.fin ++ (v ∷ []))));
      }
