-- What each statement of a node but a send leads to: a state that is the schedule's again, or nothing where it is not allowed. Assumes nothing.
use mathlib.Core.Path.{◌≡◌, refl, sym, ap, ap₂, subst, ◌∙◌}
use mathlib.Core.Bool.{Bool, true, false, cond}
use mathlib.Core.List.{List, [], ◌∷◌, ◌++◌, map, append-nil}
use mathlib.Core.Option.{Option, none, some}
use Prim.Native.Nat.{ℕ, suc, ◌≤◌, ◌<◌}
use native.Mathlib.Omega.{arith}
use borrow.Author.Tests.{eqb-true, eq-eqb, ne_eqb}
use lib.Dec.{eqb}
use Rattle.model.specs.declared.Action.{Action}
use Rattle.model.specs.declared.Action.TheVariants.{Internal, Receive}
use Rattle.model.specs.Lists.{is_none}
use Rattle.model.specs.Table.{Component, Read, size, component_of, arc_of}
use Rattle.model.specs.Window.{Entry, Pick, choice, sends, receives}
use Rattle.model.specs.Schedule.{Passage}
use Rattle.model.specs.Program.{program_bytes}
use Rattle.model.specs.Network.{one, Observation}
use Rattle.model.specs.Machine.{Node, part_bytes, finish}
use Rattle.model.specs.Run.{Setting, setting_at, offset_of, previous_finish, Run, node_of, Stand, sleeping, sending, listening, finishing, adding, working, taking, elsewhere, nowhere, stand_of, window_end, listeners, forbidden, on, observes, moved, sent, finishes}
use Rattle.model.proofs.Basics.Bools.{clash}
use Rattle.model.proofs.Node.Choosing.{Asleep, asleep_sleeping}
use Rattle.model.proofs.Node.Working.{Working}
use Rattle.model.proofs.Node.Phase.{Heading, is_heading, is_working, action_of, afterwards, AtSend, AtStand, phase_at}
use Rattle.model.proofs.Node.Facts.{is_work, is_way, heading_stand, working_stand}
use Rattle.model.proofs.Node.Passage.{Begins, asleep_passage, working_passage, passage_works, observes_passage}
use Rattle.model.proofs.Network.Reached.{map_append}
use Rattle.model.proofs.Network.Says.{seen}
use Rattle.model.proofs.Network.Links.{first_fits}
use Rattle.model.proofs.Network.Steps.{Alone, internal, timeout}
use Rattle.model.proofs.Network.Ahead.{along_alone, alone_fires, silent_at_end}
use Rattle.model.proofs.Run.Tied.{Given, Held, busy, Tie, shown_by, clock_at, coded, component-in, opened_first, ahead_linked}
use Rattle.model.proofs.Run.Tick.{Live, Leads, no}
use Rattle.model.proofs.Run.Move.{same_tie, stays, Grown, grown_none, grown_one, tied_moved, tied_silent, edge_same, finished_held, finished_tie}

-- the passages ahead, without the first of component c
abbrev pub without : ℕ → List Passage → (ℕ → List Passage) → ℕ → List Passage
without c vs A d = cond (eqb d c) vs (A d)

-- of component c
pub without_same : (c : ℕ) (vs : List Passage) (A : ℕ → List Passage) → without c vs A c ≡ vs
without_same c vs A = ap (λ (x : Bool). cond x vs (A c)) (eq-eqb c c refl)

-- of the others
pub without_other : (c : ℕ) (vs : List Passage) (A : ℕ → List Passage) (d : ℕ) → (d ≡ c → ⊥) → without c vs A d ≡ A d
without_other c vs A d n = ap (λ (x : Bool). cond x vs (A d)) (ne_eqb d c n)

module _ {t : Read} {H : ℕ} {S : List Passage} {offs : List ℕ} (G : Given t H S offs) {s : Run} (k : Live G s) (c : ℕ) (h : c < size t.table) (wake : offset_of (setting_at t H S offs) c ≤ s.tick) where
  -- its component
  abbrev C : Component
  C = component_of t.table c

  -- node c before its statement
  abbrev r : Node
  r = node_of s c

  -- after it
  abbrev q : Node
  q = finish (part_bytes (program_bytes t) c) r r.rest

  -- what the run goes by
  abbrev g : Setting
  g = setting_at t H S offs

  -- its clock
  abbrev now : ℕ
  now = clock_at G s.tick c

  -- the passages ahead
  abbrev A : ℕ → List Passage
  A = k.tied.ahead

  -- node c's tie, with that node in its place
  abbrev TieOf : Node → Type 0
  TieOf x = Tie t.table H S c now x (shown_by c s.observations) (A c)

  -- as it is
  abbrev tie : TieOf r
  tie = k.tied.ties c h

  -- the same passages
  kept : {x : Node} → Held H C now tie.count x (A c) tie.more → TieOf x
  kept p = record { fin = tie.fin; more = tie.more; count = tie.count; counts = tie.counts; whole = tie.whole; held = p; shown = tie.shown }

  -- the node moved, nothing else
  silently : TieOf q → Leads G s c (on (moved s c q [] [] []))
  silently p = stays G k c h wake (moved s c q [] [] []) (tied_silent G k c h wake q p) refl refl

  -- on the way to a sleep
  pub way_leads : (at : Entry) → Heading C tie.count at r → (Heading C tie.count at q → TieOf q) → ((j : Pick) → Asleep C tie.count at j q → TieOf q)
      → Leads G s c (finishes g s c (stand_of r))
  way_leads at p further asleep = go (stand_of r) (heading_stand p) (phase_at (coded G c h) (component-in G c h) (is_heading p))
    where
      take : (o : Option Pick) → ((j : Pick) → o ≡ some j → Asleep C tie.count at j q) → Leads G s c (cond (is_none o) forbidden (on (moved s c q [] [] [])))
      take none f = no
      take (some j) f = silently (asleep j (f j refl))

      go : (x : Stand) → is_way x ≡ true → AtStand (part_bytes (program_bytes t) c) C tie.count at r x → Leads G s c (finishes g s c x)
      go sleeping w a = clash w
      go (sending b) w a = clash w
      go (listening qs) w a = clash w
      go finishing w a = clash w
      go (adding v z) w a = clash w
      go working w a = clash w
      go taking w a = take r.kept (λ j e. a.next j (sym a.kept ∙ e))
      go elsewhere w a = silently (further a.next)
      go nowhere w a = clash w

  -- at the sleep of the first passage ahead
  pub sleep_leads : (v : Passage) (vs : List Passage) → A c ≡ v ∷ vs → tie.more ≡ [] → (j : Pick) → Asleep C tie.count v.entry j r → Leads G s c (finishes g s c (stand_of r))
  sleep_leads v vs e m j p = subst (λ (x : Stand). Leads G s c (finishes g s c x)) (sym (asleep_sleeping p)) (go (eqb now r.t) refl)
    where
      o : Begins c C v.entry v
      o = opened_first G k.tied.along c h v vs e

      others : (d : ℕ) → (d ≡ c → ⊥) → shown_by d (observes c now r ∷ []) ≡ []
      others d n = ap (λ (x : Bool). cond x (observes c now r ∷ []) []) (ne_eqb c d (λ i. n (sym i)))

      mine : now ≡ r.t → shown_by c (observes c now r ∷ []) ≡ seen C c v ∷ []
      mine i =
          ap (λ (x : Bool). cond x (observes c now r ∷ []) []) (eq-eqb c c refl)
          ∙ ap (λ (x : Observation). x ∷ []) (observes_passage c now o i p)

      shows : now ≡ r.t → shown_by c s.observations ++ shown_by c (observes c now r ∷ []) ≡ map (seen C c) (tie.fin ++ (v ∷ []))
      shows i =
          ap₂ (λ (x y : List Observation). x ++ y) (tie.shown ∙ ap (map (seen C c)) (ap (λ (l : List Passage). tie.fin ++ l) m ∙ append-nil tie.fin)) (mine i)
          ∙ sym (map_append (seen C c) tie.fin (v ∷ []))

      go : (x : Bool) → eqb now r.t ≡ x → Leads G s c (cond x (on (moved s c q (observes c now r ∷ []) (previous_finish g c s.works ∷ []) [])) forbidden)
      go false i = no
      go true i =
          let due : now ≡ r.t = eqb-true now r.t i in
          stays G k c h wake (moved s c q (observes c now r ∷ []) (previous_finish g c s.works ∷ []) [])
          (tied_moved G k c h wake q (observes c now r ∷ []) (previous_finish g c s.works ∷ []) [] A (grown_none G k) (λ d l n. refl) others
          (record {
            fin = tie.fin;
            more = v ∷ [];
            count = tie.count;
            counts = tie.counts;
            whole = tie.whole;
            held =
                busy v vs e refl (omega (arith, (asleep_passage o p).ready)) (omega (arith, k.below, (asleep_passage o p).ready)) j
                (passage_works o (part_bytes (program_bytes t) c) (component-in G c h) p);
            shown = shows due;
          }))
          refl
          refl

  -- at the work of the first passage ahead
  module _ (v : Passage) (vs : List Passage) (e : A c ≡ v ∷ vs) (m : tie.more ≡ v ∷ []) (ready : v.ready ≤ now) (below : v.ready < H) where
    -- an edge that does that
    action_same : {j : Pick} {a : Action} → choice C v.entry ≡ some j → action_of C j ≡ a → (arc_of C v.edge).edge.action ≡ a
    action_same f i = ap (λ (n : ℕ). (arc_of C n).edge.action) (edge_same G k.tied.along c h v vs e f) ∙ i

    -- the work finished, with that message
    after_tie : (j : Pick) (o : Option ℕ) → choice C v.entry ≡ some j → v.message ≡ o → Heading C (suc tie.count) (afterwards C v.entry j o) q
        → Tie t.table H S c now q (shown_by c s.observations) vs
    after_tie j o f n p = finished_tie G k.tied.along c h v vs e tie m (finished_held G k.tied.along c h v vs e j o f n p)

    -- the work finished alone
    alone_leads : Alone C now v → Tie t.table H S c now q (shown_by c s.observations) vs
        → Leads G s c (on (moved s c q [] [] (one c s.tick ∷ [])))
    alone_leads p i =
        stays G k c h wake (moved s c q [] [] (one c s.tick ∷ []))
        (tied_moved G k c h wake q [] [] (one c s.tick ∷ []) (without c vs A) grown (λ d l n. without_other c vs A d n) (λ d n. refl)
        (same_tie {T = t.table} {S = S} refl (sym (append-nil (shown_by c s.observations))) (sym (without_same c vs A)) i))
        refl
        refl
      where
        others : (d : ℕ) → d < size t.table → (d ≡ c → ⊥) → without c vs A d ≡ A d
        others d l n = without_other c vs A d n

        grown : Grown G k (without c vs A) (one c s.tick ∷ [])
        grown =
            grown_one G k (without c vs A) (one c s.tick) h refl
            (along_alone G.spread G.most t.table H S G.sched G.checks k.tied.along c h v vs e ready p (without c vs A) (without_same c vs A) others)
            (alone_fires G.spread G.most t.table H S G.sched G.checks k.tied.along c h v vs e ready p (without c vs A) (without_same c vs A) others)

    -- all of it, given what a send leads to
    pub work_leads : (j : Pick) → Working C tie.count v.entry j r
        → ((a : ℕ) → AtSend (part_bytes (program_bytes t) c) C tie.count v.entry r a → Leads G s c (sent g s c a (listeners g s c a))) → Leads G s c (finishes g s c (stand_of r))
    work_leads j p send = go (stand_of r) (working_stand p) (phase_at (coded G c h) (component-in G c h) (is_working j p))
      where
        again : (i : Pick) → Working C tie.count v.entry i q → Leads G s c (on (moved s c q [] [] []))
        again i w = silently (kept (busy v vs e m ready below i w))

        times-out : (i : Pick) → Working C tie.count v.entry i r → action_of C i ≡ Receive → Heading C (suc tie.count) (afterwards C v.entry i none) q
            → (x : Bool) → eqb now (window_end r) ≡ x → Leads G s c (cond x (on (moved s c q [] [] (one c s.tick ∷ []))) forbidden)
        times-out i w act n false f = no
        times-out i w act n true f =
            let o = opened_first G k.tied.along c h v vs e in
            let end : now ≡ v.end = eqb-true now (window_end r) f ∙ (working_passage o w).end in
            let a : (arc_of C v.edge).edge.action ≡ Receive = action_same w.chosen act in
            let silent = silent_at_end G.spread G.most t.table H S G.sched G.checks k.tied.along c h v vs e end (ap receives a) in
            alone_leads
            (timeout a silent end)
            (after_tie i none w.chosen silent n)

        go : (x : Stand) → is_work x ≡ true → AtStand (part_bytes (program_bytes t) c) C tie.count v.entry r x → Leads G s c (finishes g s c x)
        go sleeping w a = clash w
        go (sending b) w a = send b a
        go (listening qs) w a = times-out a.pick a.at_work a.action a.next (eqb now (window_end r)) refl
        go finishing w a =
            let i : (arc_of C v.edge).edge.action ≡ Internal = action_same a.at_work.chosen a.action in
            let n : v.message ≡ none = (first_fits (ahead_linked G k.tied.along c h v vs e)).said (ap receives i) ∙ ap sends i in
            alone_leads
            (internal i)
            (after_tie a.pick none a.at_work.chosen n a.next)
        go (adding x z) w a = rw a.ranged (again a.update.pick a.update.next)
        go working w a = again a.pick a.next
        go taking w a = clash w
        go elsewhere w a = clash w
        go nowhere w a = clash w
