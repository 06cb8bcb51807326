-- A send finishes its listener's statement too; and with it what every choice leads to. Assumes nothing.
use mathlib.Core.Path.{◌≡◌, refl, sym, subst, ◌∙◌}
use mathlib.Core.Bool.{Bool, true, false, cond, ◌&&◌}
use mathlib.Core.List.{List, [], ◌∷◌}
use mathlib.Core.Option.{some}
use Prim.Native.Nat.{ℕ, suc, ◌≤◌, ◌<◌}
use native.Mathlib.Omega.{arith}
use borrow.Author.Tests.{eqb-true, eqb-false, leb-true, ltb-true, ne_eqb}
use lib.Dec.{ltb, eqb}
use lib.ListN.{length, get_or, set, length-set}
use lib.Seq.{get_or-set_same, get_or-set_other}
use Rattle.model.specs.declared.Action.TheVariants.{Receive}
use Rattle.model.specs.Lists.{any}
use Rattle.model.specs.Table.{Component, Read, size, component_of, arc_of}
use Rattle.model.specs.Window.{receives, channel_of, listens}
use Rattle.model.specs.Schedule.{Passage, names}
use Rattle.model.specs.Program.{program_bytes}
use Rattle.model.specs.Network.{two}
use Rattle.model.specs.Machine.{Node, part_bytes, finish}
use Rattle.model.specs.Run.{setting_at, offset_of, awake, previous_finish, Run, no_node, node_of, Stand, stand_of, listeners, takes_message, Outcome, forbidden, on, moved, observes, messaged, ticked, sent, finishes, some_due, late_nodes, after_tick, choose1}
use Rattle.model.proofs.Basics.Bools.{and_is}
use Rattle.model.proofs.Node.Choosing.{asleep_sleeping}
use Rattle.model.proofs.Node.Phase.{is_working, action_of, AtSend, AtListen, AtStand, phase_at}
use Rattle.model.proofs.Node.Listening.{stands_listening}
use Rattle.model.proofs.Network.Links.{first_fits}
use Rattle.model.proofs.Network.Steps.{sends_only}
use Rattle.model.proofs.Network.Ahead.{Partner, along_send, send_fires}
use Rattle.model.proofs.Run.Tied.{Given, Held, coming, waiting, busy, leaving, resting, Tie, shown_by, clock_at, Tied, coded, component-in, ahead_linked}
use Rattle.model.proofs.Run.Tick.{Live, Leads, no, tick_leads}
use Rattle.model.proofs.Run.Move.{same_tie, stays, Grown, grown_one, finished_held, finished_tie}
use Rattle.model.proofs.Run.Statement.{without, without_same, without_other, way_leads, sleep_leads, work_leads}
use Rattle.model.proofs.Run.Listener.{receives_only, sends_on, partner, Listens, partner_listens, listeners_are}

module _ {t : Read} {H : ℕ} {S : List Passage} {offs : List ℕ} (G : Given t H S offs) {s : Run} (k : Live G s) where
  -- two nodes moved: the others are as before
  tied_messaged : (c b a : ℕ) → c < size t.table → b < size t.table → (c ≡ b → ⊥) → (r q : Node) (vs us : List Passage)
      → Grown G k (without b us (without c vs k.tied.ahead)) (two c b a s.tick ∷ [])
      → Tie t.table H S c (clock_at G s.tick c) r (shown_by c s.observations) vs → Tie t.table H S b (clock_at G s.tick b) q (shown_by b s.observations) us
      → Tied G (messaged s c r b q a)
  tied_messaged c b a hc hb ne r q vs us g tc tb =
      record {
        ahead = B;
        along = g.along;
        came = g.came;
        logged = g.logged;
        silent = k.tied.silent;
        full = length-set (set s.nodes c r) b q ∙ (length-set s.nodes c r ∙ k.tied.full);
        ties = λ d i. go d i (eqb d b) refl (eqb d c) refl;
      }
    where
      A : ℕ → List Passage
      A = k.tied.ahead

      B : ℕ → List Passage
      B = without b us (without c vs A)

      go : (d : ℕ) → d < size t.table → (x : Bool) → eqb d b ≡ x → (y : Bool) → eqb d c ≡ y
          → Tie t.table H S d (clock_at G s.tick d) (get_or (set (set s.nodes c r) b q) d no_node) (shown_by d s.observations) (B d)
      go d i true f y j =
          subst (λ (n : ℕ). Tie t.table H S n (clock_at G s.tick n) (get_or (set (set s.nodes c r) b q) n no_node) (shown_by n s.observations) (B n)) (sym (eqb-true d b f))
          (same_tie {T = t.table} {S = S}
          (sym (get_or-set_same (set s.nodes c r) b q no_node (omega (arith, length-set s.nodes c r, k.tied.full))))
          refl
          (sym (without_same b us (without c vs A)))
          tb)
      go d i false f true j =
          subst (λ (n : ℕ). Tie t.table H S n (clock_at G s.tick n) (get_or (set (set s.nodes c r) b q) n no_node) (shown_by n s.observations) (B n)) (sym (eqb-true d c j))
          (same_tie {T = t.table} {S = S}
          (sym (get_or-set_other (set s.nodes c r) b c q no_node ne ∙ get_or-set_same s.nodes c r no_node (omega (arith, k.tied.full))))
          refl
          (sym (without_other b us (without c vs A) c ne ∙ without_same c vs A))
          tc)
      go d i false f false j =
          let n = eqb-false d b f in
          let m = eqb-false d c j in
          same_tie {T = t.table} {S = S}
          (sym (get_or-set_other (set s.nodes c r) b d q no_node n ∙ get_or-set_other s.nodes c d r no_node m))
          refl
          (sym (without_other b us (without c vs A) d n ∙ without_other c vs A d m))
          (k.tied.ties d i)

  -- ## A send

  module _ (c : ℕ) (h : c < size t.table) (wake : offset_of (setting_at t H S offs) c ≤ s.tick) (v : Passage) (vs : List Passage) (e : k.tied.ahead c ≡ v ∷ vs) (m : (k.tied.ties c h).more ≡ v ∷ []) (ready : v.ready ≤ clock_at G s.tick c) (a : ℕ)
      (x : AtSend (part_bytes (program_bytes t) c) (component_of t.table c) (k.tied.ties c h).count v.entry (node_of s c) a) where
    -- the sender's partner
    abbrev P : Partner G.spread G.most t.table H S G.sched G.checks (clock_at G s.tick) k.tied.ahead c v a
    P = partner G k c h v vs e ready x.at_work a x.action

    -- the partner's number
    abbrev b : ℕ
    b = P.component

    -- the partner at its listen
    abbrev L : Listens G k c h v vs e ready x.at_work a x.action
    L = partner_listens G k c h v vs e ready x.at_work a x.action

    -- the sender behind its send
    sender_tie : Tie t.table H S c (clock_at G s.tick c) (finish (part_bytes (program_bytes t) c) (node_of s c) (node_of s c).rest) (shown_by c s.observations) vs
    sender_tie =
        let ch = sends_on G k c h v vs e ready x.at_work a x.action in
        let n : v.message ≡ some a =
        (first_fits (ahead_linked G k.tied.along c h v vs e)).said (sends_only (arc_of (component_of t.table c) v.edge) a ch) ∙ ch in
        finished_tie G k.tied.along c h v vs e (k.tied.ties c h) m
        (finished_held G k.tied.along c h v vs e x.pick (some a) x.at_work.chosen n x.next)

    -- its listener behind its listen
    listener_tie : Tie t.table H S b (clock_at G s.tick b) (takes_message (part_bytes (program_bytes t) b) a (node_of s b)) (shown_by b s.observations) P.rest
    listener_tie =
        finished_tie G k.tied.along b P.there P.passage P.rest P.ahead (k.tied.ties b P.there) L.more
        (finished_held G k.tied.along b P.there P.passage P.rest P.ahead y.pick (some a) y.at_work.chosen P.partners.message
        (y.taken a named))
      where
        D : Component
        D = component_of t.table b

        action : action_of D L.pick ≡ Receive
        action = receives_only (action_of D L.pick) (subst (λ (n : ℕ). listens (arc_of D n) ≡ true) L.edge P.partners.receives)

        y : AtListen (part_bytes (program_bytes t) b) D (k.tied.ties b P.there).count P.passage.entry (node_of s b) (arc_of D L.pick.edge).pairs
        y =
            subst (AtStand (part_bytes (program_bytes t) b) D (k.tied.ties b P.there).count P.passage.entry (node_of s b)) (stands_listening L.at_work action)
            (phase_at (coded G b P.there) (component-in G b P.there) (is_working L.pick L.at_work))

        named : any (λ q. eqb q.channel a) (arc_of D L.pick.edge).pairs ≡ true
        named = subst (λ (n : ℕ). names (arc_of D n) (some a) ≡ true) L.edge P.partners.named

    -- "A send finishes its listener's statement too"
    send_leads : Leads G s c (sent (setting_at t H S offs) s c a (listeners (setting_at t H S offs) s c a))
    send_leads = subst (λ (l : List ℕ). Leads G s c (sent (setting_at t H S offs) s c a l)) (sym (listeners_are G k c h v vs e ready x.at_work a x.action)) there
      where
        A : ℕ → List Passage
        A = k.tied.ahead

        B : ℕ → List Passage
        B = without b P.rest (without c vs A)

        this_a : B c ≡ vs
        this_a = without_other b P.rest (without c vs A) c P.partners.differ ∙ without_same c vs A

        this_b : B b ≡ P.rest
        this_b = without_same b P.rest (without c vs A)

        others : (d : ℕ) → d < size t.table → (d ≡ c → ⊥) → (d ≡ b → ⊥) → B d ≡ A d
        others d i n o = without_other b P.rest (without c vs A) d o ∙ without_other c vs A d n

        sends : channel_of (arc_of (component_of t.table c) v.edge) ≡ some a
        sends = sends_on G k c h v vs e ready x.at_work a x.action

        grown : Grown G k B (two c b a s.tick ∷ [])
        grown =
            grown_one G k B (two c b a s.tick) h refl
            (along_send G.spread G.most t.table H S G.sched G.checks k.tied.along c h v vs e ready (omega (arith, k.below)) a sends P B this_a this_b others)
            (send_fires G.spread G.most t.table H S G.sched G.checks k.tied.along c h v vs e ready (omega (arith, k.below)) a sends P B this_a this_b others)

        there : Leads G s c (sent (setting_at t H S offs) s c a (b ∷ []))
        there =
            stays G k c h wake
            (messaged s c (finish (part_bytes (program_bytes t) c) (node_of s c) (node_of s c).rest) b (takes_message (part_bytes (program_bytes t) b) a (node_of s b)) a)
            (tied_messaged c b a h P.there P.partners.differ (finish (part_bytes (program_bytes t) c) (node_of s c) (node_of s c).rest)
            (takes_message (part_bytes (program_bytes t) b) a (node_of s b))
            vs
            P.rest
            grown
            sender_tie
            listener_tie)
            refl
            refl

  -- ## A choice

  -- "Choice 0 to 7: that node finishes its statement."
  node_leads : (c : ℕ) → c < size t.table → offset_of (setting_at t H S offs) c ≤ s.tick → Leads G s c (finishes (setting_at t H S offs) s c (stand_of (node_of s c)))
  node_leads c h wake = go (k.tied.ties c h).held
    where
      K : Tie t.table H S c (clock_at G s.tick c) (node_of s c) (shown_by c s.observations) (k.tied.ahead c)
      K = k.tied.ties c h

      next : Node
      next = finish (part_bytes (program_bytes t) c) (node_of s c) (node_of s c).rest

      tied : {x : Node} → Held H (component_of t.table c) (clock_at G s.tick c) K.count x (k.tied.ahead c) K.more
          → Tie t.table H S c (clock_at G s.tick c) x (shown_by c s.observations) (k.tied.ahead c)
      tied p = record { fin = K.fin; more = K.more; count = K.count; counts = K.counts; whole = K.whole; held = p; shown = K.shown }

      go : Held H (component_of t.table c) (clock_at G s.tick c) K.count (node_of s c) (k.tied.ahead c) K.more
          → Leads G s c (finishes (setting_at t H S offs) s c (stand_of (node_of s c)))
      go (coming v vs e m l p) = way_leads G k c h wake v.entry p (λ q. tied (coming v vs e m l q)) (λ j q. tied (waiting v vs e m l j q))
      go (waiting v vs e m l j p) = sleep_leads G k c h wake v vs e m j p
      go (busy v vs e m l b j p) = work_leads G k c h wake v vs e m l b j p (λ a x. send_leads c h wake v vs e m l a x)
      go (leaving at e m l p) = way_leads G k c h wake at p (λ q. tied (leaving at e m l q)) (λ j q. tied (resting at e m l j q))
      go (resting at e m l j p) =
          subst (λ (x : Stand). Leads G s c (finishes (setting_at t H S offs) s c x)) (sym (asleep_sleeping p))
          (ap_no (eqb (clock_at G s.tick c) (node_of s c).t) (ne_eqb (clock_at G s.tick c) (node_of s c).t (λ i. omega (arith, p.t, k.below))) (moved s c next (observes c (clock_at G s.tick c) (node_of s c) ∷ []) (previous_finish (setting_at t H S offs) c s.works ∷ []) []))
        where
          ap_no : (x : Bool) → x ≡ false → (u : Run) → Leads G s c (cond x (on u) forbidden)
          ap_no x f u = subst (λ (y : Bool). Leads G s c (cond y (on u) forbidden)) (sym f) no

  -- what every choice leads to
  pub choice_leads : (b : ℕ) → Leads G s b (choose1 (setting_at t H S offs) s b)
  unfolding choose1
  choice_leads b = go (eqb b 255) refl (ltb b (length s.nodes) && awake (setting_at t H S offs) b s.tick) refl
    where
      tick : Outcome
      tick = cond (some_due (setting_at t H S offs) s.tick 0 s.nodes) forbidden (after_tick (setting_at t H S offs) (ticked s) (late_nodes (setting_at t H S offs) (suc s.tick) 0 s.nodes))

      go : (x : Bool) → eqb b 255 ≡ x → (y : Bool) → (ltb b (length s.nodes) && awake (setting_at t H S offs) b s.tick) ≡ y
          → Leads G s b (cond x tick (cond y (finishes (setting_at t H S offs) s b (stand_of (node_of s b))) forbidden))
      go true f y i = tick_leads G k b (eqb-true b 255 f)
      go false f true i =
          let j = (and_is (ltb b (length s.nodes)) (awake (setting_at t H S offs) b s.tick)).0 i in
          node_leads b (omega (arith, ltb-true b (length s.nodes) j.0, k.tied.full)) (leb-true (offset_of (setting_at t H S offs) b) s.tick j.1)
      go false f false i = no
