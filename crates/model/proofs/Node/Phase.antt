-- The phases of a node, relative to the entry that it heads for or whose passage it is in; and, by what it stands at, which phase it is in and
-- where finishing its statement leads. Beyond its last passage a node is in one of them too: choosing, perhaps with no edge, or asleep. Assumes nothing.
use mathlib.Core.Path.{◌≡◌, refl, sym, ap, subst, ◌∙◌}
use mathlib.Core.Bool.{Bool, true, false, cond}
use mathlib.Core.List.{List, [], ◌∷◌, ◌++◌, map}
use mathlib.Core.Option.{Option, none, some}
use Prim.Native.Nat.{ℕ, suc, ◌+◌}
use lib.Dec.{eqb}
use lib.IntN.{ℤ, ◌+ℤ◌}
use Rattle.model.specs.declared.Action.{Action}
use Rattle.model.specs.declared.Action.TheVariants.{Internal, Send, Receive}
use Rattle.model.specs.declared.Pair.{Pair}
use Rattle.model.specs.declared.Update.{Update}
use Rattle.model.specs.Lists.{any, or_else}
use Rattle.model.specs.Table.{TableHeader, header_of, Arc, Component, arc_of}
use Rattle.model.specs.Limits.{ComponentIn}
use Rattle.model.specs.Window.{Entry, Pick, choice, value_at, in_range, updated, receives, paired, leads_to, leaves}
use Rattle.model.specs.Program.{Statement, set_to, add_to, done, send, listen, update_of}
use Rattle.model.specs.Machine.{Node, exec, finish, to, with_place}
use Rattle.model.specs.Run.{Stand, sleeping, sending, listening, finishing, adding, working, taking, elsewhere, nowhere, stand, stand_at, stand_of, pairs_at, takes_message}
use Rattle.model.proofs.Reader.Parts.{some_same}
use Rattle.model.proofs.Node.Choosing.{Coded, Choosing, choosing_elsewhere, choosing_taking, at_take, choosing_step, Asleep, take_step, asleep_sleeping}
use Rattle.model.proofs.Node.Ageing.{Ageing, ageing_elsewhere, age_step, Entered, entered_elsewhere, enter_step, choose_step}
use Rattle.model.proofs.Node.Working.{after_work, paired_named, Doing, updating, to_send, to_listen, Working, sleep_step, update_is, update_step, work_ends}

-- Node r of component C, i of whose passages have their work finished; it enters at `at` after them. On the way to the sleep of the passage there:
pub data Heading (C : Component) (i : ℕ) (at : Entry) (r : Node) : Type 0 where
  -- after the work of the passage before: the clocks partly aged, then the enter
  is_ageing : Ageing C i at r → Heading C i at r
  -- at the choose
  is_entered : Entered C i at r → Heading C i at r
  -- in the location's block, at its take at last
  is_choosing : Choosing C i at r → Heading C i at r

-- All its phases: on the way to that sleep; at it, with the window chosen; past it, with the work unfinished.
pub data Phase (C : Component) (i : ℕ) (at : Entry) (r : Node) : Type 0 where
  is_heading : Heading C i at r → Phase C i at r
  is_asleep : (k : Pick) → Asleep C i at k r → Phase C i at r
  is_working : (k : Pick) → Working C i at k r → Phase C i at r

-- the entry that the passage from `at` with window k leads to, with that message
abbrev pub afterwards : Component → Entry → Pick → Option ℕ → Entry
afterwards C at k m = leaves (arc_of C k.edge) m (at.tick + k.end) at

-- what the edge of window k does
abbrev pub action_of : Component → Pick → Action
action_of C k = (arc_of C k.edge).edge.action

-- ## By what it stands at

module _ (p : List ℕ) (C : Component) (i : ℕ) (at : Entry) (r : Node) where
  -- the node after its statement
  abbrev pub following : Node
  following = finish p r r.rest

  -- at the sleep: it leads to the work, where that stays in range
  pub record AtSleep : Type 0 where
    pub pick : Pick
    pub asleep : Asleep C i at pick r
    pub next : (ws : List ℤ) → updated (arc_of C pick.edge).updates at.values ≡ some ws → Working C i at pick following

  -- at a send: it leads to the destination
  pub record AtSend (c : ℕ) : Type 0 where
    pub pick : Pick
    pub at_work : Working C i at pick r
    pub action : action_of C pick ≡ Send c
    pub next : Heading C (suc i) (afterwards C at pick (some c)) following

  -- at a listen: without a message it leads to the destination, with one that its edge names to the paired location
  pub record AtListen (qs : List Pair) : Type 0 where
    pub pick : Pick
    pub at_work : Working C i at pick r
    pub action : action_of C pick ≡ Receive
    pub pairs : qs ≡ (arc_of C pick.edge).pairs
    pub next : Heading C (suc i) (afterwards C at pick none) following
    pub taken : (c : ℕ) → any (λ q. eqb q.channel c) qs ≡ true → Heading C (suc i) (afterwards C at pick (some c)) (takes_message p c r)

  -- at the done of an internal edge: it leads to the destination
  pub record AtDone : Type 0 where
    pub pick : Pick
    pub at_work : Working C i at pick r
    pub action : action_of C pick ≡ Internal
    pub next : Heading C (suc i) (afterwards C at pick none) following

  -- at an update: the work goes on
  pub record AtUpdate : Type 0 where
    pub pick : Pick
    pub at_work : Working C i at pick r
    pub action : action_of C pick ≡ Internal
    pub next : Working C i at pick following

  -- at an addition: its sum stays in range
  pub record AtAddition (v : ℕ) (z : ℤ) : Type 0 where
    pub update : AtUpdate
    pub ranged : in_range (value_at r.values v +ℤ z) ≡ true

  -- at the take: what is kept is what the schedule chooses; where there is such an edge it leads to its sleep
  pub record AtTake : Type 0 where
    pub heading : Heading C i at r
    pub goes : r.goes ≡ none
    pub kept : r.kept ≡ choice C at
    pub next : (k : Pick) → choice C at ≡ some k → Asleep C i at k following

  -- elsewhere on the way to the sleep
  pub record OnWay : Type 0 where
    pub heading : Heading C i at r
    pub next : Heading C i at following

  -- all of it, by what the node stands at
  abbrev pub AtStand : Stand → Type 0
  AtStand sleeping = AtSleep
  AtStand (sending c) = AtSend c
  AtStand (listening qs) = AtListen qs
  AtStand finishing = AtDone
  AtStand (adding v z) = AtAddition v z
  AtStand working = AtUpdate
  AtStand taking = AtTake
  AtStand elsewhere = OnWay
  AtStand nowhere = ⊥

-- ## The law

module _ {p : List ℕ} {channels : TableHeader} {C : Component} (coded : Coded p C) (fits : ComponentIn channels C) {i : ℕ} {at : Entry} {r : Node} where
  ageing_at : Ageing C i at r → OnWay p C i at r
  ageing_at g = record { heading = is_ageing g; next = go g.young refl }
    where
      go : (ys : List ℕ) → g.young ≡ ys → Heading C i at (finish p r r.rest)
      go [] e = is_entered (enter_step p g e)
      go (y ∷ ys) e = is_ageing (age_step p g y ys e)

  entered_at : Entered C i at r → OnWay p C i at r
  entered_at g = record { heading = is_entered g; next = is_choosing (choose_step coded g) }

  choosing_at : Choosing C i at r → AtStand p C i at r (stand_of r)
  choosing_at g = go g.left refl
    where
      go : (l : List Statement) → g.left ≡ l → AtStand p C i at r (stand_of r)
      go [] e =
          subst (AtStand p C i at r) (sym (choosing_taking g e))
          (record { heading = is_choosing g; goes = g.goes; kept = at_take g e; next = λ k c. take_step coded g e c })
      go (s ∷ ss) e = subst (AtStand p C i at r) (sym (choosing_elsewhere g s ss e)) (record { heading = is_choosing g; next = is_choosing (choosing_step g p s ss e) })

  asleep_at : (k : Pick) → Asleep C i at k r → AtSleep p C i at r
  asleep_at k g = record { pick = k; asleep = g; next = λ ws ranged. sleep_step p fits g ws ranged }

  -- the work finished by its last statement s, which itself changes nothing
  left_by : (k : Pick) (g : Working C i at k r) (s : Statement) (m : Option ℕ) → ((q : Node) → exec p q s ≡ q) → r.values ≡ g.results
      → r.rest ≡ s ∷ after_work C (arc_of C k.edge) → (arc_of C k.edge).edge.destination ≡ leads_to (arc_of C k.edge) m
      → Heading C (suc i) (afterwards C at k m) (finish p r r.rest)
  left_by k g s m idle acted rest leads =
      subst (λ (l : List Statement). Heading C (suc i) (afterwards C at k m) (finish p r l)) (sym rest)
      (subst (Heading C (suc i) (afterwards C at k m)) (sym (idle (to r (after_work C (arc_of C k.edge)))))
      (is_ageing (work_ends fits g acted m r.goes (ap (λ (o : Option ℕ). or_else o (arc_of C k.edge).edge.destination) g.goes ∙ leads))))

  -- at an update or at the done behind them
  update-at : (k : Pick) (g : Working C i at k r) (us : List Update) → action_of C k ≡ Internal → updated us r.values ≡ some g.results
      → r.rest ≡ map update_of us ++ (done ∷ after_work C (arc_of C k.edge)) → AtStand p C i at r (stand_of r)
  unfolding updated exec
  update-at k g [] act leads rest =
      subst (AtStand p C i at r) (sym (ap stand_at rest))
      (record { pick = k; at_work = g; action = act; next = left_by k g done none (λ q. refl) (some_same leads) rest refl })
  update-at k g (u ∷ us) act leads rest = subst (AtStand p C i at r) (sym (ap stand_at rest)) (go u.adds refl)
    where
      update : AtUpdate p C i at r
      update = record { pick = k; at_work = g; action = act; next = update_step p g u us act leads rest }

      go : (t : Bool) → u.adds ≡ t → AtStand p C i at r (stand (cond t (add_to u.variable u.number) (set_to u.variable u.number)))
      go true e = record { update = update; ranged = ap (λ (t : Bool). in_range (cond t (value_at r.values u.variable +ℤ u.number) u.number)) (sym e) ∙ (update_is u us r.values g.results leads).0 }
      go false e = update

  -- at a listen
  listen_at : (k : Pick) (g : Working C i at k r) → action_of C k ≡ Receive → r.values ≡ g.results
      → r.rest ≡ listen (arc_of C k.edge).pairs ∷ after_work C (arc_of C k.edge) → AtListen p C i at r (arc_of C k.edge).pairs
  unfolding exec
  listen_at k g act acted rest =
      record { pick = k; at_work = g; action = act; pairs = refl; next = left_by k g (listen a.pairs) none (λ q. refl) acted rest refl; taken = taken }
    where
      a : Arc
      a = arc_of C k.edge

      taken : (c : ℕ) → any (λ q. eqb q.channel c) a.pairs ≡ true → Heading C (suc i) (afterwards C at k (some c)) (takes_message p c r)
      taken c named =
          subst
          (λ (l : List Statement). Heading C (suc i) (afterwards C at k (some c)) (with_place (finish p r l) (finish p r l).location (some (paired (pairs_at (stand_at l)) c 0))))
          (sym rest)
          (is_ageing
          (work_ends fits g acted (some c) (some (paired a.pairs c 0))
          (paired_named a.pairs c 0 a.edge.destination named ∙ sym (ap (λ (act : Action). cond (receives act) (paired a.pairs c a.edge.destination) a.edge.destination) act))))

  working_at : (k : Pick) → Working C i at k r → AtStand p C i at r (stand_of r)
  unfolding exec
  working_at k g = go g.doing
    where
      a : Arc
      a = arc_of C k.edge

      go : Doing C a g.results r → AtStand p C i at r (stand_of r)
      go (updating us act leads rest) = update-at k g us act leads rest
      go (to_send c act acted rest) =
          subst (AtStand p C i at r) (sym (ap stand_at rest))
          (record {
            pick = k;
            at_work = g;
            action = act;
            next = left_by k g (send c) (some c) (λ q. refl) acted rest (sym (ap (λ (act : Action). cond (receives act) (paired a.pairs c a.edge.destination) a.edge.destination) act));
          })
      go (to_listen act acted rest) = subst (AtStand p C i at r) (sym (ap stand_at rest)) (listen_at k g act acted rest)

  -- in any phase: what it stands at tells the rest
  pub phase_at : Phase C i at r → AtStand p C i at r (stand_of r)
  phase_at (is_heading (is_ageing g)) = subst (AtStand p C i at r) (sym (ageing_elsewhere g)) (ageing_at g)
  phase_at (is_heading (is_entered g)) = subst (AtStand p C i at r) (sym (entered_elsewhere g)) (entered_at g)
  phase_at (is_heading (is_choosing g)) = choosing_at g
  phase_at (is_asleep k g) = subst (AtStand p C i at r) (sym (asleep_sleeping g)) (asleep_at k g)
  phase_at (is_working k g) = working_at k g
