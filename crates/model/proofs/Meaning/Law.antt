-- Acceptance means it: on every path that keeps to an accepted schedule, a component in its send window below the horizon has exactly one partner
-- with which the joint step is allowed. Assumes nothing.
use mathlib.Core.Path.{◌≡◌, refl, sym, ap, ap₂, subst, ◌∙◌}
use mathlib.Core.Logic.{◌⊎◌, inl, inr}
use mathlib.Core.Bool.{Bool, true, false, cond}
use mathlib.Core.List.{List, [], ◌∷◌, ◌++◌}
use mathlib.Core.Option.{Option, none, some}
use Prim.Native.Nat.{ℕ, pred, ◌≤◌, ◌<◌}
use native.Mathlib.Omega.{arith}
use borrow.Author.Tests.{lt-ltb, eqb-true, eqb-false, ne_eqb}
use lib.Dec.{eqb}
use lib.ListN.{length, length-set}
use Rattle.model.specs.Lists.{◌∈◌, accepted}
use Rattle.model.specs.Table.{Table, Read, size, component_of, arc_of}
use Rattle.model.specs.Limits.{InLimits}
use Rattle.model.specs.Window.{Entry, channel_of, listens}
use Rattle.model.specs.Schedule.{Passage, passage_arc, own, names, others}
use Rattle.model.specs.Checks.{is_send, may_hear, accepted_schedule_of, passage_at}
use Rattle.model.specs.Network.{State, PathPassage, Taken, Label, together, passage_in, start, may_step_in, may_join, step, waits, with_passage}
use Rattle.model.specs.Demand3.{TakenAs, PassAs, SteppedBefore}
use Rattle.model.specs.Progress.{present_of, OnSchedule, Sending, meet, may_meet, OnePartner, Means}
use Rattle.model.proofs.Reader.Parts.{some_clash}
use Rattle.model.proofs.Checks.Heard.{Listener, heard_law, single_law, send_is, hears_is, others_is}
use Rattle.model.proofs.Schedule.Own.{in_own, own_in}
use Rattle.model.proofs.Network.Passage.{Fits, from_entry, place_in, may-step-in}
use Rattle.model.proofs.Network.Rules.{Step, joins, step_is}
use Rattle.model.proofs.Network.Steps.{sends_only}
use Rattle.model.proofs.Network.Ways.{left_on}
use Rattle.model.proofs.Network.Partners.{component_there, fits_in, heard_message, hears_now}
use Rattle.model.proofs.Reader.Limits.{read_limits}
use Rattle.model.proofs.Run.Tied.{Given, given, at_zero}
use Rattle.model.proofs.Meaning.Path.{sound_start, start_free}
use Rattle.model.proofs.Meaning.Heard.{steps_within, within_passage, Spoken, heard-from}
use Rattle.model.proofs.Meaning.Step.{put_same, put_other}
use Rattle.model.proofs.Meaning.Pass.{passages_are, Beside}
use Rattle.model.proofs.Meaning.Present.{Present, steps, sound, present}
use Rattle.model.proofs.Meaning.Stays.{pass_put, stepped_put, leads_on, led_on, passages-on, joined, joins_to, scheduled_edge}

-- a component that is not waiting, in its present passage
free_place : {p : PathPassage} (v : Passage) → p.entry ≡ v.entry → p.waiting ≡ none → p ≡ place_in v false
free_place v e f = ap₂ (λ (x : Entry) (o : Option Taken). record { entry = x; waiting = o }) e f

module _ {t : Read} {H : ℕ} {S : List Passage} (G : Given t H S []) {path : List Label} {s : State} (O : OnSchedule t.table S path s) {a : ℕ} (Z : Sending t.table H S path s a) where
  -- the table
  abbrev T : Table
  T = t.table

  -- the present passage of each component
  abbrev N : ℕ → Passage
  N c = present_of t.table S path c

  -- where the sender stands
  A : Present t S path s a (N a)
  A = present G O a Z.there

  -- its passage is one of the schedule
  mine : (N a ∈ S) × ((N a).component ≡ a)
  mine = own_in a S A.listed

  -- a send below the horizon
  sends : is_send T H (N a) ≡ true
  sends = (send_is T H (N a)).1 (Z.channel, Z.sends, omega (arith, Z.ready, Z.below))

  -- its channel
  channel : channel_of (arc_of (component_of T a) (N a).edge) ≡ some Z.channel
  channel = subst (λ (c : ℕ). channel_of (arc_of (component_of T c) (N a).edge) ≡ some Z.channel) mine.1 Z.sends

  -- the one receive window that 11 found
  R : Listener 0 T S (N a)
  R = heard_law 0 T H S (at_zero G) (N a) mine.0 sends

  -- its component
  abbrev b : ℕ
  b = R.passage.component

  -- it is there
  there : b < size T
  there = component_there G.most T H S G.sched R.passage R.listed

  -- where it stands
  B : Present t S path s b (N b)
  B = present G O b there

  -- it is in that window
  is_now : R.passage ≡ N b
  is_now = go (B.others R.passage (in_own R.listed))
    where
      f : Fits (component_of T b) R.passage
      f = fits_in G.most T H S G.sched R.passage R.listed

      go : (R.passage.end ≤ (N b).entry.tick) ⊎ ((R.passage ≡ N b) ⊎ ((N b).end ≤ R.passage.entry.tick)) → R.passage ≡ N b
      go (inl i) = absurd (omega (arith, B.since, A.before, R.later))
      go (inr (inl i)) = i
      go (inr (inr i)) = absurd (omega (arith, from_entry f, R.earlier, Z.ready, B.before))

  -- it hears the sender
  hears : may_hear 0 T (N b) (N a) ≡ true
  hears = subst (λ (x : Passage). may_hear 0 T x (N a) ≡ true) is_now R.hears

  -- it began before now
  begun : (N b).ready ≤ s.tick
  begun = subst (λ (x : Passage). x.ready ≤ s.tick) is_now (omega (arith, R.earlier, Z.ready))

  -- it is a passage of the schedule
  yours : (N b ∈ S) × ((N b).component ≡ b)
  yours = own_in b S B.listed

  -- its edge receives
  receives : listens (arc_of (component_of T b) (N b).edge) ≡ true
  receives = subst (λ (c : ℕ). listens (arc_of (component_of T c) (N b).edge) ≡ true) yours.1 ((hears_is 0 T (N b) (N a)).0 hears).0

  -- and names the channel
  named : names (arc_of (component_of T b) (N b).edge) (some Z.channel) ≡ true
  named =
      subst (λ (c : ℕ). names (arc_of (component_of T c) (N b).edge) (some Z.channel) ≡ true) yours.1
      (ap (names (passage_arc T (N b))) (sym Z.sends) ∙ ((hears_is 0 T (N b) (N a)).0 hears).2)

  -- the two are different
  differ : a ≡ b → ⊥
  differ e = (others_is (N b) (N a)).0 ((hears_is 0 T (N b) (N a)).0 hears).1 (yours.1 ∙ (sym e ∙ sym mine.1))

  -- ## It has taken nothing

  -- a send that it heard would be the sender's, which has yet to step in
  not_spoken : (w : Taken) → w.edge ≡ (N b).edge → Spoken T b (passage_in s b) w.edge Z.channel (start T) path s.tick → ⊥
  not_spoken w we p = go (K.passed p.place p.listed)
    where
      c : ℕ
      c = p.sender

      K : Present t S path s c (N c)
      K = present G O c p.there

      -- the passage that it was heard from
      same : (y : Passage) → y ∈ own c S → Beside p.place y → N a ≡ y
      same y m k =
          let o = own_in c S m in
          let f : Fits (component_of T c) y = subst (λ (n : ℕ). Fits (component_of T n) y) o.1 (fits_in G.most T H S G.sched y o.0) in
          let q : TakenAs (some p.taken) y = subst (λ (x : Option Taken). TakenAs x y) p.waiting k.taken in
          let i = within_passage f k.entry q.0 p.sending in
          let j = within_passage B.fits B.beside.entry we p.hearing in
          let ch : channel_of (arc_of (component_of T c) y.edge) ≡ some Z.channel =
          subst (λ (n : ℕ). channel_of (arc_of (component_of T c) n) ≡ some Z.channel) q.0 p.channel in
          let n =
          hears_now G.most T H S G.sched (at_zero G) p.at c b Z.channel y (N b) o.0 yours.0 o.1 yours.1 p.differ ch receives named i.0 i.1 j.0 j.1
          (omega (arith, p.before, Z.below)) in
          single_law 0 T H S (at_zero G) (N b) (N a) y yours.0 mine.0 o.0 sends n.0 hears n.1

      -- so that the two are one
      one : (y : Passage) → y ∈ own c S → N a ≡ y → c ≡ a
      one y m e = sym (own_in c S m).1 ∙ (ap (λ (x : Passage). x.component) (sym e) ∙ mine.1)

      go : (p.place ≡ passage_in s c) ⊎ ((y : Passage) × (y ∈ own c S) × Beside p.place y × (y.end ≤ (N c).entry.tick)) → ⊥
      go (inl q) =
          let e = one (N c) K.listed (same (N c) K.listed (subst (λ (x : PathPassage). Beside x (N c)) (sym q) K.beside)) in
          some_clash (sym (ap (λ (n : ℕ). (passage_in s n).waiting) (sym e) ∙ (ap (λ (x : PathPassage). x.waiting) (sym q) ∙ p.waiting)) ∙ Z.free)
      go (inr y) =
          let e = same y.0 y.1 y.2 in
          let n = one y.0 y.1 e in
          let i : N c ≡ y.0 = ap N n ∙ e in
          let f = K.fits in
          omega (arith, y.3, ap (λ (x : Passage). x.end) i, from_entry f, f.window)

  -- it is not waiting
  free : (passage_in s b).waiting ≡ none
  free = go (passage_in s b).waiting refl
    where
      go : (o : Option Taken) → (passage_in s b).waiting ≡ o → o ≡ none
      go none e = refl
      go (some w) e = absurd (by (heard-from b there (sound_start T) (steps G O) w Z.channel e message listening))
        where
          q : TakenAs (some w) (N b)
          q = subst (λ (x : Option Taken). TakenAs x (N b)) e B.beside.taken

          message : w.message ≡ some Z.channel
          message = q.1 ∙ (heard_message G.most T H S G.sched (at_zero G) (N a) (N b) mine.0 yours.0 sends hears ∙ Z.sends)

          listening : listens (arc_of (component_of T b) w.edge) ≡ true
          listening = subst (λ (n : ℕ). listens (arc_of (component_of T b) n) ≡ true) (sym q.0) receives

          by : (passage_in (start T) b ≡ passage_in s b) ⊎ Spoken T b (passage_in s b) w.edge Z.channel (start T) path s.tick → ⊥
          by (inl i) = some_clash (sym (ap (λ (x : PathPassage). x.waiting) i ∙ e) ∙ start_free T b there)
          by (inr p) = not_spoken w q.0 p

  -- ## The joint step

  -- a component in its window may step in
  steps_in : (c : ℕ) → Present t S path s c (N c) → (passage_in s c).waiting ≡ none → (N c).ready ≤ s.tick → may_step_in (component_of T c) s.tick (passage_in s c) (N c).edge ≡ true
  steps_in c K w l =
      subst (λ (p : PathPassage). may_step_in (component_of T c) s.tick p (N c).edge ≡ true) (sym (free_place (N c) K.beside.entry w)) (may-step-in K.fits s.tick K.since l K.before)

  -- the joint step is allowed
  allowed : may_meet T S path s a b ≡ true
  allowed = rw (
    lt-ltb a (size T) Z.there,
    lt-ltb b (size T) there,
    ne_eqb a b differ,
    steps_in a A Z.free Z.ready,
    steps_in b B free begun,
    channel,
    receives,
    named,
  )

  -- with no other component
  only_one : (c : ℕ) → may_meet T S path s a c ≡ true → c ≡ b
  unfolding step
  only_one c e = go ((step_is T s (together a (N a).edge c (N c).edge) after).0 (ap (λ (x : Bool). cond x (some after) none) e))
    where
      k : Option ℕ
      k = channel_of (arc_of (component_of T a) (N a).edge)

      after : State
      after = with_passage (with_passage s a (waits (passage_in s a) (N a).edge k)) c (waits (passage_in s c) (N c).edge k)

      go : {u : State} → Step T s (together a (N a).edge c (N c).edge) u → c ≡ b
      go (joins {k = k} ha hc n ka kc ch li na) =
          let K = present G O c hc in
          let o = own_in c S K.listed in
          let i = within_passage K.fits K.beside.entry refl (steps_within ((sound G O).since c hc) kc none) in
          let m =
          hears_now G.most T H S G.sched (at_zero G) s.tick a c k (N a) (N c) mine.0 o.0 mine.1 o.1 n ch li na Z.ready A.before i.0 i.1 Z.below in
          sym o.1 ∙ ap (λ (x : Passage). x.component) (R.unique (N c) o.0 m.1)

  -- ## The path with it

  -- the channel sent, if any
  abbrev sent : Option ℕ
  sent = channel_of (arc_of (component_of T a) (N a).edge)

  -- the sender, stepped in
  abbrev sender : PathPassage
  sender = waits (passage_in s a) (N a).edge sent

  -- the receiver, stepped in
  abbrev receiver : PathPassage
  receiver = waits (passage_in s b) (N b).edge sent

  -- the state after the joint step
  abbrev after : State
  after = with_passage (with_passage s a sender) b receiver

  -- the step leads there
  leads : step T s (meet T S path a b) ≡ some after
  leads = joins_to T s a (N a).edge b (N b).edge allowed

  -- component c after the step passes as the schedule says, and misses no window
  abbrev Kept : ℕ → PathPassage → Type 0
  Kept c p = PassAs (left_on T c (start T) path ++ (p ∷ [])) (own c S) × SteppedBefore s.tick (left_on T c (start T) path ++ (p ∷ [])) (own c S)

  -- as it did before
  as_before : (c : ℕ) → c < size T → Kept c (passage_in s c)
  as_before c h =
      let e = passages_are T c (start T) path O.valid in
      (subst (λ (ps : List PathPassage). PassAs ps (own c S)) e (O.scheduled c h), subst (λ (ps : List PathPassage). SteppedBefore s.tick ps (own c S)) e (O.kept c h))

  -- stepped in on the schedule's edge, with the schedule's message
  stepped : (c : ℕ) → c < size T → (m : Option ℕ) → m ≡ (N c).message → Kept c (waits (passage_in s c) (N c).edge m)
  stepped c h m e =
      let k = as_before c h in
      let left = left_on T c (start T) path in
      let q = waits (passage_in s c) (N c).edge m in
      let i : N c ≡ passage_at (own c S) (pred (length (left ++ (passage_in s c ∷ [])))) =
      ap (λ (ps : List PathPassage). passage_at (own c S) (pred (length ps))) (passages_are T c (start T) path O.valid) in (
        pass_put left (passage_in s c) q (own c S) k.0 refl (subst (TakenAs q.waiting) i (refl, e)),
        stepped_put s.tick left (passage_in s c) q (own c S) k.1 tt,
      )

  -- so it is with every component
  each_kept : (c : ℕ) → c < size T → Kept c (passage_in after c)
  each_kept c h = go (eqb c b) refl (eqb c a) refl
    where
      long : b < length (with_passage s a sender).present
      long = subst (λ (n : ℕ). b < n) (sym (length-set s.present a sender ∙ (sound G O).full)) there

      said : sent ≡ (N a).message
      said = sym (A.fits.said (sends_only (arc_of (component_of T a) (N a).edge) Z.channel channel))

      heard : sent ≡ (N b).message
      heard = channel ∙ (sym Z.sends ∙ sym (heard_message G.most T H S G.sched (at_zero G) (N a) (N b) mine.0 yours.0 sends hears))

      go : (x : Bool) → eqb c b ≡ x → (y : Bool) → eqb c a ≡ y → Kept c (passage_in after c)
      go true q y r =
          subst (λ (n : ℕ). Kept n (passage_in after n)) (sym (eqb-true c b q))
          (subst (Kept b) (sym (put_same (with_passage s a sender) b receiver long)) (stepped b there sent heard))
      go false q true r =
          subst (λ (n : ℕ). Kept n (passage_in after n)) (sym (eqb-true c a r))
          (subst (Kept a) (sym (put_other (with_passage s a sender) b receiver a differ ∙ put_same s a sender (omega (arith, (sound G O).full, Z.there))))
          (stepped a Z.there sent said))
      go false q false r =
          subst (Kept c) (sym (put_other (with_passage s a sender) b receiver c (eqb-false c b q) ∙ put_other s a sender c (eqb-false c a r))) (as_before c h)

  -- with the joint step the path keeps to the schedule
  keeps : OnSchedule T S (path ++ (meet T S path a b ∷ [])) after
  keeps =
      let e = passages-on T path s O.valid a (N a).edge b (N b).edge after leads in
      record {
        valid = leads_on T path s O.valid a (N a).edge b (N b).edge after leads;
        scheduled = λ c h. subst (λ (ps : List PathPassage). PassAs ps (own c S)) (sym (e c)) (each_kept c h).0;
        kept = λ c h. subst (λ (ps : List PathPassage). SteppedBefore s.tick ps (own c S)) (sym (e c)) (each_kept c h).1;
      }

  -- and with no other one of the sender
  only_this : (e c f : ℕ) (u : State) → OnSchedule T S (path ++ (together a e c f ∷ [])) u → together a e c f ≡ meet T S path a b
  only_this e c f u O₂ = go u ((step_is T s (together a e c f) u).0 q) refl
    where
      q : step T s (together a e c f) ≡ some u
      q = led_on T path s O.valid a e c f u O₂.valid

      -- component d, stepped in, took the schedule's edge
      edge : (d : ℕ) → d < size T → (w : Taken) → (passage_in u d).waiting ≡ some w → w.edge ≡ (N d).edge
      edge d h w i =
          scheduled_edge T S path s O.valid d (passage_in u d) w i
          (subst (λ (ps : List PathPassage). PassAs ps (own d S)) (passages-on T path s O.valid a e c f u q d) (O₂.scheduled d h))

      go : (w : State) → Step T s (together a e c f) w → u ≡ w → together a e c f ≡ meet T S path a b
      go w (joins {k = k} ha hc n ka kc ch li na) same =
          let pa = waits (passage_in s a) e (some k) in
          let pc = waits (passage_in s c) f (some k) in
          let long : c < length (with_passage s a pa).present = subst (λ (n : ℕ). c < n) (sym (length-set s.present a pa ∙ (sound G O).full)) hc in
          let at_a = ap (λ (x : State). passage_in x a) same ∙ put_other (with_passage s a pa) c pc a n ∙ put_same s a pa (omega (arith, (sound G O).full, ha)) in
          let at_c = ap (λ (x : State). passage_in x c) same ∙ put_same (with_passage s a pa) c pc long in
          let i : e ≡ (N a).edge = edge a ha (record { edge = e; message = some k }) (ap (λ (x : PathPassage). x.waiting) at_a) in
          let j : f ≡ (N c).edge = edge c hc (record { edge = f; message = some k }) (ap (λ (x : PathPassage). x.waiting) at_c) in
          let m : may_meet T S path s a c ≡ true =
          subst (λ (x : ℕ). may_join T s a x c (N c).edge ≡ true) i (subst (λ (x : ℕ). may_join T s a e c x ≡ true) j (joined T path s O.valid a e c f u q)) in
          ap (λ (x : ℕ). together a x c f) i
          ∙ (ap (λ (x : ℕ). together a (N a).edge c x) j ∙ ap (λ (x : ℕ). together a (N a).edge x (N x).edge) (only_one c m))

  -- exactly one partner
  pub one_partner : OnePartner t.table S path s a
  one_partner = record { partner = b; allowed = allowed; hears = hears; alone = only_one; keeps = (after, keeps); only = only_this }

-- for every table in the limits that is accepted
pub means : (t : Read) (S : List Passage) → InLimits t → accepted_schedule_of t ≡ accepted S → (path : List Label) (s : State) → OnSchedule t.table S path s
    → (a : ℕ) → Sending t.table t.horizon S path s a → OnePartner t.table S path s a
means t S h e path s O a Z = one_partner (given t S h e) O Z

-- for every list of numbers that is read as a table and accepted
pub meant : Means
meant bytes t S r e path s O a Z = means t S (read_limits bytes t r) e path s O a Z
