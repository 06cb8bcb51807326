-- What a node is due for and what it hears, phase by phase, in the terms of its passage. Assumes nothing.
use mathlib.Core.Path.{◌≡◌, refl, sym, ap, subst, ◌∙◌}
use mathlib.Core.Bool.{Bool, true, false, cond, ◌&&◌, and-true}
use mathlib.Core.List.{List, [], ◌∷◌}
use mathlib.Core.Option.{Option, some}
use Prim.Native.Nat.{ℕ, ◌+◌, ◌≤◌}
use borrow.Author.Tests.{leb-true}
use lib.Dec.{leb, eqb}
use Rattle.model.specs.declared.Action.{Action}
use Rattle.model.specs.declared.Action.TheVariants.{Internal, Send, Receive}
use Rattle.model.specs.declared.Update.{Update}
use Rattle.model.specs.Lists.{any, is_none}
use Rattle.model.specs.Table.{Arc, Component, arc_of}
use Rattle.model.specs.Window.{Entry, Pick, receives, listens}
use Rattle.model.specs.Program.{Statement, set_to, add_to, update_of}
use Rattle.model.specs.Network.{hears_on}
use Rattle.model.specs.Machine.{Node}
use Rattle.model.specs.Run.{Setting, Stand, sleeping, sending, listening, finishing, adding, working, taking, elsewhere, nowhere, stand, stand_at, stand_of, names, offset_of, hears, due}
use Rattle.model.proofs.Basics.Bools.{clash, and_is}
use Rattle.model.proofs.Node.Choosing.{Asleep, asleep_sleeping}
use Rattle.model.proofs.Node.Working.{Doing, updating, to_send, to_listen, Working}
use Rattle.model.proofs.Node.Phase.{Heading, Phase, is_heading, is_asleep, is_working, action_of}
use Rattle.model.proofs.Node.Facts.{is_way, heading_stand, working_end}

-- ## Where it stands at work

-- at an internal edge's work
abbrev pub is_internal : Stand → Bool
is_internal sleeping = false
is_internal (sending c) = false
is_internal (listening qs) = false
is_internal finishing = true
is_internal (adding v z) = true
is_internal working = true
is_internal taking = false
is_internal elsewhere = false
is_internal nowhere = false

-- what a node at work stands at, by the edge's action
abbrev pub StandsAs : Arc → Stand → Action → Type 0
StandsAs a s Internal = is_internal s ≡ true
StandsAs a s (Send c) = s ≡ sending c
StandsAs a s Receive = s ≡ listening a.pairs

update_internal : (u : Update) → is_internal (stand (update_of u)) ≡ true
update_internal u = go u.adds
  where
    go : (t : Bool) → is_internal (stand (cond t (add_to u.variable u.number) (set_to u.variable u.number))) ≡ true
    go true = refl
    go false = refl

module _ {C : Component} {i : ℕ} {at : Entry} {k : Pick} {r : Node} (g : Working C i at k r) where
  -- an internal edge: at its updates or done; a send; a listen with the edge's pairs
  pub working_as : StandsAs (arc_of C k.edge) (stand_of r) (action_of C k)
  working_as = go g.doing
    where
      F : Action → Type 0
      F act = StandsAs (arc_of C k.edge) (stand_of r) act

      go : Doing C (arc_of C k.edge) g.results r → F (action_of C k)
      go (updating [] act leads rest) = subst F (sym act) (ap (λ (l : List Statement). is_internal (stand_at l)) rest)
      go (updating (u ∷ us) act leads rest) = subst F (sym act) (ap (λ (l : List Statement). is_internal (stand_at l)) rest ∙ update_internal u)
      go (to_send c act acted rest) = subst F (sym act) (ap stand_at rest)
      go (to_listen act acted rest) = subst F (sym act) (ap stand_at rest)

  -- a node at a send edge's work stands at the send
  pub stands_sending : (c : ℕ) → action_of C k ≡ Send c → stand_of r ≡ sending c
  stands_sending c act = subst (StandsAs (arc_of C k.edge) (stand_of r)) act working_as

  -- a node at a receive edge's work stands at the listen, with the edge's pairs
  pub stands_listening : action_of C k ≡ Receive → stand_of r ≡ listening (arc_of C k.edge).pairs
  stands_listening act = subst (StandsAs (arc_of C k.edge) (stand_of r)) act working_as

  -- a node at an internal edge's work stands there
  pub stands_internal : action_of C k ≡ Internal → is_internal (stand_of r) ≡ true
  stands_internal act = subst (StandsAs (arc_of C k.edge) (stand_of r)) act working_as

-- ## Due

due_way : (s : Setting) (now : ℕ) (r : Node) (x : Stand) → is_way x ≡ true → due s now r x ≡ false
due_way s now r sleeping e = clash e
due_way s now r (sending c) e = refl
due_way s now r (listening qs) e = clash e
due_way s now r finishing e = refl
due_way s now r (adding v z) e = refl
due_way s now r working e = refl
due_way s now r taking e = refl
due_way s now r elsewhere e = refl
due_way s now r nowhere e = refl

due_internal : (s : Setting) (now : ℕ) (r : Node) (x : Stand) → is_internal x ≡ true → due s now r x ≡ false
due_internal s now r sleeping e = clash e
due_internal s now r (sending c) e = refl
due_internal s now r (listening qs) e = clash e
due_internal s now r finishing e = refl
due_internal s now r (adding v z) e = refl
due_internal s now r working e = refl
due_internal s now r taking e = refl
due_internal s now r elsewhere e = refl
due_internal s now r nowhere e = refl

module _ {C : Component} {i : ℕ} {at : Entry} {r : Node} (s : Setting) (now : ℕ) where
  -- on the way to a sleep it is due for nothing
  pub heading_due : Heading C i at r → due s now r (stand_of r) ≡ false
  heading_due g = due_way s now r (stand_of r) (heading_stand g)

  -- asleep it is due at the window's ready
  pub asleep_due : {k : Pick} → Asleep C i at k r → due s now r (stand_of r) ≡ eqb now (at.tick + k.ready)
  asleep_due g = ap (due s now r) (asleep_sleeping g) ∙ ap (eqb now) g.t

  -- at work it is due only as it listens, at the window's end
  pub working_due : {k : Pick} → Working C i at k r → due s now r (stand_of r) ≡ cond (listens (arc_of C k.edge)) (eqb now (at.tick + k.end)) false
  working_due {k} g = go (action_of C k) (working_as g)
    where
      go : (act : Action) → StandsAs (arc_of C k.edge) (stand_of r) act → due s now r (stand_of r) ≡ cond (receives act) (eqb now (at.tick + k.end)) false
      go Internal e = due_internal s now r (stand_of r) e
      go (Send c) e = ap (due s now r) e
      go Receive e = ap (due s now r) e ∙ ap (eqb now) (working_end g)

-- ## Hearing

names_way : (c : ℕ) (x : Stand) → is_way x ≡ true → names c x ≡ false
names_way c sleeping e = refl
names_way c (sending a) e = refl
names_way c (listening qs) e = clash e
names_way c finishing e = refl
names_way c (adding v z) e = refl
names_way c working e = refl
names_way c taking e = refl
names_way c elsewhere e = refl
names_way c nowhere e = refl

names_internal : (c : ℕ) (x : Stand) → is_internal x ≡ true → names c x ≡ false
names_internal c sleeping e = refl
names_internal c (sending a) e = refl
names_internal c (listening qs) e = clash e
names_internal c finishing e = refl
names_internal c (adding v z) e = refl
names_internal c working e = refl
names_internal c taking e = refl
names_internal c elsewhere e = refl
names_internal c nowhere e = refl

-- what it means that node n, r, hears on channel c a sender whose window began at that common tick
pub record Hearing (g : Setting) (C : Component) (i : ℕ) (at : Entry) (n : ℕ) (r : Node) (c since : ℕ) : Type 0 where
  pub pick : Pick
  pub at_work : Working C i at pick r
  pub action : listens (arc_of C pick.edge) ≡ true
  pub named : any (λ q. eqb q.channel c) (arc_of C pick.edge).pairs ≡ true
  pub began : at.tick + pick.ready + offset_of g n ≤ since

module _ (s : Setting) {C : Component} {i : ℕ} {at : Entry} {r : Node} (c since n : ℕ) where
  -- on the way to a sleep it hears nothing
  pub heading_hears : Heading C i at r → hears s c since n r ≡ false
  heading_hears g = ap (λ (t : Bool). t && is_none r.goes && leb (r.t + offset_of s n) since) (names_way c (stand_of r) (heading_stand g))

  -- nor asleep
  pub asleep_hears : {k : Pick} → Asleep C i at k r → hears s c since n r ≡ false
  asleep_hears g = ap (λ (t : Bool). t && is_none r.goes && leb (r.t + offset_of s n) since) (ap (names c) (asleep_sleeping g))

  working_names : {k : Pick} → Working C i at k r → names c (stand_of r) ≡ hears_on (arc_of C k.edge) (some c)
  working_names {k} g = go (action_of C k) (working_as g)
    where
      go : (act : Action) → StandsAs (arc_of C k.edge) (stand_of r) act → names c (stand_of r) ≡ receives act && any (λ q. eqb q.channel c) (arc_of C k.edge).pairs
      go Internal e = names_internal c (stand_of r) e
      go (Send b) e = ap (names c) e
      go Receive e = ap (names c) e

  -- at work it hears a sender on the channels of its receive edge, one whose ready is its own or later
  pub working_hears : {k : Pick} → Working C i at k r → hears s c since n r ≡ hears_on (arc_of C k.edge) (some c) && leb (at.tick + k.ready + offset_of s n) since
  working_hears {k} g =
      ap (λ (t : Bool). t && is_none r.goes && leb (r.t + offset_of s n) since) (working_names g)
      ∙ (ap (λ (o : Option ℕ). named && is_none o && leb (r.t + offset_of s n) since) g.goes
      ∙ (ap (λ (t : Bool). t && leb (r.t + offset_of s n) since) (and-true named)
      ∙ ap (λ (m : ℕ). named && leb (m + offset_of s n) since) g.t))
    where
      named : Bool
      named = hears_on (arc_of C k.edge) (some c)

  -- a node that hears is at work on a receive edge that names the channel
  pub phase_hears : Phase C i at r → hears s c since n r ≡ true → Hearing s C i at n r c since
  phase_hears (is_heading g) e = clash (sym (heading_hears g) ∙ e)
  phase_hears (is_asleep k g) e = clash (sym (asleep_hears g) ∙ e)
  phase_hears (is_working k g) e =
      let h = (and_is (hears_on (arc_of C k.edge) (some c)) (leb (at.tick + k.ready + offset_of s n) since)).0 (sym (working_hears g) ∙ e) in
      let m = (and_is (listens (arc_of C k.edge)) (any (λ q. eqb q.channel c) (arc_of C k.edge).pairs)).0 h.0 in
      record { pick = k; at_work = g; action = m.0; named = m.1; began = leb-true (at.tick + k.ready + offset_of s n) since h.1 }
