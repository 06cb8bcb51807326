-- What lateness, dueness and listening read of a node, phase by phase, in the terms of its passage. Assumes nothing.
use mathlib.Core.Path.{◌≡◌, refl, ap, ◌∙◌}
use mathlib.Core.Logic.{◌⊎◌, inl, inr}
use mathlib.Core.Bool.{Bool, true, false, cond}
use mathlib.Core.List.{List, [], ◌∷◌}
use mathlib.Core.Option.{Option, none, some}
use Prim.Native.Nat.{ℕ, suc, pred, ◌+◌}
use native.Mathlib.Omega.{arith}
use lib.Dec.{ltb}
use Rattle.model.specs.declared.Update.{Update}
use Rattle.model.specs.Table.{Component, arc_of}
use Rattle.model.specs.Window.{Entry, Pick}
use Rattle.model.specs.Schedule.{Passage}
use Rattle.model.specs.Program.{Statement, sleep, set_to, add_to, done, send, listen, age, reset, enter, trial, low, high, data_low, data_high, keep, budget, take_edge, choose, update_of}
use Rattle.model.specs.Machine.{Node, exec, takes}
use Rattle.model.specs.Run.{Setting, Stand, sleeping, sending, listening, finishing, adding, working, taking, elsewhere, nowhere, stand, stand_at, stand_of, window_end, overdue, late}
use Rattle.model.specs.Demand3.{end_before, ready_before, late_in}
use Rattle.model.proofs.Basics.Bools.{clash}
use Rattle.model.proofs.Window.Choice.{choice_picked}
use Rattle.model.proofs.Node.Choosing.{choosing_elsewhere, choosing_taking, Asleep, asleep_sleeping}
use Rattle.model.proofs.Node.Ageing.{Ageing, ageing_elsewhere, entered_elsewhere}
use Rattle.model.proofs.Node.Working.{Doing, updating, to_send, to_listen, Working}
use Rattle.model.proofs.Node.Phase.{Heading, is_ageing, is_entered, is_choosing, Phase, is_heading, is_asleep, is_working}

-- ## Sleeps

-- how many sleeps are finished after a statement
abbrev pub sleeps_after : Statement → ℕ → ℕ
sleeps_after sleep n = suc n
sleeps_after (set_to v k) n = n
sleeps_after (add_to v k) n = n
sleeps_after done n = n
sleeps_after (send k) n = n
sleeps_after (listen qs) n = n
sleeps_after (age i) n = n
sleeps_after (reset i) n = n
sleeps_after (enter l) n = n
sleeps_after trial n = n
sleeps_after (low i k) n = n
sleeps_after (high i k) n = n
sleeps_after (data_low v k) n = n
sleeps_after (data_high v k) n = n
sleeps_after (keep e) n = n
sleeps_after (budget k) n = n
sleeps_after take_edge n = n
sleeps_after choose n = n

-- the number of finished sleeps changes at a sleep alone, by one
pub exec_sleeps : (p : List ℕ) (r : Node) (s : Statement) → (exec p r s).sleeps ≡ sleeps_after s r.sleeps
unfolding exec
exec_sleeps p r sleep = refl
exec_sleeps p r (set_to v k) = refl
exec_sleeps p r (add_to v k) = refl
exec_sleeps p r done = refl
exec_sleeps p r (send k) = refl
exec_sleeps p r (listen qs) = refl
exec_sleeps p r (age i) = refl
exec_sleeps p r (reset i) = refl
exec_sleeps p r (enter l) = refl
exec_sleeps p r trial = refl
exec_sleeps p r (low i k) = refl
exec_sleeps p r (high i k) = refl
exec_sleeps p r (data_low v k) = refl
exec_sleeps p r (data_high v k) = refl
exec_sleeps p r (keep e) = refl
exec_sleeps p r (budget k) = refl
exec_sleeps p r take_edge = go r.kept
  where
    go : (o : Option Pick) → (takes r p o).sleeps ≡ r.sleeps
    go none = refl
    go (some k) = refl
exec_sleeps p r choose = refl

-- ## Where it stands

-- at its work
abbrev pub is_work : Stand → Bool
is_work sleeping = false
is_work (sending c) = true
is_work (listening qs) = true
is_work finishing = true
is_work (adding v z) = true
is_work working = true
is_work taking = false
is_work elsewhere = false
is_work nowhere = false

-- on the way to a sleep
abbrev pub is_way : Stand → Bool
is_way sleeping = false
is_way (sending c) = false
is_way (listening qs) = false
is_way finishing = false
is_way (adding v z) = false
is_way working = false
is_way taking = true
is_way elsewhere = true
is_way nowhere = false

module _ {C : Component} {i : ℕ} {at : Entry} {r : Node} where
  -- on the way to a sleep it stands neither at sleep nor at work
  pub heading_stand : Heading C i at r → is_way (stand_of r) ≡ true
  heading_stand (is_ageing g) = ap is_way (ageing_elsewhere g)
  heading_stand (is_entered g) = ap is_way (entered_elsewhere g)
  heading_stand (is_choosing g) = go g.left refl
    where
      go : (l : List Statement) → g.left ≡ l → is_way (stand_of r) ≡ true
      go [] e = ap is_way (choosing_taking g e)
      go (s ∷ ss) e = ap is_way (choosing_elsewhere g s ss e)

  -- on the way to a sleep t + d is the tick of the entry
  pub heading_base : Heading C i at r → r.t + r.d ≡ at.tick
  heading_base (is_ageing g) = g.base
  heading_base (is_entered g) = g.base
  heading_base (is_choosing g) = g.base

  -- as many sleeps as works are finished
  pub heading_sleeps : Heading C i at r → r.sleeps ≡ i
  heading_sleeps (is_ageing g) = g.sleeps
  heading_sleeps (is_entered g) = g.sleeps
  heading_sleeps (is_choosing g) = g.sleeps

  -- it goes to a paired location only after a message taken and before the enter
  pub goes_nowhere : Phase C i at r → (r.goes ≡ none) ⊎ Ageing C i at r
  goes_nowhere (is_heading (is_ageing g)) = inr g
  goes_nowhere (is_heading (is_entered g)) = inl g.goes
  goes_nowhere (is_heading (is_choosing g)) = inl g.goes
  goes_nowhere (is_asleep k g) = inl g.goes
  goes_nowhere (is_working k g) = inl g.goes

update_stand : (u : Update) → is_work (stand (update_of u)) ≡ true
update_stand u = go u.adds
  where
    go : (t : Bool) → is_work (stand (cond t (add_to u.variable u.number) (set_to u.variable u.number))) ≡ true
    go true = refl
    go false = refl

module _ {C : Component} {i : ℕ} {at : Entry} {k : Pick} {r : Node} where
  -- asleep its window's end is that of the window chosen
  pub asleep_end : Asleep C i at k r → window_end r ≡ at.tick + k.end
  asleep_end g = omega (arith, g.t, g.d, (choice_picked C at g.chosen).window)

  -- and at work
  pub working_end : Working C i at k r → window_end r ≡ at.tick + k.end
  working_end g = omega (arith, g.t, g.d, (choice_picked C at g.chosen).window)

  -- at work it stands at work
  pub working_stand : Working C i at k r → is_work (stand_of r) ≡ true
  working_stand g = go g.doing
    where
      go : Doing C (arc_of C k.edge) g.results r → is_work (stand_of r) ≡ true
      go (updating [] act leads rest) = ap (λ (l : List Statement). is_work (stand_at l)) rest
      go (updating (u ∷ us) act leads rest) = ap (λ (l : List Statement). is_work (stand_at l)) rest ∙ update_stand u
      go (to_send c act acted rest) = ap (λ (l : List Statement). is_work (stand_at l)) rest
      go (to_listen act acted rest) = ap (λ (l : List Statement). is_work (stand_at l)) rest

-- ## Late

late_work : (g : Setting) (now c : ℕ) (r : Node) (s : Stand) → is_work s ≡ true → late g now c r s ≡ ltb (window_end r) now
late_work g now c r sleeping e = clash e
late_work g now c r (sending k) e = refl
late_work g now c r (listening qs) e = refl
late_work g now c r finishing e = refl
late_work g now c r (adding v z) e = refl
late_work g now c r working e = refl
late_work g now c r taking e = clash e
late_work g now c r elsewhere e = clash e
late_work g now c r nowhere e = clash e

late_way : (g : Setting) (now c : ℕ) (r : Node) (s : Stand) → is_way s ≡ true → late g now c r s ≡ overdue g (g.ready c r.sleeps) now
late_way g now c r sleeping e = clash e
late_way g now c r (sending k) e = clash e
late_way g now c r (listening qs) e = clash e
late_way g now c r finishing e = clash e
late_way g now c r (adding v z) e = clash e
late_way g now c r working e = clash e
late_way g now c r taking e = refl
late_way g now c r elsewhere e = refl
late_way g now c r nowhere e = clash e

late_in_work : (vs : List Passage) (now : ℕ) (r : Node) (s : Stand) → is_work s ≡ true → late_in vs now r s ≡ end_before vs (pred r.sleeps) now
late_in_work vs now r sleeping e = clash e
late_in_work vs now r (sending k) e = refl
late_in_work vs now r (listening qs) e = refl
late_in_work vs now r finishing e = refl
late_in_work vs now r (adding v z) e = refl
late_in_work vs now r working e = refl
late_in_work vs now r taking e = clash e
late_in_work vs now r elsewhere e = clash e
late_in_work vs now r nowhere e = clash e

late_in_way : (vs : List Passage) (now : ℕ) (r : Node) (s : Stand) → is_way s ≡ true → late_in vs now r s ≡ ready_before vs r.sleeps now
late_in_way vs now r sleeping e = clash e
late_in_way vs now r (sending k) e = clash e
late_in_way vs now r (listening qs) e = clash e
late_in_way vs now r finishing e = clash e
late_in_way vs now r (adding v z) e = clash e
late_in_way vs now r working e = clash e
late_in_way vs now r taking e = refl
late_in_way vs now r elsewhere e = refl
late_in_way vs now r nowhere e = clash e

module _ {C : Component} {i : ℕ} {at : Entry} {r : Node} (s : Setting) (now c : ℕ) where
  -- on the way to a sleep it is late where the ready of passage i of the schedule has passed
  pub heading_late : Heading C i at r → late s now c r (stand_of r) ≡ overdue s (s.ready c i) now
  heading_late g = late_way s now c r (stand_of r) (heading_stand g) ∙ ap (λ (n : ℕ). overdue s (s.ready c n) now) (heading_sleeps g)

  -- asleep it is not late
  pub asleep_late : {k : Pick} → Asleep C i at k r → late s now c r (stand_of r) ≡ false
  asleep_late g = ap (late s now c r) (asleep_sleeping g)

  -- at work it is late where its window's end has passed
  pub working_late : {k : Pick} → Working C i at k r → late s now c r (stand_of r) ≡ ltb (at.tick + k.end) now
  working_late g = late_work s now c r (stand_of r) (working_stand g) ∙ ap (λ (n : ℕ). ltb n now) (working_end g)

-- the same in the words of the schedule
module _ {C : Component} {i : ℕ} {at : Entry} {r : Node} (vs : List Passage) (now : ℕ) where
  -- on the way to a sleep: where passage i is ready before now
  pub heading_late_in : Heading C i at r → late_in vs now r (stand_of r) ≡ ready_before vs i now
  heading_late_in g = late_in_way vs now r (stand_of r) (heading_stand g) ∙ ap (λ (n : ℕ). ready_before vs n now) (heading_sleeps g)

  -- asleep: never
  pub asleep_late_in : {k : Pick} → Asleep C i at k r → late_in vs now r (stand_of r) ≡ false
  asleep_late_in g = ap (late_in vs now r) (asleep_sleeping g)

  -- at work: where passage i ends before now
  pub working_late_in : {k : Pick} → Working C i at k r → late_in vs now r (stand_of r) ≡ end_before vs i now
  working_late_in g = late_in_work vs now r (stand_of r) (working_stand g) ∙ ap (λ (n : ℕ). end_before vs (pred n) now) g.sleeps
