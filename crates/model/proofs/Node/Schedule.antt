-- A node against its component's passages in the schedule: late and due by its registers are late and due by the schedule. Assumes nothing.
use mathlib.Core.Path.{◌≡◌, refl, sym, ap, subst, ◌∙◌}
use mathlib.Core.Bool.{true, false}
use mathlib.Core.List.{List, [], ◌∷◌, ◌++◌}
use Prim.Native.Nat.{ℕ, zero, suc, pred, ◌+◌, ◌≤◌}
use native.Mathlib.Omega.{arith}
use borrow.Author.Tests.{eqb-true, eqb-false}
use lib.Dec.{ltb, eqb}
use lib.ListN.{length}
use Rattle.model.specs.declared.Action.TheVariants.{Receive}
use Rattle.model.specs.Table.{Component, Read}
use Rattle.model.specs.Window.{Entry, Pick}
use Rattle.model.specs.Schedule.{Passage, own}
use Rattle.model.specs.Machine.{Node}
use Rattle.model.specs.Run.{Setting, setting_at, ready_of_nth, taking, stand_of, window_end, overdue, late}
use Rattle.model.specs.Demand3.{end_before, ready_before, late_in, ready_is, end_is, DueIn, NotDueIn}
use Rattle.model.proofs.Node.Choosing.{Asleep, asleep_sleeping}
use Rattle.model.proofs.Node.Working.{Working}
use Rattle.model.proofs.Node.Phase.{Heading, action_of}
use Rattle.model.proofs.Node.Facts.{heading_sleeps, heading_late, heading_late_in, working_late, working_late_in, working_end}
use Rattle.model.proofs.Node.Listening.{stands_listening}
use Rattle.model.proofs.Node.Passage.{Begins, asleep_passage, working_passage}

-- ## Passage number i

-- w is passage number i of these
pub record Nth (vs : List Passage) (i : ℕ) (w : Passage) : Type 0 where
  pub past : List Passage
  pub rest : List Passage
  pub is : vs ≡ past ++ (w ∷ rest)
  pub number : length past ≡ i

module _ (w : Passage) (rest : List Passage) (now : ℕ) where
  end_before_at : (past : List Passage) → end_before (past ++ (w ∷ rest)) (length past) now ≡ ltb w.end now
  end_before_at [] = refl
  end_before_at (v ∷ past) = end_before_at past

  ready_before_at : (past : List Passage) → ready_before (past ++ (w ∷ rest)) (length past) now ≡ ltb w.ready now
  ready_before_at [] = refl
  ready_before_at (v ∷ past) = ready_before_at past

  ready_is_at : (past : List Passage) → ready_is (past ++ (w ∷ rest)) (length past) now ≡ (w.ready ≡ now)
  ready_is_at [] = refl
  ready_is_at (v ∷ past) = ready_is_at past

  end_is_at : (past : List Passage) → end_is (past ++ (w ∷ rest)) (length past) now ≡ (w.end ≡ now)
  end_is_at [] = refl
  end_is_at (v ∷ past) = end_is_at past

module _ {vs : List Passage} {i : ℕ} {w : Passage} (m : Nth vs i w) (now : ℕ) where
  -- its end lies before now
  pub end_before_nth : end_before vs i now ≡ ltb w.end now
  end_before_nth =
      ap (λ (l : List Passage). end_before l i now) m.is
      ∙ (ap (λ (n : ℕ). end_before (m.past ++ (w ∷ m.rest)) n now) (sym m.number) ∙ end_before_at w m.rest now m.past)

  -- its ready is now
  pub ready_is_nth : ready_is vs i now ≡ (w.ready ≡ now)
  ready_is_nth =
      ap (λ (l : List Passage). ready_is l i now) m.is
      ∙ (ap (λ (n : ℕ). ready_is (m.past ++ (w ∷ m.rest)) n now) (sym m.number) ∙ ready_is_at w m.rest now m.past)

  -- its end is now
  pub end_is_nth : end_is vs i now ≡ (w.end ≡ now)
  end_is_nth =
      ap (λ (l : List Passage). end_is l i now) m.is
      ∙ (ap (λ (n : ℕ). end_is (m.past ++ (w ∷ m.rest)) n now) (sym m.number) ∙ end_is_at w m.rest now m.past)

  -- its ready lies before now
  pub ready_before_nth : ready_before vs i now ≡ ltb w.ready now
  ready_before_nth =
      ap (λ (l : List Passage). ready_before l i now) m.is
      ∙ (ap (λ (n : ℕ). ready_before (m.past ++ (w ∷ m.rest)) n now) (sym m.number) ∙ ready_before_at w m.rest now m.past)

-- beyond the last passage nothing is ready
pub no_ready : (vs : List Passage) (i now : ℕ) → length vs ≤ i → ready_is vs i now → ⊥
no_ready [] i now h e = e
no_ready (v ∷ vs) zero now h e = omega arith
no_ready (v ∷ vs) (suc i) now h e = no_ready vs i now (omega arith) e

-- the run's test on the ready of the next passage is the schedule's
pub overdue_is : (s : Setting) (vs : List Passage) (i now : ℕ) → overdue s (ready_of_nth vs i) now ≡ ready_before vs i now
overdue_is s [] i now = refl
overdue_is s (v ∷ vs) zero now = refl
overdue_is s (v ∷ vs) (suc i) now = overdue_is s vs i now

-- ## Late

module _ {C : Component} {i : ℕ} {at : Entry} {r : Node} (t : Read) (H : ℕ) (S : List Passage) (offs : List ℕ) (now c : ℕ) where
  -- on the way to a sleep
  pub heading_late_same : Heading C i at r → late (setting_at t H S offs) now c r (stand_of r) ≡ late_in (own c S) now r (stand_of r)
  heading_late_same g = heading_late (setting_at t H S offs) now c g ∙ (overdue_is (setting_at t H S offs) (own c S) i now ∙ sym (heading_late_in (own c S) now g))

  -- at work in passage i
  pub working_late_same : {j : Pick} {w : Passage} → Begins c C at w → Nth (own c S) i w → Working C i at j r
      → late (setting_at t H S offs) now c r (stand_of r) ≡ late_in (own c S) now r (stand_of r)
  working_late_same {j} {w} b m g =
      working_late (setting_at t H S offs) now c g
      ∙ (ap (λ (n : ℕ). ltb n now) (sym (working_end g) ∙ (working_passage b g).end)
      ∙ (sym (end_before_nth m now) ∙ sym (working_late_in (own c S) now g)))

-- ## Due

module _ {C : Component} {i : ℕ} {at : Entry} {r : Node} (vs : List Passage) (now : ℕ) where
  -- a sleep that is due, by the schedule
  pub asleep_due_in : {c : ℕ} {j : Pick} {w : Passage} → Begins c C at w → Nth vs i w → Asleep C i at j r → eqb now r.t ≡ true → DueIn vs now r (stand_of r)
  asleep_due_in {c} {j} {w} b m g e =
      subst (DueIn vs now r) (sym (asleep_sleeping g))
      (subst (λ (n : ℕ). ready_is vs n now) (sym g.sleeps)
      (subst (λ (A : Type 0). A) (sym (ready_is_nth m now)) (sym (asleep_passage b g).ready ∙ sym (eqb-true now r.t e))))

  -- a sleep that is not due, in passage i
  pub asleep_not_due_in : {c : ℕ} {j : Pick} {w : Passage} → Begins c C at w → Nth vs i w → Asleep C i at j r → eqb now r.t ≡ false → NotDueIn vs now r (stand_of r)
  asleep_not_due_in {c} {j} {w} b m g e =
      subst (NotDueIn vs now r) (sym (asleep_sleeping g))
      (λ h.
      let z : w.ready ≡ now = subst (λ (A : Type 0). A) (ready_is_nth m now) (subst (λ (n : ℕ). ready_is vs n now) g.sleeps h) in
      eqb-false now r.t e (sym ((asleep_passage b g).ready ∙ z)))

  -- a sleep beyond the last passage
  pub asleep_beyond_in : {j : Pick} → length vs ≤ i → Asleep C i at j r → NotDueIn vs now r (stand_of r)
  asleep_beyond_in l g = subst (NotDueIn vs now r) (sym (asleep_sleeping g)) (λ h. no_ready vs i now l (subst (λ (n : ℕ). ready_is vs n now) g.sleeps h))

  -- a listen that is due
  pub listening_due_in : {c : ℕ} {j : Pick} {w : Passage} → Begins c C at w → Nth vs i w → (g : Working C i at j r) → action_of C j ≡ Receive → eqb now (window_end r) ≡ true
      → DueIn vs now r (stand_of r)
  listening_due_in {c} {j} {w} b m g act e =
      subst (DueIn vs now r) (sym (stands_listening g act))
      (subst (λ (n : ℕ). end_is vs (pred n) now) (sym g.sleeps)
      (subst (λ (A : Type 0). A) (sym (end_is_nth m now)) (sym (working_passage b g).end ∙ sym (eqb-true now (window_end r) e))))

  -- a listen that is not due
  pub listening_not_due_in : {c : ℕ} {j : Pick} {w : Passage} → Begins c C at w → Nth vs i w → (g : Working C i at j r) → action_of C j ≡ Receive
      → eqb now (window_end r) ≡ false → NotDueIn vs now r (stand_of r)
  listening_not_due_in {c} {j} {w} b m g act e =
      subst (NotDueIn vs now r) (sym (stands_listening g act))
      (λ h.
      let z : w.end ≡ now = subst (λ (A : Type 0). A) (end_is_nth m now) (subst (λ (n : ℕ). end_is vs (pred n) now) g.sleeps h) in
      eqb-false now (window_end r) e (sym ((working_passage b g).end ∙ z)))

  -- a take beyond the last passage
  pub taking_not_due_in : length vs ≤ i → Heading C i at r → stand_of r ≡ taking → NotDueIn vs now r (stand_of r)
  taking_not_due_in l g e = subst (NotDueIn vs now r) (sym e) (subst (λ (n : ℕ). length vs ≤ n) (sym (heading_sleeps g)) l)
