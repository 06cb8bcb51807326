-- Which part of the checks a number comes from: 7 to 9 from the schedule, 10 and more from the checks of it, so that a verdict with 4 to 6 is the reader's.
-- Assumes nothing.
use mathlib.Core.Path.{◌≡◌, refl, sym, ap}
use mathlib.Core.Bool.{Bool, true, false, cond}
use mathlib.Core.List.{List, [], ◌∷◌}
use mathlib.Core.Option.{Option, none, some}
use Prim.Native.Nat.{ℕ, zero, suc, ◌-◌, ◌≤◌}
use native.Mathlib.Omega.{arith}
use lib.Dec.{ltb}
use lib.IntN.{ℤ}
use Rattle.model.specs.declared.Hearing.{Hearing}
use Rattle.model.specs.declared.Hearing.TheVariants.{Well, Nobody, Several, LateStart, EarlyEnd}
use Rattle.model.specs.declared.Verdict.TheVariants.{Refused}
use Rattle.model.specs.Lists.{snoc, first, Answer, accepted, refused, ◌after◌}
use Rattle.model.specs.Table.{Component, Table, Read, size, component_of, arc_of}
use Rattle.model.specs.Reader.{read_table}
use Rattle.model.specs.Window.{Entry, Pick, channel_of, choice, updated}
use Rattle.model.specs.Schedule.{Passage, start_entry, passage_of, ranged, picked, opening, OpenedSoFar, begin, next, closing, opened, while_below, go_on, finished, schedule}
use Rattle.model.specs.Checks.{hearing_number, heard_as, unheard_number, collides, unheard, crowded, fault_of, fault_by, limit, checked, accepted_schedule, accepted_schedule_of}
use Rattle.model.specs.Calls.{verdict_of, accepted_schedule_in, check_call}
use Rattle.model.proofs.Basics.Bools.{clash}
use Rattle.model.proofs.Basics.Members.{first_some}
use Rattle.model.proofs.Checks.Hearings.{is_well, unheard_is}
use Rattle.table.proofs.Answered.{verdict_refused}

-- of the number of a refusal P holds
abbrev pub Numbered : (ℕ → Type 0) → {A : Type 0} → Answer A → Type 0
Numbered P (accepted a) = Unit {0}
Numbered P (refused n c) = P n

numbered_after : (P : ℕ → Type 0) {A B : Type 0} (a : Answer A) (f : A → Answer B) → Numbered P a → ((x : A) → Numbered P (f x)) → Numbered P (a after f)
numbered_after P (accepted x) f h k = k x
numbered_after P (refused n c) f h k = h

weaker : (P Q : ℕ → Type 0) {A : Type 0} (a : Answer A) → ((n : ℕ) → P n → Q n) → Numbered P a → Numbered Q a
weaker P Q (accepted x) f h = tt
weaker P Q (refused n c) f h = f n h

-- 7 to 9
abbrev pub Opening : ℕ → Type 0
Opening n = (7 ≤ n) × (n ≤ 9)

-- ## The schedule

pub opening_numbered : (c : ℕ) (C : Component) (at : Entry) → Numbered (λ n. (8 ≤ n) × (n ≤ 9)) (opening c C at)
unfolding opening
opening_numbered c C at = by_choice (choice C at)
  where
    by_values : (v : Passage) (o : Option (List ℤ)) → Numbered (λ n. (8 ≤ n) × (n ≤ 9)) (ranged c o v)
    by_values v none = (omega arith, omega arith)
    by_values v (some vs) = tt

    by_choice : (o : Option Pick) → Numbered (λ n. (8 ≤ n) × (n ≤ 9)) (picked c C at o)
    by_choice none = (omega arith, omega arith)
    by_choice (some p) = by_values (passage_of c at p (channel_of (arc_of C p.edge))) (updated (arc_of C p.edge).updates at.values)

-- of the schedule it is one of 7 to 9
opens_numbered : (c : ℕ) (C : Component) (at : Entry) → Numbered Opening (opening c C at)
opens_numbered c C at = weaker (λ n. (8 ≤ n) × (n ≤ 9)) Opening (opening c C at) (λ n h. (omega arith, h.1)) (opening_numbered c C at)

begin_numbered : (room c : ℕ) (Cs : List Component) (vs : List Passage) → Numbered Opening (begin room c Cs vs)
unfolding begin
begin_numbered room c [] vs = tt
begin_numbered zero c (C ∷ Cs) vs = (omega arith, omega arith)
begin_numbered (suc room) c (C ∷ Cs) vs =
    numbered_after Opening (opening c C (start_entry C)) (λ v. begin room (suc c) Cs (snoc vs v)) (opens_numbered c C (start_entry C)) (λ v. begin_numbered room (suc c) Cs (snoc vs v))

while_numbered : (H : ℕ) (on : Passage → Answer (List Passage)) (vs : List Passage) (o : Option Passage) → ((v : Passage) → Numbered Opening (on v)) → Numbered Opening (while_below H on vs o)
while_numbered H on vs none h = tt
while_numbered H on vs (some v) h = go (ltb v.end H)
  where
    go : (b : Bool) → Numbered Opening (cond b (on v) (accepted vs))
    go true = h v
    go false = tt

on_numbered : (T : Table) (H room : ℕ) (p : OpenedSoFar) → Numbered Opening (go_on T H room p)
unfolding go_on
on_numbered T H zero p = while_numbered H (λ v. refused 7 v.component) p.listed (next p.current) (λ v. (omega arith, omega arith))
on_numbered T H (suc room) p =
    while_numbered H (λ v. opening v.component (component_of T v.component) (closing T H p.listed v) after λ w. go_on T H room (opened p w)) p.listed (next p.current)
    (λ v.
    numbered_after Opening (opening v.component (component_of T v.component) (closing T H p.listed v)) (λ w. go_on T H room (opened p w))
    (opens_numbered v.component (component_of T v.component) (closing T H p.listed v)) (λ w. on_numbered T H room (opened p w)))

pub schedule_numbered : (most : ℕ) (T : Table) (H : ℕ) → Numbered Opening (schedule most T H)
unfolding schedule
schedule_numbered most T H =
    numbered_after Opening (begin most 0 T.components []) _ (begin_numbered most 0 T.components [])
    (λ vs. numbered_after Opening (go_on T H (most - size T) (record { listed = vs; current = vs })) (λ ws. accepted (finished T H ws)) (on_numbered T H (most - size T) _) (λ ws. tt))

-- ## Checks 10 to 12

pub checked_numbered : (G : ℕ) (T : Table) (H : ℕ) (S : List Passage) → Numbered (λ n. 10 ≤ n) (checked G T H S)
unfolding checked
checked_numbered G T H S =
    go (first (collides G T H S) S) (first (unheard G T H S) S) (λ s e. number (heard_as G T S s) ((unheard_is G T H S s).0 (first_some (unheard G T H S) S e).1).1) (first (crowded G T H S) S)
  where
    number : (h : Hearing) → is_well h ≡ false → 10 ≤ hearing_number h
    number Well e = clash (sym e)
    number Nobody e = omega arith
    number Several e = omega arith
    number LateStart e = omega arith
    number EarlyEnd e = omega arith

    go : (a b : Option Passage) → ((s : Passage) → b ≡ some s → 10 ≤ unheard_number G T S s) → (d : Option Passage)
        → Numbered (λ n. 10 ≤ n) (fault_of 10 a (fault_by (unheard_number G T S) b (fault_of 12 d (accepted S))))
    go (some v) b f d = omega arith
    go none (some s) f d = f s refl
    go none none f (some v) = omega arith
    go none none f none = tt

-- ## The verdict

accepted_later : (t : Read) → Numbered (λ n. 7 ≤ n) (accepted_schedule_of t)
unfolding accepted_schedule
accepted_later t =
    numbered_after (λ n. 7 ≤ n) (schedule limit t.table t.horizon) (checked 0 t.table t.horizon)
    (weaker Opening (λ n. 7 ≤ n) (schedule limit t.table t.horizon) (λ n h. h.0) (schedule_numbered limit t.table t.horizon))
    (λ S. weaker (λ n. 10 ≤ n) (λ n. 7 ≤ n) (checked 0 t.table t.horizon S) (λ n h. omega arith) (checked_numbered 0 t.table t.horizon S))

module _ (bs : List ℕ) {n c : ℕ} where
  -- what the reader refuses is refused
  pub refused_so : read_table bs ≡ refused n c → check_call bs ≡ Refused n c
  unfolding check_call accepted_schedule_in
  refused_so e = ap (λ (a : Answer Read). verdict_of (a after accepted_schedule_of)) e

  -- and a refusal with 6 or less is the reader's
  pub refused_reading : n ≤ 6 → check_call bs ≡ Refused n c → read_table bs ≡ refused n c
  unfolding check_call accepted_schedule_in
  refused_reading h e = go (read_table bs) e
    where
      go : (a : Answer Read) → verdict_of (a after accepted_schedule_of) ≡ Refused n c → a ≡ refused n c
      go (accepted t) q = absurd (early (accepted_schedule_of t) (accepted_later t) (verdict_refused (accepted_schedule_of t) q))
        where
          early : (b : Answer (List Passage)) → Numbered (λ k. 7 ≤ k) b → b ≡ refused n c → ⊥
          early b l r = let k : 7 ≤ n = rw r at l in omega arith
      go (refused m d) q = verdict_refused (refused m d) q
