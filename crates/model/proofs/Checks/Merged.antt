-- With 15 to 17 read as 11 every answer is the one before document 02's wish 3; so the same tables are accepted. Assumes nothing.
use mathlib.Core.Path.{◌≡◌, refl, sym, ap, ◌∙◌}
use mathlib.Core.Logic.{◌↔◌}
use mathlib.Core.Bool.{Bool, true, false, cond}
use mathlib.Core.List.{List}
use mathlib.Core.Option.{Option, none, some}
use Prim.Native.Nat.{ℕ, ◌≤◌, ◌<◌}
use native.Mathlib.Omega.{arith}
use borrow.Author.Tests.{lt-leb}
use lib.ListN.{length}
use lib.Dec.{leb}
use Rattle.model.specs.declared.Hearing.{Hearing}
use Rattle.model.specs.declared.Hearing.TheVariants.{Well, Nobody, Several, LateStart, EarlyEnd}
use Rattle.model.specs.declared.Verdict.{Verdict}
use Rattle.model.specs.declared.Verdict.TheVariants.{Accepted, Refused}
use Rattle.model.specs.Lists.{first, each, Answer, accepted, refused, ◌after◌}
use Rattle.model.specs.Table.{Table, Read}
use Rattle.model.specs.Reader.{read_table}
use Rattle.model.specs.Schedule.{Passage, schedule, seven_of}
use Rattle.model.specs.Checks.{hearing_number, heard_as, unheard_number, collides, unheard, crowded, fault_of, fault_by, limit, checked, accepted_schedule, accepted_schedule_of}
use Rattle.model.specs.Calls.{Call, laid, verdict_of, accepted_schedule_in, check_call, schedule_with, bytes_with}
use Rattle.model.specs.Hearings.{as_eleven, merged, merged_verdict, merged_call, checked_as11, accepted_schedule_as11, check_call_as11}
use Rattle.model.proofs.Basics.Bools.{clash}
use Rattle.model.proofs.Basics.Members.{first_some}
use Rattle.model.proofs.Checks.Hearings.{is_well, unheard_is}
use Rattle.model.proofs.Checks.Numbers.{UpTo, read_up_to, schedule_up_to}

-- ## Numbers

-- a number below 15 is read as it stands
pub as_below : (n : ℕ) → n < 15 → as_eleven n ≡ n
as_below n h = rw (lt-leb 15 n h)

-- that of a fault is read as 11
as_fault : (h : Hearing) → is_well h ≡ false → as_eleven (hearing_number h) ≡ 11
as_fault Well e = clash (sym e)
as_fault Nobody e = refl
as_fault Several e = refl
as_fault LateStart e = refl
as_fault EarlyEnd e = refl

-- ## Checks 10 to 12

-- the questions 10 to 12 as they stand, with any first question, and with one number for all four faults
pub merged_faults : (G : ℕ) (T : Table) (H : ℕ) (S : List Passage) (a : Option Passage)
    → merged (fault_of 10 a (fault_by (unheard_number G T S) (first (unheard G T H S) S) (fault_of 12 (first (crowded G T H S) S) (accepted S))))
    ≡ fault_of 10 a (fault_of 11 (first (unheard G T H S) S) (fault_of 12 (first (crowded G T H S) S) (accepted S)))
merged_faults G T H S a = go a (first (unheard G T H S) S) (λ s e. told s (first_some (unheard G T H S) S e).1) (first (crowded G T H S) S)
  where
    told : (s : Passage) → unheard G T H S s ≡ true → as_eleven (unheard_number G T S s) ≡ 11
    told s e = as_fault (heard_as G T S s) ((unheard_is G T H S s).0 e).1

    go : (a b : Option Passage) → ((s : Passage) → b ≡ some s → as_eleven (unheard_number G T S s) ≡ 11) → (d : Option Passage)
        → merged (fault_of 10 a (fault_by (unheard_number G T S) b (fault_of 12 d (accepted S)))) ≡ fault_of 10 a (fault_of 11 b (fault_of 12 d (accepted S)))
    go (some v) b f d = refl
    go none (some s) f d = ap {B = Answer (List Passage)} (λ n. refused n s.component) (f s refl)
    go none none f (some v) = refl
    go none none f none = refl

-- the same number up to the four, of the same component
pub same_answer : (G : ℕ) (T : Table) (H : ℕ) (S : List Passage) → merged (checked G T H S) ≡ checked_as11 G T H S
unfolding checked checked_as11
same_answer G T H S = merged_faults G T H S (first (collides G T H S) S)

-- an answer is an acceptance exactly if it is one as read
pub accepts_merged : {A : Type 0} (a : Answer A) (x : A) → (a ≡ accepted x) ↔ (merged a ≡ accepted x)
accepts_merged (accepted y) x = (λ e. e, λ e. e)
accepts_merged (refused n c) x = (
  λ e. let z : ◌≡◌ {A = ℕ} 0 1 = cc in absurd (omega arith),
  λ e. let z : ◌≡◌ {A = ℕ} 0 1 = cc in absurd (omega arith),
)

-- so the same schedules are accepted
pub same_accepted : (G : ℕ) (T : Table) (H : ℕ) (S S' : List Passage) → (checked G T H S ≡ accepted S') ↔ (checked_as11 G T H S ≡ accepted S')
same_accepted G T H S S' =
    let h = accepts_merged (checked G T H S) S' in
    (λ e. sym (same_answer G T H S) ∙ h.0 e, λ e. h.1 (same_answer G T H S ∙ e))

-- ## 1 to 12

-- an answer without a number from 15 on, and what is done after it
pub after_merged : {A B : Type 0} (most : ℕ) → most < 15 → (a : Answer A) (f g : A → Answer B) → UpTo most a → ((x : A) → a ≡ accepted x → merged (f x) ≡ g x)
    → merged (a after f) ≡ (a after g)
after_merged most u (accepted x) f g h k = k x refl
after_merged most u (refused n c) f g h k = ap {B = Answer _} (λ m. refused m c) (as_below n (omega (arith, h)))

-- 7 to 12, whatever 10 to 12 asked
pub schedule_merged : (t : Read) (earlier : List Passage → Answer (List Passage)) → ((S : List Passage) → merged (checked 0 t.table t.horizon S) ≡ earlier S)
    → merged (accepted_schedule_of t) ≡ (schedule limit t.table t.horizon after earlier)
unfolding accepted_schedule
schedule_merged t earlier h =
    after_merged 9 (omega arith) (schedule limit t.table t.horizon) (checked 0 t.table t.horizon) earlier (schedule_up_to limit t.table t.horizon) (λ S e. h S)

pub same_schedule_as_11 : (t : Read) → merged (accepted_schedule_of t) ≡ accepted_schedule_as11 t
same_schedule_as_11 t = schedule_merged t (checked_as11 0 t.table t.horizon) (same_answer 0 t.table t.horizon)

-- 1 to 12
pub read_merged : {A : Type 0} (bs : List ℕ) (f g : Read → Answer A) → ((t : Read) → read_table bs ≡ accepted t → merged (f t) ≡ g t)
    → merged (read_table bs after f) ≡ (read_table bs after g)
read_merged bs f g = after_merged 6 (omega arith) (read_table bs) f g (read_up_to bs)

pub verdict_merged : {A : Type 0} (a : Answer A) → merged_verdict (verdict_of a) ≡ verdict_of (merged a)
verdict_merged (accepted x) = refl
verdict_merged (refused n c) = refl

-- the verdict on any bytes, with 15 to 17 read as 11, is the earlier one
pub same_verdict : (bs : List ℕ) → merged_verdict (check_call bs) ≡ check_call_as11 bs
unfolding check_call accepted_schedule_in check_call_as11
same_verdict bs =
    verdict_merged (read_table bs after accepted_schedule_of) ∙ ap verdict_of (read_merged bs accepted_schedule_of accepted_schedule_as11 (λ t e. same_schedule_as_11 t))

-- "The set of accepted tables is unchanged."
pub same_tables : (bs : List ℕ) → (check_call bs ≡ Accepted) ↔ (check_call_as11 bs ≡ Accepted)
same_tables bs = (
  λ e. sym (same_verdict bs) ∙ ap merged_verdict e,
  λ e. unmerged (check_call bs) (same_verdict bs ∙ e),
)
  where
    unmerged : (v : Verdict) → merged_verdict v ≡ Accepted → v ≡ Accepted
    unmerged Accepted e = refl
    unmerged (Refused n c) e = let z : ◌≡◌ {A = ℕ} 0 1 = cc in absurd (omega arith)

-- ## Calls

-- what is laid is no refusal of a table
laid_merged : (size : ℕ) (result lent : List ℕ) → merged_call (laid size result lent) ≡ laid size result lent
laid_merged size result lent = go (leb (length result) (length lent)) _ _ refl refl
  where
    go : (t : Bool) (fits short : Call) → merged_call fits ≡ fits → merged_call short ≡ short → merged_call (cond t fits short) ≡ cond t fits short
    go true fits short e f = e
    go false fits short e f = f

pub schedule_call_merged : (lent : List ℕ) (a : Answer (List Passage)) → merged_call (schedule_with lent a) ≡ schedule_with lent (merged a)
schedule_call_merged lent (accepted S) = laid_merged (length S) (each seven_of S) lent
schedule_call_merged lent (refused n c) = refl

pub bytes_call_merged : (lent : List ℕ) (a : Answer (List ℕ)) → merged_call (bytes_with lent a) ≡ bytes_with lent (merged a)
bytes_call_merged lent (accepted bytes) = laid_merged (length bytes) bytes lent
bytes_call_merged lent (refused n c) = refl

-- what is made of an accepted schedule
pub made_merged : {A B : Type 0} (a : Answer A) (f : A → B) → merged (a after λ x. accepted (f x)) ≡ (merged a after λ x. accepted (f x))
made_merged (accepted x) f = refl
made_merged (refused n c) f = refl
