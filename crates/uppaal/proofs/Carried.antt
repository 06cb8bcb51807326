-- An accepted table's bytes carry its network. Assumes nothing.
use mathlib.Core.Path.{◌≡◌, refl, sym, ap, subst, ◌∙◌}
use mathlib.Core.Bool.{Bool, true, false, cond}
use mathlib.Core.List.{List, [], ◌∷◌, ◌++◌}
use Prim.Native.Nat.{ℕ, ◌<◌}
use native.Mathlib.Omega.{arith}
use lib.Dec.{leb}
use lib.ListN.{length, take, drop}
use Rattle.model.specs.declared.Verdict.{Verdict}
use Rattle.model.specs.declared.Verdict.TheVariants.{Accepted, Refused}
use Rattle.model.specs.Lists.{Answer, accepted, refused, ◌after◌}
use Rattle.model.specs.Table.{Read}
use Rattle.model.specs.Reader.{read_table}
use Rattle.model.specs.Schedule.{Passage}
use Rattle.model.specs.Checks.{accepted_schedule_of}
use Rattle.model.specs.Calls.{Call, refusing, bytes_with}
use Rattle.uppaal.specs.XtaText.{system_text}
use Rattle.uppaal.specs.Export.{system_for}
use Rattle.uppaal.specs.UppaalCall.{all_budgetless, text_of, uppaal_in, uppaal_call, Carries}
use Rattle.uppaal.proofs.Paths.{exported_paths}
use Rattle.uppaal.proofs.DenseTables.{exported_dense}
use Rattle.uppaal.proofs.XtaLimits.{exported_reads, exported_declared}

pub refused_carries : {n c : ℕ} {A : Type 0} → Refused n c ≡ Accepted → A
refused_carries e = absurd (let z : ◌≡◌ {A = ℕ} 0 1 = ap (λ (v : Verdict). numbered v) (sym e) in omega arith)
  where
    numbered : Verdict → ℕ
    numbered Accepted = 0
    numbered (Refused m d) = 1

take_front : (a b : List ℕ) → take (length a) (a ++ b) ≡ a
take_front [] b = refl
take_front (x ∷ a) b = ap (λ (l : List ℕ). x ∷ l) (take_front a b)

of_table : (table : List ℕ) (t : Read) → read_table table ≡ accepted t → Carries table (system_text (system_for t.table))
of_table table t e =
    record { given = t; known = e; network = system_for t.table; read = exported_reads table t e; declared = exported_declared table t e; paths = exported_paths table t e; time = exported_dense table t e }

abbrev CarriedBy : List ℕ → Call → Type 0
CarriedBy table c = c.verdict ≡ Accepted → Carries table (take c.size c.lent)

laid_carries : (table lent : List ℕ) (t : Read) → read_table table ≡ accepted t → (b : Bool)
    → CarriedBy table (cond b (record { verdict = Accepted; size = length (system_text (system_for t.table)); lent = system_text (system_for t.table) ++ drop (length (system_text (system_for t.table))) lent }) (refusing 13 255 lent))
laid_carries table lent t q true e = subst (Carries table) (sym (take_front (system_text (system_for t.table)) (drop (length (system_text (system_for t.table))) lent))) (of_table table t q)
laid_carries table lent t q false e = refused_carries e

budget_carries : (table lent : List ℕ) (t : Read) → read_table table ≡ accepted t → (b : Bool) → CarriedBy table (bytes_with lent (cond b (accepted (system_text (system_for t.table))) (refused 25 255)))
budget_carries table lent t q true e = laid_carries table lent t q (leb (length (system_text (system_for t.table))) (length lent)) e
budget_carries table lent t q false e = refused_carries e

planned_carries : (table lent : List ℕ) (t : Read) → read_table table ≡ accepted t → (a : Answer (List Passage)) → CarriedBy table (bytes_with lent (text_of t a))
planned_carries table lent t q (accepted S) e = budget_carries table lent t q (all_budgetless t.table) e
planned_carries table lent t q (refused n c) e = refused_carries e

read_carries : (table lent : List ℕ) (a : Answer Read) → read_table table ≡ a → CarriedBy table (bytes_with lent (a after λ t. text_of t (accepted_schedule_of t)))
read_carries table lent (accepted t) q e = planned_carries table lent t q (accepted_schedule_of t) e
read_carries table lent (refused n c) q e = refused_carries e

-- the call's bytes, if it accepts
pub call_carries : (table lent : List ℕ) → (uppaal_call table lent).verdict ≡ Accepted → Carries table (take (uppaal_call table lent).size (uppaal_call table lent).lent)
unfolding uppaal_call uppaal_in
call_carries table lent e = read_carries table lent (read_table table) refl e

-- an answer that is the call's
pub answer_carries : (table lent : List ℕ) {v : Verdict} {n : ℕ} {l : List ℕ} → v ≡ (uppaal_call table lent).verdict → n ≡ (uppaal_call table lent).size → l ≡ (uppaal_call table lent).lent
    → v ≡ Accepted → Carries table (take n l)
answer_carries table lent {n = n} p q r e =
    subst (λ (x : List ℕ). Carries table (take n x)) (sym r) (subst (λ (x : ℕ). Carries table (take x (uppaal_call table lent).lent)) (sym q) (call_carries table lent (sym p ∙ e)))

-- ## A call that writes something accepts

abbrev Fine : Call → Type 0
Fine c = 0 < c.size → c.verdict ≡ Accepted

refused_fine : (n c : ℕ) (lent : List ℕ) → Fine (refusing n c lent)
refused_fine n c lent h = absurd (omega (arith, h))

laid_fine : (n : ℕ) (result lent : List ℕ) (b : Bool) → Fine (cond b (record { verdict = Accepted; size = n; lent = result }) (refusing 13 255 lent))
laid_fine n result lent true h = refl
laid_fine n result lent false h = refused_fine 13 255 lent h

bytes_fine : (lent : List ℕ) (a : Answer (List ℕ)) → Fine (bytes_with lent a)
bytes_fine lent (accepted bs) h = laid_fine (length bs) (bs ++ drop (length bs) lent) lent (leb (length bs) (length lent)) h
bytes_fine lent (refused n c) h = refused_fine n c lent h

pub sized_accepts : (table lent : List ℕ) → 0 < (uppaal_call table lent).size → (uppaal_call table lent).verdict ≡ Accepted
unfolding uppaal_call
sized_accepts table lent h = bytes_fine lent (uppaal_in table) h
