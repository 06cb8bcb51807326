-- A call for UPPAAL whose number is 0 accepts: no refusal has that number. Assumes nothing.
use mathlib.Core.Path.{◌≡◌, refl}
use mathlib.Core.Bool.{Bool, true, false, cond}
use mathlib.Core.List.{List}
use Prim.Native.Nat.{ℕ}
use native.Mathlib.Omega.{arith}
use lib.Dec.{leb}
use lib.ListN.{length}
use Rattle.model.specs.declared.Verdict.TheVariants.{Accepted}
use Rattle.model.specs.Lists.{Answer, accepted, refused, ◌after◌}
use Rattle.model.specs.Table.{Read}
use Rattle.model.specs.Reader.{read_table}
use Rattle.model.specs.Schedule.{Passage}
use Rattle.model.specs.Checks.{accepted_schedule_of}
use Rattle.model.specs.Calls.{number_of, Call, refusing, bytes_with}
use Rattle.site.specs.Airtime.{airtime, Load, load_in}
use Rattle.site.proofs.Refusals.{Told, told_load}
use Rattle.uppaal.specs.XtaText.{system_text}
use Rattle.uppaal.specs.Export.{system_for}
use Rattle.uppaal.specs.UppaalCall.{all_budgetless, text_of, uppaal_in, uppaal_call}

-- 25 is asked of an accepted schedule
told_text : (t : Read) (load : List Passage → Load) (a : Answer (List Passage)) → Told (a after λ S. accepted (load S)) → Told (text_of t a)
told_text t load (accepted S) h = asked (all_budgetless t.table)
  where
    asked : (b : Bool) → Told (cond b (accepted (system_text (system_for t.table))) (refused 25 255))
    asked true = tt
    asked false = omega arith
told_text t load (refused n c) h = h

-- 1 to 12 are those of a table that is put into a site
told_in : (table : List ℕ) → Told (uppaal_in table)
unfolding uppaal_in load_in
told_in table = go (read_table table) (told_load table)
  where
    load : Read → List Passage → Load
    load t S = record { horizon = t.horizon; airtime = airtime t.table t.horizon S }

    go : (a : Answer Read) → Told (a after λ t. accepted_schedule_of t after λ S. accepted (load t S)) → Told (a after λ t. text_of t (accepted_schedule_of t))
    go (accepted t) h = told_text t (load t) (accepted_schedule_of t) h
    go (refused n c) h = h

-- and 13 of a text
abbrev Fine : Call → Type 0
Fine c = number_of c.verdict ≡ 0 → c.verdict ≡ Accepted

fine_laid : (n : ℕ) (result lent : List ℕ) (b : Bool) → Fine (cond b (record { verdict = Accepted; size = n; lent = result }) (refusing 13 255 lent))
fine_laid n result lent true h = refl
fine_laid n result lent false h = absurd (omega (arith, h))

fine_bytes : (lent : List ℕ) (a : Answer (List ℕ)) → Told a → Fine (bytes_with lent a)
fine_bytes lent (accepted bs) k h = fine_laid (length bs) _ lent (leb (length bs) (length lent)) h
fine_bytes lent (refused n c) k h = absurd (omega (arith, h, k))

pub zero_accepts : (table lent : List ℕ) → number_of (uppaal_call table lent).verdict ≡ 0 → (uppaal_call table lent).verdict ≡ Accepted
unfolding uppaal_call
zero_accepts table lent h = fine_bytes lent (uppaal_in table) (told_in table) h
