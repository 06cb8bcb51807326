-- The rows of a table that is accepted: they are its passages, and these are a schedule. Assumes nothing.
use mathlib.Core.Path.{◌≡◌, refl, sym, ap, ◌∙◌}
use mathlib.Core.List.{List, [], ◌∷◌, map}
use Prim.Native.Nat.{ℕ, zero, suc, ◌<◌}
use native.Mathlib.Omega.{arith}
use lib.ListN.{length}
use Rattle.model.specs.declared.Verdict.TheVariants.{Accepted}
use Rattle.model.specs.Places.{read_of}
use Rattle.model.specs.Schedule.{Passage, light}
use Rattle.model.specs.Checks.{limit, passage_at}
use Rattle.model.specs.Chains.{IsSchedule}
use Rattle.model.proofs.Run.Tied.{schedule_at}
use Rattle.table.proofs.Answered.{verdict_accepted}
use Rattle.rows.specs.Rows.{row_passage, rows_of}
use Rattle.rows.proofs.Numbered.{row_at}
use Rattle.schedule.specs.declared.Scheduled.{Scheduled}
use Rattle.schedule.specs.Filled.{Filled, accepted_schedule_in, AcceptedRows}

-- what `plan_rows` ensures at the spread 0, where it accepts
pub accepted_rows : (bs l : List ℕ) (r : Scheduled) → Filled bs (accepted_schedule_in 0 bs) r l → r.verdict ≡ Accepted → AcceptedRows bs l r.count
accepted_rows bs l r F e =
    let a = verdict_accepted (accepted_schedule_in 0 bs) (sym F.verdict ∙ e) in
    let count : r.count ≡ length a.0 = F.count a.0 a.1 in
    record {
      passages = a.0;
      accepted_schedule = a.1;
      count = count;
      listed = ap (λ (n : ℕ). rows_of l n) count ∙ F.rows a.0 a.1;
      placed = rw count (F.placed a.0 a.1);
    }

light_at : (S : List Passage) (k : ℕ) → k < length S → passage_at (map light S) k ≡ light (passage_at S k)
light_at [] k h = absurd (omega arith)
light_at (v ∷ S) zero h = refl
light_at (v ∷ S) (suc k) h = light_at S k (omega arith)

module _ (bs l : List ℕ) (n : ℕ) (p : AcceptedRows bs l n) where
  -- row i is passage i
  pub row_is : (i : ℕ) → i < n → row_passage l i ≡ light (passage_at p.passages i)
  row_is i h = sym (row_at l n i h) ∙ ap (λ L. passage_at L i) p.listed ∙ light_at p.passages i (omega (arith, p.count))

  pub is_schedule : IsSchedule limit (read_of bs).table (read_of bs).horizon p.passages
  is_schedule = (schedule_at 0 (read_of bs).table (read_of bs).horizon limit p.passages p.accepted_schedule).0
