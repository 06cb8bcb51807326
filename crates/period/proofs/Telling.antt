-- The answer of the call, from what the table says. Assumes nothing.
use mathlib.Core.Path.{◌≡◌, refl, sym, ap, subst, ◌∙◌}
use mathlib.Core.List.{List}
use mathlib.Core.Option.{Option as Perhaps, none, some}
use Rattle.std.specs.Prelude.{Option}
use Prim.Native.Nat.{ℕ}
use Rattle.model.specs.declared.Verdict.TheVariants.{Accepted, Refused}
use Rattle.model.specs.Lists.{Answer, refused}
use Rattle.model.specs.Table.{Read}
use Rattle.model.specs.Reader.{read_table}
use Rattle.model.specs.Places.{Valid, read_of}
use Rattle.model.specs.Schedule.{Passage}
use Rattle.model.specs.Checks.{accepted_schedule_of}
use Rattle.model.specs.Calls.{verdict_of}
use Rattle.model.proofs.Reader.Located.{valid_read}
use Rattle.schedule.specs.Filled.{AcceptedRows}
use Rattle.recurrence.specs.declared.Pair.{Pair}
use Rattle.recurrence.specs.Recurrence.{Recurrence, recurrence, RecurrenceCall, recurrence_found, recurrence_of, recurrence_read, recurrence_call}
use Rattle.period.specs.declared.Repeating.{Repeating}
use Rattle.period.specs.Walking.{passages_of, schedule_in}
use Rattle.period.specs.Searching.{PairIs}
use Rattle.period.specs.Telling.{Refuses, PairTold, Tells}

tells_refused : (r : Repeating) (n c : ℕ) {call : RecurrenceCall} → call ≡ recurrence_found (Refused n c) none → Refuses r n c → Tells call r
tells_refused r n c e q = rw e (record { verdict = q.verdict; pair = subst (PairTold (recurrence_found (Refused n c) none)) (sym q.pair) (refl, refl, refl) })

module _ (bs : List ℕ) where
  -- 1 to 6
  pub not_read : (r : Repeating) {n c : ℕ} → read_table bs ≡ refused n c → Refuses r n c → Tells (recurrence_call bs) r
  unfolding recurrence_call
  not_read r {n} {c} e q = tells_refused r n c (ap (λ (a : Answer Read). recurrence_read a) e) q

  -- of a table that was read
  planned_is : Valid bs → {a : Answer (List Passage)} → accepted_schedule_of (read_of bs) ≡ a → recurrence_call bs ≡ recurrence_found (verdict_of a) (recurrence_of (read_of bs) a)
  unfolding recurrence_call
  planned_is v e = ap (λ (a : Answer Read). recurrence_read a) (valid_read bs v) ∙ ap (λ (a : Answer (List Passage)). recurrence_found (verdict_of a) (recurrence_of (read_of bs) a)) e

  -- 7 to 12
  pub not_planned : Valid bs → (r : Repeating) {n c : ℕ} → accepted_schedule_of (read_of bs) ≡ refused n c → Refuses r n c → Tells (recurrence_call bs) r
  not_planned v r {n} {c} e q = tells_refused r n c (planned_is v e) q

  -- of a table that is accepted
  pub pair_told : (l : List ℕ) (n : ℕ) → AcceptedRows bs l n → (p : Option Pair) → PairIs (recurrence (read_of bs).table (read_of bs).horizon (schedule_in bs)) p
      → (r : Repeating) → r.verdict ≡ Accepted → r.pair ≡ p → Tells (recurrence_call bs) r
  pair_told l n laid p q r v e =
      let same : schedule_in bs ≡ laid.passages = ap (λ (a : Answer (List Passage)). passages_of a) laid.accepted_schedule in
      rw (planned_is laid.placed.valid laid.accepted_schedule)
      (go (recurrence (read_of bs).table (read_of bs).horizon laid.passages) (subst (λ (S : List Passage). PairIs (recurrence (read_of bs).table (read_of bs).horizon S) p) same q))
    where
      go : (o : Perhaps Recurrence) → PairIs o p → Tells (recurrence_found Accepted o) r
      go none q = record { verdict = v; pair = subst (PairTold (recurrence_found Accepted none)) (sym (e ∙ q)) (refl, refl, refl) }
      go (some x) q = record { verdict = v; pair = subst (PairTold (recurrence_found Accepted (some x))) (sym (e ∙ q)) (refl, refl, refl) }
