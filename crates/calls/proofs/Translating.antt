-- The call `translate`, from what the checks answer. Assumes nothing.
use mathlib.Core.Path.{◌≡◌, sym, ap, ◌∙◌}
use mathlib.Core.List.{List, ◌++◌}
use Prim.Native.Nat.{ℕ, ◌≤◌, ◌<◌}
use borrow.Author.Tests.{le-leb, lt-leb}
use lib.ListN.{length, drop}
use Rattle.model.specs.declared.Verdict.{Verdict}
use Rattle.model.specs.declared.Verdict.TheVariants.{Accepted, Refused}
use Rattle.model.specs.Lists.{Answer, accepted, refused, ◌after◌}
use Rattle.model.specs.Table.{Read}
use Rattle.model.specs.Reader.{read_table}
use Rattle.model.specs.Places.{Valid, read_of}
use Rattle.model.specs.Schedule.{Passage}
use Rattle.model.specs.Checks.{accepted_schedule_of}
use Rattle.model.specs.Program.{program_bytes}
use Rattle.model.specs.Calls.{refusing, laid, accepted_schedule_in, bytes_with, check_call, translate_call}
use Rattle.model.proofs.Reader.Located.{valid_read}
use Rattle.table.proofs.Answered.{verdict_refused, verdict_accepted}

-- a table that is not accepted has no program
pub translate_refused : (bs lent : List ℕ) {n c : ℕ} → accepted_schedule_in bs ≡ refused n c → translate_call bs lent ≡ refusing n c lent
unfolding translate_call accepted_schedule_in
translate_refused bs lent {n} {c} e = go (read_table bs) e
  where
    planned : (t : Read) (b : Answer (List Passage)) → b ≡ refused n c → bytes_with lent (b after λ S. accepted (program_bytes t)) ≡ refusing n c lent
    planned t b q = ap (λ (x : Answer (List Passage)). bytes_with lent (x after λ S. accepted (program_bytes t))) q

    go : (a : Answer Read) → (a after accepted_schedule_of) ≡ refused n c → bytes_with lent (a after λ t. accepted_schedule_of t after λ S. accepted (program_bytes t)) ≡ refusing n c lent
    go (accepted t) q = planned t (accepted_schedule_of t) q
    go (refused m d) q = ap (bytes_with lent) (let z : ◌≡◌ {A = Answer (List ℕ)} (refused m d) (refused n c) = cc in z)

pub check_refused : (bs lent : List ℕ) {v : Verdict} {n c : ℕ} → v ≡ check_call bs → v ≡ Refused n c → translate_call bs lent ≡ refusing n c lent
unfolding check_call
check_refused bs lent e q = translate_refused bs lent (verdict_refused (accepted_schedule_in bs) (sym e ∙ q))

module _ (bs : List ℕ) (v : Valid bs) {verdict : Verdict} (e : verdict ≡ check_call bs) (q : verdict ≡ Accepted) where
  program : List ℕ
  program = program_bytes (read_of bs)

  -- the call lays the program over what is lent
  is_laid : (lent : List ℕ) → translate_call bs lent ≡ laid (length program) program lent
  unfolding translate_call check_call accepted_schedule_in program
  is_laid lent =
      let a = verdict_accepted (accepted_schedule_in bs) (sym e ∙ q) in
      let r : read_table bs ≡ accepted (read_of bs) = valid_read bs v in
      let p : accepted_schedule_of (read_of bs) ≡ accepted a.0 = sym (ap (λ (x : Answer Read). x after accepted_schedule_of) r) ∙ a.1 in
      ap (λ (x : Answer Read). bytes_with lent (x after λ t. accepted_schedule_of t after λ S. accepted (program_bytes t))) r
      ∙ ap (λ (x : Answer (List Passage)). bytes_with lent (x after λ S. accepted (program_bytes (read_of bs)))) p

  pub too_short : (lent : List ℕ) → length lent < length (program_bytes (read_of bs)) → translate_call bs lent ≡ refusing 13 255 lent
  unfolding program
  too_short lent h = is_laid lent ∙ rw (lt-leb (length (program_bytes (read_of bs))) (length lent) h)

  pub written : (lent : List ℕ) → length (program_bytes (read_of bs)) ≤ length lent
      → translate_call bs lent
      ≡ record { verdict = Accepted; size = length (program_bytes (read_of bs)); lent = program_bytes (read_of bs) ++ drop (length (program_bytes (read_of bs))) lent }
  unfolding program
  written lent h = is_laid lent ∙ rw (le-leb (length (program_bytes (read_of bs))) (length lent) h)
