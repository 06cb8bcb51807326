-- The call `uppaal`, from what the reader and the schedule answer. Assumes nothing.
use mathlib.Core.Path.{◌≡◌, sym, ap, ◌∙◌}
use mathlib.Core.Bool.{Bool, true, false, cond}
use mathlib.Core.List.{List, ◌++◌}
use Prim.Native.Nat.{ℕ, ◌+◌, ◌≤◌, ◌<◌}
use native.Mathlib.Omega.{arith}
use borrow.Author.Tests.{le-leb, lt-leb}
use lib.ListN.{length, drop}
use lib.Seq.{sets-eq}
use Rattle.model.specs.declared.Verdict.TheVariants.{Accepted, Refused}
use Rattle.model.specs.Lists.{Answer, accepted, refused, ◌after◌}
use Rattle.model.specs.Table.{Read}
use Rattle.model.specs.Reader.{read_table}
use Rattle.model.specs.Places.{Valid, read_of}
use Rattle.model.specs.Schedule.{Passage}
use Rattle.model.specs.Checks.{accepted_schedule_of}
use Rattle.model.specs.Calls.{refusing, bytes_with, verdict_of, accepted_schedule_in, check_call}
use Rattle.model.proofs.Reader.Located.{valid_read}
use Rattle.table.proofs.Answered.{verdict_refused, verdict_accepted}
use Rattle.schedule.specs.declared.Scheduled.{Scheduled}
use Rattle.schedule.specs.Filled as filled
use Rattle.blocks.specs.Put.{Put}
use Rattle.uppaal.specs.XtaText.{system_text}
use Rattle.uppaal.specs.Export.{system_for}
use Rattle.uppaal.specs.UppaalCall.{all_budgetless, text_of, uppaal_in, uppaal_call}
use Rattle.uppaal_call.specs.LaidText.{laid_text}

-- a table that is not accepted is not written
pub call_refused : (bs lent : List ℕ) {n c : ℕ} → accepted_schedule_in bs ≡ refused n c → uppaal_call bs lent ≡ refusing n c lent
unfolding uppaal_call uppaal_in accepted_schedule_in
call_refused bs lent {n} {c} e = go (read_table bs) e
  where
    scheduled : (t : Read) (b : Answer (List Passage)) → b ≡ refused n c → bytes_with lent (text_of t b) ≡ refusing n c lent
    scheduled t b q = ap (λ (x : Answer (List Passage)). bytes_with lent (text_of t x)) q

    go : (a : Answer Read) → (a after accepted_schedule_of) ≡ refused n c → bytes_with lent (a after λ t. text_of t (accepted_schedule_of t)) ≡ refusing n c lent
    go (accepted t) q = scheduled t (accepted_schedule_of t) q
    go (refused m d) q = ap (bytes_with lent) (let z : ◌≡◌ {A = Answer (List ℕ)} (refused m d) (refused n c) = cc in z)

pub plan_refused : (bs : List ℕ) {n c : ℕ} → check_call bs ≡ Refused n c → accepted_schedule_in bs ≡ refused n c
unfolding check_call
plan_refused bs e = verdict_refused (accepted_schedule_in bs) e

-- what was planned is what the checks say
pub checked : (bs : List ℕ) → Valid bs → (r : Scheduled) (rows : List ℕ) → filled.Filled bs (filled.accepted_schedule_in 0 bs) r rows → r.verdict ≡ check_call bs
unfolding check_call accepted_schedule_in
checked bs v r rows F = F.verdict ∙ sym (ap (λ (a : Answer Read). verdict_of (a after accepted_schedule_of)) (valid_read bs v))

-- accepted
module _ (bs lent : List ℕ) (v : Valid bs) (e : check_call bs ≡ Accepted) where
  plan_is : (S : List Passage) × (accepted_schedule_of (read_of bs) ≡ accepted S)
  unfolding check_call accepted_schedule_in
  plan_is =
      let p = verdict_accepted (accepted_schedule_in bs) e in
      (p.0, sym (ap (λ (a : Answer Read). a after accepted_schedule_of) (valid_read bs v)) ∙ p.1)

  call_is : uppaal_call bs lent ≡ bytes_with lent (cond (all_budgetless (read_of bs).table) (accepted (system_text (system_for (read_of bs).table))) (refused 25 255))
  unfolding uppaal_call uppaal_in
  call_is =
      ap (λ (a : Answer Read). bytes_with lent (a after λ t. text_of t (accepted_schedule_of t))) (valid_read bs v)
      ∙ ap (λ (x : Answer (List Passage)). bytes_with lent (text_of (read_of bs) x)) plan_is.1

  -- a budget other than 0
  pub works : (b : Bool) → b ≡ all_budgetless (read_of bs).table → b ≡ false → uppaal_call bs lent ≡ refusing 25 255 lent
  works b q w =
      call_is ∙ ap (λ (c : Bool). bytes_with lent (cond c (accepted (system_text (system_for (read_of bs).table))) (refused 25 255))) (sym q ∙ w)

  -- none
  pub rests : (b : Bool) → b ≡ all_budgetless (read_of bs).table → b ≡ true → uppaal_call bs lent ≡ laid_text bs lent
  unfolding laid_text
  rests b q w =
      call_is ∙ ap (λ (c : Bool). bytes_with lent (cond c (accepted (system_text (system_for (read_of bs).table))) (refused 25 255))) (sym q ∙ w)

-- ## The text is laid, or it is too long

module _ (bs lent : List ℕ) (n : ℕ) {o p : List ℕ} (c : Put o 0 (system_text (system_for (read_of bs).table)) n p) where
  long : n ≡ length (system_text (system_for (read_of bs).table))
  long = omega (arith, c.next)

  pub too_short : length lent < n → laid_text bs lent ≡ refusing 13 255 lent
  unfolding laid_text
  too_short h = let t = system_text (system_for (read_of bs).table) in rw (lt-leb (length t) (length lent) (omega (arith, long)))

  pub written : n ≤ length lent → {q : List ℕ} {m : ℕ} → Put lent 0 (system_text (system_for (read_of bs).table)) m q → laid_text bs lent ≡ record { verdict = Accepted; size = n; lent = q }
  unfolding laid_text
  written h {q} w =
      let t = system_text (system_for (read_of bs).table) in
      let z : 0 + length t ≡ length t = omega arith in
      let s : q ≡ t ++ drop (length t) lent = w.same ∙ sets-eq t lent 0 (omega (arith, long)) ∙ ap (λ (k : ℕ). t ++ drop k lent) z in
      rw (le-leb (length t) (length lent) (omega (arith, long)), ← s, ← long)
