-- What the calls answer of a table that the header refuses, with 1 to 3: one law, `by_header`, of whatever is a function of what was read. Assumes
-- nothing.
use mathlib.Core.Path.{◌≡◌, refl, sym, ap, ◌∙◌}
use mathlib.Core.Bool.{Bool, true, false, cond, ◌&&◌}
use mathlib.Core.List.{List, []}
use Prim.Native.Nat.{ℕ, ◌≤◌}
use native.Mathlib.Omega.{arith}
use borrow.Author.Tests.{le-leb, le-ltb}
use lib.Dec.{ltb}
use lib.ListN.{length}
use Rattle.model.specs.declared.Verdict.TheVariants.{Accepted, Refused}
use Rattle.model.specs.Lists.{Answer, accepted, refused, ◌after◌, each}
use Rattle.model.specs.Table.{Read}
use Rattle.model.specs.Reader.{read_table, version_fine, length_fine, count_fine, bands_fine}
use Rattle.model.specs.Checks.{accepted_schedule_of}
use Rattle.model.specs.Program.{program_bytes}
use Rattle.model.specs.Calls.{verdict_of, refusing, spread_fine, read_at, accepted_schedule_in, check_call, schedule_with, schedule_call, bytes_with, translate_call, not_run, run_call, run_call_at}
use Rattle.model.specs.Chart.{chart, chart_call}
use Rattle.model.specs.Meetings.{MeetingsCall, meetings_call_at, meetings_call}
use Rattle.model.specs.Reasons.{asked, asked_in, told, reasons_call}
use Rattle.model.proofs.Run.CallsApart.{run_together, meetings_together}
use Rattle.table.specs.Directory.{header_of, refusal}
use Rattle.table.proofs.Whole.{header_refused}
use Rattle.table.proofs.Answered.{read_refused}
use Rattle.meetings.proofs.Listing.{read_not}
use Rattle.calls.proofs.RunCalls.{run_refused}
use Rattle.opening_place.specs.Opening.{no_opening, opening_of}
use Rattle.refused_opening.proofs.Telling.{told_unread}

module _ (bs : List ℕ) (k : ℕ) (e : k ≡ header_of bs) (n : k ≡ 0 → ⊥) where
  -- it was not read ..
  pub unread : read_table bs ≡ refused k 255
  unread = read_refused bs (refusal k 255) (header_refused bs k e n) refl

  among : (a b c : Bool) → cond a (cond b (cond c 0 3) 2) 1 ≤ 3
  among true true true = omega arith
  among true true false = omega arith
  among true false c = omega arith
  among false b c = omega arith

  few : k ≤ 3
  few = let m = among (version_fine bs) (length_fine bs) (count_fine bs && bands_fine bs) in omega (arith, e, m)

  -- .. at no spread: it is asked about after 3
  pub unread_at : (G : ℕ) → read_at G bs ≡ refused k 255
  unread_at G = ap (λ (a : Answer Read). spread_fine G a) unread ∙ narrow (ltb 1000 G)
    where
      this : Answer Read
      this = refused k 255

      narrow : (x : Bool) → cond (x && ltb 3 k) (refused 19 255) this ≡ this
      narrow true = rw (le-ltb 3 k few)
      narrow false = refl

  -- what is a function of it is that of the refusal
  pub by_header : {A : Type 0} (f : Answer Read → A) → f (read_table bs) ≡ f (refused k 255)
  by_header f = ap f unread

  -- ## The calls

  pub no_check : check_call bs ≡ Refused k 255
  unfolding check_call accepted_schedule_in
  no_check = by_header (λ a. verdict_of (a after accepted_schedule_of))

  pub no_schedule : (lent : List ℕ) → schedule_call bs lent ≡ refusing k 255 lent
  unfolding schedule_call accepted_schedule_in
  no_schedule lent = by_header (λ a. schedule_with lent (a after accepted_schedule_of))

  pub no_chart : (lent : List ℕ) → chart_call bs lent ≡ refusing k 255 lent
  unfolding chart_call
  no_chart lent = by_header (λ a. bytes_with lent (a after λ t. accepted_schedule_of t after λ S. accepted (chart t.table t.horizon S)))

  pub no_program : (lent : List ℕ) → translate_call bs lent ≡ refusing k 255 lent
  unfolding translate_call
  no_program lent = by_header (λ a. bytes_with lent (a after λ t. accepted_schedule_of t after λ S. accepted (program_bytes t)))

  pub no_run_apart : (G : ℕ) (os cs lent : List ℕ) → run_call_at G bs os cs lent ≡ not_run k 255 lent
  no_run_apart G os cs lent = run_refused G bs os cs lent (unread_at G)

  pub no_run : (cs lent : List ℕ) → run_call bs cs lent ≡ not_run k 255 lent
  no_run cs lent = sym (run_together bs cs lent) ∙ no_run_apart 0 [] cs lent

  -- nothing is listed, whatever the list
  abbrev pub unlisted : List ℕ → MeetingsCall
  unlisted lent = record { table = Refused k 255; verdict = Accepted; size = 0; lent = lent }

  pub no_meetings_at : (G : ℕ) (lent : List ℕ) → meetings_call_at G bs lent ≡ unlisted lent
  unfolding each
  no_meetings_at G lent = read_not G bs lent (unread_at G) ∙ rw (le-leb 0 (length lent) (omega arith))

  pub no_meetings : (lent : List ℕ) → meetings_call bs lent ≡ unlisted lent
  no_meetings lent = sym (meetings_together bs lent) ∙ no_meetings_at 0 lent

  pub no_reasons : (c t : ℕ) (lent : List ℕ) → reasons_call bs c t lent ≡ record { verdict = Refused k 255; passage = 0; size = 0; lent = lent }
  unfolding reasons_call asked
  no_reasons c t lent = by_header (λ a. told lent (a after λ t'. accepted_schedule_of t' after asked_in t' c t))

  pub no-opening : no_opening ≡ opening_of bs
  no-opening = told_unread bs unread
