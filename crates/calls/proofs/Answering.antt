-- The calls' definitions, from what the reader and the schedule answer. Assumes nothing.
use mathlib.Core.Path.{◌≡◌, sym, ap, ◌∙◌}
use mathlib.Core.List.{List, ◌++◌}
use Prim.Native.Nat.{ℕ, ◌*◌, ◌≤◌, ◌<◌}
use lib.ListN.{length, drop}
use Rattle.model.specs.declared.Verdict.TheVariants.{Accepted, Refused}
use Rattle.model.specs.Lists.{Answer, accepted, refused, ◌after◌, each}
use Rattle.model.specs.Table.{Read}
use Rattle.model.specs.Places.{Valid}
use Rattle.model.specs.Schedule.{Passage, seven_of}
use Rattle.model.specs.Checks.{accepted_schedule_of}
use Rattle.model.specs.Calls.{refusing, laid, accepted_schedule_in, schedule_with, schedule_call}
use Rattle.model.proofs.Reader.Located.{valid_read}
use Rattle.table.proofs.Answered.{verdict_refused, verdict_accepted}
use Rattle.rows.specs.Rows.{rows_of}
use Rattle.schedule.specs.declared.Scheduled.{Scheduled}
use Rattle.schedule.specs.Filled as filled
use Rattle.run.specs.Ends.{Planned}
use Rattle.schedule.proofs.Fields.{fields_light, laid_fits, laid_short}

-- ## What was planned

pub planned : (bs : List ℕ) → Valid bs → accepted_schedule_in bs ≡ filled.accepted_schedule_in 0 bs
unfolding accepted_schedule_in
planned bs v = ap (λ (a : Answer Read). a after accepted_schedule_of) (valid_read bs v)

pub call_refused : (bs lent : List ℕ) {n c : ℕ} → accepted_schedule_in bs ≡ refused n c → schedule_call bs lent ≡ refusing n c lent
unfolding schedule_call
call_refused bs lent e = ap (schedule_with lent) e

-- the rows of a table accepted at a spread
module _ (G : ℕ) (bs : List ℕ) (r : Scheduled) (rows : List ℕ) (F : filled.Filled bs (filled.accepted_schedule_in G bs) r rows) (e : r.verdict ≡ Accepted) where
  pub passages : List Passage
  passages = (verdict_accepted (filled.accepted_schedule_in G bs) (sym F.verdict ∙ e)).0

  plan_is : filled.accepted_schedule_in G bs ≡ accepted passages
  unfolding passages
  plan_is = (verdict_accepted (filled.accepted_schedule_in G bs) (sym F.verdict ∙ e)).1

  pub count_is : r.count ≡ length passages
  count_is = F.count passages plan_is

  pub few : r.count ≤ 1024
  few = rw count_is (F.placed passages plan_is).few

  pub room : r.count * 9 ≤ length rows
  room = rw count_is (F.placed passages plan_is).fits

  -- they are the schedule
  pub is_planned : G ≤ 1000 → Planned G bs rows r.count
  is_planned h =
      record {
        small = h;
        passages = passages;
        accepted_schedule = plan_is;
        count = count_is;
        listed = ap (λ (k : ℕ). rows_of rows k) count_is ∙ F.rows passages plan_is;
        stand = record { few = few; fits = room };
      }

-- ## The schedule

module _ (bs : List ℕ) (v : Valid bs) (r : Scheduled) (rows : List ℕ) (F : filled.Filled bs (filled.accepted_schedule_in 0 bs) r rows) where
  -- refused
  pub plan_refused : {n c : ℕ} → r.verdict ≡ Refused n c → accepted_schedule_in bs ≡ refused n c
  plan_refused e = planned bs v ∙ verdict_refused (filled.accepted_schedule_in 0 bs) (sym F.verdict ∙ e)

  -- accepted
  module _ (e : r.verdict ≡ Accepted) where
    abbrev vs : List Passage
    vs = passages 0 bs r rows F e

    call_is : (lent : List ℕ) → schedule_call bs lent ≡ laid (length vs) (each seven_of vs) lent
    unfolding schedule_call
    call_is lent = ap (schedule_with lent) (planned bs v ∙ plan_is 0 bs r rows F e)

    pub too_short : (lent : List ℕ) → length lent < r.count * 7 → schedule_call bs lent ≡ refusing 13 255 lent
    too_short lent h = call_is lent ∙ laid_short vs r.count lent (count_is 0 bs r rows F e) h

    pub written : (lent : List ℕ) → r.count * 7 ≤ length lent
        → schedule_call bs lent ≡ record { verdict = Accepted; size = r.count; lent = each seven_of (rows_of rows r.count) ++ drop (r.count * 7) lent }
    written lent h =
        call_is lent
        ∙ laid_fits vs r.count (each seven_of (rows_of rows r.count)) lent (count_is 0 bs r rows F e)
        (ap (λ (k : ℕ). each seven_of (rows_of rows k)) (count_is 0 bs r rows F e) ∙ ap (each seven_of) (F.rows vs (plan_is 0 bs r rows F e)) ∙ fields_light vs)
        h
