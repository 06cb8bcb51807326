-- The call `timing_chart`, from what the reader and the schedule answer. Assumes nothing.
use mathlib.Core.Path.{◌≡◌, refl, sym, ap, ap₂, ◌∙◌}
use mathlib.Core.Bool.{Bool, ◌||◌}
use mathlib.Core.List.{List, [], ◌∷◌, ◌++◌, map}
use Prim.Native.Nat.{ℕ, suc, ◌+◌, ◌*◌, ◌≤◌, ◌<◌}
use native.Mathlib.Omega.{arith}
use borrow.Author.Tests.{le-leb, lt-leb}
use lib.ListN.{length, drop}
use Rattle.model.specs.declared.Verdict.TheVariants.{Accepted, Refused}
use Rattle.model.specs.Lists.{any, from, below, each, Answer, accepted, refused, ◌after◌}
use Rattle.model.specs.Table.{Table, Read, size}
use Rattle.model.specs.Reader.{read_table}
use Rattle.model.specs.Places.{Valid, read_of}
use Rattle.model.specs.Schedule.{Passage, light}
use Rattle.model.specs.Checks.{accepted_schedule_of}
use Rattle.model.specs.Calls.{Call, refusing, laid, bytes_with, accepted_schedule_in}
use Rattle.model.specs.Chart.{cell_from, shows, cell_of, row_of, chart, chart_in, chart_call}
use Rattle.model.proofs.Reader.Located.{valid_read}
use Rattle.model.proofs.Schedule.Charted.{chart_length}
use Rattle.table.proofs.Answered.{verdict_refused, verdict_accepted}
use Rattle.rows.specs.Rows.{rows_of, RowsPlaced}
use Rattle.schedule.specs.declared.Scheduled.{Scheduled}
use Rattle.schedule.specs.Filled as filled
use Rattle.calls.proofs.Answering.{planned}

-- ## A chart reads neither clocks nor variables at entry

any_light : (p : Passage → Bool) → ((v : Passage) → p (light v) ≡ p v) → (S : List Passage) → any p (map light S) ≡ any p S
any_light p same [] = refl
any_light p same (v ∷ S) = rw (same v, any_light p same S)

cell_light : (T : Table) (S : List Passage) (c a b : ℕ) → cell_of T (map light S) c a b ≡ cell_of T S c a b
cell_light T S c a b =
    rw (
      any_light (shows T c 83 a b) (λ v. refl) S,
      any_light (shows T c 82 a b) (λ v. refl) S,
      any_light (shows T c 87 a b) (λ v. refl) S,
    )

module _ (T : Table) (H : ℕ) (S : List Passage) where
  row_light : (c : ℕ) → row_of T H (map light S) c ≡ row_of T H S c
  row_light c = ap (λ l. (67 ∷ (48 + c) ∷ 58 ∷ 32 ∷ []) ++ (l ++ (10 ∷ []))) (go (below 64))
    where
      go : (l : List ℕ) → map (λ i. cell_of T (map light S) c (cell_from H i) (cell_from H (suc i))) l ≡ map (λ i. cell_of T S c (cell_from H i) (cell_from H (suc i))) l
      go [] = refl
      go (i ∷ l) = rw (cell_light T S c (cell_from H i) (cell_from H (suc i)), go l)

  pub chart_light : chart T H (map light S) ≡ chart T H S
  unfolding chart each
  chart_light = go (below (size T))
    where
      go : (l : List ℕ) → each (row_of T H (map light S)) l ≡ each (row_of T H S) l
      go [] = refl
      go (c ∷ l) = ap₂ (λ (x y : List ℕ). x ++ y) (row_light c) (go l)

-- ## The call

-- a table that is not accepted has no chart
pub call_refused : (bs lent : List ℕ) {n c : ℕ} → accepted_schedule_in bs ≡ refused n c → chart_call bs lent ≡ refusing n c lent
unfolding chart_call accepted_schedule_in
call_refused bs lent {n} {c} e = go (read_table bs) e
  where
    scheduled : (t : Read) (b : Answer (List Passage)) → b ≡ refused n c → bytes_with lent (b after λ S. accepted (chart t.table t.horizon S)) ≡ refusing n c lent
    scheduled t b q = ap (λ (x : Answer (List Passage)). bytes_with lent (x after λ S. accepted (chart t.table t.horizon S))) q

    go : (a : Answer Read) → (a after accepted_schedule_of) ≡ refused n c
        → bytes_with lent (a after λ t. accepted_schedule_of t after λ S. accepted (chart t.table t.horizon S)) ≡ refusing n c lent
    go (accepted t) q = scheduled t (accepted_schedule_of t) q
    go (refused m d) q = ap (bytes_with lent) (let z : ◌≡◌ {A = Answer (List ℕ)} (refused m d) (refused n c) = cc in z)

module _ (bs : List ℕ) (v : Valid bs) (r : Scheduled) (rows : List ℕ) (F : filled.Filled bs (filled.accepted_schedule_in 0 bs) r rows) where
  pub plan_refused : {n c : ℕ} → r.verdict ≡ Refused n c → accepted_schedule_in bs ≡ refused n c
  plan_refused e = planned bs v ∙ verdict_refused (filled.accepted_schedule_in 0 bs) (sym F.verdict ∙ e)

  -- accepted
  module _ (e : r.verdict ≡ Accepted) where
    pub passages : List Passage
    passages = (verdict_accepted (filled.accepted_schedule_in 0 bs) (sym F.verdict ∙ e)).0

    plan_is : filled.accepted_schedule_in 0 bs ≡ accepted passages
    unfolding passages
    plan_is = (verdict_accepted (filled.accepted_schedule_in 0 bs) (sym F.verdict ∙ e)).1

    count_is : r.count ≡ length passages
    count_is = F.count passages plan_is

    pub placed : RowsPlaced bs rows r.count
    placed = rw count_is (F.placed passages plan_is)

    abbrev T : Table
    T = (read_of bs).table

    -- the chart of the rows is that of the schedule
    drawn : (H : ℕ) → chart T H (rows_of rows r.count) ≡ chart T H passages
    drawn H = ap (λ k. chart T H (rows_of rows k)) count_is ∙ ap (chart T H) (F.rows passages plan_is) ∙ chart_light T H passages

    call_is : (lent : List ℕ) → chart_call bs lent ≡ laid (length (chart T (read_of bs).horizon passages)) (chart T (read_of bs).horizon passages) lent
    unfolding chart_call
    call_is lent =
        ap (λ (x : Answer Read). bytes_with lent (x after λ t. accepted_schedule_of t after λ S. accepted (chart t.table t.horizon S))) (valid_read bs v)
        ∙ ap (λ (x : Answer (List Passage)). bytes_with lent (x after λ S. accepted (chart T (read_of bs).horizon S))) plan_is

    module _ (lent : List ℕ) (count : ℕ) (c : count ≡ size T) where
      long : length (chart T (read_of bs).horizon passages) ≡ count * 69
      long = chart_length T (read_of bs).horizon passages ∙ ap (λ k. k * 69) (sym c)

      pub too_short : length lent < count * 69 → chart_call bs lent ≡ refusing 13 255 lent
      too_short h = call_is lent ∙ rw (lt-leb (length (chart T (read_of bs).horizon passages)) (length lent) (omega (arith, long, h)))

      pub written : (H : ℕ) → H ≡ (read_of bs).horizon → count * 69 ≤ length lent
          → chart_call bs lent ≡ record { verdict = Accepted; size = count * 69; lent = chart T H (rows_of rows r.count) ++ drop (count * 69) lent }
      written H q h =
          call_is lent
          ∙ rw (le-leb (length (chart T (read_of bs).horizon passages)) (length lent) (omega (arith, long, h)), long, ← drawn (read_of bs).horizon, ← q)
