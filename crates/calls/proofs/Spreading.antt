-- The check at a spread, from what the reader and the schedule answer; the largest spread. Assumes nothing.
use mathlib.Core.Path.{◌≡◌, refl, sym, ap, subst, ◌∙◌}
use mathlib.Core.Logic.{◌↔◌}
use mathlib.Core.Bool.{Bool, true, false, cond, ◌&&◌}
use mathlib.Core.List.{List}
use Prim.Native.Nat.{ℕ, suc, ◌≤◌}
use native.Mathlib.Omega.{arith}
use borrow.Author.Tests.{le-ltb, ltb-true, ltb-false}
use lib.Dec.{ltb}
use Rattle.model.specs.declared.Verdict.{Verdict}
use Rattle.model.specs.declared.Verdict.TheVariants.{Accepted, Refused}
use Rattle.model.specs.Lists.{Answer, accepted, refused, ◌after◌}
use Rattle.model.specs.Table.{Table, Read}
use Rattle.model.specs.Reader.{read_table, version_fine, length_fine, count_fine, bands_fine}
use Rattle.model.specs.Places.{Valid, read_of}
use Rattle.model.specs.Schedule.{Passage}
use Rattle.model.specs.Checks.{checked, accepted_schedule, accepted_schedule_at}
use Rattle.model.specs.Calls.{verdict_of, spread_fine, read_at, accepted_schedule_in_at, check_call_at, check_call, LargestSpread}
use Rattle.model.proofs.Reader.Located.{valid_read}
use Rattle.model.proofs.Checks.Heard.{checked_is}
use Rattle.model.proofs.Checks.Lower.{largest_is}
use Rattle.table.specs.Directory.{header_of, reading_of, reading_at, refusal}
use Rattle.table.proofs.Whole.{header_refused}
use Rattle.table.proofs.Answered.{verdict_accepted, at_narrow, at_header, refused_at}
use Rattle.rows.specs.Rows.{rows_of, RowsPlaced}
use Rattle.schedule.specs.declared.Scheduled.{Scheduled}
use Rattle.schedule.specs.Filled as filled
use Rattle.schedule.proofs.Bare.{checked_light}
use Rattle.calls.specs.Spread.{ScheduleRows}

module _ (G : ℕ) (bs : List ℕ) where
  -- a table that was read, at a spread that is not too wide
  pub read_at_is : Valid bs → G ≤ 1000 → read_at G bs ≡ accepted (read_of bs)
  read_at_is v h = ap (λ (a : Answer Read). spread_fine G a) (valid_read bs v) ∙ rw (le-ltb 1000 G h)

  pub verdict-at : Valid bs → G ≤ 1000 → (r : Scheduled) (rows : List ℕ) → filled.Filled bs (filled.accepted_schedule_in G bs) r rows → r.verdict ≡ check_call_at G bs
  unfolding check_call_at accepted_schedule_in_at
  verdict-at v h r rows F = F.verdict ∙ sym (ap (λ (a : Answer Read). verdict_of (a after accepted_schedule_at G)) (read_at_is v h))

  -- one that was not
  pub check_refused_at : {n c : ℕ} → read_at G bs ≡ refused n c → Refused n c ≡ check_call_at G bs
  unfolding check_call_at accepted_schedule_in_at
  check_refused_at e = sym (ap (λ (a : Answer Read). verdict_of (a after accepted_schedule_at G)) e)

  -- one whose header was refused, whatever the spread: it is asked about after 3
  pub header_refused_at : (k : ℕ) → k ≡ header_of bs → (k ≡ 0 → ⊥) → Refused k 255 ≡ check_call_at G bs
  header_refused_at k e n = check_refused_at (refused_at G bs (refusal k 255) (by_width (ltb 1000 G) refl) refl)
    where
      of_read : refusal k 255 ≡ reading_of bs
      of_read = header_refused bs k e n

      among : (a b c : Bool) → cond a (cond b (cond c 0 3) 2) 1 ≤ 3
      among true true true = omega arith
      among true true false = omega arith
      among true false c = omega arith
      among false b c = omega arith

      few : k ≤ 3
      few = let m = among (version_fine bs) (length_fine bs) (count_fine bs && bands_fine bs) in omega (arith, e, m)

      by_width : (wide : Bool) → ltb 1000 G ≡ wide → refusal k 255 ≡ reading_at G bs
      by_width false w = at_narrow G bs (ltb-false 1000 G w) (refusal k 255) of_read
      by_width true w = at_header G bs (ltb-true 1000 G w) (refusal k 255) of_read refl few

-- ## The rows of a schedule

module _ (bs : List ℕ) (v : Valid bs) where
  abbrev T : Table
  T = (read_of bs).table

  abbrev H : ℕ
  H = (read_of bs).horizon

  -- the verdict at a spread is that of checks 7 to 12
  check_is : (G : ℕ) → G ≤ 1000 → check_call_at G bs ≡ verdict_of (filled.accepted_schedule_in G bs)
  unfolding check_call_at accepted_schedule_in_at
  check_is G h = ap (λ (a : Answer Read). verdict_of (a after accepted_schedule_at G)) (read_at_is G bs v h)

  -- accepted without a spread: the schedule that was made
  made : (S : List Passage) → filled.accepted_schedule_in 0 bs ≡ accepted S → filled.schedule_of bs ≡ accepted S
  unfolding accepted_schedule
  made S e = go (filled.schedule_of bs) e
    where
      go : (a : Answer (List Passage)) → (a after λ W. checked 0 T H W) ≡ accepted S → a ≡ accepted S
      go (accepted W) q = ap accepted ((checked_is 0 T H W S).0 q).0
      go (refused n c) q = let z : ◌≡◌ {A = ℕ} 0 1 = cc in absurd (omega arith)

  planned : (G : ℕ) (S : List Passage) → filled.schedule_of bs ≡ accepted S → filled.accepted_schedule_in G bs ≡ checked G T H S
  unfolding accepted_schedule
  planned G S e = ap (λ (a : Answer (List Passage)). a after λ W. checked G T H W) e

  -- so checks 10 to 12 of its rows give the verdict at any spread
  pub by_rows : (rows : List ℕ) (count : ℕ) → check_call_at 0 bs ≡ Accepted → ScheduleRows bs rows count → (k : ℕ) → k ≡ H → (G : ℕ) → G ≤ 1000
      → (w : Verdict) → w ≡ verdict_of (checked G T k (rows_of rows count)) → w ≡ check_call_at G bs
  by_rows rows count a R k e G h w q =
      let (S, p) = verdict_accepted (filled.accepted_schedule_in 0 bs) (sym (check_is 0 (omega arith)) ∙ a) in
      q ∙ ap (λ (n : ℕ). verdict_of (checked G T n (rows_of rows count))) e
      ∙ ap (λ (vs : List Passage). verdict_of (checked G T H vs)) (R.passages S p)
      ∙ checked_light G T H S
      ∙ ap verdict_of (sym (planned G S (made S p)))
      ∙ sym (check_is G h)

  -- the rows that were made
  pub made_rows : (r : Scheduled) (rows : List ℕ) → filled.Filled bs (filled.accepted_schedule_in 0 bs) r rows → r.verdict ≡ Accepted → ScheduleRows bs rows r.count
  made_rows r rows F a =
      let (S, p) = verdict_accepted (filled.accepted_schedule_in 0 bs) (sym F.verdict ∙ a) in
      record {
        placed = subst (RowsPlaced bs rows) (sym (F.count S p)) (F.placed S p);
        passages = λ W q. ap (rows_of rows) (F.count W q) ∙ F.rows W q;
      }

-- ## The largest spread

-- whether it is accepted, by the verdict
pub told_accepted : (v w : Verdict) → v ≡ w → v ≡ Accepted → (true ≡ true) ↔ (w ≡ Accepted)
told_accepted v w e q = (λ t. sym e ∙ q, λ t. refl)

pub told_refused : (v w : Verdict) {n c : ℕ} → v ≡ w → v ≡ Refused n c → (false ≡ true) ↔ (w ≡ Accepted)
told_refused v w {n} {c} e q = (
  λ t. let z : ◌≡◌ {A = ℕ} 0 1 = cc in absurd (omega arith),
  λ t. let x : Refused n c ≡ Accepted = sym q ∙ e ∙ t in let z : ◌≡◌ {A = ℕ} 0 1 = cc in absurd (omega arith),
)

-- none above 1,000 is accepted
pub wide_not : (bs : List ℕ) → check_call_at 1001 bs ≡ Accepted → ⊥
unfolding check_call_at accepted_schedule_in_at
wide_not bs e = go (read_table bs) e
  where
    go : (a : Answer Read) → verdict_of (spread_fine 1001 a after accepted_schedule_at 1001) ≡ Accepted → ⊥
    go (accepted t) q = let z : ◌≡◌ {A = ℕ} 0 1 = cc in omega arith
    go (refused n c) q = never (ltb 3 n) q
      where
        never : (x : Bool) → verdict_of (cond x (refused 19 255) (refused n c) after accepted_schedule_at 1001) ≡ Accepted → ⊥
        never true z = let y : ◌≡◌ {A = ℕ} 0 1 = cc in omega arith
        never false z = let y : ◌≡◌ {A = ℕ} 0 1 = cc in omega arith

pub not_accepted : (told : Bool) {P : Type 0} → (told ≡ true) ↔ P → told ≡ false → P → ⊥
not_accepted told e f p = let t : true ≡ false = sym (e.1 p) ∙ f in let z : ◌≡◌ {A = ℕ} 0 1 = cc in omega arith

-- accepted at one spread and not at the next
pub largest_by : (fits fails : ℕ) (bs : List ℕ) → check_call_at fits bs ≡ Accepted → (check_call_at fails bs ≡ Accepted → ⊥) → fails ≡ suc fits → fails ≤ 1001
    → LargestSpread bs fits × (fits ≤ 1000)
largest_by fits fails bs e f n h = (largest_is fits bs e (λ q. f (ap (λ (k : ℕ). check_call_at k bs) n ∙ q)), omega (arith, n, h))

-- the answer for a table that is refused, and for one that is not
module _ (bs : List ℕ) where
  pub no_spread : {n c : ℕ} → Refused n c ≡ check_call bs
      → (Refused n c ≡ check_call bs) × (Refused n c ≡ Accepted → LargestSpread bs 0) × ((Refused n c ≡ Accepted → ⊥) → ◌≡◌ {A = ℕ} 0 0)
  no_spread e = (e, λ a. let z : ◌≡◌ {A = ℕ} 0 1 = cc in absurd (omega arith), λ a. refl)

  pub this_spread : (G : ℕ) → Accepted ≡ check_call bs → LargestSpread bs G
      → (Accepted ≡ check_call bs) × (Accepted ≡ Accepted → LargestSpread bs G) × ((Accepted ≡ Accepted → ⊥) → G ≡ 0)
  this_spread G e l = (e, λ a. l, λ a. absurd (a refl))
