-- Where the check stopped is told of the verdict, at whatever spread: of its number and its component. Assumes nothing.
use mathlib.Core.Path.{◌≡◌}
use mathlib.Core.Bool.{Bool, true, false, cond, ◌&&◌}
use mathlib.Core.List.{List}
use Prim.Native.Nat.{ℕ, ◌≤◌}
use native.Mathlib.Omega.{arith}
use lib.Dec.{ltb}
use Rattle.model.specs.declared.Verdict.TheVariants.{Refused}
use Rattle.model.specs.Lists.{Answer, accepted, refused, ◌after◌}
use Rattle.model.specs.Table.{Read}
use Rattle.model.specs.Reader.{read_table}
use Rattle.model.specs.Schedule.{Passage, schedule}
use Rattle.model.specs.Checks.{limit, checked, accepted_schedule, accepted_schedule_at, accepted_schedule_of}
use Rattle.model.specs.Calls.{verdict_of, spread_fine, accepted_schedule_in_at, accepted_schedule_in, check_call_at, check_call}
use Rattle.refusal_place.specs.Walk.{place_of}
use Rattle.refusal_place.proofs.Numbered.{Numbered, checked_numbered}
use Rattle.refusal_place.proofs.Whole.{told}
use Rattle.opening_place.specs.Opening.{opening_of}
use Rattle.refused_opening.proofs.Promised.{promised}

module _ (G n c : ℕ) (low : 4 ≤ n) (high : n ≤ 9) where
  -- the schedule is refused so, whatever is asked behind it
  scheduled : (a : Answer (List Passage)) (f g : List Passage → Answer (List Passage)) → ((S : List Passage) → Numbered (λ m. 10 ≤ m) (f S))
      → verdict_of (a after f) ≡ Refused n c → verdict_of (a after g) ≡ Refused n c
  scheduled (accepted S) f g late e = absurd (go (f S) (late S) e)
    where
      go : (b : Answer (List Passage)) → Numbered (λ m. 10 ≤ m) b → verdict_of b ≡ Refused n c → ⊥
      go (accepted T) l q = let z : ◌≡◌ {A = ℕ} 0 1 = cc in omega arith
      go (refused m d) l q = let z : m ≡ n = cc in omega (arith, l)
  scheduled (refused m d) f g late e = e

  reading : (a : Answer Read) → verdict_of (spread_fine G a after accepted_schedule_at G) ≡ Refused n c → verdict_of (a after accepted_schedule_of) ≡ Refused n c
  unfolding accepted_schedule
  reading (accepted t) e = go (ltb 1000 G) e
    where
      go : (b : Bool) → verdict_of (cond b (refused 19 255) (accepted t) after accepted_schedule_at G) ≡ Refused n c → verdict_of (accepted_schedule_of t) ≡ Refused n c
      go true q = let z : 19 ≡ n = cc in absurd (omega arith)
      go false q =
          scheduled (schedule limit t.table t.horizon) (checked G t.table t.horizon) (checked 0 t.table t.horizon) (checked_numbered G t.table t.horizon) q
  reading (refused m d) e = go (ltb 1000 G && ltb 3 m) e
    where
      go : (b : Bool) → verdict_of (cond b (refused 19 255) (refused m d) after accepted_schedule_at G) ≡ Refused n c → Refused m d ≡ Refused n c
      go true q = let z : 19 ≡ n = cc in absurd (omega arith)
      go false q = q

-- 4 to 9 are asked without a look at the spread
pub same_without : (G : ℕ) (bs : List ℕ) (n c : ℕ) → 4 ≤ n → n ≤ 9 → check_call_at G bs ≡ Refused n c → check_call bs ≡ Refused n c
unfolding check_call_at accepted_schedule_in_at check_call accepted_schedule_in
same_without G bs n c low high e = reading G n c low high (read_table bs) e

pub place_of_verdict : (G : ℕ) (bs : List ℕ) (n c : ℕ) → 4 ≤ n → n ≤ 6 → check_call_at G bs ≡ Refused n c → ((place_of bs).number ≡ n) × ((place_of bs).component ≡ c)
place_of_verdict G bs n c low high e = ((told bs).verdict n c low high).0 (same_without G bs n c low (omega arith) e)

pub opening_of_verdict : (G : ℕ) (bs : List ℕ) (n c : ℕ) → 7 ≤ n → n ≤ 9 → check_call_at G bs ≡ Refused n c → ((opening_of bs).number ≡ n) × ((opening_of bs).component ≡ c)
opening_of_verdict G bs n c low high e = ((promised bs).verdict n c low high).0 (same_without G bs n c (omega arith) high e)
