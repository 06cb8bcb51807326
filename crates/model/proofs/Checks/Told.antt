-- The call `check`, and at every spread `check_spread`, answers 11, 15, 16 or 17 exactly where the first send at fault has that fault, by ticks. What
-- the distances in it are by offsets is said in `Offsets`. Assumes nothing.
use mathlib.Core.Path.{◌≡◌, refl, sym, ap, subst, ◌∙◌}
use mathlib.Core.Logic.{◌↔◌}
use mathlib.Core.Bool.{Bool, true, false, cond, ◌&&◌}
use mathlib.Core.List.{List}
use Prim.Native.Nat.{ℕ, ◌≤◌, ◌<◌}
use native.Mathlib.Omega.{arith}
use borrow.Author.Tests.{ltb-false, le-ltb}
use lib.Dec.{ltb}
use Rattle.model.specs.declared.Hearing.{Hearing}
use Rattle.model.specs.declared.Hearing.TheVariants.{Well, Nobody, Several, LateStart, EarlyEnd}
use Rattle.model.specs.declared.Verdict.{Verdict}
use Rattle.model.specs.declared.Verdict.TheVariants.{Refused}
use Rattle.model.specs.Lists.{Answer, accepted, refused, ◌after◌}
use Rattle.model.specs.Table.{Read}
use Rattle.model.specs.Reader.{read_table}
use Rattle.model.specs.Schedule.{Passage, schedule}
use Rattle.model.specs.Checks.{hearing_number, limit, checked, accepted_schedule, accepted_schedule_at, passage_at}
use Rattle.model.specs.Calls.{verdict_of, spread_fine, accepted_schedule_in, check_call, accepted_schedule_in_at, check_call_at}
use Rattle.model.specs.Hearings.{FirstAtFault}
use Rattle.model.proofs.Basics.Bools.{clash}
use Rattle.model.proofs.Schedule.Exactly.{is_schedule}
use Rattle.model.proofs.Checks.Acceptance.{windows}
use Rattle.model.proofs.Checks.Hearings.{is_well, refused_is}
use Rattle.model.proofs.Checks.Numbers.{UpTo, read_up_to, schedule_up_to}

-- a fault's number is above those of the reader and of the schedule
above : (h : Hearing) → is_well h ≡ false → 9 < hearing_number h
above Well e = clash (sym e)
above Nobody e = omega arith
above Several e = omega arith
above LateStart e = omega arith
above EarlyEnd e = omega arith

-- two steps refuse with a number above those of the first: the first accepts, and the second refuses
after_refused : {A B : Type 0} (most : ℕ) (a : Answer A) (f : A → Answer B) {n c : ℕ} → UpTo most a → most < n → (a after f) ≡ refused n c
    → (x : A) × (a ≡ accepted x) × (f x ≡ refused n c)
after_refused most (accepted x) f u h e = (x, refl, e)
after_refused most (refused m d) f {n} u h e = let z : m ≡ n = cc in absurd (omega (arith, u, h, z))

-- a refusing verdict comes of a refusal
was_refused : {A : Type 0} (a : Answer A) {n c : ℕ} → verdict_of a ≡ Refused n c → a ≡ refused n c
was_refused (accepted x) e = let z : ◌≡◌ {A = ℕ} 0 1 = cc in absurd (omega arith)
was_refused {A} (refused m d) {n} {c} e =
    let f : m ≡ n = cc in
    let g : d ≡ c = cc in
    subst (λ (k : ℕ). ◌≡◌ {A = Answer A} (refused m d) (refused k c)) f (ap {B = Answer A} (refused m) g)

-- .. and below that of a spread which is too large
under : (h : Hearing) → hearing_number h < 19
under Well = omega arith
under Nobody = omega arith
under Several = omega arith
under LateStart = omega arith
under EarlyEnd = omega arith

-- the table read, its schedule, and the first send at fault with that fault, at a spread
abbrev pub ToldAt : ℕ → List ℕ → Hearing → ℕ → Type 0
ToldAt G bytes h c =
    (t : Read) × (S : List Passage) × (i : ℕ) × (read_table bytes ≡ accepted t) × (schedule limit t.table t.horizon ≡ accepted S)
    × FirstAtFault G t.table t.horizon S h i
    × ((passage_at S i).component ≡ c)

abbrev pub ToldOf : List ℕ → Hearing → ℕ → Type 0
ToldOf = ToldAt 0

-- 1 to 12 at a spread
told_read : (G : ℕ) (bytes : List ℕ) (h : Hearing) → is_well h ≡ false → (c : ℕ)
    → (verdict_of (read_table bytes after accepted_schedule_at G) ≡ Refused (hearing_number h) c) ↔ ToldAt G bytes h c
unfolding accepted_schedule
told_read G bytes h fault c = (to, from)
  where
    law : (t : Read) (S : List Passage) → schedule limit t.table t.horizon ≡ accepted S
        → (checked G t.table t.horizon S ≡ refused (hearing_number h) c) ↔ ((i : ℕ) × FirstAtFault G t.table t.horizon S h i × ((passage_at S i).component ≡ c))
    law t S q = refused_is G t.table t.horizon S (windows ((is_schedule limit t.table t.horizon S).0 q)) h fault c

    to : verdict_of (read_table bytes after accepted_schedule_at G) ≡ Refused (hearing_number h) c → ToldAt G bytes h c
    to e =
        let high = above h fault in
        let (t, r, u) = after_refused 6 (read_table bytes) (accepted_schedule_at G) (read_up_to bytes) (omega (arith, high)) (was_refused (read_table bytes after accepted_schedule_at G) e) in
        let (S, q, v) = after_refused 9 (schedule limit t.table t.horizon) (checked G t.table t.horizon) (schedule_up_to limit t.table t.horizon) high u in
        let (i, a, k) = (law t S q).0 v in
        (t, S, i, r, q, a, k)

    from : ToldAt G bytes h c → verdict_of (read_table bytes after accepted_schedule_at G) ≡ Refused (hearing_number h) c
    from (t, S, i, r, q, a, k) =
        ap (λ (x : Answer Read). verdict_of (x after accepted_schedule_at G)) r
        ∙ ap (λ (x : Answer (List Passage)). verdict_of (x after checked G t.table t.horizon)) q
        ∙ ap verdict_of ((law t S q).1 (i, a, k))

-- the call `check`
pub told_is : (bytes : List ℕ) (h : Hearing) → is_well h ≡ false → (c : ℕ) → (check_call bytes ≡ Refused (hearing_number h) c) ↔ ToldOf bytes h c
unfolding check_call accepted_schedule_in
told_is bytes h fault c = told_read 0 bytes h fault c

-- the call `check_spread`: at every spread that is not refused itself
pub told_at_is : (G : ℕ) (bytes : List ℕ) (h : Hearing) → is_well h ≡ false → (c : ℕ)
    → (check_call_at G bytes ≡ Refused (hearing_number h) c) ↔ ((G ≤ 1000) × ToldAt G bytes h c)
unfolding check_call_at accepted_schedule_in_at
told_at_is G bytes h fault c = (
  λ e. let f = fine (read_table bytes) (read_up_to bytes) e in (f.0, (told_read G bytes h fault c).0 f.1),
  λ f. back (read_table bytes) f.0 ((told_read G bytes h fault c).1 f.1),
)
  where
    fine : (a : Answer Read) → UpTo 6 a → verdict_of (spread_fine G a after accepted_schedule_at G) ≡ Refused (hearing_number h) c
        → (G ≤ 1000) × (verdict_of (a after accepted_schedule_at G) ≡ Refused (hearing_number h) c)
    fine (accepted t) u e = go (ltb 1000 G) refl e
      where
        go : (x : Bool) → ltb 1000 G ≡ x → verdict_of (cond x (refused 19 255) (accepted t) after accepted_schedule_at G) ≡ Refused (hearing_number h) c
            → (G ≤ 1000) × (verdict_of (accepted_schedule_at G t) ≡ Refused (hearing_number h) c)
        go true q f = let z : 19 ≡ hearing_number h = cc in absurd (omega (arith, z, under h))
        go false q f = (ltb-false 1000 G q, f)
    fine (refused m d) u e = go (ltb 1000 G && ltb 3 m) e
      where
        go : (x : Bool) → verdict_of (cond x (refused 19 255) (refused m d) after accepted_schedule_at G) ≡ Refused (hearing_number h) c
            → (G ≤ 1000) × (verdict_of (◌after◌ {A = Read} (refused m d) (accepted_schedule_at G)) ≡ Refused (hearing_number h) c)
        go true f = let z : 19 ≡ hearing_number h = cc in absurd (omega (arith, z, under h))
        go false f = let z : m ≡ hearing_number h = cc in absurd (omega (arith, z, u, above h fault))

    back : (a : Answer Read) → G ≤ 1000 → verdict_of (a after accepted_schedule_at G) ≡ Refused (hearing_number h) c
        → verdict_of (spread_fine G a after accepted_schedule_at G) ≡ Refused (hearing_number h) c
    back (accepted t) k e = rw (le-ltb 1000 G k) e
    back (refused m d) k e = rw (le-ltb 1000 G k) e
