-- Demand 2 as one law: the call `check` accepts exactly the bytes of which `Accepts` holds. Assumes nothing.
use mathlib.Core.Path.{◌≡◌, refl, ap, subst, ◌∙◌}
use mathlib.Core.Logic.{◌↔◌}
use mathlib.Core.Bool.{Bool, true, false, cond, ◌&&◌}
use mathlib.Core.List.{List}
use Prim.Native.Nat.{ℕ, ◌≤◌}
use native.Mathlib.Omega.{arith}
use borrow.Author.Tests.{ltb-false, le-ltb}
use lib.Dec.{ltb}
use Rattle.model.specs.declared.Verdict.{Verdict}
use Rattle.model.specs.declared.Verdict.TheVariants.{Accepted, Refused}
use Rattle.model.specs.Lists.{◌∈◌, Bytes, Answer, accepted, refused, ◌after◌}
use Rattle.model.specs.Table.{Table, Read}
use Rattle.model.specs.Reader.{read_table}
use Rattle.model.specs.Schedule.{Passage, schedule}
use Rattle.model.specs.Chains.{IsSchedule}
use Rattle.model.specs.Checks.{limit, checked, accepted_schedule, accepted_schedule_at, accepted_schedule_of}
use Rattle.model.specs.Calls.{verdict_of, spread_fine, accepted_schedule_in, check_call, accepted_schedule_in_at, check_call_at}
use Rattle.model.specs.Acceptance.{AcceptsAt, Accepts}
use Rattle.model.proofs.Reader.Parts.{after_ok}
use Rattle.model.proofs.Reader.RoundTrip.{law}
use Rattle.model.proofs.Schedule.Own.{all_in}
use Rattle.model.proofs.Schedule.Passages.{entered}
use Rattle.model.proofs.Schedule.Exactly.{is_schedule}
use Rattle.model.proofs.Checks.Independence.{independent}
use Rattle.model.proofs.Run.Tied.{schedule_at}

-- an accepting verdict comes of an acceptance
was_accepted : {A : Type 0} (a : Answer A) → verdict_of a ≡ Accepted → (x : A) × (a ≡ accepted x)
was_accepted (accepted x) e = (x, refl)
was_accepted (refused n c) e = absurd (let z : ◌≡◌ {A = ℕ} 0 1 = cc in omega arith)

-- what 7 to 12 accept is a schedule that the checks 10 to 12 accept
plan_is : (most G : ℕ) (T : Table) (H : ℕ) (S : List Passage) → (accepted_schedule most G T H ≡ accepted S) ↔ (IsSchedule most T H S × (checked G T H S ≡ accepted S))
unfolding accepted_schedule
plan_is most G T H S = (schedule_at G T H most S, λ p. ap (λ (x : Answer (List Passage)). x after λ X. checked G T H X) ((is_schedule most T H S).1 p.0) ∙ p.1)

-- no window ends before it starts
pub windows : {most : ℕ} {T : Table} {H : ℕ} {S : List Passage} → IsSchedule most T H S → (v : Passage) → v ∈ S → v.ready ≤ v.end
windows s v i = let e = all_in (entered s) i in omega (arith, e.wide)

-- 1 to 12 at a spread accept exactly what demand 2 says
accepts_is : (G : ℕ) (bytes : List ℕ) → Bytes bytes → (verdict_of (read_table bytes after accepted_schedule_at G) ≡ Accepted) ↔ AcceptsAt G bytes
accepts_is G bytes b = (to, from)
  where
    to : verdict_of (read_table bytes after accepted_schedule_at G) ≡ Accepted → AcceptsAt G bytes
    to e =
        let s = was_accepted (read_table bytes after accepted_schedule_at G) e in
        let r = after_ok (read_table bytes) (accepted_schedule_at G) s.1 in
        let l = (law bytes r.0 b).0 r.1 in
        let p = (plan_is limit G r.0.table r.0.horizon s.0).0 r.2 in
        record {
          network = r.0;
          limits = l.0;
          is = l.1;
          passages = s.0;
          schedule = p.0;
          independent = (independent G r.0.table r.0.horizon s.0 (windows p.0)).0 p.1;
        }

    from : AcceptsAt G bytes → verdict_of (read_table bytes after accepted_schedule_at G) ≡ Accepted
    from a =
        let T = a.network.table in
        let H = a.network.horizon in
        let r = (law bytes a.network b).1 (a.limits, a.is) in
        let c = (independent G T H a.passages (windows a.schedule)).1 a.independent in
        ap verdict_of (ap (λ (x : Answer Read). x after accepted_schedule_at G) r ∙ (plan_is limit G T H a.passages).1 (a.schedule, c))

-- the call `check` accepts exactly what demand 2 says
pub accepted_is : (bytes : List ℕ) → Bytes bytes → (check_call bytes ≡ Accepted) ↔ Accepts bytes
unfolding check_call accepted_schedule_in
accepted_is bytes b = accepts_is 0 bytes b

-- at a spread: "A G above 1,000 is refused"
pub accepted_at_is : (G : ℕ) (bytes : List ℕ) → Bytes bytes → (check_call_at G bytes ≡ Accepted) ↔ (G ≤ 1000) × AcceptsAt G bytes
unfolding check_call_at accepted_schedule_in_at
accepted_at_is G bytes b = (
  λ e. let h = fine (read_table bytes) e in (h.0, (accepts_is G bytes b).0 h.1),
  λ h. back (read_table bytes) h.0 ((accepts_is G bytes b).1 h.1),
)
  where
    fine : (a : Answer Read) → verdict_of (spread_fine G a after accepted_schedule_at G) ≡ Accepted → (G ≤ 1000) × (verdict_of (a after accepted_schedule_at G) ≡ Accepted)
    fine (accepted t) e = go (ltb 1000 G) refl e
      where
        go : (x : Bool) → ltb 1000 G ≡ x → verdict_of (cond x (refused 19 255) (accepted t) after accepted_schedule_at G) ≡ Accepted
            → (G ≤ 1000) × (verdict_of (accepted_schedule_at G t) ≡ Accepted)
        go true q f = let z : ◌≡◌ {A = ℕ} 0 1 = cc in absurd (omega arith)
        go false q f = (ltb-false 1000 G q, f)
    fine (refused n c) e = go (ltb 1000 G && ltb 3 n) e
      where
        go : (x : Bool) → verdict_of (cond x (refused 19 255) (refused n c) after accepted_schedule_at G) ≡ Accepted
            → (G ≤ 1000) × (verdict_of (◌after◌ {A = Read} (refused n c) (accepted_schedule_at G)) ≡ Accepted)
        go true f = let z : ◌≡◌ {A = ℕ} 0 1 = cc in absurd (omega arith)
        go false f = let z : ◌≡◌ {A = ℕ} 0 1 = cc in absurd (omega arith)

    back : (a : Answer Read) → G ≤ 1000 → verdict_of (a after accepted_schedule_at G) ≡ Accepted → verdict_of (spread_fine G a after accepted_schedule_at G) ≡ Accepted
    back (accepted t) h e = rw (le-ltb 1000 G h) e
    back (refused n c) h e = let z : ◌≡◌ {A = ℕ} 0 1 = cc in absurd (omega arith)
