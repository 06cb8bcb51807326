-- A table accepted at a spread is accepted at every smaller one, with the same schedule; so what is said of accepted tables is said of it.
-- Assumes nothing.
use mathlib.Core.Path.{◌≡◌, refl, sym, ap, ◌∙◌}
use mathlib.Core.Bool.{Bool, true, false, cond, ◌&&◌}
use mathlib.Core.List.{List}
use Prim.Native.Nat.{ℕ, suc, ◌≤◌}
use native.Mathlib.Omega.{arith}
use borrow.Author.Tests.{leb-true, leb-false, le-ltb, ltb-false}
use lib.Dec.{leb, ltb}
use Rattle.model.specs.declared.Verdict.TheVariants.{Accepted}
use Rattle.model.specs.Lists.{Answer, accepted, refused, ◌after◌}
use Rattle.model.specs.Table.{Read}
use Rattle.model.specs.Reader.{read_table}
use Rattle.model.specs.Schedule.{Passage, schedule}
use Rattle.model.specs.Checks.{checked, accepted_schedule, accepted_schedule_at, limit}
use Rattle.model.specs.Calls.{verdict_of, spread_fine, accepted_schedule_in_at, check_call_at, LargestSpread}
use Rattle.model.specs.Network.{State, Label}
use Rattle.model.specs.Progress.{OnSchedule, Sending, OnePartner}
use Rattle.model.proofs.Reader.Parts.{after_ok}
use Rattle.model.proofs.Checks.Heard.{checked_is}
use Rattle.model.proofs.Checks.Independence.{lower}
use Rattle.model.proofs.Schedule.Scheduled.{schedule_is}
use Rattle.model.proofs.Network.Partners.{windows}
use Rattle.model.proofs.Reader.Limits.{read_limits}
use Rattle.model.proofs.Meaning.Law.{means}

-- the schedule of a table accepted at a spread is that of the table at a smaller one
pub plan_lower : (G K : ℕ) → K ≤ G → (t : Read) (S : List Passage) → accepted_schedule_at G t ≡ accepted S → accepted_schedule_at K t ≡ accepted S
unfolding accepted_schedule
plan_lower G K h t S e =
    let r = after_ok (schedule limit t.table t.horizon) (λ (X : List Passage). checked G t.table t.horizon X) e in
    let same : r.0 ≡ S = ((checked_is G t.table t.horizon r.0 S).0 r.2).0 in
    let s = schedule_is t.table t.horizon limit r.1 in
    let ok : checked G t.table t.horizon r.0 ≡ accepted r.0 = r.2 ∙ ap accepted (sym same) in
    ap (λ (a : Answer (List Passage)). a after λ X. checked K t.table t.horizon X) r.1
    ∙ (lower G K h t.table t.horizon r.0 (windows limit t.table t.horizon r.0 s) ok ∙ ap accepted same)

-- a table accepted at a spread is accepted at every smaller one
pub check_lower : (G K : ℕ) → K ≤ G → (table : List ℕ) → check_call_at G table ≡ Accepted → check_call_at K table ≡ Accepted
unfolding check_call_at accepted_schedule_in_at
check_lower G K h table e = by_read (read_table table) e
  where
    by_plan : (t : Read) (a : Answer (List Passage)) → accepted_schedule_at G t ≡ a → verdict_of a ≡ Accepted → verdict_of (accepted_schedule_at K t) ≡ Accepted
    by_plan t (accepted S) q v = ap verdict_of (plan_lower G K h t S q)
    by_plan t (refused n c) q v = absurd (let z : ◌≡◌ {A = ℕ} 0 1 = cc in omega arith)

    by_spread : (t : Read) (wide : Bool) → ltb 1000 G ≡ wide → verdict_of (cond wide (refused 19 255) (accepted t) after accepted_schedule_at G) ≡ Accepted
        → verdict_of (cond (ltb 1000 K) (refused 19 255) (accepted t) after accepted_schedule_at K) ≡ Accepted
    by_spread t true w v = absurd (let z : ◌≡◌ {A = ℕ} 0 1 = cc in omega arith)
    by_spread t false w v = rw (le-ltb 1000 K (omega (arith, ltb-false 1000 G w))) (by_plan t (accepted_schedule_at G t) refl v)

    by_read : (a : Answer Read) → verdict_of (spread_fine G a after accepted_schedule_at G) ≡ Accepted → verdict_of (spread_fine K a after accepted_schedule_at K) ≡ Accepted
    by_read (accepted t) v = by_spread t (ltb 1000 G) refl v
    by_read (refused n c) v = absurd (go (ltb 1000 G && ltb 3 n) v)
      where
        go : (x : Bool) → verdict_of (cond x (refused 19 255) (refused n c) after accepted_schedule_at G) ≡ Accepted → ⊥
        go true q = let z : ◌≡◌ {A = ℕ} 0 1 = cc in omega arith
        go false q = let z : ◌≡◌ {A = ℕ} 0 1 = cc in omega arith

-- so one at which it is accepted, while the next one is not, is the largest
pub largest_is : (G : ℕ) (table : List ℕ) → check_call_at G table ≡ Accepted → (check_call_at (suc G) table ≡ Accepted → ⊥) → LargestSpread table G
largest_is G table e above K = (λ k. by_order (leb K G) refl k, λ h. check_lower G K h table e)
  where
    by_order : (x : Bool) → leb K G ≡ x → check_call_at K table ≡ Accepted → K ≤ G
    by_order true q k = leb-true K G q
    by_order false q k = absurd (above (check_lower K (suc G) (omega (arith, leb-false K G q)) table k))

-- "Acceptance means it", at every spread
pub means_at : (G : ℕ) (bytes : List ℕ) (t : Read) (S : List Passage) → read_table bytes ≡ accepted t → accepted_schedule_at G t ≡ accepted S
    → (path : List Label) (s : State) → OnSchedule t.table S path s → (a : ℕ) → Sending t.table t.horizon S path s a → OnePartner t.table S path s a
means_at G bytes t S r e = means t S (read_limits bytes t r) (plan_lower G 0 (omega arith) t S e)
