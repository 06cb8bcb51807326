-- The calls that take a spread and offsets: with neither they are the calls without, the offsets that pass are those permitted, and demand 3 for
-- nodes that wake apart holds of what they run. Assumes nothing.
use mathlib.Core.Path.{◌≡◌, refl, ap, ap₂, ◌∙◌}
use mathlib.Core.Logic.{◌↔◌}
use mathlib.Core.Bool.{Bool, true, cond}
use mathlib.Core.List.{List, [], ◌∷◌, map}
use Prim.Native.Nat.{ℕ, zero, suc, ◌+◌, ◌*◌, ◌≤◌, ◌<◌}
use native.Mathlib.Omega.{arith}
use borrow.Author.Tests.{leb-true, le-leb}
use lib.Dec.{leb, ltb}
use lib.ListN.{length}
use Rattle.model.specs.declared.Verdict.{Verdict}
use Rattle.model.specs.Lists.{Answer, accepted, refused, ◌after◌, each, from}
use Rattle.model.specs.Table.{Read, size}
use Rattle.model.specs.Reader.{read_table}
use Rattle.model.specs.Schedule.{Passage, seven_of}
use Rattle.model.specs.Checks.{accepted_schedule_of}
use Rattle.model.specs.Run.{Setting, setting_at, setting_to, offset_in, run, observation_width}
use Rattle.model.specs.Apart.{Permitted}
use Rattle.model.specs.Meetings.{concerned_at, list_or, meetings_in_at, meetings_in, MeetingsCall, about, meetings_call_at, meetings_call}
use Rattle.model.specs.Calls.{laid, verdict_of, spread_fine, check_call_at, check_call, offsets_fine, not_run, ran, run_with_at, run_planned_at, run_read_at, run_call_at, run_with, run_planned, run_read, run_call, Demand3ApartOf}
use Rattle.model.proofs.Basics.Bools.{and_is}
use Rattle.model.proofs.Run.Apart.{promised_apart}

-- ## Offsets

-- those that pass are those permitted
pub offsets-fine : (G n : ℕ) (os : List ℕ) → (offsets_fine G n os ≡ true) ↔ Permitted G n os
unfolding offsets_fine
offsets-fine G zero os = (λ e c h. absurd (omega arith), λ p. refl)
offsets-fine G (suc n) [] = (λ e c h. omega arith, λ p. refl)
offsets-fine G (suc n) (o ∷ os) = (
  λ e.
      let h = (and_is (leb o G) (offsets_fine G n os)).0 e in
      there (leb-true o G h.0) ((offsets-fine G n os).0 h.1),
  λ p. (and_is (leb o G) (offsets_fine G n os)).1 (le-leb o G (p 0 (omega arith)), (offsets-fine G n os).1 (λ c h. p (suc c) (omega arith))),
)
  where
    there : o ≤ G → Permitted G n os → (c : ℕ) → c < suc n → offset_in (o ∷ os) c ≤ G
    there h p zero l = h
    there h p (suc c) l = p c (omega arith)

-- within no spread every permitted list of offsets is none at all
same_images : (f g : ℕ → ℕ) (i n : ℕ) → ((c : ℕ) → i ≤ c → c < i + n → f c ≡ g c) → map f (from i n) ≡ map g (from i n)
same_images f g i zero h = refl
same_images f g i (suc n) h =
    ap (λ (x : ℕ). x ∷ map f (from (suc i) n)) (h i (omega arith) (omega arith))
    ∙ ap (λ (l : List ℕ). g i ∷ l) (same_images f g (suc i) n (λ c a b. h c (omega arith) (omega arith)))

pub no_spread : (t : Read) (H : ℕ) (S : List Passage) (os : List ℕ) → Permitted 0 (size t.table) os → setting_at t H S os ≡ setting_to t H S
no_spread t H S os p =
    ap (λ (l : List ℕ). with_offsets l) (same_images (offset_in os) (offset_in []) 0 (size t.table) (λ c a b. omega (arith, p c (omega arith))))
  where
    with_offsets : List ℕ → Setting
    with_offsets l =
        let g = setting_to t H S in
        record { program = g.program; horizon = g.horizon; counts = g.counts; offsets = l; ready = g.ready }

-- ## Without a spread

spread_none : {A : Type 0} (a : Answer A) → spread_fine 0 a ≡ a
spread_none (accepted a) = refl
spread_none (refused n c) = refl

-- "G = 0 is the old check"
pub check_together : (table : List ℕ) → check_call_at 0 table ≡ check_call table
unfolding check_call_at check_call
check_together table = ap (λ (a : Answer Read). verdict_of (a after accepted_schedule_of)) (spread_none (read_table table))

-- the windows that met
pub met_together : (table : List ℕ) → meetings_in_at 0 table ≡ meetings_in table
unfolding meetings_in_at meetings_in
met_together table = ap (λ (a : Answer Read). list_or (a after concerned_at 0)) (spread_none (read_table table))

pub meetings_together : (table lent : List ℕ) → meetings_call_at 0 table lent ≡ meetings_call table lent
unfolding meetings_call_at meetings_call
meetings_together table lent =
    ap₂ (λ (given : Verdict) (vs : List Passage). about given (laid (length vs) (each seven_of vs) lent)) (check_together table) (met_together table)

-- "and the old run"
pub run_together : (table choices lent : List ℕ) → run_call_at 0 table [] choices lent ≡ run_call table choices lent
unfolding run_call_at run_call
run_together table choices lent = ap (λ (a : Answer Read). run_read_at 0 a [] choices lent) (spread_none (read_table table)) ∙ by_read (read_table table)
  where
    with-offsets : (t : Read) (S : List Passage) → run_with_at 0 t S [] choices lent ≡ run_with t S choices lent
    with-offsets t S =
        ap
        (λ (x : Bool).
        cond (ltb (length lent) (length S * observation_width)) (not_run 13 255 lent)
        (cond (ltb 1000000 (length choices)) (not_run 14 255 lent) (cond x (ran (run (setting_at t t.horizon S []) choices) lent) (not_run 20 255 lent))))
        ((offsets-fine 0 (size t.table) []).1 (λ c h. omega arith))

    by_plan : (t : Read) (a : Answer (List Passage)) → run_planned_at 0 t a [] choices lent ≡ run_planned t a choices lent
    by_plan t (accepted S) = with-offsets t S
    by_plan t (refused n c) = refl

    by_read : (a : Answer Read) → run_read_at 0 a [] choices lent ≡ run_read a choices lent
    by_read (accepted t) = by_plan t (accepted_schedule_of t)
    by_read (refused n c) = refl

-- ## Demand 3

pub demanded_apart : (G : ℕ) (table os choices : List ℕ) → Demand3ApartOf G table os choices
demanded_apart G table os choices t S r e p = promised_apart G table t S r e os p choices
