-- Tables of versions 1 and 2 keep the earlier rule, windows are as long as their budgets, and 11, 15, 16 and 17 tell the faults of listeners at every
-- spread. Assumes nothing.
use mathlib.Core.Path.{◌≡◌, refl, subst}
use mathlib.Core.List.{List}
use mathlib.Core.Logic.{◌↔◌}
use mathlib.Core.Option.{Option}
use Prim.Native.Nat.{ℕ, ◌≤◌}
use native.Mathlib.Omega.{arith}
use Rattle.model.specs.declared.Hearing.{Hearing}
use Rattle.model.specs.declared.Hearing.TheVariants.{Nobody, Several, LateStart, EarlyEnd}
use Rattle.model.specs.declared.Verdict.TheVariants.{Refused}
use Rattle.model.specs.Window.{Spans}
use Rattle.model.specs.Checks.{limit, hearing_number}
use Rattle.model.specs.Calls.{check_call, check_call_at}
use Rattle.model.proofs.Reader.Limits.{read_limits}
use Rattle.model.proofs.Reader.Versions.{same_reading_12, same_program_12, same_check, same_translate}
use Rattle.model.proofs.Schedule.Budgets.{same_choice_of, spanned}
use Rattle.model.proofs.Schedule.Exactly.{is_schedule}
use Rattle.model.proofs.Checks.Told.{ToldAt, told_is, told_at_is}
use Rattle.timed_network.specs.Versions.{EarlierRule, BudgetsKept}
use Rattle.timed_network.specs.Listeners.{FirstFault, FaultsTold}

pub earlier_rule : (table : List ℕ) → EarlierRule table
earlier_rule table = record {
  checking = λ one. same_check table one;
  translating = λ one lent. same_translate table one lent;
  reading = same_reading_12 table;
  choosing = λ t r l c k at. same_choice_of t (read_limits table t r) l c k at;
  writing = λ t r l. same_program_12 t (read_limits table t r) l;
}

pub budgets_kept : (table : List ℕ) → BudgetsKept table
budgets_kept table t S r e v i b k = subst (λ (o : Option ℕ). Spans o v.ready v.end) k (spanned ((is_schedule limit t.table t.horizon S).0 e) v i)

-- ## Listeners

first_fault : {G c : ℕ} {table : List ℕ} {h : Hearing} → ToldAt G table h c → FirstFault G table h c
first_fault (t, S, i, r, q, a, k) = record { network = t; passages = S; index = i; read = r; planned = q; fault = a; component = k }

told_of : {G c : ℕ} {table : List ℕ} {h : Hearing} → FirstFault G table h c → ToldAt G table h c
told_of f = (f.network, f.passages, f.index, f.read, f.planned, f.fault, f.component)

-- at a spread that is not refused itself
module _ (G : ℕ) (table : List ℕ) where
  one_at : (h : Hearing) → (c : ℕ) → ((check_call_at G table ≡ Refused (hearing_number h) c) ↔ ((G ≤ 1000) × ToldAt G table h c))
      → (check_call_at G table ≡ Refused (hearing_number h) c) ↔ ((G ≤ 1000) × FirstFault G table h c)
  one_at h c law = (λ e. let x = law.0 e in (x.0, first_fault x.1), λ x. law.1 (x.0, told_of x.1))

  pub faults_told_at : FaultsTold G table (check_call_at G table)
  faults_told_at = record {
    nobody = λ c. one_at Nobody c (told_at_is G table Nobody refl c);
    several = λ c. one_at Several c (told_at_is G table Several refl c);
    late = λ c. one_at LateStart c (told_at_is G table LateStart refl c);
    early = λ c. one_at EarlyEnd c (told_at_is G table EarlyEnd refl c);
  }

-- nodes that start together
module _ (table : List ℕ) where
  one : (h : Hearing) → (c : ℕ) → ((check_call table ≡ Refused (hearing_number h) c) ↔ ToldAt 0 table h c)
      → (check_call table ≡ Refused (hearing_number h) c) ↔ ((0 ≤ 1000) × FirstFault 0 table h c)
  one h c law = (λ e. (omega arith, first_fault (law.0 e)), λ x. law.1 (told_of x.1))

  pub faults_told : FaultsTold 0 table (check_call table)
  faults_told = record {
    nobody = λ c. one Nobody c (told_is table Nobody refl c);
    several = λ c. one Several c (told_is table Several refl c);
    late = λ c. one LateStart c (told_is table LateStart refl c);
    early = λ c. one EarlyEnd c (told_is table EarlyEnd refl c);
  }
