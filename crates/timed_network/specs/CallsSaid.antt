-- What `EarlierRule`, `BudgetsKept`, `FaultsTold` and `NamesApart` say, spelt out without their names: a hypothesis more in one of them, or a field less, no longer
-- gives these. Beside them what they are not: the earlier rule is another than that of budgets, and wrong verdicts are refuted.
use Rattle.std.specs.Prelude.{◌≡◌, refl, List, [], ◌∷◌, ◌↔◌, ℕ, ◌+◌, ◌≤◌, ◌<◌}
use Rattle.std.proofs.Math.Option.{none, some}
use Rattle.std.proofs.Common.{arith}
use Rattle.model.specs.declared.Action.TheVariants.{Internal}
use Rattle.model.specs.declared.Hearing.{Hearing}
use Rattle.model.specs.declared.Hearing.TheVariants.{Nobody, Several, LateStart, EarlyEnd}
use Rattle.model.specs.declared.Verdict.{Verdict}
use Rattle.model.specs.declared.Verdict.TheVariants.{Accepted, Refused}
use Rattle.model.specs.Lists.{◌∈◌, All, accepted, refused}
use Rattle.model.specs.Table.{Component, Read, size, component_of}
use Rattle.model.specs.Build.{location, clock_guard, arc, component, all_budgeted}
use Rattle.model.specs.Reader.{byte, read_table}
use Rattle.model.specs.Window.{Entry, choice}
use Rattle.model.specs.Schedule.{Passage, passage_arc, schedule}
use Rattle.model.specs.Checks.{limit, passage_at}
use Rattle.model.specs.Program.{program_bytes}
use Rattle.model.specs.Calls.{check_call, translate_call}
use Rattle.model.specs.Hearings.{merged_verdict, merged_call, FirstAtFault}
use Rattle.model.specs.Versions.{read_table12, choice12, program_bytes12, check_call01, translate_call01}
use Rattle.uppaal.specs.Xta.{Name, Process}
use Rattle.uppaal.specs.XtaText.{name_text}
use Rattle.uppaal.specs.Declared.{names_of}
use Rattle.uppaal.specs.Export.{system_for}
use Rattle.timed_network.specs.Versions.{EarlierRule, BudgetsKept}
use Rattle.timed_network.specs.Listeners.{FirstFault, FaultsTold}
use Rattle.timed_network.specs.Names.{NamesApart}

-- ## Versions 1 and 2

-- version 1: document 01's verdict and program, with 15 to 17 read as 11
pub first_says : (table : List ℕ) → EarlierRule table → byte table 0 ≡ 1
    → (merged_verdict (check_call table) ≡ check_call01 table) × ((lent : List ℕ) → merged_call (translate_call table lent) ≡ translate_call01 table lent)
first_says table d one = (d.checking one, d.translating one)

-- versions 1 and 2: read, chosen and written as before budgets
pub earlier_says : (table : List ℕ) → EarlierRule table
    → (byte table 0 < 3 → read_table table ≡ read_table12 table)
    × ((t : Read) → read_table table ≡ accepted t → t.version < 3
    → (program_bytes t ≡ program_bytes12 t)
    × ((c : ℕ) → c < size t.table → (at : Entry) → choice (component_of t.table c) at ≡ choice12 (component_of t.table c) at))
earlier_says table d = (d.reading, λ t r l. (d.writing t r l, d.choosing t r l))

-- a window from 4 to 5, and a budget of 2
abbrev hurried : Component
hurried = all_budgeted 2 (component 0 1 0 (location 0 5 ∷ []) (arc 0 0 1 Internal (clock_guard 0 4 65535 ∷ []) [] [] [] ∷ []))

abbrev at_start : Entry
at_start = record { location = 0; tick = 0; clocks = 0 ∷ []; values = [] }

-- in version 3 it is no candidate; by the earlier rule it was chosen
pub another_choice : (choice hurried at_start ≡ none) × (choice12 hurried at_start ≡ some (record { edge = 0; ready = 4; end = 5 }))
unfolding choice choice12
another_choice = (refl, refl)

-- and bytes that begin with 3 had the refusal 1
pub another_reading : (read_table (3 ∷ []) ≡ refused 2 255) × (read_table12 (3 ∷ []) ≡ refused 1 255)
unfolding read_table read_table12
another_reading = (refl, refl)

-- ## Budgets

pub budgets_say : (table : List ℕ) → BudgetsKept table → (t : Read) (S : List Passage) → read_table table ≡ accepted t
    → schedule limit t.table t.horizon ≡ accepted S → (v : Passage) → v ∈ S → (b : ℕ) → (passage_arc t.table v).budget ≡ some b → v.ready + b ≤ v.end
budgets_say table d t S r e v i b k = d t S r e v i b k

-- ## Listeners

-- the first passage at fault, with its fault
abbrev Fault : ℕ → List ℕ → Hearing → ℕ → Type 0
Fault G table h c =
    (t : Read) × (S : List Passage) × (i : ℕ) × (read_table table ≡ accepted t) × (schedule limit t.table t.horizon ≡ accepted S)
    × FirstAtFault G t.table t.horizon S h i
    × ((passage_at S i).component ≡ c)

told : {G c : ℕ} {table : List ℕ} {h : Hearing} → FirstFault G table h c → Fault G table h c
told f = (f.network, f.passages, f.index, f.read, f.planned, f.fault, f.component)

back : {G c : ℕ} {table : List ℕ} {h : Hearing} → Fault G table h c → FirstFault G table h c
back (t, S, i, r, q, a, k) = record { network = t; passages = S; index = i; read = r; planned = q; fault = a; component = k }

pub faults_say : (G : ℕ) (table : List ℕ) (v : Verdict) → FaultsTold G table v → (c : ℕ)
    → ((v ≡ Refused 11 c) ↔ ((G ≤ 1000) × Fault G table Nobody c))
    × ((v ≡ Refused 15 c) ↔ ((G ≤ 1000) × Fault G table Several c))
    × ((v ≡ Refused 16 c) ↔ ((G ≤ 1000) × Fault G table LateStart c))
    × ((v ≡ Refused 17 c) ↔ ((G ≤ 1000) × Fault G table EarlyEnd c))
faults_say G table v d c = (
  (λ e. let x = (d.nobody c).0 e in (x.0, told x.1), λ x. (d.nobody c).1 (x.0, back x.1)),
  (λ e. let x = (d.several c).0 e in (x.0, told x.1), λ x. (d.several c).1 (x.0, back x.1)),
  (λ e. let x = (d.late c).0 e in (x.0, told x.1), λ x. (d.late c).1 (x.0, back x.1)),
  (λ e. let x = (d.early c).0 e in (x.0, told x.1), λ x. (d.early c).1 (x.0, back x.1)),
)

-- accepted with a send that nobody hears; 11 for one that several hear; another component; a fault told at a spread above 1,000
pub unheard_accepted : (G : ℕ) (table : List ℕ) (c : ℕ) → G ≤ 1000 → FirstFault G table Nobody c → FaultsTold G table Accepted → ⊥
unheard_accepted G table c l f d = let e = (d.nobody c).1 (l, f) in let w : ◌≡◌ {A = ℕ} 0 1 = cc in omega arith

pub eleven_for_several : (G : ℕ) (table : List ℕ) (c : ℕ) → G ≤ 1000 → FirstFault G table Several c → FaultsTold G table (Refused 11 c) → ⊥
eleven_for_several G table c l f d = let e = (d.several c).1 (l, f) in let w : ◌≡◌ {A = ℕ} 11 15 = cc in omega arith

pub another_component : (G : ℕ) (table : List ℕ) → G ≤ 1000 → FirstFault G table LateStart 1 → FaultsTold G table (Refused 16 0) → ⊥
another_component G table l f d = let e = (d.late 1).1 (l, f) in let w : ◌≡◌ {A = ℕ} 0 1 = cc in omega arith

pub above_the_largest : (table : List ℕ) (c : ℕ) → FaultsTold 1001 table (Refused 17 c) → ⊥
above_the_largest table c d = let x = (d.early c).0 refl in omega (arith, x.0)

-- ## Names

pub names_say : (table : List ℕ) → NamesApart table → (t : Read) → read_table table ≡ accepted t
    → All (λ (P : Process). (n m : Name) → n ∈ names_of P → m ∈ names_of P → name_text n ≡ name_text m → n ≡ m) (system_for t.table).processes
names_say table d t r = d t r
