-- The rows that part j of a run goes by: the table's own up to the second tick of the pair and those entered there, each ready j periods later. Assumes
-- nothing.
use mathlib.Core.Path.{◌≡◌, refl, sym, ap, ap₂, ◌∙◌}
use mathlib.Core.Bool.{Bool, true, false, cond}
use mathlib.Core.List.{List, [], ◌∷◌, ◌++◌, map}
use mathlib.Core.Option.{Option, none}
use Prim.Native.Nat.{ℕ, zero, suc, ◌+◌, ◌-◌, ◌*◌, ◌≤◌, ◌<◌}
use native.Mathlib.Omega.{arith}
use borrow.Author.Tests.{ltb-true, ltb-false}
use lib.Dec.{ltb, eqb}
use lib.ListN.{length, take, drop, take-append-drop}
use lib.Seq.{take_at}
use Rattle.model.specs.Lists.{below, accepted}
use Rattle.model.specs.Table.{Read, size}
use Rattle.model.specs.Reader.{read_table}
use Rattle.model.specs.Schedule.{Passage, own, light}
use Rattle.model.specs.Checks.{limit, accepted_schedule_of}
use Rattle.model.specs.Chains.{IsSchedule}
use Rattle.model.specs.Program.{program_bytes}
use Rattle.model.specs.Run.{Counts, Setting, ready_of_nth, offset_in, setting_to}
use Rattle.model.proofs.Basics.Members.{only_append}
use Rattle.model.proofs.Checks.Independence.{only_map}
use Rattle.model.proofs.Run.Tied.{schedule_at}
use Rattle.recurrence.specs.Recurrence.{Recurs}
use Rattle.recurrence.specs.Rows.{rows_ready}
use Rattle.recurrence.proofs.Agree.{with_ready}
use Rattle.recurrence.proofs.ByRows.{absent}
use Rattle.recurrence.proofs.Turned.{capped}
use Rattle.recurrence.proofs.Parts.{Rounds}
use Rattle.recurrence.proofs.Count.{entered_before}
use Rattle.later_runs.proofs.Front.{delayed, rows-ready}
use Rattle.rows.specs.Rows.{num, row_passage, rows_from, rows_of}
use Rattle.rows.proofs.Sought.{rows_split}
use Rattle.registers.specs.Words.{wake_tick_in}
use Rattle.machine.specs.Running.{counts_at, setting_in}

-- ## Later, and later again

cap_high : (n : ℕ) → 4294967295 ≤ n → capped n ≡ 4294967295
cap_high n h = go (ltb 4294967295 n) refl
  where
    go : (b : Bool) → ltb 4294967295 n ≡ b → cond b 4294967295 n ≡ 4294967295
    go true e = refl
    go false e = omega (arith, ltb-false 4294967295 n e)

cap_low : (n : ℕ) → n ≤ 4294967295 → capped n ≡ n
cap_low n h = go (ltb 4294967295 n) refl
  where
    go : (b : Bool) → ltb 4294967295 n ≡ b → cond b 4294967295 n ≡ n
    go true e = absurd (omega (arith, ltb-true 4294967295 n e))
    go false e = refl

cap_again : (r q p : ℕ) → capped (capped (r + q) + p) ≡ capped (r + (q + p))
cap_again r q p = go (ltb 4294967295 (r + q)) refl
  where
    go : (b : Bool) → ltb 4294967295 (r + q) ≡ b → capped (cond b 4294967295 (r + q) + p) ≡ capped (r + (q + p))
    go true e = cap_high (4294967295 + p) (omega arith) ∙ sym (cap_high (r + (q + p)) (omega (arith, ltb-true 4294967295 (r + q) e)))
    go false e = ap capped (let z : r + q + p ≡ r + (q + p) = omega arith in z)

pub delayed_again : (q p : ℕ) (vs : List Passage) → map (delayed p) (map (delayed q) vs) ≡ map (delayed (q + p)) vs
delayed_again q p [] = refl
delayed_again q p (v ∷ vs) =
    ap₂ (λ (n : ℕ) (ws : List Passage). record { component = v.component; edge = v.edge; entry = v.entry; ready = n; end = v.end; message = v.message } ∷ ws) (cap_again v.ready q p) (delayed_again q p vs)

-- so many rows that are ready in time, no later: themselves
pub delayed_none : (l : List ℕ) (i n : ℕ) → ((k : ℕ) → k < i + n → num l k 4 ≤ 4294967295) → map (delayed 0) (rows_from l i n) ≡ rows_from l i n
unfolding rows_from
delayed_none l i zero h = refl
delayed_none l i (suc n) h =
    ap₂ (λ (r : ℕ) (ws : List Passage). record { component = num l i 0; edge = num l i 1; entry = (row_passage l i).entry; ready = r; end = num l i 5; message = (row_passage l i).message } ∷ ws)
    (ap capped (let z : num l i 4 + 0 ≡ num l i 4 = omega arith in z) ∙ cap_low (num l i 4) (h i (omega arith)))
    (delayed_none l (suc i) n (λ k b. h k (omega arith)))

-- ## The front of the rows

rows_long : (l : List ℕ) (i n : ℕ) → length (rows_from l i n) ≡ n
unfolding rows_from
rows_long l i zero = refl
rows_long l i (suc n) = ap suc (rows_long l (suc i) n)

pub rows_length : (l : List ℕ) (n : ℕ) → length (rows_of l n) ≡ n
rows_length l n = rows_long l 0 n

pub take_map : {A B : Type 0} (f : A → B) (n : ℕ) (xs : List A) → take n (map f xs) ≡ map f (take n xs)
take_map f zero xs = refl
take_map f (suc n) [] = refl
take_map f (suc n) (x ∷ xs) = ap (λ (ys : List _). f x ∷ ys) (take_map f n xs)

pub rows_front : (l : List ℕ) (n m : ℕ) (S : List Passage) → n ≤ m → rows_of l m ≡ map light S → rows_of l n ≡ map light (take n S)
rows_front l n m S h e =
    let q : n + (m - n) ≡ m = omega arith in
    sym (take_at (rows_of l n) (rows_from l (0 + n) (m - n)) n (rows_length l n))
    ∙ ap (take n) (sym (rows_split l 0 n (m - n)) ∙ ap (rows_of l) q ∙ e)
    ∙ take_map light n S

-- at first: none later
pub front_first : (l : List ℕ) (n m : ℕ) (S : List Passage) (P : ℕ) → n ≤ m → rows_of l m ≡ map light S → ((k : ℕ) → k < m → num l k 4 ≤ 4294967295)
    → rows_of l n ≡ map (delayed (0 * P)) (map light (take n S))
front_first l n m S P h e small =
    sym (delayed_none l 0 n (λ k b. small k (omega arith))) ∙ ap (λ (p : ℕ). map (delayed p) (rows_of l n)) (let z : 0 ≡ 0 * P = omega arith in z) ∙ ap (map (delayed (0 * P))) (rows_front l n m S h e)

-- and so much later again
pub front_next : (R R' X : List Passage) (j P : ℕ) → R ≡ map (delayed (j * P)) X → R' ≡ map (delayed P) R → R' ≡ map (delayed (suc j * P)) X
front_next R R' X j P e f = f ∙ ap (map (delayed P)) e ∙ delayed_again (j * P) P X ∙ ap (λ (p : ℕ). map (delayed p) X) (let z : j * P + P ≡ suc j * P = omega arith in z)

-- ## What they say

ready_light : (vs : List Passage) (k : ℕ) → ready_of_nth (map light vs) k ≡ ready_of_nth vs k
ready_light [] k = refl
ready_light (v ∷ vs) zero = refl
ready_light (v ∷ vs) (suc k) = ready_light vs k

light_delayed : (p : ℕ) (vs : List Passage) → map (delayed p) (map light vs) ≡ map light (map (delayed p) vs)
light_delayed p [] = refl
light_delayed p (v ∷ vs) = ap (λ (ws : List Passage). delayed p (light v) ∷ ws) (light_delayed p vs)

ready_moved : (p c k : ℕ) (vs : List Passage) → ready_of_nth (own c (map (delayed p) (map light vs))) k ≡ ready_of_nth (own c (map (delayed p) vs)) k
ready_moved p c k vs =
    ap (λ (ws : List Passage). ready_of_nth (own c ws) k) (light_delayed p vs)
    ∙ ap (λ (ws : List Passage). ready_of_nth ws k) (only_map light (λ (v : Passage). eqb v.component c) (map (delayed p) vs))
    ∙ ready_light (own c (map (delayed p) vs)) k

-- a part of nothing is nothing
no_front : {A : Type 0} (xs ys : List A) → xs ++ ys ≡ [] → xs ≡ []
no_front [] ys e = refl
no_front (x ∷ xs) ys e = absurd (let z : ◌≡◌ {A = ℕ} 0 1 = cc in omega arith)

-- ## What a run in parts goes by

pub record Recurring (bytes : List ℕ) (t : Read) (S : List Passage) (a P : ℕ) : Type 0 where
  pub read : read_table bytes ≡ accepted t
  pub plan : accepted_schedule_of t ≡ accepted S
  pub longer : 0 < P
  pub recurs : Recurs t.table t.horizon S a (a + P)
  pub final : t.horizon ≤ a + P + P

module _ {bytes : List ℕ} {t : Read} {S : List Passage} {a P : ℕ} (B : Recurring bytes t S a P) where
  pub sched : IsSchedule limit t.table t.horizon S
  sched = (schedule_at 0 t.table t.horizon limit S B.plan).0

  abbrev pub goes_to : ℕ → Setting
  goes_to X = with_ready (setting_to t X []) (rows_ready S a (a + P))

  -- how many rows
  abbrev pub parted : ℕ
  parted = entered_before S (a + P) + size t.table

  abbrev pub RoundsAt : (ℕ → ℕ → Option ℕ) → ℕ → Type 0
  RoundsAt ready j = Rounds bytes t S B.read B.plan a P B.longer B.recurs B.final ready j

  none_beyond : (n p c k : ℕ) → size t.table ≤ c → ready_of_nth (own c (map (delayed p) (take n S))) k ≡ none
  none_beyond n p c k h =
      let e = absent t.table t.horizon t.horizon sched sched (omega arith) sched c h in
      let f = no_front (own c (take n S)) (own c (drop n S)) (sym (only_append (λ (v : Passage). eqb v.component c) (take n S) (drop n S)) ∙ ap (own c) (take-append-drop n S) ∙ e) in
      ap (λ (ws : List Passage). ready_of_nth ws k) (only_map (delayed p) (λ (v : Passage). eqb v.component c) (take n S) ∙ ap (map (delayed p)) f)

  -- The law: j periods later they are what part j goes by.
  pub rounds_at : (R : List Passage) (n j : ℕ) → n ≡ parted → R ≡ map (delayed (j * P)) (map light (take n S)) → RoundsAt (λ c k. ready_of_nth (own c R) k) j
  rounds_at R n j e moved =
      record {
        there = λ c k h. said c k ∙ ap (λ (m : ℕ). ready_of_nth (own c (map (delayed (j * P)) (take m S))) k) e ∙ rows-ready t.table t.horizon sched a P B.longer B.recurs c h (j * P) k;
        beyond = λ c k h. said c k ∙ none_beyond n (j * P) c k h;
      }
    where
      said : (c k : ℕ) → ready_of_nth (own c R) k ≡ ready_of_nth (own c (map (delayed (j * P)) (take n S))) k
      said c k = ap (λ (ws : List Passage). ready_of_nth (own c ws) k) moved ∙ ready_moved (j * P) c k (take n S)

-- what the slices' words say beside the readies
abbrev setting_with : List ℕ → ℕ → List Counts → List ℕ → (ℕ → ℕ → Option ℕ) → Setting
setting_with program H counts offsets ready = record { program = program; horizon = H; counts = counts; ready = ready; offsets = offsets }

pub record Worded (t : Read) (program l : List ℕ) (count : ℕ) : Type 0 where
  pub translated : program ≡ program_bytes t
  pub counts : map (counts_at l) (below count) ≡ map (λ C. record { clocks = C.clocks; variables = C.variables }) t.table.components
  pub offsets : map (wake_tick_in l) (below count) ≡ map (offset_in []) (below (size t.table))

-- The law: the setting is that of the run in parts with the readies of the rows.
pub setting-at : {t : Read} {program l : List ℕ} {count : ℕ} → Worded t program l count → (rows : List ℕ) (n X : ℕ) (f : ℕ → ℕ → Option ℕ)
    → setting_in program X rows n l count ≡ with_ready (with_ready (setting_to t X []) f) (λ c k. ready_of_nth (own c (rows_of rows n)) k)
setting-at {t} {program} {l} {count} w rows n X f =
    ap (λ (p : List ℕ). setting_with p X (map (counts_at l) (below count)) (map (wake_tick_in l) (below count)) (λ c k. ready_of_nth (own c (rows_of rows n)) k)) w.translated
    ∙ ap₂ (λ (ks : List Counts) (os : List ℕ). setting_with (program_bytes t) X ks os (λ c k. ready_of_nth (own c (rows_of rows n)) k)) w.counts w.offsets
