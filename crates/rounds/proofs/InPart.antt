-- A run in parts, at the begin of one of them: what is kept from part to part. Assumes nothing.
use mathlib.Core.Path.{◌≡◌, refl, sym, ap, subst, ◌∙◌}
use mathlib.Core.List.{List, ◌++◌, map}
use Prim.Native.Nat.{ℕ, ◌+◌, ◌-◌, ◌*◌, ◌≤◌, ◌<◌}
use native.Mathlib.Omega.{arith}
use lib.IntN.{ℤ}
use lib.ListN.{length, take}
use Rattle.model.specs.Lists.{accepted}
use Rattle.model.specs.Table.{Read, size}
use Rattle.model.specs.Schedule.{Passage, own, light}
use Rattle.model.specs.Run.{Setting, Run, Result, ready_of_nth, start_run, run_from, run, observation_width, written_in}
use Rattle.recurrence.specs.Recurrence.{accepted_schedule_to}
use Rattle.recurrence.specs.Rows.{rows_before, rows_ready}
use Rattle.recurrence.proofs.Agree.{with_ready}
use Rattle.recurrence.proofs.ShiftRun.{rested_result}
use Rattle.recurrence.proofs.Parts.{Part, part_first, part_run}
use Rattle.recurrence.proofs.Count.{entered_before}
use Rattle.later_runs.proofs.Front.{delayed}
use Rattle.rows.specs.Rows.{rows_of}
use Rattle.machine.specs.Running.{setting_in, Running}
use Rattle.run.specs.Ends.{most_used, Over, Begun}
use Rattle.run.proofs.Carried.{over_none}
use Rattle.rounds.proofs.Moved.{Recurring, goes_to, parted, RoundsAt, rounds_at, Worded, setting-at}
use Rattle.rounds.proofs.Bounds.{unending, to_nearer}

-- what holds in all parts: the rows that are gone by, the pair, the horizon beyond the table's own, and room for its observations
pub record Basis (bytes : List ℕ) (t : Read) (S : List Passage) (program : List ℕ) (n count first second P H lent : ℕ) : Type 0 where
  pub from : ℕ
  pub pair : Recurring bytes t S from P
  pub beyond : t.horizon < H
  pub small : H ≤ 4294967295
  pub components : count ≡ size t.table
  pub first-is : first ≡ entered_before S from
  pub second_is : second ≡ entered_before S (from + P)
  pub long : n ≡ second + count
  pub most : n ≤ length S
  pub room : (L : List Passage) → accepted_schedule_to t.table H ≡ accepted L → length L * observation_width ≤ lent

-- part j begins in state s, after these choices
abbrev pub PartAt : {bytes : List ℕ} {t : Read} {S : List Passage} {a P : ℕ} → Recurring bytes t S a P → List ℕ → ℕ → Run → Type 0
PartAt {bytes} {t} {S} {a} {P} B front j s = Part bytes t S B.read B.plan a P B.longer B.recurs B.final front j s

-- The slices are those of a run that begins its part j.
pub record InPart (bytes : List ℕ) (t : Read) (S : List Passage) (program : List ℕ) (n count first second P H : ℕ) (choices out₀ rows l : List ℕ) (v : List ℤ) (out : List ℕ) (tick used written until : ℕ) : Type 0 where
  pub basis : Basis bytes t S program n count first second P H (length out₀)
  pub j : ℕ
  pub s : Run
  pub part : PartAt basis.pair (take used choices) j s
  pub running : Running program rows n l v count s
  pub worded : Worded t program l count
  pub moved : rows_of rows n ≡ map (delayed (j * P)) (map light (take n S))
  pub tick_is : s.tick ≡ tick
  pub near : tick < H
  pub until_is : until ≡ basis.from + P + j * P
  pub used_is : used ≡ s.used
  pub used_most : used ≤ length choices
  pub early : s.tick ≤ s.used
  pub few : length s.observations ≤ s.used
  pub written_is : written ≡ length s.observations
  pub over : Over (written_in s) out₀ out

-- ## The first part

pub first_part : {bytes : List ℕ} {t : Read} {S : List Passage} {program : List ℕ} {n count first second P H : ℕ} {rows l : List ℕ} {v : List ℤ} {out : List ℕ} (choices : List ℕ)
    (b : Basis bytes t S program n count first second P H (length out)) → Worded t program l count
    → ((X : ℕ) → Running program rows n l v count (start_run (setting_in program X rows n l count)))
    → rows_of rows n ≡ map (delayed (0 * P)) (map light (take n S))
    → (until : ℕ) → until ≡ b.from + P → InPart bytes t S program n count first second P H choices out rows l v out 0 0 0 until
first_part {bytes} {t} {S} {program} {n} {count} {first} {second} {P} {H} {rows} {l} {v} {out} choices b w running moved until e =
    let B = b.pair in
    let begins : start_run (setting_in program 0 rows n l count) ≡ start_run (goes_to B 0) = ap start_run (setting-at w rows n 0 (rows_ready S b.from (b.from + P))) in
    record {
      basis = b;
      j = 0;
      s = start_run (goes_to B 0);
      part = part_first bytes t S B.read B.plan b.from P B.longer B.recurs B.final;
      running = subst (Running program rows n l v count) begins (running 0);
      worded = w;
      moved = moved;
      tick_is = refl;
      near = omega (arith, b.beyond);
      until_is = omega (arith, e);
      used_is = refl;
      used_most = omega arith;
      early = omega arith;
      few = omega arith;
      written_is = refl;
      over = over_none out;
    }

-- ## A part is run

module _ {bytes : List ℕ} {t : Read} {S : List Passage} {program : List ℕ} {n count first second P H : ℕ} {choices out₀ rows l : List ℕ} {v : List ℤ} {out : List ℕ} {tick used written until : ℕ}
    (I : InPart bytes t S program n count first second P H choices out₀ rows l v out tick used written until) where
  pub long_is : n ≡ parted I.basis.pair
  long_is = omega (arith, I.basis.long, I.basis.components, I.basis.second_is)

  pub rounds_in : RoundsAt I.basis.pair (λ c k. ready_of_nth (own c (rows_of rows n)) k) I.j
  rounds_in = rounds_at I.basis.pair (rows_of rows n) n I.j long_is I.moved

  pub setting-in : (X : ℕ) → setting_in program X rows n l count ≡ with_ready (goes_to I.basis.pair X) (λ c k. ready_of_nth (own c (rows_of rows n)) k)
  setting-in X = setting-at I.worded rows n X (rows_ready S I.basis.from (I.basis.from + P))

  -- the sleeps that are left out
  abbrev pub left : ℕ → ℕ
  left c = I.j * (rows_before S c (I.basis.from + P) - rows_before S c I.basis.from)

  -- to any horizon in it
  pub run_in : (X : ℕ) → tick < X → X ≤ until → X ≤ H → (ys : List ℕ)
      → run (goes_to I.basis.pair X) (take used choices ++ ys) ≡ rested_result left (run_from (setting_in program X rows n l count) ys I.s)
  run_in X b k m ys =
      let B = I.basis.pair in
      part_run bytes t S B.read B.plan I.basis.from P B.longer B.recurs B.final (take used choices) I.j I.s I.part (λ c i. ready_of_nth (own c (rows_of rows n)) i) rounds_in ys X
      (omega (arith, I.tick_is)) (omega (arith, I.until_is)) (omega (arith, I.basis.small))
      ∙ ap (λ (g : Setting). rested_result left (run_from g ys I.s)) (sym (setting-in X))

  bounded : (X : ℕ) → tick < X → X ≤ until → X ≤ H → (ys : List ℕ)
      → ((run_from (setting_in program X rows n l count) ys I.s).state.used ≤ most_used)
      × (length (run_from (setting_in program X rows n l count) ys I.s).state.observations * observation_width ≤ length out₀)
  bounded X b k m ys =
      let q = run_in X b k m ys in
      let h : t.horizon ≤ H = omega (arith, I.basis.beyond) in
      let r = to_nearer I.basis.pair H h I.basis.small X (omega arith) m (take used choices ++ ys) in
      let u = unending I.basis.pair H h I.basis.small in
      (omega (arith, r.0, ap (λ (x : Result). x.state.used) q), omega (arith, r.1, ap (λ (x : Result). length x.state.observations) q, I.basis.room u.passages u.planned))

  -- The law: it begins so.
  pub begun_in : (X : ℕ) → tick < X → X ≤ until → X ≤ H → (ys : List ℕ) → Begun program X rows n l v count ys out tick written I.s out₀
  begun_in X b k m ys =
      record {
        running = I.running;
        tick = I.tick_is;
        early = I.early;
        written = I.written_is;
        few = I.few;
        bytes = I.over;
        brief = λ i. (bounded X b k m (take i ys)).0;
        roomy = λ i. (bounded X b k m (take i ys)).1;
      }
