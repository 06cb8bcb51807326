-- A run in parts ends: at the horizon, or before it where a part does not reach its own end. Assumes nothing.
use mathlib.Core.Path.{◌≡◌, refl, sym, ap, subst, ◌∙◌}
use mathlib.Core.Bool.{Bool, true, false}
use mathlib.Core.List.{List, ◌++◌}
use Prim.Native.Nat.{ℕ, ◌+◌, ◌*◌, ◌≤◌, ◌<◌}
use native.Mathlib.Omega.{arith}
use borrow.Author.Tests.{ltb-true, ltb-false}
use lib.Dec.{ltb}
use lib.IntN.{ℤ}
use lib.ListN.{length, take, drop, take-append-drop}
use Rattle.model.specs.Lists.{accepted}
use Rattle.model.specs.Table.{Read}
use Rattle.model.specs.Schedule.{Passage, own}
use Rattle.model.specs.Run.{Setting, Run, Result, ready_of_nth, run_from, run, setting_to}
use Rattle.recurrence.specs.Recurrence.{accepted_schedule_to}
use Rattle.recurrence.proofs.ShiftRun.{rested_result}
use Rattle.recurrence.proofs.Parts.{goes_long, part_ends}
use Rattle.rows.specs.Rows.{rows_of}
use Rattle.machine.specs.Running.{setting_in}
use Rattle.model.specs.declared.End.TheVariants.{Horizon}
use Rattle.model.specs.Calls.{end_of}
use Rattle.run.specs.declared.Ended.{Ended}
use Rattle.run.specs.Ends.{PartEnds, EndsAs}
use Rattle.rounds.proofs.Moved.{goes_to}
use Rattle.rounds.proofs.Bounds.{long_schedule}
use Rattle.rounds.proofs.InPart.{InPart, left, run_in, setting-in, rounds_in}

-- the end of a part, with the choices of those before
abbrev pub Totals : Ended → Ended → ℕ → Type 0
Totals r e used = (r.end ≡ e.end) × (r.tick ≡ e.tick) × (r.used ≡ used + e.used) × (r.written ≡ e.written)

-- a run that is that part, but for the sleeps, ends as it does
ends_so : (g : Setting) (m : ℕ → ℕ) (program : List ℕ) (X : ℕ) (rows : List ℕ) (n : ℕ) (l : List ℕ) (count used : ℕ) (cs ys : List ℕ) (s : Run) (out₀ : List ℕ) (e r : Ended) (l' : List ℕ) (v' : List ℤ) (out' : List ℕ)
    → run g cs ≡ rested_result m (run_from (setting_in program X rows n l count) ys s) → used ≡ s.used → PartEnds program X rows n l count ys s out₀ e l' v' out' → Totals r e used
    → EndsAs g cs out₀ r out'
ends_so g m program X rows n l count used cs ys s out₀ e r l' v' out' whole u p f =
    record {
      end = f.0 ∙ p.end ∙ sym (ap (λ (x : Result). end_of x.end x.node) whole);
      tick = f.1 ∙ p.tick ∙ sym (ap (λ (x : Result). x.state.tick) whole);
      used = omega (arith, f.2, p.used, ap (λ (x : Result). x.state.used) whole);
      written = f.3 ∙ p.written ∙ sym (ap (λ (x : Result). length x.state.observations) whole);
      bytes = rw whole p.bytes;
    }

module _ {bytes : List ℕ} {t : Read} {S : List Passage} {program : List ℕ} {n count first second P H : ℕ} {choices out₀ rows l : List ℕ} {v : List ℤ} {out : List ℕ} {tick used written until : ℕ}
    (I : InPart bytes t S program n count first second P H choices out₀ rows l v out tick used written until) where
  -- the run of the schedule is the run by the rows
  whole_run : (L : List Passage) → accepted_schedule_to t.table H ≡ accepted L → run (setting_to t H L) choices ≡ run (goes_to I.basis.pair H) (take used choices ++ drop used choices)
  whole_run L e =
      let B = I.basis.pair in
      let h : t.horizon ≤ H = omega (arith, I.basis.beyond) in
      sym (goes_long bytes t S B.read B.plan I.basis.from P B.longer B.recurs B.final H h (long_schedule B H h I.basis.small L e) choices)
      ∙ ap (run (goes_to B H)) (sym (take-append-drop used choices))

  -- it does not reach the end of the part, which lies before the horizon
  ends_early : until < H → ((run_from (setting_in program until rows n l count) (drop used choices) I.s).end ≡ 0 → ⊥)
      → run (goes_to I.basis.pair H) (take used choices ++ drop used choices) ≡ rested_result (left I) (run_from (setting_in program until rows n l count) (drop used choices) I.s)
  ends_early h z =
      let B = I.basis.pair in
      let ys = drop used choices in
      let e = I.until_is in
      let same = ap (λ (g : Setting). run_from g ys I.s) (ap (λ (X : ℕ). setting_in program X rows n l count) e ∙ setting-in I (I.basis.from + P + I.j * P)) in
      part_ends bytes t S B.read B.plan I.basis.from P B.longer B.recurs B.final (take used choices) I.j I.s I.part (λ c i. ready_of_nth (own c (rows_of rows n)) i) (rounds_in I) ys
      (omega (arith, I.basis.small)) (λ q. z (ap (λ (x : Result). x.end) same ∙ q)) H (omega arith)
      ∙ ap (rested_result (left I)) (sym same)

  -- The law: a part that reaches the horizon, or does not reach its own end, is the end of the run.
  pub part_returns : (X : ℕ) → X ≤ until → X ≤ H → ((m : ℕ) → m ≤ until → m ≤ H → m ≤ X) → (e r : Ended) {l' : List ℕ} {v' : List ℤ} {out' : List ℕ}
      → PartEnds program X rows n l count (drop used choices) I.s out₀ e l' v' out' → (e.end ≡ Horizon → H ≤ until) → Totals r e used
      → (L : List Passage) → accepted_schedule_to t.table H ≡ accepted L → EndsAs (setting_to t H L) choices out₀ r out'
  part_returns X a b g e r {l'} {v'} {out'} p z f L q = go (ltb until H) refl
    where
      go : (x : Bool) → ltb until H ≡ x → EndsAs (setting_to t H L) choices out₀ r out'
      go true y =
          let h = ltb-true until H y in
          let same : X ≡ until = omega (arith, g until (omega arith) (omega arith)) in
          let p' = subst (λ (k : ℕ). PartEnds program k rows n l count (drop used choices) I.s out₀ e l' v' out') same p in
          ends_so (setting_to t H L) (left I) program until rows n l count used choices (drop used choices) I.s out₀ e r l' v' out'
          (whole_run L q ∙ ends_early h (λ o. (let k = z (p'.end ∙ ap (λ (i : ℕ). end_of i (run_from (setting_in program until rows n l count) (drop used choices) I.s).node) o) in omega arith))) I.used_is p' f
      go false y =
          let h = ltb-false until H y in
          let same : X ≡ H = omega (arith, g H (omega arith) (omega arith)) in
          let p' = subst (λ (k : ℕ). PartEnds program k rows n l count (drop used choices) I.s out₀ e l' v' out') same p in
          ends_so (setting_to t H L) (left I) program H rows n l count used choices (drop used choices) I.s out₀ e r l' v' out'
          (whole_run L q ∙ run_in I H I.near h (omega arith) (drop used choices)) I.used_is p' f
