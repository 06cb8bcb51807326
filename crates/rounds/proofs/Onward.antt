-- From the end of a part to the begin of the next. Assumes nothing.
use mathlib.Core.Path.{◌≡◌, refl, sym, ap, ap₂, subst, subst₂, ◌∙◌}
use mathlib.Core.Bool.{Bool, cond}
use mathlib.Core.List.{List, [], map}
use mathlib.Core.Option.{none, some}
use Prim.Native.Nat.{ℕ, suc, ◌+◌, ◌-◌, ◌*◌, ◌≤◌, ◌<◌}
use native.Mathlib.Omega.{arith}
use borrow.Author.Tests.{le-ltb}
use lib.IntN.{ℤ}
use lib.ListN.{length, take, drop, length-drop}
use lib.Seq.{take-add, take-nil, take-length}
use Rattle.model.specs.Table.{Read, size}
use Rattle.model.specs.Schedule.{Passage, own, light}
use Rattle.model.specs.Checks.{passage_at}
use Rattle.model.specs.Run.{Setting, Run, Result, ready_of_nth, node_of, run_from, observation_width, written_in}
use Rattle.recurrence.specs.Rows.{rows_before}
use Rattle.recurrence.proofs.Shift.{rested_run}
use Rattle.recurrence.proofs.Horizons.{Farther, same, reached, farther}
use Rattle.recurrence.proofs.Turned.{capped, round_ready}
use Rattle.recurrence.proofs.Parts.{part_sleeps, part_next}
use Rattle.later_runs.proofs.Front.{delayed}
use Rattle.rows.specs.Rows.{rows_of}
use Rattle.registers.specs.Words.{row_in}
use Rattle.machine.specs.Running.{RowIs, ready_at, setting_in, Standing, Running}
use Rattle.turning.proofs.Running.{running_sleeps}
use Rattle.model.specs.declared.End.TheVariants.{Horizon}
use Rattle.run.proofs.Carried.{horizon_end}
use Rattle.run.specs.declared.Ended.{Ended}
use Rattle.run.specs.Ends.{most_used, Over, Begun, GoesOn, PartEnds}
use Rattle.run.proofs.Stages.{first_stage, standing}
use Rattle.rounds.proofs.Moved.{goes_to, Worded, front_next, rounds_at}
use Rattle.rounds.proofs.Back.{first_second, between_is, row_back, row_ready, ready_again}
use Rattle.rounds.proofs.InPart.{PartAt, InPart, long_is, rounds_in, setting-in, begun_in}

-- the ready of a passage that the rows have
round-ready : (vs : List Passage) (w later k : ℕ) → k ≤ w → round_ready vs w later k ≡ some (capped ((passage_at vs k).ready + later))
round-ready vs w later k h = ap (λ (b : Bool). cond b none (some (capped ((passage_at vs k).ready + later)))) (le-ltb w k h)

-- how many of a component's passages lie between two rows
abbrev pub apart : List Passage → ℕ → ℕ → ℕ → ℕ
apart R first second c = length (own c (take (second - first) (drop first R)))

module _ {bytes : List ℕ} {t : Read} {S : List Passage} {program : List ℕ} {n count first second P H : ℕ} {choices out₀ rows l : List ℕ} {v : List ℤ} {out : List ℕ} {tick used written until : ℕ}
    (I : InPart bytes t S program n count first second P H choices out₀ rows l v out tick used written until)
    (nearer : until < H) {e : Ended} {l' : List ℕ} {v' : List ℤ} {out' : List ℕ}
    (p : PartEnds program until rows n l count (drop used choices) I.s out₀ e l' v' out') (arrives : e.end ≡ Horizon) where
  -- where it has arrived
  abbrev pub arrived : Run
  arrived = (run_from (setting_in program until rows n l count) (drop used choices) I.s).state

  pub goes_on : GoesOn program until rows n l count l' v' arrived
  goes_on = p.further arrives

  end_is : (run_from (setting_in program until rows n l count) (drop used choices) I.s).end ≡ 0
  end_is = horizon_end _ _ (sym p.end ∙ arrives)

  early : tick < until
  early = omega (arith, I.part.near, I.tick_is, I.until_is)

  -- at the end of the part, with no more choices than there are
  pub arrives_at : (arrived.tick ≡ until) × (used + e.used ≤ length choices)
  arrives_at = go (farther (setting_in program until rows n l count) until (suc until) (omega arith) (drop used choices) I.s (omega (arith, early, I.tick_is)))
    where
      go : Farther (setting_in program until rows n l count) until (suc until) (drop used choices) I.s (run_from (setting_in program until rows n l count) (drop used choices) I.s)
          → (arrived.tick ≡ until) × (used + e.used ≤ length choices)
      go (same z q) = absurd (z end_is)
      go (reached z b k u m q) = (b, omega (arith, u, m, p.used, I.used_most, length-drop used choices))

  -- the same by the setting of the parts
  same_run : run_from (setting_in program until rows n l count) (drop used choices) I.s
      ≡ run_from (Rattle.recurrence.proofs.Agree.with_ready (goes_to I.basis.pair (I.basis.from + P + I.j * P)) (λ c k. ready_of_nth (own c (rows_of rows n)) k)) (drop used choices) I.s
  same_run = ap (λ (g : Setting). run_from g (drop used choices) I.s) (ap (λ (X : ℕ). setting_in program X rows n l count) I.until_is ∙ setting-in I (I.basis.from + P + I.j * P))

  inside : I.basis.from + P + I.j * P ≤ 4294967295
  inside = omega (arith, I.until_is, I.basis.small)

  -- ## The sleeps

  -- so many sleeps a period has
  abbrev pub period_sleeps : ℕ → ℕ
  period_sleeps c = rows_before S c (I.basis.from + P) - rows_before S c I.basis.from

  sleeps_there : (c : ℕ) → c < count → (node_of arrived c).sleeps ≡ rows_before S c (I.basis.from + P)
  sleeps_there c h =
      let B = I.basis.pair in
      ap (λ (x : Result). (node_of x.state c).sleeps) same_run
      ∙ part_sleeps bytes t S B.read B.plan I.basis.from P B.longer B.recurs B.final (take used choices) I.j I.s I.part (λ c i. ready_of_nth (own c (rows_of rows n)) i) (rounds_in I) (drop used choices)
      inside (sym (ap (λ (x : Result). x.end) same_run) ∙ end_is) c (omega (arith, I.basis.components))

  period_is : (c : ℕ) → apart (rows_of rows n) first second c + rows_before S c I.basis.from ≡ rows_before S c (I.basis.from + P)
  period_is c =
      ap₂ (λ (f g : ℕ). apart (rows_of rows n) f g c + rows_before S c I.basis.from) I.basis.first-is I.basis.second_is
      ∙ between_is I.basis.pair (rows_of rows n) n (I.j * P) (long_is I) I.basis.most I.moved c

  pub counted : (c : ℕ) → c < count → period_sleeps c ≡ apart (rows_of rows n) first second c
  counted c h = omega (arith, period_is c)

  pub enough : (c : ℕ) → c < count → period_sleeps c ≤ (node_of arrived c).sleeps
  enough c h = omega (arith, sleeps_there c h)

  -- ## The rows

  pub stands_back : (c : ℕ) → c < count → RowIs (rows_of rows n) c ((node_of arrived c).sleeps - period_sleeps c) (first + c)
  stands_back c h =
      let k : rows_before S c I.basis.from ≡ (node_of arrived c).sleeps - period_sleeps c = omega (arith, sleeps_there c h, period_is c) in
      subst₂ (λ (m f : ℕ). RowIs (rows_of rows n) c m (f + c)) k (sym I.basis.first-is)
      (row_back I.basis.pair (rows_of rows n) n (I.j * P) (long_is I) I.basis.most I.moved c (omega (arith, I.basis.components)))

  -- the row that a node comes to is ready, a period later, when the one is at which it stands
  pub same_ready : (c : ℕ) → c < count → ready_at (map (delayed P) (rows_of rows n)) (first + c) ≡ ready_at (rows_of rows n) (row_in l' c)
  same_ready c h =
      let B = I.basis.pair in
      let R = rows_of rows n in
      let R' = map (delayed P) R in
      let u = rows_before S c I.basis.from in
      let w = rows_before S c (I.basis.from + P) in
      let there : c < size t.table = omega (arith, I.basis.components) in
      let again : (passage_at (own c S) u).ready + suc I.j * P ≡ (passage_at (own c S) w).ready + I.j * P = omega (arith, ready_again B c there) in
      let moved = front_next R R' (map light (take n S)) I.j P I.moved refl in
      let stands : RowIs R c w (row_in l' c) = subst (λ (k : ℕ). RowIs R c k (row_in l' c)) (sym (running_sleeps goes_on.running c h) ∙ sleeps_there c h) (goes_on.running.each c h).row in
      let back : RowIs R' c u (first + c) = subst (λ (f : ℕ). RowIs R' c u (f + c)) (sym I.basis.first-is) (row_back B R' n (suc I.j * P) (long_is I) I.basis.most moved c there) in
      row_ready R' c u (first + c) (capped ((passage_at (own c S) u).ready + suc I.j * P)) back
      ((rounds_at B R' n (suc I.j) (long_is I) moved).there c u there ∙ round-ready (own c S) w (suc I.j * P) u (omega (arith, period_is c)))
      ∙ ap capped again
      ∙ sym (row_ready R c w (row_in l' c) (capped ((passage_at (own c S) w).ready + I.j * P)) stands ((rounds_in I).there c w there ∙ round-ready (own c S) w (I.j * P) w (omega arith)))

  pub in_order : first ≤ second
  in_order = omega (arith, first_second I.basis.pair, I.basis.first-is, I.basis.second_is)

  -- ## The slices

  within : (arrived.used ≤ most_used) × (length arrived.observations * observation_width ≤ length out₀)
  within =
      let b = begun_in I until early (omega arith) (omega arith) (drop used choices) in
      let whole = take-length (drop used choices) in (
        subst (λ (xs : List ℕ). (run_from (setting_in program until rows n l count) xs I.s).state.used ≤ most_used) whole (b.brief (length (drop used choices))),
        subst (λ (xs : List ℕ). length (run_from (setting_in program until rows n l count) xs I.s).state.observations * observation_width ≤ length out₀) whole (b.roomy (length (drop used choices))),
      )

  -- with no further choices it stays there
  stays : (k : ℕ) → (run_from (setting_in program until rows n l' count) (take k []) arrived).state ≡ arrived
  unfolding run_from
  stays k = ap (λ (xs : List ℕ). (run_from (setting_in program until rows n l' count) xs arrived).state) (take-nil k)

  begun_there : Begun program until rows n l' v' count [] out' arrived.tick (length arrived.observations) arrived out₀
  begun_there =
      record {
        running = goes_on.running;
        tick = refl;
        early = goes_on.early;
        written = refl;
        few = goes_on.few;
        bytes = p.bytes;
        brief = λ k. subst (λ (x : Run). x.used ≤ most_used) (sym (stays k)) within.0;
        roomy = λ k. subst (λ (x : Run). length x.observations * observation_width ≤ length out₀) (sym (stays k)) within.1;
      }

  pub stands_there : Standing program rows n l' v' count
  stands_there = standing (first_stage program until rows n count l' [] out₀ arrived begun_there) begun_there.brief

  -- ## The next part

  -- The law: the slices turned, the next part begins.
  pub next_part : (s' : Run) {rows' l'' : List ℕ} {v'' : List ℤ} → rested_run period_sleeps s' ≡ arrived → Running program rows' n l'' v'' count s' → Worded t program l'' count
      → rows_of rows' n ≡ map (delayed P) (rows_of rows n)
      → InPart bytes t S program n count first second P H choices out₀ rows' l'' v'' out' until (used + e.used) e.written (until + P)
  next_part s' turned running worded moved =
      let B = I.basis.pair in
      let at = ap (λ (x : Run). x.tick) turned in
      let spent = ap (λ (x : Run). x.used) turned in
      let seen = ap (λ (x : Run). length x.observations) turned in
      record {
        basis = I.basis;
        j = suc I.j;
        s = s';
        part =
            subst (λ (xs : List ℕ). PartAt B xs (suc I.j) s') (sym (take-add used e.used choices))
            (part_next bytes t S B.read B.plan I.basis.from P B.longer B.recurs B.final (take used choices) I.j I.s I.part (λ c i. ready_of_nth (own c (rows_of rows n)) i) (rounds_in I) (drop used choices)
            inside (sym (ap (λ (x : Result). x.end) same_run) ∙ end_is) s' (turned ∙ ap (λ (x : Result). x.state) same_run) e.used
            (sym (ap (λ (x : Result). x.state.used) same_run) ∙ p.used));
        running = running;
        worded = worded;
        moved = front_next (rows_of rows n) _ (map light (take n S)) I.j P I.moved moved;
        tick_is = at ∙ arrives_at.0;
        near = nearer;
        until_is = omega (arith, I.until_is);
        used_is = omega (arith, spent, p.used, I.used_is);
        used_most = arrives_at.1;
        early = omega (arith, at, spent, goes_on.early);
        few = omega (arith, seen, spent, goes_on.few);
        written_is = p.written ∙ sym seen;
        over = subst (λ (x : Run). Over (written_in x) out₀ out') (sym turned) p.bytes;
      }
