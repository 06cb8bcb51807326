-- The slices turned between two parts: what the turn asks, and that the next part begins. Assumes nothing.
use mathlib.Core.Path.{◌≡◌, sym, ap, subst, ◌∙◌}
use mathlib.Core.List.{List}
use Prim.Native.Nat.{ℕ, suc, ◌+◌, ◌-◌, ◌≤◌, ◌<◌}
use native.Mathlib.Omega.{arith}
use lib.IntN.{ℤ}
use lib.ListN.{length, get_or, take, drop, length-drop}
use lib.Seq.{take_all, take-length}
use Rattle.model.specs.Table.{Read}
use Rattle.model.specs.Schedule.{Passage}
use Rattle.model.specs.Run.{Setting, Run, run_from}
use Rattle.rows.specs.Rows.{rows_of}
use Rattle.registers.specs.Words.{word_in}
use Rattle.machine.specs.Running.{RowsStand, setting_in}
use Rattle.turning.specs.Turned.{between, MayTurn, Turned}
use Rattle.turning.proofs.Between.{between_delayed}
use Rattle.turning.proofs.Running.{running_sleeps, goes_on_turned}
use Rattle.model.specs.declared.End.TheVariants.{Horizon}
use Rattle.run.specs.declared.Ended.{Ended}
use Rattle.run.specs.Ends.{most_used, Begun, PartEnds}
use Rattle.rounds.proofs.InPart.{InPart, begun_in}
use Rattle.rounds.proofs.Onward.{goes_on, period_sleeps, counted, enough, stands_back, same_ready, in_order, stands_there, next_part}

module _ {bytes : List ℕ} {t : Read} {S : List Passage} {program : List ℕ} {n count first second P H : ℕ} {choices out₀ rows l : List ℕ} {v : List ℤ} {out : List ℕ} {tick used written until : ℕ}
    (I : InPart bytes t S program n count first second P H choices out₀ rows l v out tick used written until) (X : ℕ) (near : X ≤ until) (most : X ≤ H) (nearest : (m : ℕ) → m ≤ until → m ≤ H → m ≤ X) where
  -- ## What is carried out

  later : tick < X
  later = omega (arith, nearest (suc tick) (omega (arith, I.part.near, I.tick_is, I.until_is)) (omega (arith, I.near)))

  -- the choices left
  abbrev pub rest : List ℕ
  rest = take (length choices - used) (drop used choices)

  rest_is : rest ≡ drop used choices
  rest_is = take_all (length choices - used) (drop used choices) (omega (arith, length-drop used choices))

  pub begun : Begun program X rows n l v count rest out tick written I.s out₀
  begun = begun_in I X later near most rest

  pub carried : {e : Ended} {l' : List ℕ} {v' : List ℤ} {out' : List ℕ}
      → ((s : Run) (lent : List ℕ) → Begun program X rows n l v count rest out tick written s lent → PartEnds program X rows n l count rest s lent e l' v' out')
      → PartEnds program X rows n l count (drop used choices) I.s out₀ e l' v' out'
  carried {e} {l'} {v'} {out'} f = subst (λ (ys : List ℕ). PartEnds program X rows n l count ys I.s out₀ e l' v' out') rest_is (f I.s out₀ begun)

  module _ {e : Ended} {l' : List ℕ} {v' : List ℤ} {out' : List ℕ} (p : PartEnds program X rows n l count (drop used choices) I.s out₀ e l' v' out') where
    -- few choices altogether
    pub used_few : used + e.used ≤ most_used
    used_few =
        let b = (begun_in I X later near most (drop used choices)).brief (length (drop used choices)) in
        let k = subst (λ (xs : List ℕ). (run_from (setting_in program X rows n l count) xs I.s).state.used ≤ most_used) (take-length (drop used choices)) b in
        omega (arith, k, p.used, I.used_is)

    -- ## From a part to the next

    module _ (nearer : until < H) (arrives : e.end ≡ Horizon) where
      X-is : X ≡ until
      X-is = omega (arith, nearest until (omega arith) (omega arith))

      p' : PartEnds program until rows n l count (drop used choices) I.s out₀ e l' v' out'
      p' = subst (λ (k : ℕ). PartEnds program k rows n l count (drop used choices) I.s out₀ e l' v' out') X-is p

      module _ (fewer : List ℕ) (each : (c : ℕ) → c < count → get_or fewer c 0 ≡ between (rows_of rows n) first second c) where
        -- what the turn asks
        pub may_turn : RowsStand rows n × (256 ≤ length l') × (count ≤ 8) × (first ≤ n) × ((c : ℕ) → c < count → get_or fewer c 0 ≤ word_in l' c 20)
        may_turn =
            let s = stands_there I nearer p' arrives in (
              s.listed,
              s.eight.words,
              s.most,
              omega (arith, I.basis.long, in_order I nearer p' arrives),
              λ c h. omega (arith, each c h, counted I nearer p' arrives c h, enough I nearer p' arrives c h, running_sleeps (goes_on I nearer p' arrives).running c h),
            )

        -- and what it goes by
        pub turn_goes : MayTurn program rows n l' v' count first second P fewer
        turn_goes = record { standing = stands_there I nearer p' arrives; fewer_is = each; same_ready = same_ready I nearer p' arrives }

        -- as many are between the two on the later rows
        pub each_turned : {rows' l'' : List ℕ} {v'' : List ℤ} → Turned program rows n l' v' count first second P rows' l'' v''
            → (c : ℕ) → c < count → get_or fewer c 0 ≡ between (rows_of rows' n) first second c
        each_turned u c h = each c h ∙ sym (ap (λ (vs : List Passage). between vs first second c) u.moved ∙ between_delayed P first second c (rows_of rows n))

      -- The law: the next part begins.
      pub turned_part : {rows' l'' : List ℕ} {v'' : List ℤ} → Turned program rows n l' v' count first second P rows' l'' v''
          → InPart bytes t S program n count first second P H choices out₀ rows' l'' v'' out' until (used + e.used) e.written (until + P)
      turned_part {rows'} {l''} {v''} u =
          let g = goes_on I nearer p' arrives in
          let k = goes_on_turned u g.running (period_sleeps I nearer p' arrives) (counted I nearer p' arrives) (enough I nearer p' arrives) (stands_back I nearer p' arrives) in
          let same = k.setting until in
          next_part I nearer p' arrives k.next k.back k.running
          (record {
            translated = I.worded.translated;
            counts = ap (λ (x : Setting). x.counts) same ∙ ap (λ (x : Setting). x.counts) g.same ∙ I.worded.counts;
            offsets = ap (λ (x : Setting). x.offsets) same ∙ ap (λ (x : Setting). x.offsets) g.same ∙ I.worded.offsets;
          })
          u.moved
