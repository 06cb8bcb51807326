-- The run of a table by its program and its rows. Assumes nothing.
use mathlib.Core.Path.{◌≡◌, refl, sym, ap, ap₂, subst, fun_ext, ◌∙◌}
use mathlib.Core.List.{List, [], ◌∷◌, ◌++◌, map}
use mathlib.Core.Option.{Option}
use Prim.Native.Nat.{ℕ, zero, suc, ◌*◌, ◌≤◌, ◌<◌}
use native.Mathlib.Omega.{arith}
use lib.Dec.{eqb}
use lib.IntN.{ℤ}
use lib.ListN.{length, take, length-append}
use lib.Seq.{take_at}
use Rattle.model.specs.Lists.{below, Bytes, Answer, accepted, refused}
use Rattle.model.specs.Table.{Read}
use Rattle.model.specs.Reader.{byte, word}
use Rattle.model.specs.Places.{Valid, read_of}
use Rattle.model.specs.Schedule.{Passage, own, light}
use Rattle.model.specs.Checks.{accepted_schedule_at}
use Rattle.model.specs.Program.{program_bytes}
use Rattle.model.specs.Run.{Counts, Setting, ready_of_nth, setting_at, offset_in, start_run, run, observation_width}
use Rattle.model.proofs.Checks.Independence.{only_map}
use Rattle.model.proofs.Reader.Located.{valid_read, valid_located}
use Rattle.model.proofs.Run.Few.{few_apart}
use Rattle.model.proofs.Run.CallsApart.{demanded_apart}
use Rattle.model.proofs.Checks.Lower.{plan_lower}
use Rattle.rows.specs.Rows.{rows_of}
use Rattle.translator.proofs.Standing.{valid_count}
use Rattle.registers.specs.Words.{wake_tick_in}
use Rattle.machine.specs.Running.{counts_at, setting_in}
use Rattle.run.specs.Ends.{Roomy, most_used, Brief, Begun, EndsAs, Started, PlannedApart}
use Rattle.run.proofs.Carried.{over_none}
use Rattle.run.specs.declared.Ended.{Ended}

-- what the rows keep of the passages has their readies
ready_light : (vs : List Passage) (k : ℕ) → ready_of_nth (map light vs) k ≡ ready_of_nth vs k
ready_light [] k = refl
ready_light (v ∷ vs) zero = refl
ready_light (v ∷ vs) (suc k) = ready_light vs k

ready_rows : (S : List Passage) (c k : ℕ) → ready_of_nth (own c (map light S)) k ≡ ready_of_nth (own c S) k
ready_rows S c k = ap (λ (vs : List Passage). ready_of_nth vs k) (only_map light (λ v. eqb v.component c) S) ∙ ready_light (own c S) k

-- one schedule at most is accepted
abbrev passages_in : Answer (List Passage) → List Passage
passages_in (accepted S) = S
passages_in (refused n c) = []

same_plan : {a : Answer (List Passage)} {S U : List Passage} → a ≡ accepted S → a ≡ accepted U → S ≡ U
same_plan d e = ap passages_in (sym d ∙ e)

-- whatever the spread
same_at : (t : Read) (G K : ℕ) {S U : List Passage} → accepted_schedule_at G t ≡ accepted S → accepted_schedule_at K t ≡ accepted U → S ≡ U
same_at t G K {S} {U} d e = same_plan (plan_lower G 0 (omega arith) t S d) (plan_lower K 0 (omega arith) t U e)

-- the front of a list is no longer than it is
take_most : (k : ℕ) (xs : List ℕ) → length (take k xs) ≤ length xs
take_most zero xs = omega arith
take_most (suc k) [] = omega arith
take_most (suc k) (x ∷ xs) = omega (arith, take_most k xs)

abbrev setting_with : List ℕ → ℕ → List Counts → List ℕ → (ℕ → ℕ → Option ℕ) → Setting
setting_with program H counts offsets ready = record { program = program; horizon = H; counts = counts; ready = ready; offsets = offsets }

-- no offset of a node is above 1,000
pub small_offsets : (table : List ℕ) (b : Bytes table) → Valid table → {rows : List ℕ} {n : ℕ} {os : List ℕ} → PlannedApart table rows n os → (c : ℕ) → c < byte table 3 → offset_in os c ≤ 1000
small_offsets table b valid p c h = omega (arith, p.permitted c (omega (arith, valid_count table b valid)), p.plan.small)

-- what stands at the front of bytes is no longer than they are
pub front_fits : (front back : List ℕ) {k : ℕ} {bytes : List ℕ} → k ≡ length front → bytes ≡ front ++ back → k ≤ length bytes
front_fits front back {k} {bytes} e w = omega (arith, e, ap length w, length-append front back)

-- the front of what was written
pub front_is : (p q : List ℕ) {long : ℕ} {written : List ℕ} → long ≡ length p → written ≡ p ++ q → take long written ≡ p
front_is p q {long} d e = ap (take long) e ∙ take_at p q long (sym d)

module _ (table : List ℕ) (b : Bytes table) (valid : Valid table) {program rows : List ℕ} {n : ℕ} (translated : program ≡ program_bytes (read_of table)) {os : List ℕ} (p : PlannedApart table rows n os) {l : List ℕ} {v : List ℤ}
    (s : Started table program rows n os l v) {H : ℕ} (h : H ≡ word table 5) where
  ready-is : ◌≡◌ {A = ℕ → ℕ → Option ℕ} (λ c k. ready_of_nth (own c (rows_of rows n)) k) (λ c k. ready_of_nth (own c p.plan.passages) k)
  ready-is = fun_ext (λ c. fun_ext (λ k. ap (λ (vs : List Passage). ready_of_nth (own c vs) k) p.plan.listed ∙ ready_rows p.plan.passages c k))

  planned_setting : setting_in program H rows n l (byte table 3) ≡ setting_at (read_of table) (read_of table).horizon p.plan.passages os
  planned_setting =
      ap₂ (λ (x : List ℕ) (y : ℕ). setting_with x y (map (counts_at l) (below (byte table 3))) (map (wake_tick_in l) (below (byte table 3))) (λ c k. ready_of_nth (own c (rows_of rows n)) k)) translated (h ∙ (valid_located table b valid).horizon)
      ∙ (ap₂ (λ (ks : List Counts) (ws : List ℕ). setting_with (program_bytes (read_of table)) (read_of table).horizon ks ws (λ c k. ready_of_nth (own c (rows_of rows n)) k)) s.counts s.offsets
      ∙ ap (setting_with (program_bytes (read_of table)) (read_of table).horizon _ _) ready-is)

  -- the setting is that of the table and its schedule
  pub setting_is : (G : ℕ) (S : List Passage) → accepted_schedule_at G (read_of table) ≡ accepted S
      → setting_in program H rows n l (byte table 3) ≡ setting_at (read_of table) (read_of table).horizon S os
  setting_is G S e =
      planned_setting
      ∙ ap (λ (vs : List Passage). setting_at (read_of table) (read_of table).horizon vs os) (same_at (read_of table) p.spread G p.plan.accepted_schedule e)

  -- the rows have an observation each
  pub room_enough : (choices : List ℕ) (room : ℕ) → n * observation_width ≤ room → Roomy (setting_in program H rows n l (byte table 3)) choices (start_run (setting_in program H rows n l (byte table 3))) room
  unfolding run
  room_enough choices room r k =
      subst (λ (g : Setting). length (run g (take k choices)).state.observations * observation_width ≤ room) (sym planned_setting)
      (omega (arith, p.plan.count, few_apart p.spread table (read_of table) p.plan.passages (valid_read table valid) p.plan.accepted_schedule os p.permitted (take k choices)))

  -- no more are carried out than there are
  pub brief_enough : (choices : List ℕ) → length choices ≤ 1000000 → Brief (setting_in program H rows n l (byte table 3)) choices (start_run (setting_in program H rows n l (byte table 3)))
  unfolding run
  brief_enough choices short k =
      let few = (demanded_apart p.spread table os (take k choices) (read_of table) p.plan.passages (valid_read table valid) p.plan.accepted_schedule p.permitted).used in
      subst (λ (g : Setting). (run g (take k choices)).state.used ≤ most_used) (sym planned_setting) (omega (arith, few, take_most k choices, short))

  -- so it begins at its start
  pub begins_so : (choices out : List ℕ) → length choices ≤ 1000000 → n * observation_width ≤ length out
      → Begun program H rows n l v (byte table 3) choices out 0 0 (start_run (setting_in program H rows n l (byte table 3))) out
  begins_so choices out short room =
      record {
        running = s.running H;
        tick = refl;
        early = omega arith;
        written = refl;
        few = omega arith;
        bytes = over_none out;
        brief = brief_enough choices short;
        roomy = room_enough choices (length out) room;
      }

  -- so the run ends as that of the table and its schedule
  pub ends_so : {choices out out' : List ℕ} {e : Ended} → EndsAs (setting_in program H rows n l (byte table 3)) choices out e out'
      → (G : ℕ) (S : List Passage) → accepted_schedule_at G (read_of table) ≡ accepted S → EndsAs (setting_at (read_of table) (read_of table).horizon S os) choices out e out'
  ends_so {choices} {out} {out'} {e} x G S q = subst (λ (g : Setting). EndsAs g choices out e out') (setting_is G S q) x
