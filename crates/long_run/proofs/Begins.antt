-- The run to a horizon up to the table's own, by its program and all its rows. Assumes nothing.
use mathlib.Core.Path.{◌≡◌, refl, sym, ap, ap₂, subst, fun_ext, ◌∙◌}
use mathlib.Core.List.{List, [], ◌∷◌, ◌++◌, map}
use mathlib.Core.Option.{Option}
use Prim.Native.Nat.{ℕ, zero, suc, ◌*◌, ◌≤◌}
use native.Mathlib.Omega.{arith}
use lib.Dec.{eqb}
use lib.IntN.{ℤ}
use lib.ListN.{length, take, drop}
use Rattle.model.specs.Lists.{below, each, Bytes}
use Rattle.model.specs.Reader.{byte}
use Rattle.model.specs.Places.{Valid, read_of}
use Rattle.model.specs.Schedule.{Passage, own, light}
use Rattle.model.specs.Program.{program_bytes}
use Rattle.model.specs.Run.{Counts, Setting, ready_of_nth, setting_to, Result, start_run, run, observation_width, written_bytes, written_in}
use Rattle.model.proofs.Checks.Independence.{only_map}
use Rattle.model.proofs.Reader.Located.{valid_read}
use Rattle.translator.proofs.Standing.{valid_limits}
use Rattle.rows.specs.Rows.{rows_of}
use Rattle.registers.specs.Words.{wake_tick_in}
use Rattle.machine.specs.Running.{counts_at, setting_in}
use Rattle.schedule.specs.Filled.{AcceptedRows}
use Rattle.schedule.proofs.Accepted.{is_schedule}
use Rattle.recurrence.specs.Recurrence.{Unending}
use Rattle.recurrence.proofs.Every.{shorter}
use Rattle.model.specs.Calls.{end_of}
use Rattle.run.specs.declared.Ended.{Ended}
use Rattle.run.specs.Ends.{Roomy, most_used, Brief, Begun, EndsAs, Started}
use Rattle.run.proofs.Carried.{over_none}
use Rattle.long_run.specs.Reached.{RoomTo, EndsTo}
use Rattle.long_run.proofs.Below.{run_below}
use Rattle.long_run.proofs.Bounds.{schedule_to, one_schedule, used_most}

-- what the rows keep of the passages has their readies
ready_light : (vs : List Passage) (k : ℕ) → ready_of_nth (map light vs) k ≡ ready_of_nth vs k
ready_light [] k = refl
ready_light (v ∷ vs) zero = refl
ready_light (v ∷ vs) (suc k) = ready_light vs k

ready_rows : (S : List Passage) (c k : ℕ) → ready_of_nth (own c (map light S)) k ≡ ready_of_nth (own c S) k
ready_rows S c k = ap (λ (vs : List Passage). ready_of_nth vs k) (only_map light (λ v. eqb v.component c) S) ∙ ready_light (own c S) k

abbrev setting_with : List ℕ → ℕ → List Counts → List ℕ → (ℕ → ℕ → Option ℕ) → Setting
setting_with program H counts offsets ready = record { program = program; horizon = H; counts = counts; ready = ready; offsets = offsets }

-- a run that is another ends as that
same_end : {g h : Setting} {cs out out' : List ℕ} {e : Ended} → run g cs ≡ run h cs → EndsAs g cs out e out' → EndsAs h cs out e out'
same_end {g} {h} {cs} {out} {out'} {e} q x =
    record {
      end = x.end ∙ ap (λ (r : Result). end_of r.end r.node) q;
      tick = x.tick ∙ ap (λ (r : Result). r.state.tick) q;
      used = x.used ∙ ap (λ (r : Result). r.state.used) q;
      written = x.written ∙ ap (λ (r : Result). length r.state.observations) q;
      bytes = x.bytes ∙ ap (λ (r : Result). each written_bytes (written_in r.state) ++ drop (length (written_in r.state) * observation_width) out) q;
    }

module _ (table : List ℕ) (b : Bytes table) (valid : Valid table) {program rows : List ℕ} {n : ℕ} (translated : program ≡ program_bytes (read_of table)) (laid : AcceptedRows table rows n) {l : List ℕ} {v : List ℤ}
    (s : Started table program rows n [] l v) {X : ℕ} (least : 1 ≤ X) (less : X ≤ (read_of table).horizon) where
  ready-is : ◌≡◌ {A = ℕ → ℕ → Option ℕ} (λ c k. ready_of_nth (own c (rows_of rows n)) k) (λ c k. ready_of_nth (own c laid.passages) k)
  ready-is = fun_ext (λ c. fun_ext (λ k. ap (λ (vs : List Passage). ready_of_nth (own c vs) k) laid.listed ∙ ready_rows laid.passages c k))

  -- the setting is that of the table, its schedule and the horizon
  setting_is : setting_in program X rows n l (byte table 3) ≡ setting_to (read_of table) X laid.passages
  setting_is =
      ap (λ (x : List ℕ). setting_with x X (map (counts_at l) (below (byte table 3))) (map (wake_tick_in l) (below (byte table 3))) (λ c k. ready_of_nth (own c (rows_of rows n)) k)) translated
      ∙ (ap₂ (λ (ks : List Counts) (ws : List ℕ). setting_with (program_bytes (read_of table)) X ks ws (λ c k. ready_of_nth (own c (rows_of rows n)) k)) s.counts s.offsets
      ∙ ap (setting_with (program_bytes (read_of table)) X _ _) ready-is)

  -- the schedule to the horizon
  to : Unending (read_of table) X
  to = shorter table (read_of table) laid.passages (valid_read table valid) laid.accepted_schedule X least less

  same_run : (cs : List ℕ) → run (setting_in program X rows n l (byte table 3)) cs ≡ run (setting_to (read_of table) X to.passages) cs
  same_run cs =
      ap (λ (g : Setting). run g cs) setting_is
      ∙ run_below (read_of table) (read_of table).horizon X (is_schedule table rows n laid) (schedule_to (read_of table) X to.passages to.planned) (omega arith) less cs

  -- its observations have room
  room_enough : (choices : List ℕ) (room : ℕ) → RoomTo table X room → Roomy (setting_in program X rows n l (byte table 3)) choices (start_run (setting_in program X rows n l (byte table 3))) room
  unfolding run
  room_enough choices room r k =
      subst (λ (x : Result). length x.state.observations * observation_width ≤ room) (sym (same_run (take k choices))) (omega (arith, to.few (take k choices), r to.passages to.planned))

  -- and no more choices are carried out
  brief_enough : (choices : List ℕ) → Brief (setting_in program X rows n l (byte table 3)) choices (start_run (setting_in program X rows n l (byte table 3)))
  unfolding run
  brief_enough choices k =
      subst (λ (x : Result). x.state.used ≤ most_used) (sym (same_run (take k choices))) (used_most table b valid X (omega (arith, less, (valid_limits table b valid).most_horizon)) to (take k choices))

  -- so it begins at its start
  pub begins_so : (choices out : List ℕ) → RoomTo table X (length out)
      → Begun program X rows n l v (byte table 3) choices out 0 0 (start_run (setting_in program X rows n l (byte table 3))) out
  begins_so choices out room =
      record {
        running = s.running X;
        tick = refl;
        early = omega arith;
        written = refl;
        few = omega arith;
        bytes = over_none out;
        brief = brief_enough choices;
        roomy = room_enough choices (length out) room;
      }

  -- so it ends as that of the schedule to the horizon
  pub ends_so : {choices out out' : List ℕ} {e : Ended} → EndsAs (setting_in program X rows n l (byte table 3)) choices out e out' → EndsTo table X choices out e out'
  ends_so {choices} x L q =
      same_end (same_run choices ∙ ap (λ (K : List Passage). run (setting_to (read_of table) X K) choices) (one_schedule (read_of table) X to.planned q)) x
