-- The run in parts begins with the nodes at their programs' start. Assumes nothing.
use mathlib.Core.Path.{◌≡◌, refl, sym, ap, subst, ◌∙◌}
use mathlib.Core.List.{List, [], map}
use Prim.Native.Nat.{ℕ, ◌+◌, ◌*◌, ◌≤◌, ◌<◌}
use native.Mathlib.Omega.{arith}
use lib.IntN.{ℤ}
use lib.ListN.{length}
use Rattle.model.specs.Lists.{below, Bytes, Answer, accepted}
use Rattle.model.specs.Table.{size}
use Rattle.model.specs.Reader.{byte}
use Rattle.model.specs.Places.{Valid, read_of}
use Rattle.model.specs.Schedule.{Passage, light}
use Rattle.model.specs.Program.{program_bytes}
use Rattle.model.specs.Run.{start_run, observation_width}
use Rattle.model.proofs.Reader.Limits.{read_limits}
use Rattle.model.proofs.Reader.Located.{valid_read}
use Rattle.schedule.specs.Filled.{AcceptedRows}
use Rattle.translator.proofs.Standing.{valid_count}
use Rattle.recurrence.specs.Recurrence.{accepted_schedule_to}
use Rattle.registers.specs.Words.{wake_tick_in}
use Rattle.machine.specs.Running.{counts_at, setting_in, Running}
use Rattle.period.specs.declared.counting.Round.{Round}
use Rattle.period.specs.Walking.{passages_of, schedule_in}
use Rattle.period.specs.Rounds.{RoundOf}
use Rattle.run.specs.Ends.{Started}
use Rattle.rounds.proofs.Moved.{Recurring, front_first}
use Rattle.rounds.proofs.Back.{first_second, parted_most}
use Rattle.rounds.proofs.InPart.{InPart, first_part}

module _ (table : List ℕ) (b : Bytes table) (valid : Valid table) {program rows : List ℕ} (translated : program ≡ program_bytes (read_of table)) (all : ℕ) (laid : AcceptedRows table rows all)
    {round : Round} (o : RoundOf table round) {count : ℕ} (components : count ≡ byte table 3) where
  same : laid.passages ≡ schedule_in table
  same = sym (ap (λ (a : Answer (List Passage)). passages_of a) laid.accepted_schedule)

  recurring : Recurring table (read_of table) (schedule_in table) o.from round.period
  recurring = record { read = valid_read table valid; plan = laid.accepted_schedule ∙ ap accepted same; longer = o.longer; recurs = o.recurs; final = o.final }

  size_is : count ≡ size (read_of table).table
  size_is = components ∙ valid_count table b valid

  rows_most : round.second + count ≤ length (schedule_in table)
  rows_most = omega (arith, parted_most recurring (read_limits table (read_of table) (valid_read table valid)).least_components, o.second, size_is)

  count_all : all ≡ length (schedule_in table)
  count_all = laid.count ∙ ap length same

  pub few_rows : round.second + count ≤ 1024
  few_rows = omega (arith, rows_most, count_all, laid.placed.few)

  -- the rows of a period can be counted
  pub may_count : {l : List ℕ} {v : List ℤ} → Started table program rows (round.second + count) [] l v
      → (round.second * 9 ≤ length rows) × (round.second ≤ 1024) × (round.first ≤ round.second) × (count ≤ 8)
  may_count started =
      let r = started.running 0 in
      (omega (arith, r.listed.fits), omega (arith, few_rows), omega (arith, first_second recurring, o.first, o.second), omega (arith, r.most, components))

  -- The law.
  pub begins : {l : List ℕ} {v : List ℤ} → Started table program rows (round.second + count) [] l v → {H : ℕ} → (read_of table).horizon < H → H ≤ 4294967295 → {out : List ℕ}
      → ((L : List Passage) → accepted_schedule_to (read_of table).table H ≡ accepted L → length L * observation_width ≤ length out) → (choices : List ℕ)
      → InPart table (read_of table) (schedule_in table) program (round.second + count) count round.first round.second round.period H choices out rows l v out 0 0 0 round.until
  begins {l} {v} started {H} beyond small {out} room choices =
      first_part choices
      (record { from = o.from; pair = recurring; beyond = beyond; small = small; components = size_is; first-is = o.first; second_is = o.second; long = refl; most = rows_most; room = room })
      (record { translated = translated; counts = ap (λ (k : ℕ). map (counts_at l) (below k)) components ∙ started.counts; offsets = ap (λ (k : ℕ). map (wake_tick_in l) (below k)) components ∙ started.offsets })
      (λ X. subst (λ (k : ℕ). Running program rows (round.second + count) l v k (start_run (setting_in program X rows (round.second + count) l k))) (sym components) (started.running X))
      (front_first rows (round.second + count) all (schedule_in table) round.period (omega (arith, rows_most, count_all)) (laid.listed ∙ ap (map light) same) (λ k h. (let r = laid.placed.row k h in omega (arith, r.window, r.small))))
      round.until o.until
