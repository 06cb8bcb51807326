-- The rows up to the end of the last round, those entered there included, are rows of the table's schedule. Assumes nothing.
use mathlib.Core.List.{List}
use Prim.Native.Nat.{ℕ, ◌+◌, ◌-◌, ◌≤◌}
use native.Mathlib.Omega.{arith}
use Rattle.model.specs.Lists.{Bytes}
use Rattle.model.specs.Table.{size}
use Rattle.model.specs.Reader.{byte}
use Rattle.model.specs.Places.{Valid, read_of}
use Rattle.model.specs.Checks.{limit}
use Rattle.translator.proofs.Standing.{valid_count, valid_limits}
use Rattle.machine.specs.Running.{RowsStand}
use Rattle.schedule.specs.Filled.{AcceptedRows}
use Rattle.recurrence.proofs.Upcoming.{rows_join}
use Rattle.period.specs.declared.counting.Round.{Round}
use Rattle.period.specs.Walking.{schedule_in}
use Rattle.period.specs.Rounds.{RoundOf}
use Rattle.period.proofs.Walks.{law, count_is}

module _ (bs : List ℕ) (b : Bytes bs) (v : Valid bs) (rows : List ℕ) (n : ℕ) (laid : AcceptedRows bs rows n) (r : Round) (is : RoundOf bs r) where
  among : r.second + byte bs 3 ≤ n
  among =
      let T = (read_of bs).table in
      let x = is.from + r.period in
      let all = rows_join limit T (read_of bs).horizon (schedule_in bs) (law bs rows n laid) x (λ c i. (let k = is.recurs.enters c i in (k.0, k.2))) in
      let last = (all (size T - 1) (omega (arith, (valid_limits bs b v).least_components))).0 in
      omega (arith, last, is.second, valid_count bs b v, (valid_limits bs b v).least_components, count_is bs rows n laid)

  pub round_stands : RowsStand rows (r.second + byte bs 3)
  round_stands = let m = among in record { few = omega (arith, m, laid.placed.few); fits = omega (arith, m, laid.placed.fits) }
