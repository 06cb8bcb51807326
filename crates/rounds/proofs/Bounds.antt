-- The bounds of a run to a horizon beyond the table's own hold of each of its parts: what a part reaches is reached on the way to the horizon. Assumes
-- nothing.
use mathlib.Core.Path.{◌≡◌, sym, ap, ◌∙◌}
use mathlib.Core.Logic.{by_cases}
use mathlib.Core.List.{List, [], append-nil}
use Prim.Native.Nat.{ℕ, zero, suc, ◌+◌, ◌*◌, ◌≤◌, ◌<◌}
use native.Mathlib.Omega.{arith}
use native.Mathlib.Decide.{ℕ_discrete}
use lib.ListN.{length, take}
use Rattle.model.specs.Lists.{accepted}
use Rattle.model.specs.Table.{Read, size}
use Rattle.model.specs.Schedule.{Passage}
use Rattle.model.specs.Chains.{IsSchedule}
use Rattle.model.specs.Run.{Setting, Run, Result, start_run, run_from, run}
use Rattle.model.proofs.Reader.Limits.{read_limits}
use Rattle.model.proofs.Run.Tied.{schedule_at}
use Rattle.recurrence.specs.Recurrence.{accepted_schedule_to, Unending}
use Rattle.recurrence.proofs.Every.{endless}
use Rattle.recurrence.proofs.Horizons.{at_horizon, Farther, same, reached, farther}
use Rattle.recurrence.proofs.Parts.{goes_long}
use Rattle.run.specs.Ends.{most_used}
use Rattle.rounds.proofs.Moved.{Recurring, goes_to}

-- what a run to a nearer horizon reaches is reached to a farther one, by the same choices or the first of them
pub reached_farther : (g : Setting) (X H : ℕ) → X ≤ H → (cs : List ℕ) (s : Run) → s.tick < X
    → (ds : List ℕ) × ((run_from (at_horizon g H) ds s).state ≡ (run_from (at_horizon g X) cs s).state)
unfolding run_from
reached_farther g X H l cs s h =
    by_cases (ℕ_discrete X H) (λ e. (cs, ap (λ (Y : ℕ). (run_from (at_horizon g Y) cs s).state) (sym e))) (λ n. go (farther g X H (omega arith) cs s h))
  where
    go : Farther g X H cs s (run_from (at_horizon g X) cs s) → (ds : List ℕ) × ((run_from (at_horizon g H) ds s).state ≡ (run_from (at_horizon g X) cs s).state)
    go (same n q) = (cs, ap (λ (r : Result). r.state) q)
    go (reached e b n u m q) = (take n cs, ap (λ (ds : List ℕ). (run_from (at_horizon g H) ds s).state) (sym (append-nil (take n cs))) ∙ ap (λ (r : Result). r.state) (q []))

times_most : (k n x : ℕ) → k ≤ n → k * x ≤ n * x
times_most zero n x h = omega arith
times_most (suc k) zero x h = absurd (omega arith)
times_most (suc k) (suc n) x h = omega (arith, times_most k n x (omega arith))

uses_few : (H long size used : ℕ) → H ≤ 4294967295 → size ≤ 8 → long ≤ size * H → used ≤ H + (long * 658 + size * 1299) → used ≤ 22700000000000
uses_few H long size used small most few uses = omega (arith, times_most size 8 H most)

module _ {bytes : List ℕ} {t : Read} {S : List Passage} {a P : ℕ} (B : Recurring bytes t S a P) (H : ℕ) (beyond : t.horizon ≤ H) (small : H ≤ 4294967295) where
  least : 1 ≤ H
  least = omega (arith, B.recurs.below)

  -- what holds to the horizon
  pub unending : Unending t H
  unending = endless bytes t S B.read B.plan a (a + P) B.recurs H least

  pub long_schedule : (L : List Passage) → accepted_schedule_to t.table H ≡ accepted L → IsSchedule (size t.table * H) t.table H L
  unfolding accepted_schedule_to
  long_schedule L e = (schedule_at 0 t.table H (size t.table * H) L e).0

  to-horizon : (cs : List ℕ) → ((run (goes_to B H) cs).state.used ≤ most_used) × (length (run (goes_to B H) cs).state.observations ≤ length unending.passages)
  to-horizon cs =
      let u = unending in
      let s = long_schedule u.passages u.planned in
      let e = goes_long bytes t S B.read B.plan a P B.longer B.recurs B.final H beyond s cs in (
        uses_few H (length u.passages) (size t.table) (run (goes_to B H) cs).state.used small (read_limits bytes t B.read).most_components s.few (omega (arith, u.uses cs, ap (λ (r : Result). r.state.used) e)),
        omega (arith, u.few cs, ap (λ (r : Result). length r.state.observations) e),
      )

  -- The law: of any part, no more choices than the bound, and as few observations as the schedule to the horizon has passages.
  pub to_nearer : (X : ℕ) → 0 < X → X ≤ H → (cs : List ℕ) → ((run (goes_to B X) cs).state.used ≤ most_used) × (length (run (goes_to B X) cs).state.observations ≤ length unending.passages)
  unfolding run
  to_nearer X h l cs =
      let r = reached_farther (goes_to B H) X H l cs (start_run (goes_to B X)) h in
      let k = to-horizon r.0 in
      (omega (arith, k.0, ap (λ (s : Run). s.used) r.1), omega (arith, k.1, ap (λ (s : Run). length s.observations) r.1))
