-- Demand 3 for nodes that wake apart: what it says holds of every run of a table accepted at a spread, for all offsets within it. Assumes nothing.
use mathlib.Core.Path.{◌≡◌, refl, subst, ◌∙◌}
use mathlib.Core.Bool.{Bool, true, false}
use mathlib.Core.List.{List}
use Prim.Native.Nat.{ℕ, pred, ◌+◌, ◌≤◌, ◌<◌}
use native.Mathlib.Omega.{arith}
use borrow.Author.Tests.{leb-true, leb-false}
use lib.ListN.{get_or}
use Rattle.model.specs.Lists.{accepted}
use Rattle.model.specs.Table.{Read, size}
use Rattle.model.specs.Limits.{InLimits}
use Rattle.model.specs.Schedule.{Passage}
use Rattle.model.specs.Checks.{accepted_schedule_at}
use Rattle.model.specs.Run.{setting_at, offset_of, awake, Run, Result, run_from, run, start_run}
use Rattle.model.specs.Demand3.{reached, states, horizon, used_up, late, not_allowed}
use Rattle.model.specs.Apart.{Permitted, LateThen, EndedApart, RefusedApart, no_node, asleep, not_due, due, BarredApart, absent, unwoken, early, pending, state_then, Demand3Apart, PromiseApart}
use Rattle.model.proofs.Network.Order.{Sorted}
use Rattle.model.proofs.Reader.Limits.{read_limits}
use Rattle.model.proofs.Run.Tied.{Given, given_apart, offset_is}
use Rattle.model.proofs.Run.Start.{tied_start}
use Rattle.model.proofs.Run.Tick.{Live}
use Rattle.model.proofs.Run.Due.{WhyNot, why_not, BarredBy, barred_not}
use Rattle.model.proofs.Run.Due.{absent as no_such, unwoken as not-woken, early as too_early, pending as still-due}
use Rattle.model.proofs.Run.Due.{no_node as no_Node, asleep as still-asleep, not_due as not-due, tick_due as some-due}
use Rattle.model.proofs.Run.Path.{PathOf}
use Rattle.model.proofs.Run.Choices.{Goes, goes, carried_out, goes_used, goes_few, goes_ticks, goes_path, goes_listener, goes_below, goes_late_ends, goes_logged, goes_late_is, goes_node, Ends, at_horizon, at_last, too_late, goes_ends}
use Rattle.model.proofs.Run.Choices.{not_allowed as not-allowed}

module _ {t : Read} {H : ℕ} {S : List Passage} {offs : List ℕ} (G : Given t H S offs) (cs : List ℕ) where
  -- the start of the run
  abbrev s₀ : Run
  s₀ = start_run (setting_at t H S offs)

  -- its result
  abbrev R : Result
  R = run (setting_at t H S offs) cs

  -- the start lies before the horizon
  start_live : Live G s₀
  start_live = record { tied = tied_start G; below = omega (arith, G.least) }

  -- the whole run, with the number of the choices carried out
  whole : Goes G R.state.used s₀ cs R (states (setting_at t H S offs) cs s₀)
  unfolding run
  whole =
      let w = goes G cs start_live in
      let e : w.0 ≡ (run (setting_at t H S offs) cs).state.used = omega (arith, goes_used G w.1) in
      subst (λ (n : ℕ). Goes G n s₀ cs (run_from (setting_at t H S offs) cs s₀) (states (setting_at t H S offs) cs s₀)) e w.1

  -- its works stand in the order of their common ticks
  pub works_sorted : Sorted (run (setting_at t H S offs) cs).state.works
  works_sorted = goes_logged G whole

  -- how it ended
  how_ended : EndedApart t H S offs cs
  how_ended = go (goes_ends G whole)
    where
      go : Ends G R.state.used cs R → EndedApart t H S offs cs
      go (at_horizon x y z) = horizon x y z
      go (at_last x y z) = used_up x y z
      go (too_late x) = late x
      go (not-allowed x y z w) = not_allowed x y z

  -- why a choice was not allowed
  why_refused : R.end ≡ 3 → RefusedApart t H S offs cs (get_or cs R.state.used 0)
  why_refused e = go (goes_ends G whole)
    where
      said : (b : ℕ) (k : Live G R.state) → WhyNot G k b → RefusedApart t H S offs cs b
      said b k (no_Node x y) = no_node x y
      said b k (still-asleep x y) = asleep x (omega (arith, y, offset_is t H S offs b x))
      said b k (not-due x y) = not_due x y
      said b k (some-due x c y w z) = due x c y (omega (arith, w, offset_is t H S offs c y)) z

      go : Ends G R.state.used cs R → RefusedApart t H S offs cs (get_or cs R.state.used 0)
      go (at_horizon x y z) = absurd (omega arith)
      go (at_last x y z) = absurd (omega arith)
      go (too_late x) = absurd (omega arith)
      go (not-allowed x y z w) = said (get_or cs R.state.used 0) w (why_not G w (get_or cs R.state.used 0) z)

  -- no choice carried out was barred
  never_barred : (k : ℕ) → k < R.state.used → BarredApart t H S offs cs (state_then t H S offs cs k) (get_or cs k 0) → ⊥
  unfolding run
  never_barred k h b =
      let c = carried_out G cs start_live s₀ k (omega arith) in
      c.1 (barred_not G c.0 (get_or cs k 0) (bars c.0 (get_or cs k 0) b))
    where
      bars : {s : Run} (l : Live G s) (b : ℕ) → BarredApart t H S offs cs s b → BarredBy G l b
      bars l b (absent x y) = no_such x y
      bars l b (unwoken x y) = not-woken x (omega (arith, y, offset_is t H S offs b x))
      bars {s} l b (early x y) = go (awake (setting_at t H S offs) b s.tick) refl
        where
          go : (w : Bool) → awake (setting_at t H S offs) b s.tick ≡ w → BarredBy G l b
          go true e = too_early x (leb-true (offset_of (setting_at t H S offs) b) s.tick e) y
          go false e = not-woken x (leb-false (offset_of (setting_at t H S offs) b) s.tick e)
      bars l b (pending x c y w z) = still-due x c y (omega (arith, w, offset_is t H S offs c y)) z

  -- a late end
  last_late : R.end ≡ 2 → (0 < R.state.used) × (R.node < size t.table) × LateThen t H S offs cs (pred R.state.used) R.node
  last_late e =
      let l = goes_late_is G whole s₀ e in
      let b : l.before ≡ pred R.state.used = omega (arith, l.number) in (
        omega (arith, l.number),
        l.there,
        subst (λ (n : ℕ). LateThen t H S offs cs n R.node) b (l.choice, l.late),
      )

  -- all of it
  pub demand_apart : Demand3Apart t H S offs cs
  demand_apart =
      let p : PathOf t H S offs (reached R) R = goes_path G whole in
      record {
        path = p.path;
        last = p.last;
        valid = p.valid;
        reach = p.reach;
        scheduled = p.scheduled;
        kept = p.kept;
        filled = p.filled;
        fills = p.fills;
        worked = p.worked;
        observed = p.observed;
        complete = p.complete;
        listener = λ k i c h. goes_listener G whole s₀ k i c h;
        late_ends = λ k i c h l. goes_late_ends G whole s₀ k i c h l.1;
        late_is = last_late;
        node = goes_node G whole;
        used = goes_few G whole;
        ticks = goes_ticks G whole ∙ (let z : (n : ℕ) → 0 + n ≡ n = (λ n. omega arith) in z _);
        ended = how_ended;
        not_before = λ k i. goes_below G whole s₀ k i;
        refused = why_refused;
        allowed = never_barred;
      }

-- for every table in the limits that is accepted at a spread, all offsets within it, and every list of choices
pub promise_apart : (spread : ℕ) (t : Read) (S : List Passage) → InLimits t → accepted_schedule_at spread t ≡ accepted S → (offs : List ℕ) → Permitted spread (size t.table) offs
    → (cs : List ℕ) → Demand3Apart t t.horizon S offs cs
promise_apart spread t S h e offs p cs = demand_apart (given_apart spread t S offs h e p) cs

-- demand 3 for nodes that wake apart, for every list of numbers that is read as a table
pub promised_apart : PromiseApart
promised_apart spread bytes t S r e offs p cs = promise_apart spread t S (read_limits bytes t r) e offs p cs
