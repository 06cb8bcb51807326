-- Document 02, wish 10: simulated runs of one table, with drawn work times.
use Rattle.std.specs.Prelude.{◌≡◌, ◌⊎◌, Bool, true, false, ◌&&◌, not, leb, ltb, eqb, length, get_or, set, replicate}
use Rattle.std.proofs.Math.Bool.{cond}
use mathlib.Core.List.{List, [], ◌∷◌, map}
use Prim.Native.Nat.{ℕ, zero, suc, ◌+◌, ◌-◌, ◌%◌}
use Rattle.model.specs.declared.Verdict.{Verdict}
use Rattle.model.specs.declared.Verdict.TheVariants.{Accepted, Refused}
use Rattle.model.specs.Lists.{only, below, Answer, accepted, refused, All}
use Rattle.model.specs.Table.{Read}
use Rattle.model.specs.Reader.{read_table}
use Rattle.model.specs.Schedule.{Passage}
use Rattle.model.specs.Checks.{accepted_schedule_of}
use Rattle.model.specs.Run.{Setting, setting_of, Run, start_run, node_of, stand_of, Stand, sleeping, sending, listening, finishing, adding, working, taking, elsewhere, nowhere, Outcome, forbidden, on, over, choose1, Result, run}
use Rattle.model.specs.Demand3.{Demand3}
use Rattle.generator.specs.Xorshift.{next_of}

-- ## Work

pub record Span : Type 0 where
  pub lo : ℕ
  pub hi : ℕ

-- "lo + (draw modulo (hi − lo + 1)) ticks of work"
abbrev pub work_ticks : Span → ℕ → ℕ
work_ticks w x = w.lo + x % (suc w.hi - w.lo)

-- "drawn work with its last statement": done or send is not finished before the work's ticks are over
abbrev pub waits : ℕ → ℕ → Stand → Bool
waits now until sleeping = false
waits now until (sending k) = ltb now until
waits now until (listening qs) = false
waits now until finishing = ltb now until
waits now until (adding v z) = false
waits now until working = false
waits now until taking = false
waits now until elsewhere = false
waits now until nowhere = false

abbrev pub is_sleep : Stand → Bool
is_sleep sleeping = true
is_sleep (sending k) = false
is_sleep (listening qs) = false
is_sleep finishing = false
is_sleep (adding v z) = false
is_sleep working = false
is_sleep taking = false
is_sleep elsewhere = false
is_sleep nowhere = false

abbrev pub is_listen : Stand → Bool
is_listen sleeping = false
is_listen (sending k) = false
is_listen (listening qs) = true
is_listen finishing = false
is_listen (adding v z) = false
is_listen working = false
is_listen taking = false
is_listen elsewhere = false
is_listen nowhere = false

-- ## One run

-- Under way: the run's state; the tick at which each node's drawn work is over; the generator; whose turn it is in this tick; whether one
-- has moved since the turns began anew.
pub record Trying : Type 0 where
  pub state : Run
  pub until : List ℕ
  pub draw : ℕ
  pub turn : ℕ
  pub moved : Bool

abbrev pub until_of : Trying → ℕ → ℕ
until_of y c = get_or y.until c 0

-- the choices from here on, and the generator afterwards
pub record Trial : Type 0 where
  pub choices : List ℕ
  pub draw : ℕ

abbrev pub chosen : ℕ → Trial → Trial
chosen b r = record { choices = b ∷ r.choices; draw = r.draw }

abbrev pub next_turn : Trying → Trying
next_turn y = record { state = y.state; until = y.until; draw = y.draw; turn = suc y.turn; moved = y.moved }

-- the turns begin anew, in that state
abbrev pub anew : Trying → Run → Trying
anew y u = record { state = u; until = y.until; draw = y.draw; turn = 0; moved = false }

module _ (g : Setting) (w : Span) where
  -- "Each finished sleep before a send or an internal edge draws"
  abbrev pub draws_at : Trying → Run → Bool
  draws_at y u = is_sleep (stand_of (node_of y.state y.turn)) && not (is_listen (stand_of (node_of u y.turn)))

  -- the component has finished a statement
  abbrev pub went : Trying → Run → Trying
  went y u =
      let x = next_of y.draw in
      record {
        state = u;
        until = cond (draws_at y u) (set y.until y.turn (u.tick + work_ticks w x)) y.until;
        draw = cond (draws_at y u) x y.draw;
        turn = y.turn;
        moved = true;
      }

  -- "components in number order each finish all that is due and allowed"
  abbrev pub tried : Trying → Outcome → (Trying → Trial) → Trial
  tried y forbidden f = f (next_turn y)
  tried y (on u) f = chosen y.turn (f (went y u))
  tried y (over u e n) f = f (next_turn y)

  abbrev pub attempt : Trying → (Trying → Trial) → Trial
  attempt y f =
      let waiting = f (next_turn y) in
      let trying = tried y (choose1 g y.state y.turn) f in
      cond (waits y.state.tick (until_of y y.turn) (stand_of (node_of y.state y.turn))) waiting trying

  -- node c does not move in this state
  abbrev pub Stuck : Trying → ℕ → Type 0
  Stuck y c = (waits y.state.tick (until_of y c) (stand_of (node_of y.state c)) ≡ true) ⊎ (choose1 g y.state c ≡ forbidden)

  -- "then the tick passes"; the run ends late or at the horizon (a tick that is not allowed never comes up: law `tick-fine`)
  abbrev pub passed : Trying → Outcome → (Trying → Trial) → Trial
  passed y forbidden f = record { choices = []; draw = y.draw }
  passed y (on u) f = chosen 255 (f (anew y u))
  passed y (over u e n) f = record { choices = 255 ∷ []; draw = y.draw }

  -- "this is repeated until no component moves, then the tick passes"
  abbrev pub after : Trying → (Trying → Trial) → Trial
  after y f =
      let again = f (anew y y.state) in
      let tick = passed y (choose1 g y.state 255) f in
      cond y.moved again tick

  -- so many turns at most
  unfoldable pub try_from : ℕ → Trying → Trial
  unfolding choose1 next_of
  try_from zero y = record { choices = []; draw = y.draw }
  try_from (suc most) y =
      let node = attempt y (λ z. try_from most z) in
      let rest = after y (λ z. try_from most z) in
      cond (ltb y.turn (length y.state.nodes)) node rest

  -- More turns than any run takes: law `enough`. There is no other limit.
  abbrev pub turns : ℕ
  turns = 1000000000000

  abbrev pub start_trying : ℕ → Trying
  start_trying x = record { state = start_run g; until = replicate (length g.counts) 0; draw = x; turn = 0; moved = false }

  unfoldable pub simulated : ℕ → Trial
  unfolding try_from
  simulated x = try_from turns (start_trying x)

  -- ## The runs: "goes on from run to run"
  unfoldable pub trials : ℕ → ℕ → List (List ℕ)
  unfolding simulated
  trials zero x = []
  trials (suc n) x = (simulated x).choices ∷ trials n (simulated x).draw

  unfoldable pub draw_after : ℕ → ℕ → ℕ
  unfolding simulated
  draw_after zero x = x
  draw_after (suc n) x = draw_after n (simulated x).draw

  -- "the runs that ended late, in all and per node"
  abbrev pub ends_late : List ℕ → Bool
  ends_late cs = eqb (run g cs).end 2

  abbrev pub ends_late_at : ℕ → List ℕ → Bool
  ends_late_at c cs = eqb (run g cs).end 2 && eqb (run g cs).node c

-- ## The call

-- the verdict; the late runs in all, and of each of eight nodes; the generator afterwards (0 after a refusal)
pub record SimulateCall : Type 0 where
  pub verdict : Verdict
  pub late : ℕ
  pub nodes : List ℕ
  pub draw : ℕ

abbrev pub not_simulated : ℕ → ℕ → SimulateCall
not_simulated n c = record { verdict = Refused n c; late = 0; nodes = replicate 8 0; draw = 0 }

abbrev pub simulated_all : Setting → Span → ℕ → ℕ → SimulateCall
simulated_all g w runs seed =
    let lists = trials g w runs seed in
    record {
      verdict = Accepted;
      late = length (only (ends_late g w) lists);
      nodes = map (λ c. length (only (ends_late_at g w c) lists)) (below 8);
      draw = draw_after g w runs seed;
    }

-- "lo above hi, hi above 60,000 or runs outside 1 to 10,000"
abbrev pub tryable : Span → ℕ → Bool
tryable w runs = leb w.lo w.hi && leb w.hi 60000 && leb 1 runs && leb runs 10000

-- "After the table's checks, seed 0 is refused with 22, and .. with 23."
abbrev pub simulate_planned : Read → Answer (List Passage) → Span → ℕ → ℕ → SimulateCall
simulate_planned t (accepted S) w runs seed =
    let done = simulated_all (setting_of t S) w runs seed in
    cond (eqb seed 0) (not_simulated 22 255) (cond (tryable w runs) done (not_simulated 23 255))
simulate_planned t (refused n c) w runs seed = not_simulated n c

abbrev pub simulate_read : Answer Read → Span → ℕ → ℕ → SimulateCall
simulate_read (accepted t) w runs seed = simulate_planned t (accepted_schedule_of t) w runs seed
simulate_read (refused n c) w runs seed = not_simulated n c

unfoldable pub simulate_call : List ℕ → ℕ → ℕ → ℕ → ℕ → SimulateCall
unfolding read_table trials draw_after run
simulate_call table lo hi runs seed = simulate_read (read_table table) (record { lo = lo; hi = hi }) runs seed

-- ## What holds of it

-- the numbers added up
abbrev pub sum_of : List ℕ → ℕ
sum_of [] = 0
sum_of (n ∷ ns) = n + sum_of ns

-- "in all and per node": a late run counts for one node
abbrev pub AddsUp : SimulateCall → Type 0
AddsUp r = sum_of r.nodes ≡ r.late

abbrev pub LateAdds : List ℕ → ℕ → ℕ → ℕ → ℕ → Type 0
LateAdds table lo hi runs seed = AddsUp (simulate_call table lo hi runs seed)

-- it ends at the horizon or late
abbrev pub EndsWell : Result → Type 0
EndsWell r = (r.end ≡ 0) ⊎ (r.end ≡ 2)

-- "Each is proved to be a run of some choice list, so its observations are held to the path as well"
abbrev pub SimulatedOf : List ℕ → ℕ → ℕ → ℕ → ℕ → Type 0
SimulatedOf table lo hi runs seed =
    (t : Read) (S : List Passage) → read_table table ≡ accepted t → accepted_schedule_of t ≡ accepted S
    → All (λ cs. Demand3 t t.horizon S cs × EndsWell (run (setting_of t S) cs)) (trials (setting_of t S) (record { lo = lo; hi = hi }) runs seed)
