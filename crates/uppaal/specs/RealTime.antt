-- Request 12: real time. The paths of a text's network in real time are those at whole ticks, each step made at the last whole tick that is not after it.
use Rattle.std.specs.Prelude.{◌≡◌, ◌↔◌, true, false, List, [], ◌∷◌, ◌++◌, map}
use Rattle.model.specs.Table.{Table}
use Rattle.uppaal.specs.Xta.{System}
use Rattle.uppaal.specs.XtaNetwork.{Stand, grown, Move, delay, alone, joint, Path}
use Rattle.uppaal.specs.RealNetwork.{Fractions, Span, nothing, added, RealStand, RealMove, lasts, RealGoes, RealPath}
use Rattle.uppaal.specs.RealNetwork.{alone as real-alone, joint as real-joint}
use Rattle.uppaal.specs.Export.{system_for}
use Rattle.uppaal.specs.Dense.{Act, acts_from, time_from, steps_out, Stuck}

module _ (Q : Fractions) where
  -- a process a fraction of a tick after it stood so at a whole tick: same location, same variables
  abbrev pub partly : Q.F → Stand → RealStand Q
  partly f x = record { at = x.at; clocks = map (λ c. record { ticks = c; part = f }) x.clocks; values = x.values }

  -- ## The steps of a path other than delays, each with its time; the time at its end

  pub record RealAct : Type 0 where
    pub time : Span Q
    pub move : Move

  unfoldable pub real_acts_from : Span Q → List (RealMove Q) → List RealAct
  real_acts_from now [] = []
  real_acts_from now (lasts d ∷ ms) = real_acts_from (added Q now d) ms
  real_acts_from now (real-alone p t ∷ ms) = record { time = now; move = alone p t } ∷ real_acts_from now ms
  real_acts_from now (real-joint p t q u ∷ ms) = record { time = now; move = joint p t q u } ∷ real_acts_from now ms

  unfoldable pub real_time_from : Span Q → List (RealMove Q) → Span Q
  real_time_from now [] = now
  real_time_from now (lasts d ∷ ms) = real_time_from (added Q now d) ms
  real_time_from now (real-alone p t ∷ ms) = real_time_from now ms
  real_time_from now (real-joint p t q u ∷ ms) = real_time_from now ms

  -- a step, and the same step at the last whole tick that is not after it; a step out is at a whole tick as it is
  pub record Floored (a : RealAct) (b : Act) : Type 0 where
    pub ticks : a.time.ticks ≡ b.time
    pub move : a.move ≡ b.move
    pub out : steps_out b.move ≡ true → Q.is_nil a.time.part ≡ true

  pub data AllFloored : List RealAct → List Act → Type 0 where
    no_more : AllFloored [] []
    pair : {a : RealAct} {b : Act} {as' : List RealAct} {bs : List Act} → Floored a b → AllFloored as' bs → AllFloored (a ∷ as') (b ∷ bs)

  -- ## The claim

  pub record AtTicks (N : System) (ms : List (RealMove Q)) (y : List (RealStand Q)) : Type 0 where
    pub steps : List Move
    pub state : List Stand
    pub part : Q.F
    pub path : Path N steps state
    pub same : y ≡ map (partly part) state
    pub time : real_time_from (nothing Q) ms ≡ record { ticks = time_from 0 steps; part = part }
    pub acts : AllFloored (real_acts_from (nothing Q) ms) (acts_from 0 steps)

  abbrev pub as_real : Move → RealMove Q
  as_real delay = lasts (record { ticks = 1; part = Q.nil })
  as_real (alone p t) = real-alone p t
  as_real (joint p t q u) = real-joint p t q u

  -- no step but delays, now or later
  abbrev pub RealStuck : System → List (RealStand Q) → Type 0
  RealStuck N s = (ms : List (RealMove Q)) (y : List (RealStand Q)) → RealGoes Q N s ms y → real_acts_from (nothing Q) ms ≡ []

  pub record RealTime (N : System) : Type 0 where
    pub whole : (ms : List (RealMove Q)) (y : List (RealStand Q)) → RealPath Q N ms y → AtTicks N ms y
    -- and each path at whole ticks is one in real time
    pub really : (ks : List Move) (z : List Stand) → Path N ks z → RealPath Q N (map as_real ks) (map (partly Q.nil) z)
    -- between two ticks the next one can be awaited: time stops only at a whole tick
    pub awaits : (ms : List (RealMove Q)) (z : List Stand) (f : Q.F) → RealPath Q N ms (map (partly f) z) → Q.is_nil f ≡ false
        → RealPath Q N (ms ++ (lasts (record { ticks = 0; part = Q.missing f }) ∷ [])) (map (partly Q.nil) (map grown z))
    -- stuck at a whole tick in real time too, and not otherwise; stuck between two ticks only if so at the next
    pub stuck : (ks : List Move) (z : List Stand) → Path N ks z → Stuck N z ↔ RealStuck N (map (partly Q.nil) z)
    pub stuck_between : (ms : List (RealMove Q)) (z : List Stand) (f : Q.F) → RealPath Q N ms (map (partly f) z) → Q.is_nil f ≡ false
        → RealStuck N (map (partly f) z) → Stuck N (map grown z)

-- of a table's text, whatever fractions there are
abbrev pub InRealTime : Table → Type 1
InRealTime T = (Q : Fractions) → RealTime Q (system_for T)
