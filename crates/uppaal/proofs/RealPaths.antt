-- The paths in real time and those at whole ticks. Assumes nothing.
use mathlib.Core.Path.{◌≡◌, refl, sym, ap, subst, ◌∙◌}
use mathlib.Core.Logic.{◌⊎◌, inl, inr}
use mathlib.Core.Bool.{Bool, true, false, cond}
use mathlib.Core.List.{List, [], ◌∷◌, ◌++◌, map}
use mathlib.Core.Option.{Option, none, some}
use Prim.Native.Nat.{ℕ, zero, suc, ◌+◌}
use native.Mathlib.Omega.{arith}
use lib.IntN.{◌+ℤ◌}
use lib.ListN.{length, set, replicate, get_or-map}
use Rattle.model.specs.Lists.{all, ◌∈◌}
use Rattle.model.specs.Window.{value_at, in_range}
use Rattle.model.proofs.Basics.Bools.{clash, and_is}
use Rattle.model.proofs.Basics.Members.{all_is}
use Rattle.model.proofs.Schedule.Retrace.{map_set}
use Rattle.uppaal.specs.Xta.{exactly, Assignment, sets_to, adds, resets, Transition, Process, System, process_of}
use Rattle.uppaal.specs.XtaNetwork.{Stand, no_stand, stand_of, initial_stand, initial_state, assigned, onto, all_assigned, Fires, grown, Move, delay, alone, joint, delays, goes, meet, Goes, stays, moves, Path}
use Rattle.uppaal.specs.RealNetwork.{Fractions, Span, nothing, added, RealStand, real_stand_of, real_start, real_initial, all_real_stand, real_atom, real_guard, real_assigned, real_onto, all_real_assigned, RealFires, later, RealMove, lasts, RealGoes, RealPath}
use Rattle.uppaal.specs.RealNetwork.{delays as real-delays, goes as real-goes, meet as real-meet, stays as Real-stays, moves as real-moves}
use Rattle.uppaal.specs.Dense.{Act, acts_from, time_from, from_waiting, Stuck, resets_none, Punctual, step_in, at_bound, AllPunctual}
use Rattle.uppaal.specs.RealTime.{partly, RealAct, real_acts_from, real_time_from, AllFloored, no_more, pair, AtTicks, as_real, RealStuck, RealTime}
use Rattle.uppaal.proofs.Between.{Sized, sized_at, sized_set, sized_start, sized_path, all_sized, acts_ticks}
use Rattle.uppaal.proofs.RealSteps.{at_part, aged, aged_none, aged_grown, aged_sized, ticks_on, time_ticks, guard_floor, guard_really, exact_nil, all_at_tick, all_at_next, all_really}

module _ (Q : Fractions) where
  -- ## Assignments: at a whole tick, or without resets, they do the same

  abbrev carried : (Stand → RealStand Q) → Option Stand → Option (RealStand Q)
  carried f none = none
  carried f (some x) = some (f x)

  module _ (f : Q.F) where
    one_carried : (a : Assignment) → (f ≡ Q.nil) ⊎ (resets_none a ≡ true) → (x : Stand) → real_assigned Q a (partly Q f x) ≡ carried (partly Q f) (assigned a x)
    one_carried (sets_to v z) h x = go (in_range z)
      where
        go : (b : Bool) → cond b (some (record { at = x.at; clocks = (partly Q f x).clocks; values = set x.values v z })) none
            ≡ carried (partly Q f) (cond b (some (record { at = x.at; clocks = x.clocks; values = set x.values v z })) none)
        go true = refl
        go false = refl
    one_carried (adds v z) h x = go (in_range (value_at x.values v +ℤ z))
      where
        go : (b : Bool) → cond b (some (record { at = x.at; clocks = (partly Q f x).clocks; values = set x.values v (value_at x.values v +ℤ z) })) none
            ≡ carried (partly Q f) (cond b (some (record { at = x.at; clocks = x.clocks; values = set x.values v (value_at x.values v +ℤ z) })) none)
        go true = refl
        go false = refl
    one_carried (resets i) (inl e) x =
        ap (λ (l : List (Span Q)). some (record { at = x.at; clocks = l; values = x.values }))
        (ap (λ (g : Q.F). set (at_part Q f x.clocks) i (record { ticks = 0; part = g })) (sym e) ∙ sym (map_set (λ c. record { ticks = c; part = f }) x.clocks i 0))
    one_carried (resets i) (inr e) x = clash e

    all_carried : (bs : List Assignment) → (f ≡ Q.nil) ⊎ (all resets_none bs ≡ true) → (x : Stand) → all_real_assigned Q bs (partly Q f x) ≡ carried (partly Q f) (all_assigned bs x)
    unfolding all_assigned all_real_assigned
    all_carried [] h x = refl
    all_carried (b ∷ bs) h x = ap (λ (o : Option (RealStand Q)). real_onto Q o (all_real_assigned Q bs)) (one_carried b (first_of h) x) ∙ go (assigned b x) (λ y. all_carried bs (rest_of h) y)
      where
        first_of : (f ≡ Q.nil) ⊎ (all resets_none (b ∷ bs) ≡ true) → (f ≡ Q.nil) ⊎ (resets_none b ≡ true)
        first_of (inl e) = inl e
        first_of (inr e) = inr ((and_is (resets_none b) (all resets_none bs)).0 e).0

        rest_of : (f ≡ Q.nil) ⊎ (all resets_none (b ∷ bs) ≡ true) → (f ≡ Q.nil) ⊎ (all resets_none bs ≡ true)
        rest_of (inl e) = inl e
        rest_of (inr e) = inr ((and_is (resets_none b) (all resets_none bs)).0 e).1

        go : (o : Option Stand) → ((y : Stand) → all_real_assigned Q bs (partly Q f y) ≡ carried (partly Q f) (all_assigned bs y))
            → real_onto Q (carried (partly Q f) o) (all_real_assigned Q bs) ≡ carried (partly Q f) (onto o (all_assigned bs))
        go none k = refl
        go (some y) k = k y

  -- ## States

  standing : (f : Q.F) (z : List Stand) (p : ℕ) → real_stand_of Q (map (partly Q f) z) p ≡ partly Q f (stand_of z p)
  standing f z p = get_or-map (partly Q f) z p no_stand

  start_partly : (N : System) → real_initial Q N ≡ map (partly Q Q.nil) (initial_state N)
  start_partly N = same N.processes
    where
      zeros : (k : ℕ) → replicate k (nothing Q) ≡ at_part Q Q.nil (replicate k 0)
      zeros zero = refl
      zeros (suc k) = ap (λ (l : List (Span Q)). nothing Q ∷ l) (zeros k)

      same : (l : List Process) → map (real_start Q) l ≡ map (partly Q Q.nil) (map initial_stand l)
      same [] = refl
      same (P ∷ l) =
          ap (λ (s : List (RealStand Q)). real_start Q P ∷ s) (same l)
          ∙ ap (λ (xs : List (Span Q)). record { at = P.initial; clocks = xs; values = (initial_stand P).values } ∷ map (partly Q Q.nil) (map initial_stand l)) (zeros P.clocks)

  -- a delay: the fractions stay alike, and each clock counts as many ticks more
  later_partly : (f : Q.F) (d : Span Q) (z : List Stand) → map (later Q d) (map (partly Q f) z) ≡ map (partly Q (Q.plus f d.part)) (map (aged (d.ticks + Q.carry f d.part)) z)
  later_partly f d [] = refl
  later_partly f d (x ∷ z) =
      ap (λ (xs : List (Span Q)). record { at = x.at; clocks = xs; values = x.values } ∷ map (later Q d) (map (partly Q f) z)) (clocks x.clocks)
      ∙ ap (λ (l : List (RealStand Q)). partly Q (Q.plus f d.part) (aged (d.ticks + Q.carry f d.part) x) ∷ l) (later_partly f d z)
    where
      clocks : (xs : List ℕ) → map (λ c. added Q c d) (at_part Q f xs) ≡ at_part Q (Q.plus f d.part) (map (λ c. c + (d.ticks + Q.carry f d.part)) xs)
      clocks [] = refl
      clocks (c ∷ xs) =
          let q : c + d.ticks + Q.carry f d.part ≡ c + (d.ticks + Q.carry f d.part) = omega arith in
          ap (λ (k : ℕ). record { ticks = k; part = Q.plus f d.part } ∷ map (λ c. added Q c d) (at_part Q f xs)) q
          ∙ ap (λ (l : List (Span Q)). record { ticks = c + (d.ticks + Q.carry f d.part); part = Q.plus f d.part } ∷ l) (clocks xs)

  -- ## A transition in real time is one at the whole tick before

  record FiresBack (f : Q.F) (P : Process) (x : Stand) (t : Transition) (y : RealStand Q) : Type 0 where
    to : Stand
    fires : Fires x t to
    same : y ≡ partly Q f to
    sized : length to.clocks ≡ P.clocks
    out : from_waiting t.source ≡ true → Q.is_nil f ≡ true

  module _ (f : Q.F) (P : Process) (x : Stand) (t : Transition) (y : RealStand Q) (sized : length x.clocks ≡ P.clocks) where
    whole_if : Punctual P t → real_guard Q (partly Q f x) t.guard ≡ true
        → ((f ≡ Q.nil) ⊎ (all resets_none t.assignments ≡ true)) × (from_waiting t.source ≡ true → Q.is_nil f ≡ true)
    whole_if (step_in a e) g = (inr a, λ k. clash (sym e ∙ k))
    whole_if (at_bound u m c) g =
        let h = (all_is (real_atom Q (partly Q f x).clocks x.values) t.guard).0 g (exactly u) m in
        let q = exact_nil Q f x.clocks x.values u (omega (arith, c, sized)) h in
        (inl q, λ k. ap Q.is_nil q ∙ Q.nil_is)

    fires_back : Punctual P t → RealFires Q (partly Q f x) t y → FiresBack f P x t y
    fires_back k r =
        let w = whole_if k r.guard in
        go (all_assigned t.assignments from) refl (sym (all_carried f t.assignments w.0 from) ∙ r.after) w.1
      where
        from : Stand
        from = record { at = t.target; clocks = x.clocks; values = x.values }

        go : (o : Option Stand) → all_assigned t.assignments from ≡ o → carried (partly Q f) o ≡ some y → (from_waiting t.source ≡ true → Q.is_nil f ≡ true) → FiresBack f P x t y
        go none e h w = let z : ◌≡◌ {A = ℕ} 0 1 = cc in absurd (omega arith)
        go (some v) e h w =
            let q : y ≡ partly Q f v = cc in
            record {
              to = v;
              fires = record { source = r.source; guard = guard_floor Q f x.clocks x.values t.guard r.guard; after = e };
              same = q;
              sized = all_sized t.assignments from v e ∙ sized;
              out = w;
            }

  fires_really : (x : Stand) (t : Transition) (y : Stand) → Fires x t y → RealFires Q (partly Q Q.nil x) t (partly Q Q.nil y)
  fires_really x t y r =
      record {
        source = r.source;
        guard = guard_really Q x.clocks x.values t.guard r.guard;
        after = all_carried Q.nil t.assignments (inl refl) (record { at = t.target; clocks = x.clocks; values = x.values }) ∙ ap (carried (partly Q Q.nil)) r.after;
      }

  -- ## From real time to whole ticks

  module _ (N : System) (punctual : AllPunctual N) where
    record Came (z : List Stand) (now : Span Q) (ms : List (RealMove Q)) (y : List (RealStand Q)) : Type 0 where
      steps : List Move
      state : List Stand
      part : Q.F
      path : Goes N z steps state
      same : y ≡ map (partly Q part) state
      time : real_time_from Q now ms ≡ record { ticks = time_from now.ticks steps; part = part }
      acts : AllFloored Q (real_acts_from Q now ms) (acts_from now.ticks steps)

    fired : (z : List Stand) (f : Q.F) → Sized N z → (s : List (RealStand Q)) → s ≡ map (partly Q f) z → (p : ℕ) (t : Transition) (y : RealStand Q) → t ∈ (process_of N p).transitions → RealFires Q (real_stand_of Q s p) t y
        → FiresBack f (process_of N p) (stand_of z p) t y
    fired z f sized s e p t y i r =
        fires_back f (process_of N p) (stand_of z p) t y (sized_at N z sized p) (punctual p t i)
        (subst (λ (x : RealStand Q). RealFires Q x t y) (ap (λ (v : List (RealStand Q)). real_stand_of Q v p) e ∙ standing f z p) r)

    came : (z : List Stand) (now : Span Q) → Sized N z → {s y : List (RealStand Q)} {ms : List (RealMove Q)} → RealGoes Q N s ms y → s ≡ map (partly Q now.part) z → Came z now ms y
    unfolding real_acts_from real_time_from acts_from time_from
    came z now sized Real-stays e = record { steps = []; state = z; part = now.part; path = stays; same = e; time = refl; acts = no_more }
    came z now sized {y = x} (real-moves {s = s} {ms = ms} (real-delays {d = d} h) g) e =
        let k = d.ticks + Q.carry now.part d.part in
        let q : map (later Q d) s ≡ map (partly Q (Q.plus now.part d.part)) (map (aged k) z) = ap (map (later Q d)) e ∙ later_partly now.part d z in
        let w = came (map (aged k) z) (added Q now d) (aged_sized N k z sized) g q in
        let r : now.ticks + k ≡ (added Q now d).ticks = omega arith in
        record {
          steps = replicate k delay ++ w.steps;
          state = w.state;
          part = w.part;
          path = ticks_on N k z (all_at_tick Q (Q.plus now.part d.part) N.processes (map (aged k) z) (subst (λ (v : List (RealStand Q)). all_real_stand Q N.processes v ≡ true) q h)) w.path;
          same = w.same;
          time = w.time ∙ ap (λ (i : ℕ). record { ticks = i; part = w.part }) (sym (time_ticks k now.ticks w.steps ∙ ap (λ (i : ℕ). time_from i w.steps) r));
          acts = subst (λ (l : List Act). AllFloored Q (real_acts_from Q (added Q now d) ms) l) (sym (acts_ticks k now.ticks w.steps ∙ ap (λ (i : ℕ). acts_from i w.steps) r)) w.acts;
        }
    came z now sized {y = x} (real-moves {s = s} {ms = ms} (real-goes {p = p} {t = t} {y = y} i m c r a) g) e =
        let f = now.part in
        let b = fired z f sized s e p t y m r in
        let q : set s p y ≡ map (partly Q f) (set z p b.to) = ap (λ (v : List (RealStand Q)). set v p y) e ∙ ap (λ (v : RealStand Q). set (map (partly Q f) z) p v) b.same ∙ sym (map_set (partly Q f) z p b.to) in
        let w = came (set z p b.to) now (sized_set N z p b.to sized b.sized) g q in
        record {
          steps = alone p t ∷ w.steps;
          state = w.state;
          part = w.part;
          path = moves {ms = w.steps} (goes i m c b.fires (all_at_tick Q f N.processes (set z p b.to) (subst (λ (v : List (RealStand Q)). all_real_stand Q N.processes v ≡ true) q a))) w.path;
          same = w.same;
          time = w.time;
          acts = pair (record { ticks = refl; move = refl; out = b.out }) w.acts;
        }
    came z now sized {y = x} (real-moves {s = s} {ms = ms} (real-meet {p = p} {q = o} {t = t} {u = u} {y = y} {z = v} i j d m m' c c' r r' a) g) e =
        let f = now.part in
        let b = fired z f sized s e p t y m r in
        let b' = fired z f sized s e o u v m' r' in
        let q : set s p y ≡ map (partly Q f) (set z p b.to) = ap (λ (h : List (RealStand Q)). set h p y) e ∙ ap (λ (h : RealStand Q). set (map (partly Q f) z) p h) b.same ∙ sym (map_set (partly Q f) z p b.to) in
        let q' : set (set s p y) o v ≡ map (partly Q f) (set (set z p b.to) o b'.to) = ap (λ (h : List (RealStand Q)). set h o v) q ∙ ap (λ (h : RealStand Q). set (map (partly Q f) (set z p b.to)) o h) b'.same ∙ sym (map_set (partly Q f) (set z p b.to) o b'.to) in
        let w = came (set (set z p b.to) o b'.to) now (sized_set N (set z p b.to) o b'.to (sized_set N z p b.to sized b.sized) b'.sized) g q' in
        record {
          steps = joint p t o u ∷ w.steps;
          state = w.state;
          part = w.part;
          path = moves {ms = w.steps} (meet i j d m m' c c' b.fires b'.fires (all_at_tick Q f N.processes (set (set z p b.to) o b'.to) (subst (λ (h : List (RealStand Q)). all_real_stand Q N.processes h ≡ true) q' a))) w.path;
          same = w.same;
          time = w.time;
          acts = pair (record { ticks = refl; move = refl; out = λ h. clash h }) w.acts;
        }

    brought : (ms : List (RealMove Q)) (y : List (RealStand Q)) → RealPath Q N ms y → AtTicks Q N ms y
    brought ms y p =
        let w = came (initial_state N) (nothing Q) (sized_start N) p.goes (start_partly N) in
        record {
          steps = w.steps;
          state = w.state;
          part = w.part;
          path = record { begins = all_at_tick Q Q.nil N.processes (initial_state N) (subst (λ (s : List (RealStand Q)). all_real_stand Q N.processes s ≡ true) (start_partly N) p.begins); goes = w.path };
          same = w.same;
          time = w.time;
          acts = w.acts;
        }

    -- ## From whole ticks to real time

    -- a delay to the next tick
    tick_partly : (f : Q.F) (d : Span Q) → Q.plus f d.part ≡ Q.nil → d.ticks + Q.carry f d.part ≡ 1 → (z : List Stand) → map (later Q d) (map (partly Q f) z) ≡ map (partly Q Q.nil) (map grown z)
    tick_partly f d e c z =
        later_partly f d z
        ∙ ap (λ (g : Q.F). map (partly Q g) (map (aged (d.ticks + Q.carry f d.part)) z)) e
        ∙ ap (λ (k : ℕ). map (partly Q Q.nil) (map (aged k) z)) c
        ∙ ap (map (partly Q Q.nil)) (sym (aged_grown 0 z) ∙ aged_none (map grown z))

    fires_at : (s : List Stand) (p : ℕ) (t : Transition) (y : Stand) → Fires (stand_of s p) t y → RealFires Q (real_stand_of Q (map (partly Q Q.nil) s) p) t (partly Q Q.nil y)
    fires_at s p t y r = subst (λ (x : RealStand Q). RealFires Q x t (partly Q Q.nil y)) (sym (standing Q.nil s p)) (fires_really (stand_of s p) t y r)

    really : {s y : List Stand} {ks : List Move} → Goes N s ks y → RealGoes Q N (map (partly Q Q.nil) s) (map (as_real Q) ks) (map (partly Q Q.nil) y)
    really stays = Real-stays
    really {y = x} (moves {s = s} {ms = ks} (delays h) g) =
        let q = tick_partly Q.nil (record { ticks = 1; part = Q.nil }) Q.plus_nil (omega (arith, Q.carry_nil)) s in
        real-moves (real-delays (subst (λ (v : List (RealStand Q)). all_real_stand Q N.processes v ≡ true) (sym q) (all_really Q N.processes (map grown s) h)))
        (subst (λ (v : List (RealStand Q)). RealGoes Q N v (map (as_real Q) ks) (map (partly Q Q.nil) x)) (sym q) (really g))
    really {y = x} (moves {s = s} {ms = ks} (goes {p = p} {t = t} {y = y} i m c r a) g) =
        let q = map_set (partly Q Q.nil) s p y in
        real-moves (real-goes i m c (fires_at s p t y r) (subst (λ (v : List (RealStand Q)). all_real_stand Q N.processes v ≡ true) q (all_really Q N.processes (set s p y) a)))
        (subst (λ (v : List (RealStand Q)). RealGoes Q N v (map (as_real Q) ks) (map (partly Q Q.nil) x)) q (really g))
    really {y = x} (moves {s = s} {ms = ks} (meet {p = p} {q = o} {t = t} {u = u} {y = y} {z = v} i j d m m' c c' r r' a) g) =
        let q : map (partly Q Q.nil) (set (set s p y) o v) ≡ set (set (map (partly Q Q.nil) s) p (partly Q Q.nil y)) o (partly Q Q.nil v)
        = map_set (partly Q Q.nil) (set s p y) o v ∙ ap (λ (h : List (RealStand Q)). set h o (partly Q Q.nil v)) (map_set (partly Q Q.nil) s p y) in
        real-moves (real-meet i j d m m' c c' (fires_at s p t y r) (fires_at s o u v r') (subst (λ (h : List (RealStand Q)). all_real_stand Q N.processes h ≡ true) q (all_really Q N.processes (set (set s p y) o v) a)))
        (subst (λ (h : List (RealStand Q)). RealGoes Q N h (map (as_real Q) ks) (map (partly Q Q.nil) x)) q (really g))

    -- ## Between two ticks the next can be awaited

    ends_standing : {s y : List (RealStand Q)} {ms : List (RealMove Q)} → RealGoes Q N s ms y → all_real_stand Q N.processes s ≡ true → all_real_stand Q N.processes y ≡ true
    ends_standing Real-stays h = h
    ends_standing (real-moves (real-delays k) g) h = ends_standing g k
    ends_standing (real-moves (real-goes i m c r a) g) h = ends_standing g a
    ends_standing (real-moves (real-meet i j d m m' c c' r r' a) g) h = ends_standing g a

    followed : {s t u : List (RealStand Q)} {ms ks : List (RealMove Q)} → RealGoes Q N s ms t → RealGoes Q N t ks u → RealGoes Q N s (ms ++ ks) u
    followed Real-stays k = k
    followed (real-moves m g) k = real-moves m (followed g k)

    awaited : (ms : List (RealMove Q)) (z : List Stand) (f : Q.F) → RealPath Q N ms (map (partly Q f) z) → Q.is_nil f ≡ false
        → RealPath Q N (ms ++ (lasts (record { ticks = 0; part = Q.missing f }) ∷ [])) (map (partly Q Q.nil) (map grown z))
    awaited ms z f p n =
        let h = all_at_next Q f n N.processes z (ends_standing p.goes p.begins) in
        let q = tick_partly f (record { ticks = 0; part = Q.missing f }) (Q.plus_missing f n) (omega (arith, Q.carry_missing f n)) z in
        record {
          begins = p.begins;
          goes = followed p.goes (real-moves (real-delays (subst (λ (v : List (RealStand Q)). all_real_stand Q N.processes v ≡ true) (sym q) (all_really Q N.processes (map grown z) h)))
              (subst (λ (v : List (RealStand Q)). RealGoes Q N v [] (map (partly Q Q.nil) (map grown z))) (sym q) Real-stays));
        }

    -- ## Stuck

    none_of : {as' : List (RealAct Q)} {bs : List Act} → AllFloored Q as' bs → bs ≡ [] → as' ≡ []
    none_of no_more e = refl
    none_of (pair {bs = bs} r p) e = let z : ◌≡◌ {A = ℕ} (suc (length bs)) 0 = ap length e in absurd (omega (arith, z))

    some_acts : {A : Type 0} {a : RealAct Q} {l : List (RealAct Q)} → a ∷ l ≡ [] → A
    some_acts {l = l} e = let z : ◌≡◌ {A = ℕ} (suc (length l)) 0 = ap length e in absurd (omega (arith, z))

    none_really : (now : Span Q) (then : ℕ) (ks : List Move) → real_acts_from Q now (map (as_real Q) ks) ≡ [] → acts_from then ks ≡ []
    unfolding real_acts_from acts_from
    none_really now then [] e = refl
    none_really now then (delay ∷ ks) e = none_really (added Q now (record { ticks = 1; part = Q.nil })) (suc then) ks e
    none_really now then (alone p t ∷ ks) e = some_acts e
    none_really now then (joint p t q u ∷ ks) e = some_acts e

    stuck_on : (ks : List Move) (z : List Stand) → Path N ks z → Stuck N z → RealStuck Q N (map (partly Q Q.nil) z)
    stuck_on ks z p h ms y g =
        let w = came z (nothing Q) (sized_path N p.goes (sized_start N)) g refl in
        none_of w.acts (h w.steps w.state w.path)

    stuck_back : (z : List Stand) → RealStuck Q N (map (partly Q Q.nil) z) → Stuck N z
    stuck_back z h ks y g = none_really (nothing Q) 0 ks (h (map (as_real Q) ks) (map (partly Q Q.nil) y) (really g))

    stuck_next : (ms : List (RealMove Q)) (z : List Stand) (f : Q.F) → RealPath Q N ms (map (partly Q f) z) → Q.is_nil f ≡ false → RealStuck Q N (map (partly Q f) z) → Stuck N (map grown z)
    unfolding real_acts_from
    stuck_next ms z f p n h ks y g =
        let d : Span Q = record { ticks = 0; part = Q.missing f } in
        let k = all_at_next Q f n N.processes z (ends_standing p.goes p.begins) in
        let q = tick_partly f d (Q.plus_missing f n) (omega (arith, Q.carry_missing f n)) z in
        let e = h (lasts d ∷ map (as_real Q) ks) (map (partly Q Q.nil) y)
        (real-moves (real-delays (subst (λ (v : List (RealStand Q)). all_real_stand Q N.processes v ≡ true) (sym q) (all_really Q N.processes (map grown z) k)))
        (subst (λ (v : List (RealStand Q)). RealGoes Q N v (map (as_real Q) ks) (map (partly Q Q.nil) y)) (sym q) (really g))) in
        none_really (added Q (nothing Q) d) 0 ks e

    -- ## The law, of any parts

    pub real_time : RealTime Q N
    real_time =
        record {
          whole = brought;
          really = λ ks z p. record {
            begins = subst (λ (s : List (RealStand Q)). all_real_stand Q N.processes s ≡ true) (sym (start_partly N)) (all_really Q N.processes (initial_state N) p.begins);
            goes = subst (λ (s : List (RealStand Q)). RealGoes Q N s (map (as_real Q) ks) (map (partly Q Q.nil) z)) (sym (start_partly N)) (really p.goes);
          };
          awaits = awaited;
          stuck = λ ks z p. (stuck_on ks z p, stuck_back z);
          stuck_between = stuck_next;
        }
