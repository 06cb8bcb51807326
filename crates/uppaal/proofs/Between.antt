-- A path in n-ths of a tick, brought to whole ticks; a path at whole ticks, cut into n-ths. Assumes nothing.
use mathlib.Core.Path.{◌≡◌, refl, sym, ap, subst, ◌∙◌}
use mathlib.Core.Logic.{◌⊎◌, inl, inr}
use mathlib.Core.Bool.{Bool, true, false, cond}
use mathlib.Core.List.{List, [], ◌∷◌, ◌++◌, map}
use mathlib.Core.Option.{Option, none, some}
use Prim.Native.Nat.{ℕ, zero, suc, ◌+◌, ◌-◌, ◌*◌, ◌≤◌, ◌<◌}
use native.Mathlib.Omega.{arith}
use native.Mathlib.Nat.{mul-suc, mul-zero}
use borrow.Author.Tests.{ltb-true, ltb-false}
use lib.Dec.{ltb}
use lib.IntN.{◌+ℤ◌}
use lib.ListN.{length, get_or, set, replicate, length-map, length-set, length-replicate, get_or-map}
use Rattle.model.specs.Lists.{all, ◌∈◌}
use Rattle.model.specs.Window.{value_at, in_range}
use Rattle.model.proofs.Basics.Bools.{clash, and_is}
use Rattle.model.proofs.Basics.Members.{all_is}
use Rattle.model.proofs.Schedule.Retrace.{map_set}
use Rattle.uppaal.specs.Xta.{exactly, Assignment, sets_to, adds, resets, Transition, Process, System, no_process, process_of}
use Rattle.uppaal.specs.XtaNetwork.{Stand, no_stand, stand_of, initial_stand, initial_state, all_stand, atom_holds, guard_holds, assigned, onto, all_assigned, Fires, grown, Move, delay, alone, joint, Moves, delays, goes, meet, Goes, stays, moves, Path}
use Rattle.uppaal.specs.Dense.{finer_atom, finer_transition, finer_process, finer, finer_move, counted, Act, acts_from, time_from, from_waiting, steps_out, Brought, Pairs, no_more, pair, Whole, cut, Stuck, Dense, resets_none, Punctual, step_in, at_bound, AllPunctual}
use Rattle.uppaal.proofs.Ends.{in_map, from_map}
use Rattle.uppaal.proofs.Nths.{guard_back, guard_on, exact_whole, all_before, all_whole, all_until, all_next}

-- ## Assignments

abbrev carried : (Stand → Stand) → Option Stand → Option Stand
carried f none = none
carried f (some x) = some (f x)

module _ (n r : ℕ) where
  -- at a whole tick, or without resets, they do the same in n-ths
  one_carried : (a : Assignment) → (r ≡ 0) ⊎ (resets_none a ≡ true) → (x : Stand) → assigned a (counted n r x) ≡ carried (counted n r) (assigned a x)
  one_carried (sets_to v z) h x = go (in_range z)
    where
      go : (b : Bool) → cond b (some (record { at = x.at; clocks = (counted n r x).clocks; values = set x.values v z })) none
          ≡ carried (counted n r) (cond b (some (record { at = x.at; clocks = x.clocks; values = set x.values v z })) none)
      go true = refl
      go false = refl
  one_carried (adds v z) h x = go (in_range (value_at x.values v +ℤ z))
    where
      go : (b : Bool) → cond b (some (record { at = x.at; clocks = (counted n r x).clocks; values = set x.values v (value_at x.values v +ℤ z) })) none
          ≡ carried (counted n r) (cond b (some (record { at = x.at; clocks = x.clocks; values = set x.values v (value_at x.values v +ℤ z) })) none)
      go true = refl
      go false = refl
  one_carried (resets i) (inl e) x =
      let q : 0 ≡ n * 0 + r = omega (arith, e, mul-zero n) in
      ap (λ (l : List ℕ). some (record { at = x.at; clocks = l; values = x.values }))
      (ap (λ (k : ℕ). set (map (λ c. n * c + r) x.clocks) i k) q ∙ sym (map_set (λ c. n * c + r) x.clocks i 0))
  one_carried (resets i) (inr e) x = clash e

  all_carried : (bs : List Assignment) → (r ≡ 0) ⊎ (all resets_none bs ≡ true) → (x : Stand) → all_assigned bs (counted n r x) ≡ carried (counted n r) (all_assigned bs x)
  unfolding all_assigned
  all_carried [] h x = refl
  all_carried (b ∷ bs) h x = ap (λ (o : Option Stand). onto o (all_assigned bs)) (one_carried b (first_of h) x) ∙ go (assigned b x) (λ y. all_carried bs (rest_of h) y)
    where
      first_of : (r ≡ 0) ⊎ (all resets_none (b ∷ bs) ≡ true) → (r ≡ 0) ⊎ (resets_none b ≡ true)
      first_of (inl e) = inl e
      first_of (inr e) = inr ((and_is (resets_none b) (all resets_none bs)).0 e).0

      rest_of : (r ≡ 0) ⊎ (all resets_none (b ∷ bs) ≡ true) → (r ≡ 0) ⊎ (all resets_none bs ≡ true)
      rest_of (inl e) = inl e
      rest_of (inr e) = inr ((and_is (resets_none b) (all resets_none bs)).0 e).1

      go : (o : Option Stand) → ((y : Stand) → all_assigned bs (counted n r y) ≡ carried (counted n r) (all_assigned bs y))
          → onto (carried (counted n r) o) (all_assigned bs) ≡ carried (counted n r) (onto o (all_assigned bs))
      go none f = refl
      go (some y) f = f y

-- as many clocks as before
one_sized : (a : Assignment) (x y : Stand) → assigned a x ≡ some y → length y.clocks ≡ length x.clocks
one_sized (sets_to v z) x y h = go (in_range z) h
  where
    go : (b : Bool) → cond b (some (record { at = x.at; clocks = x.clocks; values = set x.values v z })) none ≡ some y → length y.clocks ≡ length x.clocks
    go true e = let q : record { at = x.at; clocks = x.clocks; values = set x.values v z } ≡ y = cc in ap (λ (w : Stand). length w.clocks) (sym q)
    go false e = let z : ◌≡◌ {A = ℕ} 0 1 = cc in absurd (omega arith)
one_sized (adds v z) x y h = go (in_range (value_at x.values v +ℤ z)) h
  where
    go : (b : Bool) → cond b (some (record { at = x.at; clocks = x.clocks; values = set x.values v (value_at x.values v +ℤ z) })) none ≡ some y → length y.clocks ≡ length x.clocks
    go true e = let q : record { at = x.at; clocks = x.clocks; values = set x.values v (value_at x.values v +ℤ z) } ≡ y = cc in ap (λ (w : Stand). length w.clocks) (sym q)
    go false e = let z : ◌≡◌ {A = ℕ} 0 1 = cc in absurd (omega arith)
one_sized (resets i) x y h =
    let q : record { at = x.at; clocks = set x.clocks i 0; values = x.values } ≡ y = cc in
    ap (λ (w : Stand). length w.clocks) (sym q) ∙ length-set x.clocks i 0

pub all_sized : (bs : List Assignment) (x y : Stand) → all_assigned bs x ≡ some y → length y.clocks ≡ length x.clocks
unfolding all_assigned
all_sized [] x y h = let q : x ≡ y = cc in ap (λ (w : Stand). length w.clocks) (sym q)
all_sized (b ∷ bs) x y h = go (assigned b x) refl h (λ w e. all_sized bs w y e)
  where
    go : (o : Option Stand) → assigned b x ≡ o → onto o (all_assigned bs) ≡ some y → ((w : Stand) → all_assigned bs w ≡ some y → length y.clocks ≡ length w.clocks)
        → length y.clocks ≡ length x.clocks
    go none e k f = let z : ◌≡◌ {A = ℕ} 0 1 = cc in absurd (omega arith)
    go (some w) e k f = f w k ∙ one_sized b x w e

-- ## Processes and states, counted

standing : (n r : ℕ) (z : List Stand) (p : ℕ) → stand_of (map (counted n r) z) p ≡ counted n r (stand_of z p)
standing n r z p = get_or-map (counted n r) z p no_stand

process_finer : (n : ℕ) (N : System) (p : ℕ) → process_of (finer n N) p ≡ finer_process n (process_of N p)
process_finer n N p = get_or-map (finer_process n) N.processes p no_process

-- each process has its clocks
abbrev pub Sized : System → List Stand → Type 0
Sized N z = map (λ x. length x.clocks) z ≡ map (λ P. P.clocks) N.processes

pub sized_at : (N : System) (z : List Stand) → Sized N z → (p : ℕ) → length (stand_of z p).clocks ≡ (process_of N p).clocks
sized_at N z h p =
    sym (get_or-map (λ x. length x.clocks) z p no_stand) ∙ ap (λ (l : List ℕ). get_or l p 0) h ∙ get_or-map (λ P. P.clocks) N.processes p no_process

set_same : (xs : List ℕ) (i : ℕ) → set xs i (get_or xs i 0) ≡ xs
set_same [] i = refl
set_same (x ∷ xs) zero = refl
set_same (x ∷ xs) (suc i) = ap (λ (l : List ℕ). x ∷ l) (set_same xs i)

pub sized_set : (N : System) (z : List Stand) (p : ℕ) (y : Stand) → Sized N z → length y.clocks ≡ (process_of N p).clocks → Sized N (set z p y)
sized_set N z p y h e =
    map_set (λ x. length x.clocks) z p y
    ∙ ap (λ (l : List ℕ). set l p (length y.clocks)) h
    ∙ ap (λ (k : ℕ). set (map (λ P. P.clocks) N.processes) p k) (e ∙ sym (get_or-map (λ P. P.clocks) N.processes p no_process))
    ∙ set_same (map (λ P. P.clocks) N.processes) p

pub sized_grown : (N : System) (z : List Stand) → Sized N z → Sized N (map grown z)
sized_grown N z h = same z ∙ h
  where
    same : (l : List Stand) → map (λ x. length x.clocks) (map grown l) ≡ map (λ x. length x.clocks) l
    same [] = refl
    same (x ∷ l) = rw (length-map x.clocks suc, same l) refl

pub sized_start : (N : System) → Sized N (initial_state N)
sized_start N = same N.processes
  where
    same : (l : List Process) → map (λ x. length x.clocks) (map initial_stand l) ≡ map (λ P. P.clocks) l
    same [] = refl
    same (P ∷ l) = rw (length-replicate {A = ℕ} P.clocks 0, same l) refl

start_counted : (n : ℕ) (N : System) → initial_state (finer n N) ≡ map (counted n 0) (initial_state N)
start_counted n N = same N.processes
  where
    zeros : (k : ℕ) → replicate k 0 ≡ map (λ c. n * c + 0) (replicate k 0)
    zeros zero = refl
    zeros (suc k) = let q : 0 ≡ n * 0 + 0 = omega (arith, mul-zero n) in ap (λ (l : List ℕ). 0 ∷ l) (zeros k) ∙ ap (λ (c : ℕ). c ∷ map (λ c. n * c + 0) (replicate k 0)) q

    same : (l : List Process) → map initial_stand (map (finer_process n) l) ≡ map (counted n 0) (map initial_stand l)
    same [] = refl
    same (P ∷ l) =
        ap (λ (s : List Stand). initial_stand P ∷ s) (same l)
        ∙ ap (λ (xs : List ℕ). record { at = P.initial; clocks = xs; values = (initial_stand P).values } ∷ map (counted n 0) (map initial_stand l)) (zeros P.clocks)

-- one n-th later
later_counted : (n r : ℕ) (z : List Stand) → map grown (map (counted n r) z) ≡ map (counted n (suc r)) z
later_counted n r [] = refl
later_counted n r (x ∷ z) =
    ap (λ (xs : List ℕ). record { at = x.at; clocks = xs; values = x.values } ∷ map grown (map (counted n r) z)) (clocks x.clocks)
    ∙ ap (λ (l : List Stand). counted n (suc r) x ∷ l) (later_counted n r z)
  where
    clocks : (xs : List ℕ) → map suc (map (λ c. n * c + r) xs) ≡ map (λ c. n * c + suc r) xs
    clocks [] = refl
    clocks (c ∷ xs) = let q : suc (n * c + r) ≡ n * c + suc r = omega arith in rw (q, clocks xs) refl

-- n n-ths are a tick
tick_counted : (n : ℕ) (z : List Stand) → map (counted n n) z ≡ map (counted n 0) (map grown z)
tick_counted n [] = refl
tick_counted n (x ∷ z) =
    ap (λ (xs : List ℕ). record { at = x.at; clocks = xs; values = x.values } ∷ map (counted n n) z) (clocks x.clocks)
    ∙ ap (λ (l : List Stand). counted n 0 (grown x) ∷ l) (tick_counted n z)
  where
    clocks : (xs : List ℕ) → map (λ c. n * c + n) xs ≡ map (λ c. n * c + 0) (map suc xs)
    clocks [] = refl
    clocks (c ∷ xs) = let q : n * c + n ≡ n * suc c + 0 = omega (arith, mul-suc n c) in rw (q, clocks xs) refl

-- ## A transition in n-ths is one at the whole tick before

record FiresBack (n r : ℕ) (P : Process) (x : Stand) (t : Transition) (y : Stand) : Type 0 where
  to : Stand
  fires : Fires x t to
  same : y ≡ counted n r to
  sized : length to.clocks ≡ P.clocks
  out : from_waiting t.source ≡ true → r ≡ 0

module _ (n r : ℕ) (l : r < n) (P : Process) (x : Stand) (t : Transition) (y : Stand) (sized : length x.clocks ≡ P.clocks) where
  whole_if : Punctual P t → guard_holds (counted n r x) (map (finer_atom n) t.guard) ≡ true
      → ((r ≡ 0) ⊎ (all resets_none t.assignments ≡ true)) × (from_waiting t.source ≡ true → r ≡ 0)
  whole_if (step_in a e) g = (inr a, λ f. clash (sym e ∙ f))
  whole_if (at_bound u m c) g =
      let h = (all_is (atom_holds (counted n r x).clocks x.values) (map (finer_atom n) t.guard)).0 g (finer_atom n (exactly u)) (in_map (finer_atom n) m) in
      let q = exact_whole n r l x.clocks x.values u (omega (arith, c, sized)) h in
      (inl q, λ f. q)

  fires_back : Punctual P t → Fires (counted n r x) (finer_transition n t) y → FiresBack n r P x t y
  fires_back k f =
      let w = whole_if k f.guard in
      go (all_assigned t.assignments from) refl (sym (all_carried n r t.assignments w.0 from) ∙ f.after) w.1
    where
      from : Stand
      from = record { at = t.target; clocks = x.clocks; values = x.values }

      go : (o : Option Stand) → all_assigned t.assignments from ≡ o → carried (counted n r) o ≡ some y → (from_waiting t.source ≡ true → r ≡ 0) → FiresBack n r P x t y
      go none e h w = let z : ◌≡◌ {A = ℕ} 0 1 = cc in absurd (omega arith)
      go (some v) e h w =
          let q : y ≡ counted n r v = cc in
          record {
            to = v;
            fires = record { source = f.source; guard = guard_back n r l x.clocks x.values t.guard f.guard; after = e };
            same = q;
            sized = all_sized t.assignments from v e ∙ sized;
            out = w;
          }

-- a transition at a whole tick is one in n-ths
fires_on : (n : ℕ) → 1 ≤ n → (x : Stand) (t : Transition) (y : Stand) → Fires x t y → Fires (counted n 0 x) (finer_transition n t) (counted n 0 y)
fires_on n one x t y f =
    record {
      source = f.source;
      guard = guard_on n one x.clocks x.values t.guard f.guard;
      after = all_carried n 0 t.assignments (inl refl) (record { at = t.target; clocks = x.clocks; values = x.values }) ∙ ap (carried (counted n 0)) f.after;
    }

-- ## Delays in front of a path; steps of which there are none

pub acts_ticks : (k now : ℕ) (ks : List Move) → acts_from now (replicate k delay ++ ks) ≡ acts_from (now + k) ks
unfolding acts_from
acts_ticks zero now ks = let q : now ≡ now + 0 = omega arith in ap (λ (i : ℕ). acts_from i ks) q
acts_ticks (suc k) now ks = let q : suc now + k ≡ now + suc k = omega arith in acts_ticks k (suc now) ks ∙ ap (λ (i : ℕ). acts_from i ks) q

none_of : {R : Act → Act → Type 0} {as' bs : List Act} → Pairs R as' bs → bs ≡ [] → as' ≡ []
none_of no_more e = refl
none_of (pair {b = b} {bs = bs} r p) e = let z : ◌≡◌ {A = ℕ} (suc (length bs)) 0 = ap length e in absurd (omega (arith, z))

some_acts : {A : Type 0} {a : Act} {l : List Act} → a ∷ l ≡ [] → A
some_acts {l = l} e = let z : ◌≡◌ {A = ℕ} (suc (length l)) 0 = ap length e in absurd (omega (arith, z))

none_cut : (n now then : ℕ) (ks : List Move) → acts_from now (cut n ks) ≡ [] → acts_from then ks ≡ []
unfolding acts_from cut
none_cut n now then [] e = refl
none_cut n now then (delay ∷ ks) e = none_cut n (now + n) (suc then) ks (sym (acts_ticks n now (cut n ks)) ∙ e)
none_cut n now then (alone p t ∷ ks) e = some_acts e
none_cut n now then (joint p t q u ∷ ks) e = some_acts e

-- each process keeps its clocks on a path
pub sized_path : (N : System) {s y : List Stand} {ks : List Move} → Goes N s ks y → Sized N s → Sized N y
sized_path N stays h = h
sized_path N (moves {s = s} (delays k) g) h = sized_path N g (sized_grown N s h)
sized_path N (moves {s = s} (goes {p = p} {t = t} {y = y} i m q f a) g) h =
    sized_path N g (sized_set N s p y h (all_sized t.assignments (record { at = t.target; clocks = (stand_of s p).clocks; values = (stand_of s p).values }) y f.after ∙ sized_at N s h p))
sized_path N (moves {s = s} (meet {p = p} {q = q} {t = t} {u = u} {y = y} {z = z} i j d m o c c' f e a) g) h =
    sized_path N g
    (sized_set N (set s p y) q z
    (sized_set N s p y h (all_sized t.assignments (record { at = t.target; clocks = (stand_of s p).clocks; values = (stand_of s p).values }) y f.after ∙ sized_at N s h p))
    (all_sized u.assignments (record { at = u.target; clocks = (stand_of s q).clocks; values = (stand_of s q).values }) z e.after ∙ sized_at N s h q))

-- ## One step

abbrev waits : Move → Bool
waits delay = true
waits (alone p t) = false
waits (joint p t q u) = false

module _ (N : System) (punctual : AllPunctual N) (n : ℕ) (one : 1 ≤ n) where
  -- a step in n-ths, from r n-ths after z: between two ticks, to the next tick, or a transition
  data Step (z : List Stand) (r : ℕ) (m : Move) (s : List Stand) : Type 0 where
    between : m ≡ delay → suc r < n → s ≡ map (counted n (suc r)) z → Step z r m s
    next : m ≡ delay → suc r ≡ n → Moves N z delay (map grown z) → s ≡ map (counted n 0) (map grown z) → Step z r m s
    acts : (k : Move) (y : List Stand) → m ≡ finer_move n k → waits k ≡ false → Moves N z k y → Sized N y → s ≡ map (counted n r) y → (steps_out k ≡ true → r ≡ 0) → Step z r m s

  module _ (z : List Stand) (r : ℕ) (l : r < n) (sized : Sized N z) where
    finds : (p : ℕ) (t : Transition) → t ∈ (process_of (finer n N) p).transitions → (u : Transition) × (u ∈ (process_of N p).transitions) × (t ≡ finer_transition n u)
    finds p t m = from_map (finer_transition n) (process_of N p).transitions (subst (λ (P : Process). t ∈ P.transitions) (process_finer n N p) m)

    inside : (p : ℕ) → p < length (finer n N).processes → p < length N.processes
    inside p i = omega (arith, i, length-map N.processes (finer_process n))

    fired : (s : List Stand) → s ≡ map (counted n r) z → (p : ℕ) (t u : Transition) (y : Stand) → u ∈ (process_of N p).transitions → t ≡ finer_transition n u → Fires (stand_of s p) t y
        → FiresBack n r (process_of N p) (stand_of z p) u y
    fired s e p t u y i q f =
        fires_back n r l (process_of N p) (stand_of z p) u y (sized_at N z sized p) (punctual p u i)
        (subst (λ (v : Transition). Fires (counted n r (stand_of z p)) v y) q (subst (λ (x : Stand). Fires x t y) (ap (λ (v : List Stand). stand_of v p) e ∙ standing n r z p) f))

    one_step : {s y : List Stand} {m : Move} → Moves (finer n N) s m y → s ≡ map (counted n r) z → Step z r m y
    one_step {s = s} (delays h) e = go (ltb (suc r) n) refl
      where
        now : map grown s ≡ map (counted n (suc r)) z
        now = ap (map grown) e ∙ later_counted n r z

        go : (b : Bool) → ltb (suc r) n ≡ b → Step z r delay (map grown s)
        go true b = between refl (ltb-true (suc r) n b) now
        go false b =
            let q : suc r ≡ n = omega (arith, l, ltb-false (suc r) n b) in
            let w = now ∙ ap (λ (k : ℕ). map (counted n k) z) q ∙ tick_counted n z in
            next refl q (delays (all_before n one 0 one N.processes (map grown z) (subst (λ (v : List Stand). all_stand (finer n N).processes v ≡ true) w h))) w
    one_step {s = s} (goes {p = p} {t = t} {y = y} i m q f a) e =
        let v = finds p t m in
        let b = fired s e p t v.0 y v.1 v.2 f in
        let w : set s p y ≡ map (counted n r) (set z p b.to) = ap (λ (x : List Stand). set x p y) e ∙ ap (λ (x : Stand). set (map (counted n r) z) p x) b.same ∙ sym (map_set (counted n r) z p b.to) in
        acts (alone p v.0) (set z p b.to) (ap (alone p) v.2) refl
        (goes (inside p i) v.1 (sym (ap (λ (x : Transition). x.sync) v.2) ∙ q) b.fires (all_before n one r l N.processes (set z p b.to) (subst (λ (x : List Stand). all_stand (finer n N).processes x ≡ true) w a)))
        (sized_set N z p b.to sized b.sized) w b.out
    one_step {s = s} (meet {p = p} {q = q} {k = k} {t = t} {u = u} {y = y} {z = x} i j d m o c c' f g a) e =
        let v = finds p t m in
        let v' = finds q u o in
        let b = fired s e p t v.0 y v.1 v.2 f in
        let b' = fired s e q u v'.0 x v'.1 v'.2 g in
        let w : set s p y ≡ map (counted n r) (set z p b.to) = ap (λ (x : List Stand). set x p y) e ∙ ap (λ (x : Stand). set (map (counted n r) z) p x) b.same ∙ sym (map_set (counted n r) z p b.to) in
        let w' : set (set s p y) q x ≡ map (counted n r) (set (set z p b.to) q b'.to) = ap (λ (h : List Stand). set h q x) w ∙ ap (λ (h : Stand). set (map (counted n r) (set z p b.to)) q h) b'.same ∙ sym (map_set (counted n r) (set z p b.to) q b'.to) in
        acts (joint p v.0 q v'.0) (set (set z p b.to) q b'.to) (ap (λ (h : Transition). joint p h q u) v.2 ∙ ap (λ (h : Transition). joint p (finer_transition n v.0) q h) v'.2) refl
        (meet (inside p i) (inside q j) d v.1 v'.1 (sym (ap (λ (h : Transition). h.sync) v.2) ∙ c) (sym (ap (λ (h : Transition). h.sync) v'.2) ∙ c') b.fires b'.fires
        (all_before n one r l N.processes (set (set z p b.to) q b'.to) (subst (λ (h : List Stand). all_stand (finer n N).processes h ≡ true) w' a)))
        (sized_set N (set z p b.to) q b'.to (sized_set N z p b.to sized b.sized) b'.sized) w' (λ h. clash h)

  -- ## A path in n-ths, brought to whole ticks

  record Came (z : List Stand) (r now time : ℕ) (ms : List Move) (y : List Stand) : Type 0 where
    steps : List Move
    state : List Stand
    rest : ℕ
    less : rest < n
    goes' : Goes N z steps state
    same : y ≡ map (counted n rest) state
    time' : time_from time ms ≡ n * time_from now steps + rest
    acts' : Pairs (Brought n) (acts_from time ms) (acts_from now steps)

  -- a step that is no delay, in front of a path
  acts_more : (k : Move) → waits k ≡ false → (now : ℕ) (ks : List Move) → acts_from now (k ∷ ks) ≡ record { time = now; move = k } ∷ acts_from now ks
  unfolding acts_from
  acts_more delay e now ks = clash (sym e)
  acts_more (alone p t) e now ks = refl
  acts_more (joint p t q u) e now ks = refl

  time_more : (k : Move) → waits k ≡ false → (now : ℕ) (ks : List Move) → time_from now (k ∷ ks) ≡ time_from now ks
  unfolding time_from
  time_more delay e now ks = clash (sym e)
  time_more (alone p t) e now ks = refl
  time_more (joint p t q u) e now ks = refl

  finer_acts : (k : Move) → waits k ≡ false → waits (finer_move n k) ≡ false
  finer_acts delay e = e
  finer_acts (alone p t) e = refl
  finer_acts (joint p t q u) e = refl

  came : (z : List Stand) (r now time : ℕ) → r < n → Sized N z → time ≡ n * now + r → {s y : List Stand} {ms : List Move} → Goes (finer n N) s ms y → s ≡ map (counted n r) z → Came z r now time ms y
  unfolding acts_from time_from
  came z r now time l sized τ stays e = record { steps = []; state = z; rest = r; less = l; goes' = stays; same = e; time' = τ; acts' = no_more }
  came z r now time l sized τ {y = y} (moves {t = t} {m = m} {ms = ms} k g) e =
      go m (one_step z r l sized k e) (λ z' r' now' time' l' sized' τ' e'. came z' r' now' time' l' sized' τ' g e')
    where
      go : (m : Move) → Step z r m t
          → ((z' : List Stand) (r' now' time' : ℕ) → r' < n → Sized N z' → time' ≡ n * now' + r' → t ≡ map (counted n r') z' → Came z' r' now' time' ms y)
          → Came z r now time (m ∷ ms) y
      go m (between a b c) ih =
          let w = ih z (suc r) now (suc time) b sized (omega (arith, τ)) c in
          subst (λ (h : Move). Came z r now time (h ∷ ms) y) (sym a)
          (record { steps = w.steps; state = w.state; rest = w.rest; less = w.less; goes' = w.goes'; same = w.same; time' = w.time'; acts' = w.acts' })
      go m (next a b c d) ih =
          let w = ih (map grown z) 0 (suc now) (suc time) one (sized_grown N z sized) (omega (arith, τ, b, mul-suc n now)) d in
          subst (λ (h : Move). Came z r now time (h ∷ ms) y) (sym a)
          (record { steps = delay ∷ w.steps; state = w.state; rest = w.rest; less = w.less; goes' = moves c w.goes'; same = w.same; time' = w.time'; acts' = w.acts' })
      go m (acts j x a b c d f o) ih =
          let w = ih x r now time l d τ f in
          let q = finer_acts j b in
          subst (λ (h : Move). Came z r now time (h ∷ ms) y) (sym a)
          (record {
            steps = j ∷ w.steps;
            state = w.state;
            rest = w.rest;
            less = w.less;
            goes' = moves c w.goes';
            same = w.same;
            time' = time_more (finer_move n j) q time ms ∙ w.time' ∙ ap (λ (i : ℕ). n * i + w.rest) (sym (time_more j b now w.steps));
            acts' = rw (acts_more (finer_move n j) q time ms, acts_more j b now w.steps) (pair (record { rest = r; less = l; time = τ; move = refl; out = o }) w.acts');
          })

  brought : (ms : List Move) (y : List Stand) → Path (finer n N) ms y → Whole N n ms y
  brought ms y p =
      let w = came (initial_state N) 0 0 0 one (sized_start N) (omega (arith, mul-zero n)) p.goes (start_counted n N) in
      record {
        steps = w.steps;
        state = w.state;
        rest = w.rest;
        less = w.less;
        path = record {
          begins = all_before n one 0 one N.processes (initial_state N) (subst (λ (s : List Stand). all_stand (finer n N).processes s ≡ true) (start_counted n N) p.begins);
          goes = w.goes';
        };
        same = w.same;
        time = w.time';
        acts = w.acts';
      }

  -- ## A path at whole ticks, cut into n-ths

  -- delays up to the next tick, then further
  runs : (z : List Stand) → all_stand N.processes (map grown z) ≡ true → (k j : ℕ) → j + k ≡ n → {ms : List Move} {y : List Stand}
      → Goes (finer n N) (map (counted n 0) (map grown z)) ms y → Goes (finer n N) (map (counted n j) z) (replicate k delay ++ ms) y
  runs z h zero j e {ms} {y} g =
      let q : j ≡ n = omega (arith, e) in
      subst (λ (s : List Stand). Goes (finer n N) s ms y) (sym (ap (λ (i : ℕ). map (counted n i) z) q ∙ tick_counted n z)) g
  runs z h (suc k) j e {ms} {y} g =
      let w = later_counted n j z in
      moves (delays (subst (λ (s : List Stand). all_stand (finer n N).processes s ≡ true) (sym w) (all_until n one (suc j) (omega (arith, e)) N.processes z h)))
      (subst (λ (s : List Stand). Goes (finer n N) s (replicate k delay ++ ms) y) (sym w) (runs z h k (suc j) (omega (arith, e)) g))

  found : (p : ℕ) (t : Transition) → t ∈ (process_of N p).transitions → finer_transition n t ∈ (process_of (finer n N) p).transitions
  found p t m = subst (λ (P : Process). finer_transition n t ∈ P.transitions) (sym (process_finer n N p)) (in_map (finer_transition n) m)

  within : (p : ℕ) → p < length N.processes → p < length (finer n N).processes
  within p i = omega (arith, i, length-map N.processes (finer_process n))

  fires_at : (s : List Stand) (p : ℕ) (t : Transition) (y : Stand) → Fires (stand_of s p) t y → Fires (stand_of (map (counted n 0) s) p) (finer_transition n t) (counted n 0 y)
  fires_at s p t y f = subst (λ (x : Stand). Fires x (finer_transition n t) (counted n 0 y)) (sym (standing n 0 s p)) (fires_on n one (stand_of s p) t y f)

  cuts : {s y : List Stand} {ks : List Move} → Goes N s ks y → Goes (finer n N) (map (counted n 0) s) (cut n ks) (map (counted n 0) y)
  unfolding cut
  cuts stays = stays
  cuts {y = x} (moves {s = s} {ms = ks} (delays h) g) = runs s h n 0 (omega arith) (cuts g)
  cuts {y = x} (moves {s = s} {ms = ks} (goes {p = p} {t = t} {y = y} i m q f a) g) =
      let w = map_set (counted n 0) s p y in
      moves (goes (within p i) (found p t m) q (fires_at s p t y f) (subst (λ (v : List Stand). all_stand (finer n N).processes v ≡ true) w (all_whole n one N.processes (set s p y) a)))
      (subst (λ (v : List Stand). Goes (finer n N) v (cut n ks) (map (counted n 0) x)) w (cuts g))
  cuts {y = x} (moves {s = s} {ms = ks} (meet {p = p} {q = q} {t = t} {u = u} {y = y} {z = z} i j d m o c c' f e a) g) =
      let w : map (counted n 0) (set (set s p y) q z) ≡ set (set (map (counted n 0) s) p (counted n 0 y)) q (counted n 0 z)
      = map_set (counted n 0) (set s p y) q z ∙ ap (λ (v : List Stand). set v q (counted n 0 z)) (map_set (counted n 0) s p y) in
      moves (meet (within p i) (within q j) d (found p t m) (found q u o) c c' (fires_at s p t y f) (fires_at s q u z e) (subst (λ (v : List Stand). all_stand (finer n N).processes v ≡ true) w (all_whole n one N.processes (set (set s p y) q z) a)))
      (subst (λ (v : List Stand). Goes (finer n N) v (cut n ks) (map (counted n 0) x)) w (cuts g))

  finely' : (ks : List Move) (z : List Stand) → Path N ks z → Path (finer n N) (cut n ks) (map (counted n 0) z)
  finely' ks z p =
      record {
        begins = subst (λ (s : List Stand). all_stand (finer n N).processes s ≡ true) (sym (start_counted n N)) (all_whole n one N.processes (initial_state N) p.begins);
        goes = subst (λ (s : List Stand). Goes (finer n N) s (cut n ks) (map (counted n 0) z)) (sym (start_counted n N)) (cuts p.goes);
      }

  -- ## Between two ticks the next can be awaited

  ends_standing : {s y : List Stand} {ms : List Move} → Goes (finer n N) s ms y → all_stand (finer n N).processes s ≡ true → all_stand (finer n N).processes y ≡ true
  ends_standing stays h = h
  ends_standing (moves (delays k) g) h = ends_standing g k
  ends_standing (moves (goes i m q f a) g) h = ends_standing g a
  ends_standing (moves (meet i j d m o c c' f e a) g) h = ends_standing g a

  followed : {s t u : List Stand} {ms ks : List Move} → Goes (finer n N) s ms t → Goes (finer n N) t ks u → Goes (finer n N) s (ms ++ ks) u
  followed stays k = k
  followed (moves m g) k = moves m (followed g k)

  nothing_more : (k : ℕ) → replicate k delay ++ [] ≡ replicate k delay
  nothing_more zero = refl
  nothing_more (suc k) = ap (λ (l : List Move). delay ∷ l) (nothing_more k)

  awaited : (ms : List Move) (z : List Stand) (r : ℕ) → Path (finer n N) ms (map (counted n r) z) → 0 < r → r < n
      → Path (finer n N) (ms ++ replicate (n - r) delay) (map (counted n 0) (map grown z))
  awaited ms z r p a b =
      let h = all_next n one r a N.processes z (ends_standing p.goes p.begins) in
      record {
        begins = p.begins;
        goes = followed p.goes (subst (λ (l : List Move). Goes (finer n N) (map (counted n r) z) l (map (counted n 0) (map grown z))) (nothing_more (n - r)) (runs z h (n - r) r (omega (arith, b)) stays));
      }

  -- ## Stuck

  stuck_on : (ks : List Move) (z : List Stand) → Path N ks z → Stuck N z → Stuck (finer n N) (map (counted n 0) z)
  stuck_on ks z p h ms y g =
      let w = came z 0 0 0 one (sized_path N p.goes (sized_start N)) (omega (arith, mul-zero n)) g refl in
      none_of w.acts' (h w.steps w.state w.goes')

  stuck_back : (z : List Stand) → Stuck (finer n N) (map (counted n 0) z) → Stuck N z
  stuck_back z h ks y g = none_cut n 0 0 ks (h (cut n ks) (map (counted n 0) y) (cuts g))

  stuck_next : (ms : List Move) (z : List Stand) (r : ℕ) → Path (finer n N) ms (map (counted n r) z) → 0 < r → r < n → Stuck (finer n N) (map (counted n r) z) → Stuck N (map grown z)
  stuck_next ms z r p a b h ks y g =
      let k = all_next n one r a N.processes z (ends_standing p.goes p.begins) in
      let e = h (replicate (n - r) delay ++ cut n ks) (map (counted n 0) y) (runs z k (n - r) r (omega (arith, b)) (cuts g)) in
      none_cut n (0 + (n - r)) 0 ks (sym (acts_ticks (n - r) 0 (cut n ks)) ∙ e)

  -- ## The law, of any parts

  pub dense : Dense N n
  dense = record { whole = brought; finely = finely'; awaits = awaited; stuck = λ ks z p. (stuck_on ks z p, stuck_back z); stuck_between = stuck_next }
