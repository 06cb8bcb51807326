-- What is written for a table in its limits is declared. Assumes nothing.
use mathlib.Core.Path.{◌≡◌, refl, sym, ap, subst, ◌∙◌}
use mathlib.Core.Logic.{◌⊎◌, inl, inr}
use mathlib.Core.Bool.{Bool, true, false, cond}
use mathlib.Core.List.{List, [], ◌∷◌, ◌++◌, map}
use mathlib.Core.Option.{Option, none, some}
use Prim.Native.Nat.{ℕ, zero, suc, ◌+◌, ◌≤◌, ◌<◌}
use native.Mathlib.Omega.{arith}
use lib.Dec.{eqb}
use lib.IntN.{ℤ, pos}
use lib.ListN.{length, get_or, replicate, set}
use Rattle.model.specs.declared.Action.{Action}
use Rattle.model.specs.declared.Action.TheVariants.{Internal, Send, Receive}
use Rattle.model.specs.declared.ClockGuard.{ClockGuard}
use Rattle.model.specs.declared.DataGuard.{DataGuard}
use Rattle.model.specs.declared.Pair.{Pair}
use Rattle.model.specs.declared.Sizes.{Sizes}
use Rattle.model.specs.declared.Update.{Update}
use Rattle.model.specs.declared.TableHeader.{TableHeader}
use Rattle.model.specs.Lists.{All, empty, more, ◌∈◌, here, there, only, from, below, snoc}
use Rattle.model.specs.Table.{Arc, Component, Table, no_arc, no_location, sizes_of, arc_of, location_of}
use Rattle.model.specs.Limits.{LocationIn, ClockGuardIn, DataGuardIn, UpdateIn, PairIn, ActionIn, ArcIn, ComponentIn}
use Rattle.model.specs.Limits.{Distinct as DistinctPairs, more as one-pair, none as no_pairs}
use Rattle.model.specs.Window.{masked, in_range, leads_to}
use Rattle.model.proofs.Basics.Members.{in_append, only_is, in_at, number-of}
use Rattle.model.proofs.Basics.Members.{alone as only-member}
use Rattle.model.proofs.Basics.Walk.{all_at}
use Rattle.model.proofs.Basics.Words.{all_join}
use Rattle.model.proofs.Schedule.Own.{in_all, all_in}
use Rattle.uppaal.specs.Xta.{Name, location, waiting, Upper, Atom, at_most, exactly, never, Sync, sends, receives, Assignment, resets, Transition, Location, Process}
use Rattle.uppaal.specs.Export.{highs, uppers, ends, data_atoms, Sum, plus, stays, summed, range_atoms, lows, others, outcomes, sync_of, assignment_of, assignments_of, step_in_with, step_out_with, entries, plain_location, waiting_from, process_for, system_for}
use Rattle.uppaal.specs.Export.{number as numbered, more as further}
use Rattle.uppaal.specs.Declared.{names_of, Distinct, none_left, one_more, AtomIn, SyncIn, AssignmentIn, TransitionIn, ProcessIn, Declared}
use Rattle.uppaal.proofs.Ends.{in_map, from_map}
use Rattle.uppaal.proofs.Picks.{Picked, is_in, is_out, picked}
use Rattle.uppaal.proofs.Guards.{all_to, updates_in}
use Rattle.uppaal.proofs.One.{leads_in, pairs_in}
use Rattle.uppaal.proofs.Held.{Limited}

all_map : {A B : Type 0} {P : B → Type 0} {Q : A → Type 0} (f : A → B) → ((x : A) → Q x → P (f x)) → {xs : List A} → All Q xs → All P (map f xs)
all_map f h empty = empty
all_map f h (more {x = x} p a) = more (h x p) (all_map f h a)

-- ## Names

-- those of two lists that share none
distinct_append : {xs ys : List Name} → Distinct xs → Distinct ys → ((n m : Name) → n ∈ xs → m ∈ ys → m ≡ n → ⊥) → Distinct (xs ++ ys)
distinct_append none_left d h = d
distinct_append {ys = ys} (one_more {n = n} {ns = ns} a c) d h =
    one_more (all_join a (in_all ys (λ m k. h n m (here refl) k))) (distinct_append c d (λ x y i j. h x y (there i) j))

plain_names : (C : Component) (i k : ℕ) → Distinct (map (λ (l : Location). l.name) (map (plain_location C) (from i k)))
plain_names C i zero = none_left
plain_names C i (suc k) = one_more (later (suc i) k (omega arith)) (plain_names C (suc i) k)
  where
    later : (j n : ℕ) → i < j → All (λ m. m ≡ location i → ⊥) (map (λ (l : Location). l.name) (map (plain_location C) (from j n)))
    later j zero h = empty
    later j (suc n) h = more (λ (e : location j ≡ location i). let z : j ≡ i = cc in absurd (omega arith)) (later (suc j) n (omega arith))

plain_named : (C : Component) (i k l : ℕ) → i ≤ l → l < i + k → location l ∈ map (λ (q : Location). q.name) (map (plain_location C) (from i k))
plain_named C i zero l h g = absurd (omega arith)
plain_named C i (suc k) l h g = go (eqb i l) refl (λ n. plain_named C (suc i) k l n (omega arith))
  where
    go : (b : Bool) → eqb i l ≡ b → (suc i ≤ l → location l ∈ map (λ (q : Location). q.name) (map (plain_location C) (from (suc i) k))) → location l ∈ (location i ∷ map (λ (q : Location). q.name) (map (plain_location C) (from (suc i) k)))
    go true e f = here (ap location (sym (borrow.Author.Tests.eqb-true i l e)))
    go false e f = let n : (i ≡ l → ⊥) = λ z. absurd (borrow.Author.Tests.eqb-false i l e z) in there (f (omega arith))

-- the names of an edge's waiting locations
abbrev wait_names : ℕ → List (Option ℕ) → List Name
wait_names e os = map (waiting e) os

names_append : (xs ys : List Location) → map (λ (l : Location). l.name) (xs ++ ys) ≡ map (λ (l : Location). l.name) xs ++ map (λ (l : Location). l.name) ys
names_append [] ys = refl
names_append (x ∷ xs) ys = ap (λ (l : List Name). x.name ∷ l) (names_append xs ys)

wait-names : (e : ℕ) (us : List Upper) (os : List (Option ℕ)) → map (λ (l : Location). l.name) (map (λ m. record { name = waiting e m; invariant = us }) os) ≡ wait_names e os
wait-names e us [] = refl
wait-names e us (o ∷ os) = ap (λ (l : List Name). waiting e o ∷ l) (wait-names e us os)

-- a receive's are distinct: check 6
pairs_distinct : (e : ℕ) {qs : List Pair} → DistinctPairs qs → Distinct (wait_names e (map (λ (q : Pair). some q.channel) qs ++ (none ∷ [])))
pairs_distinct e no_pairs = one_more empty none_left
pairs_distinct e (one-pair {q = q} {qs = qs} a d) = one_more (others' a) (pairs_distinct e d)
  where
    others' : {rs : List Pair} → All (λ p. p.channel ≡ q.channel → ⊥) rs → All (λ m. m ≡ waiting e (some q.channel) → ⊥) (wait_names e (map (λ (r : Pair). some r.channel) rs ++ (none ∷ [])))
    others' empty = more (λ (z : waiting e none ≡ waiting e (some q.channel)). let c : ◌≡◌ {A = ℕ} 0 1 = cc in omega arith) empty
    others' (more {x = r} h b) = more (λ (z : waiting e (some r.channel) ≡ waiting e (some q.channel)). h (let c : r.channel ≡ q.channel = cc in c)) (others' b)

outcomes_distinct : (s : Sizes) (a : Arc) (e : ℕ) (x : Action) → ActionIn s a x → Distinct (wait_names e (outcomes a x))
outcomes_distinct s a e Internal h = one_more empty none_left
outcomes_distinct s a e (Send k) h = one_more empty none_left
outcomes_distinct s a e Receive h = pairs_distinct e h.distinct

-- of edges from number i on: each has a number from i on
waiting_late : (C : Component) (i : ℕ) (bs : List Arc) (n : Name) → n ∈ map (λ (l : Location). l.name) (waiting_from C i bs) → (f : ℕ) × (m : Option ℕ) × (i ≤ f) × (n ≡ waiting f m)
unfolding waiting_from
waiting_late C i [] n k = absurd (Rattle.model.proofs.Basics.Members.not_in k)
waiting_late C i (b ∷ bs) n k = go ((in_append (wait_names i (outcomes b b.edge.action)) (map (λ (l : Location). l.name) (waiting_from C (suc i) bs))).0 (subst (λ (l : List Name). n ∈ l) split k)) (λ h. waiting_late C (suc i) bs n h)
  where
    split : map (λ (l : Location). l.name) (map (λ m. record { name = waiting i m; invariant = uppers C b }) (outcomes b b.edge.action) ++ waiting_from C (suc i) bs)
        ≡ wait_names i (outcomes b b.edge.action) ++ map (λ (l : Location). l.name) (waiting_from C (suc i) bs)
    split = names_append (map (λ m. record { name = waiting i m; invariant = uppers C b }) (outcomes b b.edge.action)) (waiting_from C (suc i) bs)
        ∙ ap (λ (l : List Name). l ++ map (λ (q : Location). q.name) (waiting_from C (suc i) bs)) (wait-names i (uppers C b) (outcomes b b.edge.action))

    go : (n ∈ wait_names i (outcomes b b.edge.action)) ⊎ (n ∈ map (λ (l : Location). l.name) (waiting_from C (suc i) bs))
        → (n ∈ map (λ (l : Location). l.name) (waiting_from C (suc i) bs) → (f : ℕ) × (m : Option ℕ) × (suc i ≤ f) × (n ≡ waiting f m))
        → (f : ℕ) × (m : Option ℕ) × (i ≤ f) × (n ≡ waiting f m)
    go (inl h) ih = let r = from_map (waiting i) (outcomes b b.edge.action) h in (i, r.0, omega arith, r.2)
    go (inr h) ih = let r = ih h in (r.0, r.1, omega (arith, r.2), r.3)

waiting_distinct : (s : Sizes) (C : Component) (i : ℕ) {bs : List Arc} → All (ArcIn s) bs → Distinct (map (λ (l : Location). l.name) (waiting_from C i bs))
unfolding waiting_from
waiting_distinct s C i empty = none_left
waiting_distinct s C i (more {x = b} {xs = bs} h a) =
    subst Distinct (sym split)
    (distinct_append (outcomes_distinct s b i b.edge.action h.action) (waiting_distinct s C (suc i) a)
    (λ n m k l e.
    let r = from_map (waiting i) (outcomes b b.edge.action) k in
    let t = waiting_late C (suc i) bs m l in
    let z : t.0 ≡ i = cc (r.2, t.3) in
    omega (arith, t.2)))
  where
    split : map (λ (l : Location). l.name) (map (λ m. record { name = waiting i m; invariant = uppers C b }) (outcomes b b.edge.action) ++ waiting_from C (suc i) bs)
        ≡ wait_names i (outcomes b b.edge.action) ++ map (λ (l : Location). l.name) (waiting_from C (suc i) bs)
    split = names_append (map (λ m. record { name = waiting i m; invariant = uppers C b }) (outcomes b b.edge.action)) (waiting_from C (suc i) bs)
        ∙ ap (λ (l : List Name). l ++ map (λ (q : Location). q.name) (waiting_from C (suc i) bs)) (wait-names i (uppers C b) (outcomes b b.edge.action))

waiting_named : (C : Component) (i j : ℕ) (bs : List Arc) (m : Option ℕ) (f : ℕ) → f ≡ i + j → j < length bs → m ∈ outcomes (get_or bs j no_arc) (get_or bs j no_arc).edge.action
    → waiting f m ∈ map (λ (l : Location). l.name) (waiting_from C i bs)
unfolding waiting_from
waiting_named C i j [] m f q h k = absurd (omega arith)
waiting_named C i j (b ∷ bs) m f q h k =
    subst (λ (l : List Name). waiting f m ∈ l)
    (sym (names_append (map (λ o. record { name = waiting i o; invariant = uppers C b }) (outcomes b b.edge.action)) (waiting_from C (suc i) bs)
    ∙ ap (λ (l : List Name). l ++ map (λ (r : Location). r.name) (waiting_from C (suc i) bs)) (wait-names i (uppers C b) (outcomes b b.edge.action))))
    (go j q h k (λ j' q' h' k'. waiting_named C (suc i) j' bs m f q' h' k'))
  where
    go : (j : ℕ) → f ≡ i + j → j < length (b ∷ bs) → m ∈ outcomes (get_or (b ∷ bs) j no_arc) (get_or (b ∷ bs) j no_arc).edge.action
        → ((j' : ℕ) → f ≡ suc i + j' → j' < length bs → m ∈ outcomes (get_or bs j' no_arc) (get_or bs j' no_arc).edge.action → waiting f m ∈ map (λ (l : Location). l.name) (waiting_from C (suc i) bs))
        → waiting f m ∈ (wait_names i (outcomes b b.edge.action) ++ map (λ (r : Location). r.name) (waiting_from C (suc i) bs))
    go zero q h k ih =
        let e : f ≡ i = omega (arith, q) in
        (in_append (wait_names i (outcomes b b.edge.action)) (map (λ (r : Location). r.name) (waiting_from C (suc i) bs))).1
        (inl (subst (λ n. waiting n m ∈ wait_names i (outcomes b b.edge.action)) (sym e) (in_map (waiting i) k)))
    go (suc j) q h k ih =
        (in_append (wait_names i (outcomes b b.edge.action)) (map (λ (r : Location). r.name) (waiting_from C (suc i) bs))).1 (inr (ih j (omega (arith, q)) (omega arith) k))

module _ {header : TableHeader} (C : Component) (k : ComponentIn header C) where
  all_names : names_of (process_for C)
      ≡ map (λ (l : Location). l.name) (map (plain_location C) (below (length C.locations))) ++ map (λ (l : Location). l.name) (waiting_from C 0 C.arcs)
  unfolding process_for
  all_names = names_append (map (plain_location C) (below (length C.locations))) (waiting_from C 0 C.arcs)

  location_named : (l : ℕ) → l < length C.locations → location l ∈ names_of (process_for C)
  location_named l h =
      subst (λ (ns : List Name). location l ∈ ns) (sym all_names)
      ((in_append (map (λ (q : Location). q.name) (map (plain_location C) (below (length C.locations)))) (map (λ (q : Location). q.name) (waiting_from C 0 C.arcs))).1 (inl (plain_named C 0 (length C.locations) l (omega arith) (omega arith))))

  outcome_named : (e : ℕ) (m : Option ℕ) → e < length C.arcs → m ∈ outcomes (arc_of C e) (arc_of C e).edge.action → waiting e m ∈ names_of (process_for C)
  outcome_named e m h o =
      subst (λ (ns : List Name). waiting e m ∈ ns) (sym all_names)
      ((in_append (map (λ (q : Location). q.name) (map (plain_location C) (below (length C.locations)))) (map (λ (q : Location). q.name) (waiting_from C 0 C.arcs))).1 (inr (waiting_named C 0 e C.arcs m e (omega arith) h o)))

  names_distinct : Distinct (names_of (process_for C))
  names_distinct =
      subst Distinct (sym all_names)
      (distinct_append (plain_names C 0 (length C.locations)) (waiting_distinct (sizes_of header C) C 0 k.arcs) apart)
    where
      plain_is : (i n : ℕ) (x : Name) → x ∈ map (λ (l : Location). l.name) (map (plain_location C) (from i n)) → (l : ℕ) × (x ≡ location l)
      plain_is i zero x h = absurd (Rattle.model.proofs.Basics.Members.not_in h)
      plain_is i (suc n) x (here e) = (i, e)
      plain_is i (suc n) x (there h) = plain_is (suc i) n x h

      apart : (n m : Name) → n ∈ map (λ (l : Location). l.name) (map (plain_location C) (below (length C.locations))) → m ∈ map (λ (l : Location). l.name) (waiting_from C 0 C.arcs) → m ≡ n → ⊥
      apart n m i j e =
          let a = plain_is 0 (length C.locations) n i in
          let b = waiting_late C 0 C.arcs m j in
          let z : ◌≡◌ {A = ℕ} 0 1 = cc (a.1, b.3) in
          omega arith

  -- ## Clocks, variables, channels

  arc-at : (e : ℕ) → e < length C.arcs → ArcIn (sizes_of header C) (arc_of C e)
  arc-at e h = all_at no_arc k.arcs e h

  uppers_in : (e : ℕ) → e < length C.arcs → All (λ (u : Upper). u.clock < C.clocks) (uppers C (arc_of C e))
  uppers_in e h =
      more (all_at no_location k.locations (arc_of C e).edge.source (arc-at e h).source).clock (go (arc-at e h).clock_guards)
    where
      go : {gs : List ClockGuard} → All (ClockGuardIn (sizes_of header C)) gs → All (λ (u : Upper). u.clock < C.clocks) (highs gs)
      go empty = empty
      go (more {x = g} {xs = gs} i a) = either (eqb g.high 65535) (go a)
        where
          either : (b : Bool) → All (λ (u : Upper). u.clock < C.clocks) (highs gs)
              → All (λ (u : Upper). u.clock < C.clocks) (cond b (highs gs) (record { clock = g.clock; bound = g.high } ∷ highs gs))
          either true r = r
          either false r = more i.clock r

  window_in : {us : List Upper} → All (λ (u : Upper). u.clock < C.clocks) us → All (AtomIn (process_for C)) (map at_most us)
  unfolding process_for
  window_in empty = empty
  window_in (more h a) = more h (window_in a)

  ends_in : {us : List Upper} → All (λ (u : Upper). u.clock < C.clocks) us → (g : List Atom) → g ∈ ends us → All (AtomIn (process_for C)) g
  unfolding ends process_for
  ends_in (more {x = u} {xs = us} h a) g (here e) = subst (All (AtomIn (process_for C))) (sym e) (more h (window_in a))
  ends_in (more {x = u} {xs = us} h a) g (there m) =
      let r = from_map (λ g'. Rattle.uppaal.specs.Xta.below u ∷ g') (ends us) m in
      subst (All (AtomIn (process_for C))) (sym r.2) (more h (ends_in a r.0 r.1))
  ends_in empty g x3 = elim x3 [ ]

  lows_in : {gs : List ClockGuard} → All (ClockGuardIn (sizes_of header C)) gs → All (AtomIn (process_for C)) (lows gs)
  unfolding process_for
  lows_in empty = empty
  lows_in (more i a) = more i.clock (lows_in a)

  data_in : {gs : List DataGuard} → All (DataGuardIn (sizes_of header C)) gs → All (AtomIn (process_for C)) (data_atoms gs)
  unfolding process_for
  data_in empty = empty
  data_in (more i a) = more i.variable (more i.variable (data_in a))

  stays_in : (v : ℕ) (s : Sum) → v < C.variables → All (AtomIn (process_for C)) (stays v s)
  unfolding process_for
  stays_in v (numbered z) h = go (in_range z)
    where
      go : (b : Bool) → All (AtomIn (process_for C)) (cond b [] (never ∷ []))
      go true = empty
      go false = more tt empty
  stays_in v (further z) h = more h (more h empty)

  ranges_in : (done : List Update) {us : List Update} → All (UpdateIn (sizes_of header C)) us → All (AtomIn (process_for C)) (range_atoms done us)
  unfolding range_atoms
  ranges_in done empty = empty
  ranges_in done (more {x = u} {xs = us} i a) = all_join (go u.adds (plus (summed u.variable (further (pos 0)) done) u.number)) (ranges_in (snoc done u) a)
    where
      go : (b : Bool) (s : Sum) → All (AtomIn (process_for C)) (cond b (stays u.variable s) [])
      go true s = stays_in u.variable s i.variable
      go false s = empty

  others_in' : (e : ℕ) → e < length C.arcs → All (AtomIn (process_for C)) (others (arc_of C e))
  unfolding others
  others_in' e h =
      all_join (lows_in (arc-at e h).clock_guards)
      (all_join (data_in (arc-at e h).data_guards) (ranges_in [] (updates_in (sizes_of header C) (arc_of C e) (arc_of C e).edge.action (arc-at e h).action)))

  entries_in : (e : ℕ) → e < length C.arcs → (x : Action) (m : Option ℕ) (g : List Atom) → g ∈ entries (uppers C (arc_of C e)) x m → All (AtomIn (process_for C)) g
  entries_in e h Internal m g i = subst (All (AtomIn (process_for C))) (sym (only-member i)) (window_in (uppers_in e h))
  entries_in e h (Send j) m g i = subst (All (AtomIn (process_for C))) (sym (only-member i)) (window_in (uppers_in e h))
  entries_in e h Receive (some j) g i = subst (All (AtomIn (process_for C))) (sym (only-member i)) (window_in (uppers_in e h))
  entries_in e h Receive none g i = ends_in (uppers_in e h) g i

  sync_in : (a : Arc) (x : Action) (m : Option ℕ) → ActionIn (sizes_of header C) a x → m ∈ outcomes a x → SyncIn header.channels (sync_of x m)
  sync_in a x none h o = tt
  sync_in a Internal (some j) h o = tt
  sync_in a (Send n) (some j) h o = let e = only-member o in let z : j ≡ n = cc in subst (λ i. i < header.channels) (sym z) h.channel
  sync_in a Receive (some j) h o = go ((in_append (map (λ (q : Pair). some q.channel) a.pairs) (none ∷ [])).0 o)
    where
      go : (some j ∈ map (λ (q : Pair). some q.channel) a.pairs) ⊎ (some j ∈ (none ∷ [])) → j < header.channels
      go (inl i) = let r = from_map (λ (q : Pair). some q.channel) a.pairs i in let z : j ≡ r.0.channel = cc r.2 in subst (λ n. n < header.channels) (sym z) (all_in h.pairs r.1).channel
      go (inr i) = let e = only-member i in let z : ◌≡◌ {A = ℕ} 0 1 = cc in absurd (omega arith)

  below_in : (i n j : ℕ) → j ∈ from i n → j < i + n
  below_in i zero j h = absurd (Rattle.model.proofs.Basics.Members.not_in h)
  below_in i (suc n) j (here e) = omega (arith, e)
  below_in i (suc n) j (there h) = omega (arith, below_in (suc i) n j h)

  assignments_in : (e : ℕ) → e < length C.arcs → All (AssignmentIn (process_for C)) (assignments_of C.clocks (arc_of C e))
  unfolding assignments_of process_for
  assignments_in e h =
      all_join
      (all_map assignment_of (λ u i. go u.adds u i.variable) (updates_in (sizes_of header C) (arc_of C e) (arc_of C e).edge.action (arc-at e h).action))
      (all_map resets (λ i (l : i < C.clocks). l) (in_all (only (masked (arc_of C e).edge.mask) (below C.clocks)) (λ i m. omega (arith, below_in 0 C.clocks i ((only_is (masked (arc_of C e).edge.mask) (below C.clocks)).0 m).0))))
    where
      go : (b : Bool) (u : Update) → u.variable < C.variables → AssignmentIn (process_for C) (cond b (Rattle.uppaal.specs.Xta.adds u.variable u.number) (Rattle.uppaal.specs.Xta.sets_to u.variable u.number))
      go true u l = l
      go false u l = l

  -- ## Transitions

  written_in : (e : ℕ) → e < length C.arcs → (o : Option ℕ) → o ∈ outcomes (arc_of C e) (arc_of C e).edge.action → (g : List Atom) → All (AtomIn (process_for C)) g
      → TransitionIn header.channels (process_for C) (step_in_with e (arc_of C e) o g)
  unfolding step_in_with
  written_in e h o i g a =
      record {
        source = location_named (arc_of C e).edge.source (arc-at e h).source;
        target = outcome_named e o h i;
        guard = all_join a (others_in' e h);
        sync = sync_in (arc_of C e) (arc_of C e).edge.action o (arc-at e h).action i;
        assignments = empty;
      }

  written_out : (e : ℕ) → e < length C.arcs → (o : Option ℕ) → o ∈ outcomes (arc_of C e) (arc_of C e).edge.action → (g : List Atom) → All (AtomIn (process_for C)) g
      → TransitionIn header.channels (process_for C) (step_out_with C.clocks e (arc_of C e) o g)
  unfolding step_out_with
  written_out e h o i g a =
      record {
        source = outcome_named e o h i;
        target = location_named (leads_to (arc_of C e) o) (leads_in (sizes_of header C) (arc_of C e) o (arc-at e h).destination (pairs_in (sizes_of header C) (arc_of C e) (arc_of C e).edge.action (arc-at e h).action));
        guard = a;
        sync = tt;
        assignments = assignments_in e h;
      }

  transition_in : (t : Transition) → t ∈ (process_for C).transitions → TransitionIn header.channels (process_for C) t
  transition_in t m = let r = picked C t m in go r.0 r.1 r.2.0 r.2.1 r.2.2
    where
      go : (e : ℕ) → e < length C.arcs → (o : Option ℕ) → o ∈ outcomes (arc_of C e) (arc_of C e).edge.action → Picked C t e (arc_of C e) o → TransitionIn header.channels (process_for C) t
      go e h o i (is_in g v q) = subst (TransitionIn header.channels (process_for C)) (sym q) (written_in e h o i g (entries_in e h (arc_of C e).edge.action o g v))
      go e h o i (is_out g v q) = subst (TransitionIn header.channels (process_for C)) (sym q) (written_out e h o i g (ends_in (uppers_in e h) g v))

  -- ## Locations

  waiting_in : (i : ℕ) (bs : List Arc) → ((j : ℕ) → j < length bs → All (λ (u : Upper). u.clock < C.clocks) (uppers C (get_or bs j no_arc)))
      → All (λ (l : Location). All (λ (u : Upper). u.clock < C.clocks) l.invariant) (waiting_from C i bs)
  unfolding waiting_from
  waiting_in i [] f = empty
  waiting_in i (b ∷ bs) f = all_join (mapped (outcomes b b.edge.action)) (waiting_in (suc i) bs (λ j h. f (suc j) (omega arith)))
    where
      mapped : (os : List (Option ℕ)) → All (λ (l : Location). All (λ (u : Upper). u.clock < C.clocks) l.invariant) (map (λ m. record { name = waiting i m; invariant = uppers C b }) os)
      mapped [] = empty
      mapped (o ∷ os) = more (f 0 (omega arith)) (mapped os)

  plain_in : (i n : ℕ) → i + n ≤ length C.locations → All (λ (l : Location). All (λ (u : Upper). u.clock < C.clocks) l.invariant) (map (plain_location C) (from i n))
  plain_in i zero h = empty
  plain_in i (suc n) h = more (more (all_at no_location k.locations i (omega arith)).clock empty) (plain_in (suc i) n (omega arith))

  process_in : ProcessIn header.channels (process_for C)
  unfolding process_for
  process_in =
      record {
        names = names_distinct;
        initial = location_named C.initial k.initial;
        invariants = all_join (plain_in 0 (length C.locations) (omega arith)) (waiting_in 0 C.arcs uppers_in);
        transitions = in_all (process_for C).transitions transition_in;
      }

pub declared : (T : Table) → Limited T → Declared (system_for T)
unfolding system_for
declared T L = all_map process_for (λ C k. process_in C k) L.components
