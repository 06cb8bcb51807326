-- What is written for a table in its limits has small numbers, so it is read back. Assumes nothing.
use mathlib.Core.Path.{◌≡◌, refl, sym, ap, subst, ◌∙◌}
use mathlib.Core.Logic.{◌⊎◌, inl, inr, ⊎_elim}
use mathlib.Core.Bool.{Bool, true, false, cond}
use mathlib.Core.List.{List, [], ◌∷◌, ◌++◌, map}
use mathlib.Core.Option.{Option, none, some}
use Prim.Native.Nat.{ℕ, zero, suc, ◌+◌, ◌-◌, ◌*◌, ◌≤◌, ◌<◌}
use native.Mathlib.Omega.{arith}
use borrow.Author.Tests.{ltb-true, ltb-false}
use lib.Dec.{eqb, ltb, leb}
use lib.IntN.{ℤ, pos, negsuc, ◌+ℤ◌, sub_ℕ}
use lib.ListN.{length, get_or, length-map, length-append}
use Rattle.model.specs.declared.Action.{Action}
use Rattle.model.specs.declared.Action.TheVariants.{Internal, Send, Receive}
use Rattle.model.specs.declared.ClockGuard.{ClockGuard}
use Rattle.model.specs.declared.DataGuard.{DataGuard}
use Rattle.model.specs.declared.Pair.{Pair}
use Rattle.model.specs.declared.Sizes.{Sizes}
use Rattle.model.specs.declared.Update.{Update}
use Rattle.model.specs.declared.TableHeader.{TableHeader}
use Rattle.model.specs.Lists.{All, empty, more, ◌∈◌, here, there, Answer, accepted, only, from, snoc}
use Rattle.model.specs.Table.{Arc, Component, Table, Read, no_arc, no_location, sizes_of, arc_of, location_of}
use Rattle.model.specs.Limits.{Int16, LocationIn, ClockGuardIn, DataGuardIn, UpdateIn, PairIn, ActionIn, ArcIn, ComponentIn, InLimits}
use Rattle.model.specs.Reader.{read_table}
use Rattle.model.specs.Window.{masked, in_range, leads_to}
use Rattle.model.proofs.Basics.Members.{in_append, only_is}
use Rattle.model.proofs.Basics.Members.{alone as only-member}
use Rattle.model.proofs.Basics.Walk.{all_at}
use Rattle.model.proofs.Basics.Words.{all_join}
use Rattle.model.proofs.Schedule.Own.{in_all, all_in}
use Rattle.model.proofs.Reader.Limits.{read_limits}
use Rattle.uppaal.specs.Xta.{Name, location, waiting, Upper, Atom, at_most, exactly, at_least, value_at_least, value_at_most, sum_at_least, sum_at_most, never, Sync, sends, receives, Assignment, resets, Transition, Location, Process, System}
use Rattle.uppaal.specs.XtaText.{system_text}
use Rattle.uppaal.specs.Export.{highs, uppers, ends, data_atoms, Sum, plus, after, stays, summed, range_atoms, lows, others, outcomes, sync_of, assignment_of, assignments_of, step_in_with, step_out_with, entries, plain_location, waiting_from, process_for, system_for}
use Rattle.uppaal.specs.Export.{number as numbered, more as further}
use Rattle.uppaal.specs.Declared.{Declared}
use Rattle.uppaal.specs.XtaReading.{read_text}
use Rattle.uppaal.proofs.Ends.{in_map, from_map}
use Rattle.uppaal.proofs.Picks.{Picked, is_in, is_out, picked}
use Rattle.uppaal.proofs.Guards.{updates_in}
use Rattle.uppaal.proofs.Declares.{declared}
use Rattle.uppaal.proofs.XtaNumerals.{Nat32}
use Rattle.uppaal.proofs.XtaPrinted.{Int32, SmallUpper, SmallAtom, SmallAssignment, SmallSync, SmallTransition, SmallName, SmallProcess}
use Rattle.uppaal.proofs.XtaParsed.{SmallSystem}
use Rattle.uppaal.proofs.XtaResolved.{reads_back}

-- ## Sums

abbrev size_of : ℤ → ℕ
size_of (pos n) = n
size_of (negsuc n) = suc n

size_sub : (a b : ℕ) → size_of (sub_ℕ a b) ≤ a + b
size_sub a b = go (ltb a b) refl
  where
    go : (t : Bool) → ltb a b ≡ t → size_of (cond t (negsuc (b - suc a)) (pos (a - b))) ≤ a + b
    go true e = omega (arith, ltb-true a b e)
    go false e = omega arith

size_add : (x k : ℤ) → size_of (x +ℤ k) ≤ size_of x + size_of k
size_add (pos a) (pos b) = omega arith
size_add (pos a) (negsuc b) = omega (arith, size_sub a (suc b))
size_add (negsuc a) (pos b) = omega (arith, size_sub b (suc a))
size_add (negsuc a) (negsuc b) = omega arith

size_16 : (z : ℤ) → Int16 z → size_of z ≤ 32768
size_16 (pos n) h = omega arith
size_16 (negsuc n) h = omega arith

size_32 : (z : ℤ) → size_of z ≤ 1000000 → Int32 z
size_32 (pos n) h = omega arith
size_32 (negsuc n) h = omega arith

int_32 : (z : ℤ) → Int16 z → Int32 z
int_32 z h = size_32 z (omega (arith, size_16 z h))

-- so many numbers of 16 bits
abbrev Few : ℕ → Sum → Type 0
Few n (numbered z) = size_of z ≤ 32768 * n
Few n (further z) = size_of z ≤ 32768 * n

few_more : (n : ℕ) (s : Sum) → Few n s → Few (suc n) s
few_more n (numbered z) h = omega arith
few_more n (further z) h = omega arith

few_plus : (n : ℕ) (s : Sum) (k : ℤ) → Int16 k → Few n s → Few (suc n) (plus s k)
few_plus n (numbered z) k i h = omega (arith, size_add z k, size_16 k i)
few_plus n (further z) k i h = omega (arith, size_add z k, size_16 k i)

few_after : (n : ℕ) (s : Sum) (u : Update) → Int16 u.number → Few n s → Few (suc n) (after u s)
few_after n s u i h = go u.adds
  where
    go : (b : Bool) → Few (suc n) (cond b (plus s u.number) (numbered u.number))
    go true = few_plus n s u.number i h
    go false = omega (arith, size_16 u.number i)

few_summed : {z : Sizes} (v n : ℕ) (s : Sum) {us : List Update} → All (UpdateIn z) us → Few n s → Few (n + length us) (summed v s us)
unfolding summed
few_summed v n s empty h = let e : n ≡ n + 0 = omega arith in subst (λ (m : ℕ). Few m s) e h
few_summed {z} v n s (more {x = u} {xs = us} i a) h =
    let e : suc n + length us ≡ n + suc (length us) = omega arith in
    subst (λ (m : ℕ). Few m (summed v (cond (eqb u.variable v) (after u s) s) us)) e (few_summed v (suc n) (cond (eqb u.variable v) (after u s) s) a (go (eqb u.variable v)))
  where
    go : (b : Bool) → Few (suc n) (cond b (after u s) s)
    go true = few_after n s u i.number h
    go false = few_more n s h

stays_small : (v n : ℕ) (s : Sum) → Nat32 v → n ≤ 16 → Few n s → All SmallAtom (stays v s)
stays_small v n (numbered z) h l f = go (in_range z)
  where
    go : (b : Bool) → All SmallAtom (cond b [] (never ∷ []))
    go true = empty
    go false = more tt empty
stays_small v n (further z) h l f =
    let i : Int32 z = size_32 z (omega (arith, f)) in
    let low : Nat32 32768 = omega arith in
    let high : Nat32 32767 = omega arith in
    let a : SmallAtom (sum_at_least v z (negsuc 32767)) = (h, i, low) in
    let b : SmallAtom (sum_at_most v z (pos 32767)) = (h, i, high) in
    more a (more b empty)

updates_few : (s : Sizes) (a : Arc) (x : Action) → ActionIn s a x → length a.updates ≤ 4
updates_few s a Internal h = h.count
updates_few s a (Send k) h = subst (λ (us : List Update). length us ≤ 4) (sym h.updates) (omega arith)
updates_few s a Receive h = subst (λ (us : List Update). length us ≤ 4) (sym h.updates) (omega arith)

module _ {header : TableHeader} (C : Component) (k : ComponentIn header C) (few : header.channels ≤ 16) where
  abbrev Z : Sizes
  Z = sizes_of header C

  variable_small : (v : ℕ) → v < C.variables → Nat32 v
  variable_small v h = omega (arith, h, k.variables)

  clock_small : (i : ℕ) → i < C.clocks → Nat32 i
  clock_small i h = omega (arith, h, k.most_clocks)

  ranges_small : (done : List Update) {us : List Update} → All (UpdateIn Z) done → All (UpdateIn Z) us → length done + length us ≤ 4 → All SmallAtom (range_atoms done us)
  unfolding range_atoms
  ranges_small done d empty l = empty
  ranges_small done d (more {x = u} {xs = us} i a) l =
      let f = few_plus (0 + length done) (summed u.variable (further (pos 0)) done) u.number i.number (few_summed u.variable 0 (further (pos 0)) d (omega arith)) in
      let e = length-append done (u ∷ []) in
      all_join (go u.adds (plus (summed u.variable (further (pos 0)) done) u.number) f) (ranges_small (snoc done u) (all_join d (more i empty)) a (omega (arith, l, e)))
    where
      go : (b : Bool) (s : Sum) → Few (suc (0 + length done)) s → All SmallAtom (cond b (stays u.variable s) [])
      go true s f = stays_small u.variable (suc (0 + length done)) s (variable_small u.variable i.variable) (omega (arith, l)) f
      go false s f = empty

  arc-at : (e : ℕ) → e < length C.arcs → ArcIn Z (arc_of C e)
  arc-at e h = all_at no_arc k.arcs e h

  high_small : (n : ℕ) → (n ≤ 60000) ⊎ (n ≡ 65535) → Nat32 n
  high_small n (inl h) = omega (arith, h)
  high_small n (inr h) = omega (arith, h)

  uppers_small : (e : ℕ) → e < length C.arcs → All SmallUpper (uppers C (arc_of C e))
  uppers_small e h =
      let q = all_at no_location k.locations (arc_of C e).edge.source (arc-at e h).source in
      let b : Nat32 (location_of C (arc_of C e).edge.source).bound = omega (arith, q.bound) in
      more (record { clock = clock_small (location_of C (arc_of C e).edge.source).clock q.clock; bound = b }) (go (arc-at e h).clock_guards)
    where
      go : {gs : List ClockGuard} → All (ClockGuardIn Z) gs → All SmallUpper (highs gs)
      go empty = empty
      go (more {x = g} {xs = gs} i a) = either (eqb g.high 65535) (go a)
        where
          either : (b : Bool) → All SmallUpper (highs gs) → All SmallUpper (cond b (highs gs) (record { clock = g.clock; bound = g.high } ∷ highs gs))
          either true r = r
          either false r = more (record { clock = clock_small g.clock i.clock; bound = high_small g.high i.high }) r

  window_small : {us : List Upper} → All SmallUpper us → All SmallAtom (map at_most us)
  window_small empty = empty
  window_small (more h a) = more h (window_small a)

  ends_small : {us : List Upper} → All SmallUpper us → (g : List Atom) → g ∈ ends us → All SmallAtom g
  unfolding ends
  ends_small (more {x = u} {xs = us} h a) g (here e) = subst (All SmallAtom) (sym e) (more h (window_small a))
  ends_small (more {x = u} {xs = us} h a) g (there m) =
      let r = from_map (λ g'. Rattle.uppaal.specs.Xta.below u ∷ g') (ends us) m in
      subst (All SmallAtom) (sym r.2) (more h (ends_small a r.0 r.1))
  ends_small empty g x3 = elim x3 [ ]

  lows_small : {gs : List ClockGuard} → All (ClockGuardIn Z) gs → All SmallAtom (lows gs)
  lows_small empty = empty
  lows_small (more {x = g} i a) =
      let n : Nat32 g.low = omega (arith, i.low) in
      let b : SmallAtom (at_least g.clock g.low) = (clock_small g.clock i.clock, n) in
      more b (lows_small a)

  data_small : {gs : List DataGuard} → All (DataGuardIn Z) gs → All SmallAtom (data_atoms gs)
  data_small empty = empty
  data_small (more {x = g} i a) =
      let v = variable_small g.variable i.variable in
      let b : SmallAtom (value_at_least g.variable g.low) = (v, int_32 g.low i.low) in
      let c : SmallAtom (value_at_most g.variable g.high) = (v, int_32 g.high i.high) in
      more b (more c (data_small a))

  others_small : (e : ℕ) → e < length C.arcs → All SmallAtom (others (arc_of C e))
  unfolding others
  others_small e h =
      let x = (arc_of C e).edge.action in
      all_join (lows_small (arc-at e h).clock_guards)
      (all_join (data_small (arc-at e h).data_guards) (ranges_small [] empty (updates_in Z (arc_of C e) x (arc-at e h).action) (omega (arith, updates_few Z (arc_of C e) x (arc-at e h).action))))

  entries_small : (e : ℕ) → e < length C.arcs → (x : Action) (m : Option ℕ) (g : List Atom) → g ∈ entries (uppers C (arc_of C e)) x m → All SmallAtom g
  entries_small e h Internal m g i = subst (All SmallAtom) (sym (only-member i)) (window_small (uppers_small e h))
  entries_small e h (Send j) m g i = subst (All SmallAtom) (sym (only-member i)) (window_small (uppers_small e h))
  entries_small e h Receive (some j) g i = subst (All SmallAtom) (sym (only-member i)) (window_small (uppers_small e h))
  entries_small e h Receive none g i = ends_small (uppers_small e h) g i

  -- a channel of an outcome
  abbrev SmallOutcome : Option ℕ → Type 0
  SmallOutcome none = Unit {0}
  SmallOutcome (some j) = Nat32 j

  outcome_small : (a : Arc) (x : Action) → ActionIn Z a x → (m : Option ℕ) → m ∈ outcomes a x → SmallOutcome m
  outcome_small a x h none o = tt
  outcome_small a Internal h (some j) o = let e = only-member o in let z : ◌≡◌ {A = ℕ} 0 1 = cc in absurd (omega arith)
  outcome_small a (Send n) h (some j) o = let e = only-member o in let z : j ≡ n = cc in omega (arith, z, h.channel, few)
  outcome_small a Receive h (some j) o = go ((in_append (map (λ (q : Pair). some q.channel) a.pairs) (none ∷ [])).0 o)
    where
      go : (some j ∈ map (λ (q : Pair). some q.channel) a.pairs) ⊎ (some j ∈ (none ∷ [])) → Nat32 j
      go (inl i) = let r = from_map (λ (q : Pair). some q.channel) a.pairs i in let z : j ≡ r.0.channel = cc r.2 in omega (arith, z, (all_in h.pairs r.1).channel, few)
      go (inr i) = let e = only-member i in let z : ◌≡◌ {A = ℕ} 0 1 = cc in absurd (omega arith)

  sync_small : (x : Action) (m : Option ℕ) → SmallOutcome m → SmallSync (sync_of x m)
  sync_small x none h = tt
  sync_small Internal (some j) h = tt
  sync_small (Send n) (some j) h = h
  sync_small Receive (some j) h = h

  assignments_small : (e : ℕ) → e < length C.arcs → All SmallAssignment (assignments_of C.clocks (arc_of C e))
  unfolding assignments_of
  assignments_small e h =
      all_join (updates (updates_in Z (arc_of C e) (arc_of C e).edge.action (arc-at e h).action))
      (reset (in_all (only (masked (arc_of C e).edge.mask) (from 0 C.clocks)) (λ i m. below_in 0 C.clocks i ((only_is (masked (arc_of C e).edge.mask) (from 0 C.clocks)).0 m).0)))
    where
      below_in : (i n j : ℕ) → j ∈ from i n → j < i + n
      below_in i zero j h = absurd (Rattle.model.proofs.Basics.Members.not_in h)
      below_in i (suc n) j (here e) = omega (arith, e)
      below_in i (suc n) j (there h) = omega (arith, below_in (suc i) n j h)

      reset : {is : List ℕ} → All (λ i. i < 0 + C.clocks) is → All SmallAssignment (map resets is)
      reset empty = empty
      reset (more {x = i} l a) = more (clock_small i (omega (arith, l))) (reset a)

      updates : {us : List Update} → All (UpdateIn Z) us → All SmallAssignment (map assignment_of us)
      updates empty = empty
      updates (more {x = u} i a) = more (go u.adds) (updates a)
        where
          go : (b : Bool) → SmallAssignment (cond b (Rattle.uppaal.specs.Xta.adds u.variable u.number) (Rattle.uppaal.specs.Xta.sets_to u.variable u.number))
          go true = (variable_small u.variable i.variable, int_32 u.number i.number)
          go false = (variable_small u.variable i.variable, int_32 u.number i.number)

  transition_small : (t : Transition) → t ∈ (process_for C).transitions → SmallTransition t
  unfolding step_in_with step_out_with
  transition_small t m = let r = picked C t m in go r.0 r.1 r.2.0 r.2.1 r.2.2
    where
      go : (e : ℕ) → e < length C.arcs → (o : Option ℕ) → o ∈ outcomes (arc_of C e) (arc_of C e).edge.action → Picked C t e (arc_of C e) o → SmallTransition t
      go e h o i (is_in g v q) =
          subst SmallTransition (sym q)
          (record {
            sync = sync_small (arc_of C e).edge.action o (outcome_small (arc_of C e) (arc_of C e).edge.action (arc-at e h).action o i);
            guard = all_join (entries_small e h (arc_of C e).edge.action o g v) (others_small e h);
            assignments = empty;
          })
      go e h o i (is_out g v q) =
          subst SmallTransition (sym q) (record { sync = tt; guard = ends_small (uppers_small e h) g v; assignments = assignments_small e h })

  -- ## Locations

  pub record SmallLocation (l : Location) : Type 0 where
    pub name : SmallName l.name
    pub bounds : All SmallUpper l.invariant

  plain_small : (i n : ℕ) → i + n ≤ length C.locations → All SmallLocation (map (plain_location C) (from i n))
  plain_small i zero h = empty
  plain_small i (suc n) h =
      let q = all_at no_location k.locations i (omega arith) in
      let name : Nat32 i = omega (arith, h, k.most_locations) in
      let b : Nat32 (location_of C i).bound = omega (arith, q.bound) in
      let u : SmallUpper (record { clock = (location_of C i).clock; bound = (location_of C i).bound }) = record { clock = clock_small (location_of C i).clock q.clock; bound = b } in
      let s : SmallLocation (plain_location C i) = record { name = name; bounds = more u empty } in
      more s (plain_small (suc i) n (omega arith))

  wait_name : (i : ℕ) → Nat32 i → (m : Option ℕ) → SmallOutcome m → SmallName (waiting i m)
  wait_name i h none o = h
  wait_name i h (some j) o = (h, o)

  waiting_small : (i : ℕ) (bs : List Arc) → i + length bs ≤ 32 → All (ArcIn Z) bs → ((j : ℕ) → j < length bs → All SmallUpper (uppers C (get_or bs j no_arc))) → All SmallLocation (waiting_from C i bs)
  unfolding waiting_from
  waiting_small i [] l a f = empty
  waiting_small i (b ∷ bs) l (more h a) f =
      all_join (mapped (outcomes b b.edge.action) (λ m o. outcome_small b b.edge.action h.action m o)) (waiting_small (suc i) bs (omega (arith, l)) a (λ j q. f (suc j) (omega arith)))
    where
      mapped : (os : List (Option ℕ)) → ((m : Option ℕ) → m ∈ os → SmallOutcome m) → All SmallLocation (map (λ m. record { name = waiting i m; invariant = uppers C b }) os)
      mapped [] g = empty
      mapped (o ∷ os) g = more (record { name = wait_name i (omega (arith, l)) o (g o (here refl)); bounds = f 0 (omega arith) }) (mapped os (λ m q. g m (there q)))

  locations_small : All SmallLocation (process_for C).locations
  unfolding process_for
  locations_small = all_join (plain_small 0 (length C.locations) (omega arith)) (waiting_small 0 C.arcs (omega (arith, k.most_arcs)) k.arcs uppers_small)

  each_of : {P : Location → Type 0} → ((l : Location) → SmallLocation l → P l) → {ls : List Location} → All SmallLocation ls → All P ls
  each_of f empty = empty
  each_of f (more {x = l} h a) = more (f l h) (each_of f a)

  some_locations : 0 < length (process_for C).locations
  unfolding process_for
  some_locations =
      let e = length-append (map (plain_location C) (from 0 (length C.locations))) (waiting_from C 0 C.arcs) in
      let f = length-map (from 0 (length C.locations)) (plain_location C) in
      omega (arith, e, f, from_length 0 (length C.locations), k.least_locations)
    where
      from_length : (i n : ℕ) → length (from i n) ≡ n
      from_length i zero = refl
      from_length i (suc n) = ap suc (from_length (suc i) n)

  process_small : SmallProcess (process_for C)
  unfolding process_for
  process_small =
      record {
        names = each_of (λ l h. h.name) locations_small;
        clocks = omega (arith, k.most_clocks);
        variables = omega (arith, k.variables);
        least = some_locations;
        locations = each_of (λ l h. h.bounds) locations_small;
        transitions = in_all (process_for C).transitions transition_small;
      }

-- ## Of every table that is read

all_each : {header : TableHeader} → header.channels ≤ 16 → {Cs : List Component} → All (ComponentIn header) Cs → All SmallProcess (map process_for Cs)
all_each few empty = empty
all_each few (more {x = C} k a) = more (process_small C k few) (all_each few a)

pub system_small : (t : Read) → InLimits t → SmallSystem (system_for t.table)
unfolding system_for
system_small t h =
    let e = length-map t.table.components process_for in
    record {
      channels = omega (arith, h.channels);
      least = omega (arith, e, h.least_components);
      most = omega (arith, e, h.most_components);
      processes = all_each h.channels h.components;
    }

-- the bytes are read back to the parts that were printed
pub exported_reads : (bs : List ℕ) (t : Read) → read_table bs ≡ accepted t → read_text (system_text (system_for t.table)) ≡ some (system_for t.table)
exported_reads bs t e =
    let h = read_limits bs t e in
    reads_back (system_for t.table) (system_small t h) (declared t.table (record { budgets = leb 3 t.version; components = h.components }))

pub exported_declared : (bs : List ℕ) (t : Read) → read_table bs ≡ accepted t → Declared (system_for t.table)
exported_declared bs t e = declared t.table (record { budgets = leb 3 t.version; components = (read_limits bs t e).components })
