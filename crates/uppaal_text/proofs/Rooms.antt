-- How long the text of a table within its limits is at most: edge by edge, by their counts of items. Assumes nothing.
use mathlib.Core.Path.{◌≡◌, refl, sym, ap, subst, ◌∙◌}
use mathlib.Core.Logic.{◌⊎◌, inl, inr}
use mathlib.Core.Bool.{Bool, true, false, cond}
use mathlib.Core.List.{List, [], ◌∷◌, ◌++◌, map}
use mathlib.Core.Option.{Option, none, some}
use Prim.Native.Nat.{ℕ, zero, suc, ◌+◌, ◌*◌, ◌≤◌, ◌<◌}
use Prim.Native.String.{String}
use native.Mathlib.Nat.{mul-le-mul_right}
use native.Mathlib.Omega.{arith}
use lib.Dec.{eqb}
use lib.ListN.{length, length-append, length-map}
use Rattle.model.specs.declared.Action.{Action}
use Rattle.model.specs.declared.Action.TheVariants.{Internal, Send, Receive}
use Rattle.model.specs.declared.Sizes.{Sizes}
use Rattle.model.specs.declared.ClockGuard.{ClockGuard}
use Rattle.model.specs.declared.Pair.{Pair}
use Rattle.model.specs.Lists.{All, empty, more, from}
use Rattle.model.specs.Table.{Arc, Component, Read, header_of, sizes_of, no_location, location_of}
use Rattle.model.specs.declared.TableHeader.{TableHeader}
use Rattle.model.specs.Limits.{ClockGuardIn, UpdateIn, PairIn, ActionIn, ArcIn, ComponentIn, InLimits}
use Rattle.model.specs.Window.{listens, paired, leads_to}
use Rattle.model.proofs.Basics.Sums.{total, total_most, total_const, length_from}
use Rattle.model.proofs.Basics.Walk.{all_at}
use Rattle.model.proofs.Schedule.Own.{all_then, all_map}
use Rattle.words.specs.Words.{ascii}
use Rattle.uppaal.specs.Xta.{Location, waiting, Upper, Atom, at_most}
use Rattle.uppaal.specs.XtaText.{field, each_after, listed, against, atom_text, sync_text, location_text, assign_text, transition_text, declared, process_text, process_texts, system_text}
use Rattle.uppaal.specs.Export.{highs, uppers, ends, others, outcomes, entries, assignments_of, step_in_with, step_out_with, transitions_with, transitions_from, plain_location, waiting_from, process_for, system_for}
use Rattle.uppaal.proofs.One.{pairs_in}
use Rattle.uppaal_parts.proofs.Told.{after_append}
use Rattle.uppaal_text.proofs.Lengths.{Short, join, within, words, one_digit, two_digits, MessageIn, location_long, waiting_long, sync_long, after_long, after_join, listed_long, closed_long, UpperIn, atoms, most_long, mosts_long, ends_long, ends_count, guard_long, others_long, assigns_long}

-- ## Steps and waiting locations

nothing : Short (sync_text none) 0
nothing = record { most = omega arith }

none_assigned : Short (assign_text []) 0
unfolding assign_text listed
none_assigned = record { most = omega arith }

module _ (C : Component) (e : ℕ) (a : Arc) (few : length (uppers C a) ≤ 5) (good : All UpperIn (uppers C a)) (small : e < 100) (source : a.edge.source < 100) (targets : (m : Option ℕ) → leads_to a m < 100) where
  abbrev us : List Upper
  us = uppers C a

  -- a waiting location
  abbrev wait : Option ℕ → Location
  wait m = record { name = waiting e m; invariant = us }

  waits : (m : Option ℕ) → MessageIn m → Short (ascii ",\n  " ++ location_text (record { name = waiting e m; invariant = us })) 87
  unfolding location_text
  waits m i =
      let bound = within (after_long " && " (λ u. against u " <= ") 15 (all_then (λ u j. join (words " && ") (most_long u j)) good)) (let p : length us * 15 ≤ 4 + 71 = omega (arith, few) in p) in
      join (words ",\n  ") (join (waiting_long e m small i) (join (listed_long " && " (λ u. against u " <= ") " { " us 71 bound) (closed_long " }" us)))

  all_wait : {ms : List (Option ℕ)} → All MessageIn ms → Short (each_after ",\n  " location_text (map wait ms)) (length ms * 87)
  all_wait {ms} is =
      within (after_long ",\n  " location_text 87 (all_map wait (all_then (λ m i. waits m i) is))) (omega (arith, length-map ms wait))

  module _ (o k : ℕ) (asks : Short (atoms (others a)) o) (does : Short (assign_text (assignments_of C.clocks a)) k) where
    in_long : (m : Option ℕ) → MessageIn m → (g : List Atom) → Short (atoms g) 75 → Short (ascii ",\n  " ++ transition_text (step_in_with e a m g)) (112 + o)
    unfolding transition_text step_in_with
    in_long m i g h =
        within (join (words ",\n  ") (join (location_long a.edge.source source) (join (words " -> ") (join (waiting_long e m small i) (join (words " {")
        (join (guard_long (g ++ others a) (71 + o) (within (after_join " && " atom_text g (others a) h asks) (omega arith))) (join (sync_long a.edge.action m i) (join none_assigned (words " }")))))))))
        (omega arith)

    out_long : (m : Option ℕ) → MessageIn m → (g : List Atom) → Short (atoms g) 75 → Short (ascii ",\n  " ++ transition_text (step_out_with C.clocks e a m g)) (101 + k)
    unfolding transition_text step_out_with
    out_long m i g h =
        within (join (words ",\n  ") (join (waiting_long e m small i) (join (words " -> ") (join (location_long (leads_to a m) (targets m)) (join (words " {")
        (join (guard_long g 71 (within h (omega arith))) (join nothing (join does (words " }")))))))))
        (omega arith)

    short_ends : All (λ g. Short (atoms g) 75) (ends us)
    short_ends = all_then (λ g h. within h (let p : length us * 15 ≤ 75 = omega (arith, few) in p)) (ends_long good)

    five : {B : Type 0} (f : List Atom → B) (c : ℕ) → length (map f (ends us)) * c ≤ 5 * c
    five f c = mul-le-mul_right c (omega (arith, few, length-map (ends us) f, ends_count us))

    outs : (m : Option ℕ) → MessageIn m → Short (each_after ",\n  " transition_text (map (step_out_with C.clocks e a m) (ends us))) (5 * (101 + k))
    outs m i = within (after_long ",\n  " transition_text (101 + k) (all_map (step_out_with C.clocks e a m) (all_then (out_long m i) short_ends))) (five (step_out_with C.clocks e a m) (101 + k))

    ins : (m : Option ℕ) → MessageIn m → Short (each_after ",\n  " transition_text (map (step_in_with e a m) (ends us))) (5 * (112 + o))
    ins m i = within (after_long ",\n  " transition_text (112 + o) (all_map (step_in_with e a m) (all_then (in_long m i) short_ends))) (five (step_in_with e a m) (112 + o))

    one_in : (m : Option ℕ) → MessageIn m → Short (each_after ",\n  " transition_text (map (step_in_with e a m) (map at_most us ∷ []))) (1 * (112 + o))
    one_in m i = after_long ",\n  " transition_text (112 + o) (more (in_long m i (map at_most us) (within (mosts_long good) (let p : length us * 15 ≤ 75 = omega (arith, few) in p))) empty)

    -- an outcome before others: entered once, or as often as there are upper bounds
    module _ (m : Option ℕ) (i : MessageIn m) (ms : List (Option ℕ)) {b : ℕ} (rest : Short (each_after ",\n  " transition_text (transitions_with C e a ms)) b) where
      pub once : entries us a.edge.action m ≡ map at_most us ∷ [] → Short (each_after ",\n  " transition_text (transitions_with C e a (m ∷ ms))) (1 * (112 + o) + (5 * (101 + k) + b))
      unfolding transitions_with
      once q = rw q (after_join ",\n  " transition_text (map (step_in_with e a m) (map at_most us ∷ [])) _ (one_in m i) (after_join ",\n  " transition_text (map (step_out_with C.clocks e a m) (ends us)) (transitions_with C e a ms) (outs m i) rest))

      pub often : entries us a.edge.action m ≡ ends us → Short (each_after ",\n  " transition_text (transitions_with C e a (m ∷ ms))) (5 * (112 + o) + (5 * (101 + k) + b))
      unfolding transitions_with
      often q = rw q (after_join ",\n  " transition_text (map (step_in_with e a m) (ends us)) _ (ins m i) (after_join ",\n  " transition_text (map (step_out_with C.clocks e a m) (ends us)) (transitions_with C e a ms) (outs m i) rest))

  no_lines : Short (each_after ",\n  " transition_text (transitions_with C e a [])) 0
  unfolding transitions_with each_after
  no_lines = record { most = omega arith }

  -- the pairs of a receive edge, then its timeout
  heard : a.edge.action ≡ Receive → Short (atoms (others a)) 60 → Short (assign_text (assignments_of C.clocks a)) 43 → {qs : List Pair} → All (λ q. q.channel < 100) qs
      → Short (each_after ",\n  " transition_text (transitions_with C e a (map (λ q. some q.channel) qs ++ (none ∷ [])))) (length qs * 892 + 1580)
  heard r asks does empty = within (often 60 43 asks does none (record {}) [] no_lines (ap (λ (x : Action). entries us x none) r)) (omega arith)
  heard r asks does (more {x = q} {xs = qs} i is) =
      within (once 60 43 asks does (some q.channel) i (map (λ p. some p.channel) qs ++ (none ∷ [])) (heard r asks does is) (ap (λ (x : Action). entries us x (some q.channel)) r)) (omega arith)

-- ## An edge within its limits

-- what its lines take at most, by its counts of items
abbrev pub arc_room : Arc → ℕ
arc_room a = (length a.updates + length a.pairs) * 979 + 1667

highs_in : (s : Sizes) → s.clocks ≤ 4 → {gs : List ClockGuard} → All (ClockGuardIn s) gs → All UpperIn (highs gs)
highs_in s h empty = empty
highs_in s h (more {x = g} {xs = gs} i is) = go (eqb g.high 65535) (highs_in s h is)
  where
    high : (g.high ≤ 60000) ⊎ (g.high ≡ 65535) → g.high < 100000
    high (inl p) = omega (arith, p)
    high (inr p) = omega (arith, p)

    go : (b : Bool) → All UpperIn (highs gs) → All UpperIn (cond b (highs gs) (record { clock = g.clock; bound = g.high } ∷ highs gs))
    go true r = r
    go false r = more {x = record { clock = g.clock; bound = g.high }} (record { clock = omega (arith, i.clock, h); bound = high i.high }) r

highs_few : (gs : List ClockGuard) → length (highs gs) ≤ length gs
highs_few [] = omega arith
highs_few (g ∷ gs) = go (eqb g.high 65535) (highs_few gs)
  where
    go : (b : Bool) → length (highs gs) ≤ length gs → length (cond b (highs gs) (record { clock = g.clock; bound = g.high } ∷ highs gs)) ≤ suc (length gs)
    go true r = omega (arith, r)
    go false r = omega (arith, r)

paired_in : {s : Sizes} {qs : List Pair} → All (PairIn s) qs → s.locations ≤ 16 → (k : ℕ) {d : ℕ} → d < 100 → paired qs k d < 100
paired_in empty h k p = p
paired_in (more {x = q} {xs = qs} i is) h k {d} p = go (eqb q.channel k) (paired_in is h k p)
  where
    go : (b : Bool) → paired qs k d < 100 → cond b q.location (paired qs k d) < 100
    go true r = omega (arith, i.location, h)
    go false r = r

module _ (h : TableHeader) (C : Component) (channels : h.channels ≤ 16) (i : ComponentIn h C) where
  abbrev s : Sizes
  s = sizes_of h C

  -- the lines of an edge: its waiting locations and its transitions
  module _ (e : ℕ) (small : e < 100) (a : Arc) (j : ArcIn s a) where
    abbrev Lines : List (Option ℕ) → ℕ → Type 0
    Lines ms n =
        length (each_after ",\n  " location_text (map (λ m. record { name = waiting e m; invariant = uppers C a }) ms))
        + length (each_after ",\n  " transition_text (transitions_with C e a ms)) ≤ n

    few : length (uppers C a) ≤ 5
    few = omega (arith, highs_few a.clock_guards, j.count)

    good : All UpperIn (uppers C a)
    good =
        let l = all_at no_location i.locations a.edge.source j.source in
        let q = location_of C a.edge.source in
        more {x = record { clock = q.clock; bound = q.bound }} (record { clock = omega (arith, l.clock, i.most_clocks); bound = omega (arith, l.bound) }) (highs_in s i.most_clocks j.clock_guards)

    source : a.edge.source < 100
    source = omega (arith, j.source, i.most_locations)

    destination : a.edge.destination < 100
    destination = omega (arith, j.destination, i.most_locations)

    targets : (m : Option ℕ) → leads_to a m < 100
    targets none = destination
    targets (some k) = go (listens a)
      where
        go : (b : Bool) → cond b (paired a.pairs k a.edge.destination) a.edge.destination < 100
        go true = paired_in (pairs_in s a a.edge.action j.action) i.most_locations k destination
        go false = destination

    asks : (n u : ℕ) → length a.data_guards ≤ n → length a.updates ≤ u → All (UpdateIn s) a.updates → Short (atoms (others a)) (60 + (n * 32 + u * 78))
    asks n u p q us = within (others_long s i.most_clocks i.variables a j.clock_guards j.data_guards us) (omega (arith, p, q, j.count))

    does : (u : ℕ) → length a.updates ≤ u → All (UpdateIn s) a.updates → Short (assign_text (assignments_of C.clocks a)) (43 + u * 18)
    does u q us = within (assigns_long s i.variables a C.clocks i.most_clocks us) (omega (arith, q))

    -- a single outcome
    alone : (m : Option ℕ) → MessageIn m → entries (uppers C a) a.edge.action m ≡ map at_most (uppers C a) ∷ [] → length a.data_guards ≤ 4 → length a.updates ≤ 4
        → All (UpdateIn s) a.updates → Lines (m ∷ []) (arc_room a)
    alone m k q d u us =
        let n = length a.updates in
        let w = all_wait C e a few good small source targets (more {x = m} k empty) in
        let t = once C e a few good small source targets (60 + (4 * 32 + n * 78)) (43 + n * 18) (asks 4 n d (omega arith) us) (does n (omega arith) us) m k [] (no_lines C e a few good small source targets) q in
        omega (arith, w.most, t.most)

    messages : {qs : List Pair} → All (PairIn s) qs → All (λ q. q.channel < 100) qs
    messages = all_then (λ q p. omega (arith, p.channel, channels))

    all_in : {qs : List Pair} → All (λ q. q.channel < 100) qs → All MessageIn (map (λ q. some q.channel) qs ++ (none ∷ []))
    all_in empty = more {x = none} (record {}) empty
    all_in (more {x = q} p ps) = more {x = some q.channel} p (all_in ps)

    lines : (x : Action) → a.edge.action ≡ x → ActionIn s a x → Lines (outcomes a x) (arc_room a)
    lines Internal r k = alone none (record {}) (ap (λ (x : Action). entries (uppers C a) x none) r) k.guards k.count k.updates
    lines (Send c) r k =
        alone (some c) (omega (arith, k.channel, channels)) (ap (λ (x : Action). entries (uppers C a) x (some c)) r) k.guards
        (omega (arith, ap length k.updates)) (subst (λ us. All (UpdateIn s) us) (sym k.updates) empty)
    lines Receive r k =
        let none_left = subst (λ us. All (UpdateIn s) us) (sym k.updates) empty in
        let zero_left : length a.updates ≤ 0 = omega (arith, ap length k.updates) in
        let t = heard C e a few good small source targets r (asks 0 0 (omega (arith, ap length k.guards)) zero_left none_left) (does 0 zero_left none_left) (messages k.pairs) in
        let w = all_wait C e a few good small source targets (all_in (messages k.pairs)) in
        let c : length (map (λ q. some q.channel) a.pairs ++ (none ∷ [])) ≡ length a.pairs + 1 = length-append (map (λ q. some q.channel) a.pairs) (none ∷ []) ∙ ap (λ (n : ℕ). n + 1) (length-map a.pairs (λ q. some q.channel)) in
        omega (arith, w.most, t.most, c)

  arcs_long : (e : ℕ) {as' : List Arc} → e + length as' ≤ 100 → All (ArcIn s) as'
      → length (each_after ",\n  " location_text (waiting_from C e as')) + length (each_after ",\n  " transition_text (transitions_from C e as')) ≤ total arc_room as'
  unfolding waiting_from transitions_from total each_after
  arcs_long e p empty = omega arith
  arcs_long e p (more {x = a} {xs = as'} j js) =
      let ms = outcomes a a.edge.action in
      let f : Option ℕ → Location = λ m. record { name = waiting e m; invariant = uppers C a } in
      let h = lines e (omega (arith, p)) a j a.edge.action refl j.action in
      let r = arcs_long (suc e) (omega (arith, p)) js in
      omega (arith, h, r, ap length (after_append ",\n  " location_text (map f ms) (waiting_from C (suc e) as')), ap length (after_append ",\n  " transition_text (transitions_with C e a ms) (transitions_from C (suc e) as')), length-append (each_after ",\n  " location_text (map f ms)) (each_after ",\n  " location_text (waiting_from C (suc e) as')), length-append (each_after ",\n  " transition_text (transitions_with C e a ms)) (each_after ",\n  " transition_text (transitions_from C (suc e) as')))

-- ## A component

all_numbers : {P : ℕ → Type 0} (k n : ℕ) → ((x : ℕ) → x < k + n → P x) → All P (from k n)
all_numbers k zero h = empty
all_numbers k (suc n) h = more {x = k} (h k (omega arith)) (all_numbers (suc k) n (λ x q. h x (omega (arith, q))))

declared_long : (before letter : String) (n : ℕ) → length (ascii letter) ≡ 1 → n ≤ 16 → Short (declared before letter n) (length (ascii before) + n * 5 + 2)
unfolding declared
declared_long before letter n one few =
    let each-one = all_numbers {P = λ k. Short (ascii ", " ++ field letter k) 5} 0 n (λ k h. within (join (words ", ") (join (words letter) (two_digits k (omega (arith, h, few))))) (omega (arith, one))) in
    within (join (listed_long ", " (field letter) before (from 0 n) (n * 5) (within (after_long ", " (field letter) 5 each-one) (omega (arith, length_from 0 n)))) (closed_long ";\n" (from 0 n))) (omega arith)

abbrev pub component_room : Component → ℕ
component_room C = 480 + total arc_room C.arcs

module _ (h : TableHeader) (channels : h.channels ≤ 16) where
  plain_long : (C : Component) → ComponentIn h C → (l : ℕ) → l < length C.locations → Short (ascii ",\n  " ++ location_text (plain_location C l)) 23
  unfolding location_text
  plain_long C i l p =
      let q = all_at no_location i.locations l p in
      let u : Upper = record { clock = (location_of C l).clock; bound = (location_of C l).bound } in
      let good : UpperIn u = record { clock = omega (arith, q.clock, i.most_clocks); bound = omega (arith, q.bound) } in
      let bound = after_long " && " (λ v. against v " <= ") 15 (more {x = u} (join (words " && ") (most_long u good)) empty) in
      within (join (words ",\n  ") (join (location_long l (omega (arith, p, i.most_locations))) (join (listed_long " && " (λ v. against v " <= ") " { " (u ∷ []) 11 (within bound (omega arith))) (closed_long " }" (u ∷ []))))) (omega arith)

  plains_long : (C : Component) → ComponentIn h C → Short (each_after ",\n  " location_text (map (plain_location C) (from 0 (length C.locations)))) 368
  plains_long C i =
      within (after_long ",\n  " location_text 23 (all_map (plain_location C) (all_numbers 0 (length C.locations) (λ l p. plain_long C i l (omega (arith, p))))))
      (omega (arith, length-map (from 0 (length C.locations)) (plain_location C), length_from 0 (length C.locations), i.most_locations))

  process_long : (p : ℕ) (C : Component) → p < 10 → ComponentIn h C → Short (process_text p (process_for C)) (component_room C)
  unfolding process_text process_for
  process_long p C small i =
      let w = waiting_from C 0 C.arcs in
      let t = transitions_from C 0 C.arcs in
      let ls = map (plain_location C) (from 0 (length C.locations)) in
      let places = after_join ",\n  " location_text ls w (plains_long C i) (record { most = let z : length (each_after ",\n  " location_text w) ≤ length (each_after ",\n  " location_text w) = omega arith in z }) in
      let steps : Short (each_after ",\n  " transition_text t) (length (each_after ",\n  " transition_text t)) = record { most = omega arith } in
      within (join (join (words "\nprocess P") (one_digit p small)) (join (words "() {\n") (join (declared_long "clock " "x" C.clocks refl (omega (arith, i.most_clocks))) (join (declared_long "int[-32768,32767] " "v" C.variables refl (omega (arith, i.variables)))
      (join (listed_long ",\n  " location_text "state\n  " (ls ++ w) (364 + length (each_after ",\n  " location_text w)) (within places (omega arith))) (join (words ";\ninit ") (join (location_long C.initial (omega (arith, i.initial, i.most_locations))) (join (words ";\n")
      (join (listed_long ",\n  " transition_text "trans\n  " t (length (each_after ",\n  " transition_text t)) (within steps (omega arith))) (join (closed_long ";\n" t) (words "}\n")))))))))))
      (omega (arith, arcs_long h C channels i 0 (omega (arith, i.most_arcs)) i.arcs, i.most_clocks, i.variables))

  processes_long : (p : ℕ) {Cs : List Component} → p + length Cs ≤ 10 → All (ComponentIn h) Cs → Short (process_texts p (map process_for Cs)) (total component_room Cs)
  unfolding process_texts total
  processes_long p q empty = record { most = omega arith }
  processes_long p q (more {x = C} {xs = Cs} i is) = join (process_long p C (omega (arith, q)) i) (processes_long (suc p) (omega (arith, q)) is)

-- ## The system

pub system_long : (t : Read) → InLimits t → length (system_text (system_for t.table)) ≤ 137 + total component_room t.table.components
unfolding system_text system_for
system_long t i =
    let Ps = map process_for t.table.components in
    let n = length-map t.table.components process_for in
    let all = join (declared_long "chan " "c" t.table.channels refl i.channels)
    (join (processes_long (header_of t) i.channels 0 (omega (arith, i.most_components)) i.components) (declared_long "\nsystem " "P" (length Ps) refl (omega (arith, n, i.most_components)))) in
    omega (arith, all.most, i.channels, n, i.most_components)

-- ## The longest text

arc_most : (s : Sizes) (a : Arc) (x : Action) → ActionIn s a x → arc_room a ≤ 9499
arc_most s a Internal i = omega (arith, i.count, ap length i.pairs)
arc_most s a (Send k) i = omega (arith, ap length i.updates, ap length i.pairs)
arc_most s a Receive i = omega (arith, i.most, ap length i.updates)

component_most : (h : TableHeader) (C : Component) → ComponentIn h C → component_room C ≤ 304448
component_most h C i =
    omega (arith, total_most arc_room (λ a. 9499) (λ a j. arc_most (sizes_of h C) a a.edge.action j.action) i.arcs, total_const 9499 C.arcs, i.most_arcs)

-- `TIMED_NETWORK_UPPAAL_ENOUGH`
pub system_most : (t : Read) → InLimits t → length (system_text (system_for t.table)) ≤ 2436116
system_most t i =
    let Cs = t.table.components in
    omega (arith, system_long t i, total_most component_room (λ C. 304448) (λ C j. component_most (header_of t) C j) i.components, total_const 304448 Cs, i.most_components)
