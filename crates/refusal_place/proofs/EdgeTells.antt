-- The walk and the reader tell the same of an edge: its items, and the whole of it. Assumes nothing.
use mathlib.Core.Path.{◌≡◌, refl, sym, ap, ◌∙◌}
use mathlib.Core.Bool.{Bool, true, false, cond, ◌||◌}
use mathlib.Core.Option.{Option, none, some}
use mathlib.Core.List.{List, [], ◌∷◌}
use Prim.Native.Nat.{ℕ, zero, suc, ◌+◌, ◌-◌, ◌*◌, ◌≤◌, ◌<◌}
use native.Mathlib.Omega.{arith}
use borrow.Author.Tests.{le-leb, eqb-true}
use lib.Dec.{eqb}
use lib.ListN.{length, drop}
use lib.Seq.{get_or-drop}
use Rattle.model.specs.declared.Sizes.{Sizes}
use Rattle.model.specs.Reader.{byte, word, budget_fine, read_budget, read_arc_parts, ok, fault, ◌then◌, part, many, listed, location_fine, location_at, read_location, clock_guard_fine, clock_guard_at, read_clock_guard, data_guard_fine, data_guard_at, read_data_guard, update_fine, update_at, read_update, channel_fine, read_channel, pair_fine, pair_at, read_pair, read_pairs, read_items, edge_fine, arc_with, read_arc_body, read_arc}
use Rattle.parts.specs.Place.{channels_before}
use Rattle.refusal_place.specs.Ranges.{fields_of, width_of, channel_field, pair_fields, edge_fields}
use Rattle.refusal_place.specs.Walk.{going, once, passed, inside, one_part, one_pair, counted, numbered, of_component, of_edge, several, items, budget_part, edge_from, edge}
use Rattle.refusal_place.specs.declared.Part.{Part}
use Rattle.refusal_place.specs.declared.Part.TheVariants.{Location, EdgeHead, Budget, ClockBound, DataBound, Update, Channel, Pair}
use Rattle.refusal_place.specs.declared.Subject.{Subject}
use Rattle.refusal_place.specs.declared.Walk.{Walk}
use Rattle.refusal_place.specs.Told.{Fault}
use Rattle.refusal_place.proofs.Rests.{rest, length_rest, byte_rest, drop_rest}
use Rattle.refusal_place.proofs.OneTest.{asked, stop, no_fault, a_fault, stays, passed_stays, passes_on, part_stays, pair_stays, counted_stays}
use Rattle.refusal_place.proofs.Fine.{location-fine, clock_bound_fine, budget-fine, data_bound_fine, update-fine, channel-fine, pair-fine, edge-fine}
use Rattle.refusal_place.proofs.Tells.{Tells, goes, stopped, maps, chain, many_tell}
use Rattle.refusal_place.proofs.OnePart.{holds, Outcome, fine_there, stops_there, outcome, part_tells}

-- a channel that is listed before stands in one of the pairs before
pub earlier : (l : List ℕ) (channel n : ℕ) → listed channel (channels_before l n) ≡ true → (i : ℕ) × (i < n) × (byte l (i * 2) ≡ channel)
unfolding channels_before
earlier l channel zero e = let z : ◌≡◌ {A = ℕ} 0 1 = cc in absurd (omega arith)
earlier l channel (suc n) e = go (eqb (byte l (n * 2)) channel) refl e (earlier l channel n)
  where
    go : (b : Bool) → eqb (byte l (n * 2)) channel ≡ b → b || listed channel (channels_before l n) ≡ true
        → (listed channel (channels_before l n) ≡ true → (i : ℕ) × (i < n) × (byte l (i * 2) ≡ channel))
        → (i : ℕ) × (i < suc n) × (byte l (i * 2) ≡ channel)
    go true q e later = (n, omega arith, eqb-true (byte l (n * 2)) channel q)
    go false q e later = let t = later e in (t.0, omega (arith, t.1), t.2)

module _ (bs : List ℕ) (end : ℕ) (h : end ≤ length bs) (small : end ≤ 8192) (c : ℕ) (s : Sizes) where
  -- ## Parts of one kind

  module _ {A : Type 0} (value : List ℕ → A) (who : Subject) (mine : who.component ≡ c) (fine : List ℕ → Bool)
      (inner : (at : ℕ) → holds (width_of who.part) (fields_of who.part s bs at) ≡ true)
      (same : (at : ℕ) → width_of who.part ≤ end - at → fine (rest bs end at) ≡ asked bs at (fields_of who.part s bs at)) where
    pub one_tells : (i : ℕ) (w : Walk) → going w ≡ true → w.at ≤ end
        → Tells bs end c (part (width_of who.part) fine value (rest bs end w.at)) (one_part bs end s (numbered who i) w)
    unfolding one_part inside
    one_tells i w on k =
        part_tells bs end h small c value (width_of who.part) (fields_of who.part s bs w.at) fine (numbered who i) mine (inner w.at) w on k (same w.at)

    pub several_tell : (n : ℕ) (w : Walk) → going w ≡ true → w.at ≤ end
        → Tells bs end c (many (part (width_of who.part) fine value) n (rest bs end w.at)) (several bs end s who n w)
    several_tell n w on k =
        many_tell bs end c (part (width_of who.part) fine value) (λ i. one_part bs end s (numbered who i)) one_tells (λ i. part_stays bs end s (numbered who i)) n 0 w on k

  pub locations_tell : (n : ℕ) (w : Walk) → going w ≡ true → w.at ≤ end
      → Tells bs end c (many (read_location s) n (rest bs end w.at)) (several bs end s (of_component c Location) n w)
  locations_tell = several_tell location_at (of_component c Location) refl (location_fine s) (λ at. refl) (λ at. location-fine bs end h at s)

  -- ## The parts of edge e

  module _ (e : ℕ) where
    clock_bounds_tell : (n : ℕ) (w : Walk) → going w ≡ true → w.at ≤ end
        → Tells bs end c (many (read_clock_guard s) n (rest bs end w.at)) (several bs end s (of_edge c e ClockBound) n w)
    clock_bounds_tell = several_tell clock_guard_at (of_edge c e ClockBound) refl (clock_guard_fine s) (λ at. refl) (λ at. clock_bound_fine bs end h at s)

    data_bounds_tell : (n : ℕ) (w : Walk) → going w ≡ true → w.at ≤ end
        → Tells bs end c (many (read_data_guard s) n (rest bs end w.at)) (several bs end s (of_edge c e DataBound) n w)
    data_bounds_tell = several_tell data_guard_at (of_edge c e DataBound) refl (data_guard_fine s) (λ at. refl) (λ at. data_bound_fine bs end h at s)

    updates_tell : (n : ℕ) (w : Walk) → going w ≡ true → w.at ≤ end
        → Tells bs end c (many (read_update s) n (rest bs end w.at)) (several bs end s (of_edge c e Update) n w)
    updates_tell = several_tell update_at (of_edge c e Update) refl (update_fine s) (λ at. refl) (λ at. update-fine bs end h at s)

    channel_tells : (w : Walk) → going w ≡ true → w.at ≤ end
        → Tells bs end c (read_channel s (rest bs end w.at)) (one_part bs end s (numbered (of_edge c e Channel) 0) w)
    channel_tells = one_tells (λ l. byte l 0) (of_edge c e Channel) refl (channel_fine s) (λ at. refl) (λ at. channel-fine bs end h at s) 0

    -- ## Pairs

    -- the walk over the pairs, the first of which stands at `from`
    abbrev pair : ℕ → ℕ → Walk → Walk
    pair from i = one_pair bs end from s (numbered (of_edge c e Pair) i)

    module _ (from i n : ℕ) (w : Walk) (on : going w ≡ true) (k : w.at ≤ end) (q : w.at ≡ from + i * 2) where
      abbrev who : Subject
      who = numbered (of_edge c e Pair) i

      abbrev seen : List ℕ
      seen = channels_before (drop from bs) i

      abbrev next : Walk
      next = record { at = w.at + 2; place = w.place }

      here : byte (drop from bs) (i * 2) ≡ byte bs w.at
      here = get_or-drop from bs (i * 2) 0 ∙ ap (byte bs) (sym q)

      again : w.at + 2 ≤ end → listed (byte bs w.at) seen ≡ true → Fault bs c (stop 6 who (channel_field s) (byte bs w.at) w).place
      again l t =
          let z : w.at + 0 ≡ w.at = omega arith in
          let b = earlier (drop from bs) (byte bs w.at) i t in
          record {
            number = (omega arith, omega arith);
            component = refl;
            starts = omega arith;
            stands = λ _. (rw z, omega arith);
            outside = λ y. absurd (omega arith);
            again = λ _. (from, b.0, q, b.1, sym (get_or-drop from bs (b.0 * 2) 0) ∙ b.2);
          }

      -- a pair that is fine: its channel, and those after it
      reads : w.at + 2 ≤ end → pair_fine s (rest bs end w.at) ≡ true
          → read_pairs s (suc n) seen (rest bs end w.at)
          ≡ cond (listed (byte bs w.at) seen) (fault 6) (read_pairs s n (channels_before (drop from bs) (suc i)) (rest bs end (w.at + 2)) then λ l t. ok (pair_at (rest bs end w.at) ∷ l) t)
      unfolding read_pairs channels_before
      reads l g =
          let z : w.at + 0 ≡ w.at = omega arith in
          let first : read_pair s (rest bs end w.at) ≡ ok (pair_at (rest bs end w.at)) (rest bs end (w.at + 2)) =
          rw (le-leb 2 (length (rest bs end w.at)) (rw (length_rest bs end h w.at) (omega arith)), g, drop_rest bs end w.at 2) in
          rw (first, byte_rest bs end h w.at 0 (omega arith), z, here)

      told_fine : w.at + 2 ≤ end → pair_fine s (rest bs end w.at) ≡ true
          → Tells bs end c (read_pairs s n (channels_before (drop from bs) (suc i)) (rest bs end (w.at + 2))) (counted (pair from) (suc i) n next)
          → Tells bs end c (read_pairs s (suc n) seen (rest bs end w.at)) (counted (pair from) (suc i) n (passed 2 (once bs from s who w)))
      told_fine l g later = rw (reads l g) (go (listed (byte bs w.at) seen) refl)
        where
          go : (b : Bool) → listed (byte bs w.at) seen ≡ b
              → Tells bs end c
              (cond b (fault 6) (read_pairs s n (channels_before (drop from bs) (suc i)) (rest bs end (w.at + 2)) then λ l t. ok (pair_at (rest bs end w.at) ∷ l) t))
              (counted (pair from) (suc i) n (passed 2 (once bs from s who w)))
          go true t =
              let halt = stop 6 who (channel_field s) (byte bs w.at) w in
              rw (a_fault 6 who (channel_field s) (byte bs w.at) w (listed (byte bs w.at) seen) on t, passed_stays 2 halt refl, counted_stays (pair from) (λ j. pair_stays bs end from s (numbered (of_edge c e Pair) j)) (suc i) n halt refl)
              (stopped bs end c 6 halt refl refl k (again l t))
          go false t =
              rw (no_fault 6 who (channel_field s) (byte bs w.at) w (listed (byte bs w.at) seen) t, passes_on 2 w on)
              (maps bs end c (read_pairs s n (channels_before (drop from bs) (suc i)) (rest bs end (w.at + 2))) (λ x. pair_at (rest bs end w.at) ∷ x) (counted (pair from) (suc i) n next) later)

      told_pair : (w' : Walk) → Outcome bs end h small c pair_at 2 (pair_fine s) w w'
          → (w.at + 2 ≤ end → Tells bs end c (read_pairs s n (channels_before (drop from bs) (suc i)) (rest bs end (w.at + 2))) (counted (pair from) (suc i) n next))
          → Tells bs end c (read_pairs s (suc n) seen (rest bs end w.at)) (counted (pair from) (suc i) n (passed 2 (once bs from s who w')))
      unfolding read_pairs
      told_pair w' (fine_there d l g) later = rw d (told_fine l g (later l))
      told_pair w' (stops_there j reads d a b f) later =
          rw (reads, stays 6 who (channel_field s) (byte bs w'.at) w' (listed (byte bs w'.at) seen) d, passed_stays 2 w' d, counted_stays (pair from) (λ j. pair_stays bs end from s (numbered (of_edge c e Pair) j)) (suc i) n w' d)
          (stopped bs end c j w' d a (rw b k) f)

    pairs_tell : (from i n : ℕ) (w : Walk) → going w ≡ true → w.at ≤ end → w.at ≡ from + i * 2
        → Tells bs end c (read_pairs s n (channels_before (drop from bs) i) (rest bs end w.at)) (counted (pair from) i n w)
    unfolding counted one_pair inside read_pairs
    pairs_tell from i zero w on k q = goes bs end c [] w on k
    pairs_tell from i (suc n) w on k q =
        told_pair from i n w on k q (inside bs end s (numbered (of_edge c e Pair) i) w)
        (outcome bs end h small c pair_at 2 (pair_fields s) (pair_fine s) (numbered (of_edge c e Pair) i) refl refl w on k (pair-fine bs end h w.at s))
        (λ l. pairs_tell from (suc i) n (record { at = w.at + 2; place = w.place }) on l (omega arith))

    -- ## The items

    items_tell : (kind n : ℕ) (w : Walk) → going w ≡ true → w.at ≤ end → Tells bs end c (read_items s kind n (rest bs end w.at)) (items bs end s c e kind n w)
    unfolding read_items channels_before
    items_tell zero n w on k = maps bs end c (many (read_update s) n (rest bs end w.at)) _ (several bs end s (of_edge c e Update) n w) (updates_tell n w on k)
    items_tell (suc zero) n w on k =
        maps bs end c (read_channel s (rest bs end w.at)) _ (one_part bs end s (numbered (of_edge c e Channel) 0) w) (channel_tells w on k)
    items_tell (suc (suc kind)) n w on k =
        maps bs end c (read_pairs s n [] (rest bs end w.at)) _ (counted (pair w.at) 0 n w) (pairs_tell w.at 0 n w on k (omega arith))

    several_stay : (p : Part) (n : ℕ) (w : Walk) → going w ≡ false → several bs end s (of_edge c e p) n w ≡ w
    several_stay p n w d = counted_stays (λ i. one_part bs end s (numbered (of_edge c e p) i)) (λ i. part_stays bs end s (numbered (of_edge c e p) i)) 0 n w d

    items_stay : (kind n : ℕ) (w : Walk) → going w ≡ false → items bs end s c e kind n w ≡ w
    items_stay zero n w d = several_stay Update n w d
    items_stay (suc zero) n w d = part_stays bs end s (numbered (of_edge c e Channel) 0) w d
    items_stay (suc (suc kind)) n w d = counted_stays (pair w.at) (λ i. pair_stays bs end w.at s (numbered (of_edge c e Pair) i)) 0 n w d

    -- ## The edge

    -- after its 7 bytes
    body_tells : (head : List ℕ) (o : Option ℕ) (kind n m l : ℕ) (w : Walk) → going w ≡ true → w.at ≤ end
        → Tells bs end c
        (many (read_clock_guard s) n (rest bs end w.at) then λ cs r₁.
        many (read_data_guard s) m r₁ then λ ds r₂. read_items s kind l r₂ then λ i r₃. ok (arc_with head o cs ds i) r₃)
        (items bs end s c e kind l (several bs end s (of_edge c e DataBound) m (several bs end s (of_edge c e ClockBound) n w)))
    body_tells head o kind n m l w on k =
        let w₁ = several bs end s (of_edge c e ClockBound) n w in
        let w₂ = several bs end s (of_edge c e DataBound) m w₁ in
        let t₁ = clock_bounds_tell n w on k in
        chain bs end c (many (read_clock_guard s) n (rest bs end w.at))
        (λ cs r₁. many (read_data_guard s) m r₁ then λ ds r₂. read_items s kind l r₂ then λ i r₃. ok (arc_with head o cs ds i) r₃)
        w₁
        (λ v. items bs end s c e kind l (several bs end s (of_edge c e DataBound) m v))
        t₁
        (λ cs on₁.
        let t₂ = data_bounds_tell m w₁ on₁ t₁.within in
        chain bs end c (many (read_data_guard s) m (rest bs end w₁.at)) (λ ds r₂. read_items s kind l r₂ then λ i r₃. ok (arc_with head o cs ds i) r₃) w₂ (items bs end s c e kind l) t₂
        (λ ds on₂. maps bs end c (read_items s kind l (rest bs end w₂.at)) (arc_with head o cs ds) (items bs end s c e kind l w₂) (items_tell kind l w₂ on₂ t₂.within))
        (items_stay kind l w₂))
        (λ d. rw (several_stay DataBound m w₁ d) (items_stay kind l w₁ d))

    -- the budget, where edges have one
    budget_tells : (b : Bool) (w : Walk) → going w ≡ true → w.at ≤ end → Tells bs end c (read_budget b (rest bs end w.at)) (cond b (one_part bs end s (of_edge c e Budget) w) w)
    unfolding one_part inside
    budget_tells true w on k =
        maps bs end c (part 2 budget_fine (λ r. word r 0) (rest bs end w.at)) (λ x. some x) (one_part bs end s (of_edge c e Budget) w)
        (part_tells bs end h small c (λ r. word r 0) 2 (fields_of Budget s bs w.at) budget_fine (of_edge c e Budget) refl refl w on k (budget-fine bs end h w.at))
    budget_tells false w on k = goes bs end c none w on k

    budget_stays : (w : Walk) → going w ≡ false → budget_part bs end s c e w ≡ w
    unfolding budget_part
    budget_stays w d = go s.budgets
      where
        go : (b : Bool) → cond b (one_part bs end s (of_edge c e Budget) w) w ≡ w
        go true = part_stays bs end s (of_edge c e Budget) w d
        go false = refl

    abbrev body_walk : ℕ → ℕ → ℕ → ℕ → Walk → Walk
    body_walk kind n m l v = items bs end s c e kind l (several bs end s (of_edge c e DataBound) m (several bs end s (of_edge c e ClockBound) n v))

    body_stays : (kind n m l : ℕ) (w : Walk) → going w ≡ false → body_walk kind n m l w ≡ w
    body_stays kind n m l w d = rw (several_stay ClockBound n w d, several_stay DataBound m w d) (items_stay kind l w d)

    -- with its budget
    whole_tells : (head : List ℕ) (w : Walk) → going w ≡ true → w.at ≤ end
        → Tells bs end c (read_budget s.budgets (rest bs end w.at) then read_arc_parts s head)
        (body_walk (byte head 0) (byte head 4) (byte head 5) (byte head 6) (budget_part bs end s c e w))
    unfolding budget_part
    whole_tells head w on k =
        let v = cond s.budgets (one_part bs end s (of_edge c e Budget) w) w in
        let t = budget_tells s.budgets w on k in
        chain bs end c (read_budget s.budgets (rest bs end w.at)) (read_arc_parts s head) v (body_walk (byte head 0) (byte head 4) (byte head 5) (byte head 6)) t
        (λ o on₁. body_tells head o (byte head 0) (byte head 4) (byte head 5) (byte head 6) v on₁ t.within)
        (body_stays (byte head 0) (byte head 4) (byte head 5) (byte head 6) v)

    pub edge_tells : s.clocks ≤ 4 → (w : Walk) → going w ≡ true → w.at ≤ end → Tells bs end c (read_arc s (rest bs end w.at)) (edge bs end s c e w)
    unfolding read_arc edge edge_from one_part inside
    edge_tells few w on k = rw on (go (inside bs end s (of_edge c e EdgeHead) w) (outcome bs end h small c (λ l. l) 7 (edge_fields s (byte bs w.at)) (edge_fine s) (of_edge c e EdgeHead) refl refl w on k (edge-fine bs end h w.at s few)))
      where
        go : (w' : Walk) → Outcome bs end h small c (λ l. l) 7 (edge_fine s) w w'
            → Tells bs end c (part 7 (edge_fine s) (λ l. l) (rest bs end w.at) then read_arc_body s)
            (items bs end s c e (byte bs w.at) (byte bs (w.at + 6))
            (several bs end s (of_edge c e DataBound) (byte bs (w.at + 5)) (several bs end s (of_edge c e ClockBound) (byte bs (w.at + 4)) (budget_part bs end s c e (passed 7 w')))))
        go w' (fine_there d l g) =
            let z : w.at + 0 ≡ w.at = omega arith in
            let head = rest bs end w.at in
            let b₀ : byte head 0 ≡ byte bs w.at = byte_rest bs end h w.at 0 (omega arith) ∙ rw z in
            let read : part 7 (edge_fine s) (λ l. l) head ≡ ok head (rest bs end (w.at + 7)) =
            rw (le-leb 7 (length head) (rw (length_rest bs end h w.at) (omega arith)), g, drop_rest bs end w.at 7) in
            rw (
              d,
              read,
              passes_on 7 w on,
              ← b₀,
              ← byte_rest bs end h w.at 4 (omega arith),
              ← byte_rest bs end h w.at 5 (omega arith),
              ← byte_rest bs end h w.at 6 (omega arith),
            )
            (whole_tells head (record { at = w.at + 7; place = w.place }) on l)
        go w' (stops_there j reads d a b f) =
            rw (reads, passed_stays 7 w' d, budget_stays w' d, several_stay ClockBound (byte bs (w.at + 4)) w' d, several_stay DataBound (byte bs (w.at + 5)) w' d, items_stay (byte bs w.at) (byte bs (w.at + 6)) w' d)
            (stopped bs end c j w' d a (rw b k) f)
