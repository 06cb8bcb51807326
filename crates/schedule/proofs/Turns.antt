-- The two loops of the schedule, turn by turn. Assumes nothing.
use mathlib.Core.Path.{◌≡◌, refl, sym, ap, ap₂, subst, ◌∙◌}
use mathlib.Core.Logic.{by_cases}
use mathlib.Core.List.{List, [], ◌∷◌, map}
use mathlib.Core.Option.{Option, some}
use Prim.Native.Nat.{ℕ, zero, suc, ◌+◌, ◌-◌, ◌*◌, ◌≤◌, ◌<◌}
use native.Mathlib.Omega.{arith}
use native.Mathlib.Decide.{ℕ_discrete}
use mir.Val.{Fits}
use mir.Syntax.{w8}
use lib.IntN.{pos}
use borrow.Author.Count.{below_more}
use lib.ListN.{length, get_or, drop, replicate, length-map}
use lib.Seq.{sets, length-sets, get_or-set_same, get_or-set_other}
use Rattle.model.specs.declared.Verdict.TheVariants.{Accepted, Refused}
use Rattle.model.specs.Lists.{All, empty, more, snoc, Answer, accepted, refused, ◌after◌}
use Rattle.model.specs.Table.{header_of, Component, size, arc_of}
use Rattle.model.specs.Window.{leaves}
use Rattle.model.specs.Places.{start_of, Valid, read_of, component_in}
use Rattle.model.specs.Schedule.{Passage, passage_arc, message_in, start_entry, opening, closing, begin, go_on, OpenedSoFar, bare}
use Rattle.model.specs.Schedule.{opened as put}
use Rattle.model.specs.Checks.{passage_at}
use Rattle.model.specs.Calls.{verdict_of}
use Rattle.window.specs.declared.Entry.{Entry}
use Rattle.std.specs.Prelude.{Result, Ok, Err}
use Rattle.window.specs.declared.Unopened.{Unopened}
use Rattle.window.specs.declared.TakenEdge.{TakenEdge}
use Rattle.window.specs.Views.{entry_of, opening_of, number_of, Placed}
use Rattle.rows.specs.Rows.{num, row_passage, rows_from, rows_of, RowsPlaced, Told}
use Rattle.schedule.specs.declared.Node.{Node}
use Rattle.schedule.specs.declared.Turn.{Turn}
use Rattle.schedule.specs.declared.Scheduled.{Scheduled}
use Rattle.schedule.specs.Going.{cut, kept_of, Soonest, Stands, Turned, Open, blank, Going, fresh, begun, Started, unfinished, Listed, stop_of, first_stop, stop_in, StopsAt}
use Rattle.opening_place.specs.Opening.{begin_stop, go_on_stop, stop_at}
use Rattle.schedule.proofs.Cut.{leaves_cut, start_cut}
use Rattle.schedule.proofs.Bare.{message_of_bare}
use Rattle.schedule.proofs.Stopping.{begin_stop_on, begin_stop_here, later_stop, full_stop, stop_here, stop_later}
use Rattle.schedule.proofs.Closing.{begin_turn, begin_fails, begin_done, stops, no_room, fails, goes}
use Rattle.schedule.proofs.Grown.{made, opens_made, opens_not, length_rows, no_rows, stands, same, same_passage, rows_more, keeps, until, begun_on, first_on, going_on}
use Rattle.schedule.proofs.Told.{relabelled, stays, going_still, told_now, told_still}
use Rattle.schedule.proofs.Tables.{few_components, horizon_small, limits_of}

-- ## The openings at tick 0

zeros_young : (n t : ℕ) → All (λ x. x ≤ t) (replicate n 0)
zeros_young zero t = empty
zeros_young (suc n) t = more {x = 0} (omega arith) (zeros_young n t)

-- components below c have opened
pub record Beginning (bs l : List ℕ) (c : ℕ) (nodes : List Node) (ends : List ℕ) : Type 0 where
  pub first : List Passage
  pub begins : begin (1024 - c) c (drop c (read_of bs).table.components) first ≡ begun bs
  pub stop : begin_stop (1024 - c) c (drop c (read_of bs).table.components) first ≡ first_stop bs
  pub going : Going bs l c c nodes ends (fresh first)
  pub zero : (j : ℕ) → j < c → num l j 3 ≡ 0
  pub own : (j : ℕ) → j < c → (get_or nodes j blank).row ≡ j

pub begin_first : (bs l : List ℕ) (nodes : List Node) (ends : List ℕ) → Valid bs → Beginning bs l 0 nodes ends
unfolding rows_from
begin_first bs l nodes ends v =
    record {
      first = [];
      begins = refl;
      stop = refl;
      going =
          record {
            placed =
                record {
                  valid = v;
                  few = omega arith;
                  fits = omega arith;
                  row = λ i h. absurd (omega arith);
                  order = λ i j a h. absurd (omega arith);
                  back = λ j h. absurd (omega arith);
                  skips = λ j i h a c. absurd (omega arith);
                };
            rows = refl;
            full = refl;
            each = λ c h. absurd (omega arith);
            entered = λ i c h k. absurd (omega arith);
          };
      zero = λ j h. absurd (omega arith);
      own = λ j h. absurd (omega arith);
    }

module _ (bs l : List ℕ) (b : (j : ℕ) → Fits w8 (get_or bs j 0)) (c : ℕ) (nodes : List Node) (ends : List ℕ) (g : Beginning bs l c nodes ends) where
  valid : Valid bs
  valid = g.going.placed.valid

  -- all have opened
  pub begin_all : size (read_of bs).table ≤ c → c ≤ size (read_of bs).table → Started bs l nodes ends
  begin_all h k =
      let e : c ≡ size (read_of bs).table = omega arith in
      record {
        first = g.first;
        begins = begin_done (read_of bs).table.components (1024 - c) c g.first (begun bs) g.begins h;
        going = subst (λ n. Going bs l n n nodes ends (fresh g.first)) e g.going;
        own = λ d a. g.own d (omega arith);
      }

  module _ (there : c < size (read_of bs).table) (at : Entry) (location : at.location ≡ (component_in bs c).initial) (tick : at.tick ≡ 0)
      (clocks : at.clocks ≡ replicate 4 0) (values : at.values ≡ replicate 4 (pos 0)) where
    starts : start_entry (component_in bs c) ≡ cut (component_in bs c) (entry_of at)
    starts = start_cut (header_of (read_of bs)) (component_in bs c) (limits_of bs b valid c there) (entry_of at) location tick clocks values

    pub begin_location : at.location < length (component_in bs c).locations
    begin_location = omega (arith, (limits_of bs b valid c there).initial)

    few : 0 < 1024 - c
    few = omega (arith, few_components bs b valid)

    module _ (r : Result TakenEdge Unopened) (e : opening_of c (component_in bs c) (entry_of at) r ≡ opening c (component_in bs c) (entry_of at)) where
      -- 8 or 9
      pub begin_refused : {k : ℕ} {why : Unopened} → k ≡ number_of why → r ≡ Err why → begun bs ≡ refused k c
      begin_refused {k} n q =
          begin_fails (read_of bs).table.components (1024 - c) c g.first (begun bs) g.begins (component_in bs c) refl there few k
          (ap (opening c (component_in bs c)) starts ∙ opens_not bs c (limits_of bs b valid c there) at begin_location r e n q)

      pub begin_stops : {k : ℕ} {why : Unopened} → k ≡ number_of why → r ≡ Err why → StopsAt bs (first_stop bs) k c c at
      begin_stops {k} n q =
          record {
            stop = sym g.stop
                ∙ begin_stop_here (read_of bs).table.components (1024 - c) c g.first (component_in bs c) refl there few k
                (ap (opening c (component_in bs c)) starts ∙ opens_not bs c (limits_of bs b valid c there) at begin_location r e n q)
                ∙ ap₂ (λ m d. some (record { number = k; passage = m; component = c; automaton = component_in bs c; entry = d })) g.going.full starts;
            few = omega (arith, few);
            component = there;
            location = begin_location;
          }

      -- it opens
      pub begin_on : {t : TakenEdge} → r ≡ Ok t → Placed bs (start_of bs c) c r → c * 9 + 9 ≤ length l → (l' : List ℕ)
          → l' ≡ sets l (c * 9) (c ∷ t.edge ∷ at.location ∷ at.tick ∷ (at.tick + t.ready) ∷ (at.tick + t.end) ∷ 255 ∷ t.place ∷ c ∷ [])
          → c < length nodes → c < length ends → Beginning bs l' (c + 1) (keeps nodes c c at t) (until ends c at t)
      begin_on {t} q p fits l' is h k =
          let o = opens_made bs c (limits_of bs b valid c there) at begin_location r e q in
          let p' : Placed bs (start_of bs c) c (Ok t) = subst (Placed bs (start_of bs c) c) q p in
          let young : All (λ x. x ≤ at.tick) at.clocks = subst (λ (xs : List ℕ). All (λ x. x ≤ at.tick) xs) (sym clocks) (zeros_young 4 at.tick) in
          let w = made bs c at t in
          let n : 1024 - c - 1 ≡ 1024 - (c + 1) = omega arith in
          record {
            first = snoc g.first w;
            begins = subst (λ m. begin m (c + 1) (drop (c + 1) (read_of bs).table.components) (snoc g.first w) ≡ begun bs) n
                (begin_turn (read_of bs).table.components (1024 - c) c g.first (begun bs) g.begins (component_in bs c) refl there few w
                (ap (opening c (component_in bs c)) starts ∙ o));
            stop = ap (λ m. begin_stop m (c + 1) (drop (c + 1) (read_of bs).table.components) (snoc g.first w)) (sym n)
                ∙ sym (begin_stop_on (read_of bs).table.components (1024 - c) c g.first (component_in bs c) refl there few w (ap (opening c (component_in bs c)) starts ∙ o))
                ∙ g.stop;
            going = begun_on bs l c c c at t fits l' is o there p' (omega arith) (omega (arith, few_components bs b valid)) young nodes ends h k g.first g.going refl refl tick g.zero;
            zero = first_on bs l c c c at t fits l' is o there p' (omega arith) (omega (arith, few_components bs b valid)) young nodes ends h k tick g.zero;
            own = below_more (λ j. (get_or (keeps nodes c c at t) j blank).row ≡ j) c
                (λ j a. ap (λ (x : Node). x.row) (get_or-set_other nodes c j (kept_of at t c) blank (λ q. omega arith)) ∙ g.own j a)
                (ap (λ (x : Node). x.row) (get_or-set_same nodes c (kept_of at t c) blank h));
          }

-- ## The passages that close below the horizon

-- the passage of row i has closed: it ends no later than the open ones, and has its message
pub record Closed (bs l : List ℕ) (n : ℕ) (ends : List ℕ) (i : ℕ) : Type 0 where
  pub ended : (c : ℕ) → c < size (read_of bs).table → num l i 5 ≤ get_or ends c 0
  pub told : Told bs (read_of bs).horizon l n i

-- so many passages have opened; a row is that of an open passage, or its passage has closed
pub record Progress (bs l : List ℕ) (n : ℕ) (nodes : List Node) (ends : List ℕ) : Type 0 where
  pub so_far : OpenedSoFar
  pub same : go_on (read_of bs).table (read_of bs).horizon (1024 - n) so_far ≡ unfinished bs
  pub stop : go_on_stop (read_of bs).table (read_of bs).horizon (1024 - n) so_far ≡ stop_in bs
  pub going : Going bs l n (size (read_of bs).table) nodes ends so_far
  pub closed : (i : ℕ) → i < n → ((c : ℕ) → c < size (read_of bs).table → (get_or nodes c blank).row ≡ i → ⊥) → Closed bs l n ends i

pub progress_first : (bs l : List ℕ) (n : ℕ) (nodes : List Node) (ends : List ℕ) → Started bs l nodes ends → n ≡ size (read_of bs).table → Progress bs l n nodes ends
progress_first bs l n nodes ends s e =
    record {
      so_far = fresh s.first;
      same = rw e (sym (ap (λ a. a after λ vs. go_on (read_of bs).table (read_of bs).horizon (1024 - size (read_of bs).table) (fresh vs)) s.begins));
      stop = rw e (sym (later_stop bs s.begins));
      going = subst (λ m. Going bs l m (size (read_of bs).table) nodes ends (fresh s.first)) (sym e) s.going;
      closed = λ i h o. absurd (o i (omega arith) (s.own i (omega arith)));
    }

-- the entry of what opens is at the tick where the passage ends
pub turned_tick : (bs l : List ℕ) (n c H : ℕ) (node : Node) (end : ℕ) (t : Turn) → Turned bs l n c H node end t → t.at.tick ≡ end
unfolding leaves
turned_tick bs l n c H node end t u = ap (λ (e : Rattle.model.specs.Window.Entry). e.tick) u.leads

pub listed_is : (r : Scheduled) (n : ℕ) → r.verdict ≡ Accepted → r.count ≡ n → ◌≡◌ {A = Scheduled} (record { verdict = Accepted; count = n }) r
listed_is r n p q = rw (← p, ← q)

-- the answer of a loop that ends
pub listed_accepted : {bs l : List ℕ} {n : ℕ} {a : Answer (List Passage)} (S : List Passage) → a ≡ accepted S → map bare (rows_of l n) ≡ map bare S → RowsPlaced bs l n
    → ((i : ℕ) → i < n → num l i 5 < (read_of bs).horizon → Told bs (read_of bs).horizon l n i) → Listed bs a (record { verdict = Accepted; count = n }) l
listed_accepted {bs} {l} {n} {a} S e r p told =
    record {
      verdict = sym (ap verdict_of e);
      count = λ W q. sym (length_rows l 0 n) ∙ sym (length-map (rows_of l n) bare) ∙ ap length r ∙ length-map S bare ∙ ap length (same_list q);
      rows = λ W q. r ∙ ap (map bare) (same_list q);
      placed = p;
      told = told;
      none = λ k c q. (let z : ◌≡◌ {A = ℕ} 0 1 = cc in absurd (omega arith));
    }
  where
    same_list : {W : List Passage} → a ≡ accepted W → S ≡ W
    same_list q = cc

pub listed_refused : {bs l : List ℕ} {n : ℕ} {a : Answer (List Passage)} (r : Scheduled) (k c : ℕ) → a ≡ refused k c → RowsPlaced bs l n → r.verdict ≡ Refused k c → r.count ≡ 0
    → Listed bs a r l
listed_refused {bs} {l} {n} {a} r k c e p v z =
    record {
      verdict = v ∙ sym (ap verdict_of e);
      count = λ W q. (let z : ◌≡◌ {A = ℕ} 0 1 = cc in absurd (omega arith));
      rows = λ W q. (let z : ◌≡◌ {A = ℕ} 0 1 = cc in absurd (omega arith));
      placed = rw z (no_rows p);
      told = λ i h. absurd (omega arith);
      none = λ k c q. z;
    }

module _ (bs l : List ℕ) (b : (j : ℕ) → Fits w8 (get_or bs j 0)) (n : ℕ) (nodes : List Node) (ends : List ℕ) (g : Progress bs l n nodes ends)
    (c : ℕ) (s : Soonest ends (size (read_of bs).table) c) where
  abbrev T : Rattle.model.specs.Table.Table
  T = (read_of bs).table

  abbrev H : ℕ
  H = (read_of bs).horizon

  abbrev C : Component
  C = component_in bs c

  abbrev v : Passage
  v = passage_at g.so_far.current c

  -- its open passage
  open_now : Open bs l n c (get_or nodes c blank) (get_or ends c 0) v
  open_now = g.going.each c s.there

  ends_are : (j : ℕ) → j < size T → ((passage_at g.so_far.current j).component ≡ j) × ((passage_at g.so_far.current j).end ≡ get_or ends j 0)
  ends_are j h = let o = g.going.each j h in (o.component, o.end)

  -- it goes with its row
  pub node_stands : Stands l n c (get_or nodes c blank) (get_or ends c 0)
  node_stands = stands open_now

  -- the row of an open passage ends where that ends
  row_end : (d : ℕ) → d < size T → num l (get_or nodes d blank).row 5 ≡ get_or ends d 0
  row_end d h = (stands (g.going.each d h)).end

  -- it reaches the horizon
  pub loop_stops : H ≤ get_or ends c 0 → Listed bs (unfinished bs) (record { verdict = Accepted; count = n }) l
  loop_stops h =
      listed_accepted g.so_far.listed (sym g.same ∙ stops T H g.so_far ends c s g.going.full ends_are (1024 - n) h) g.going.rows g.going.placed
      (λ i a k. (g.closed i a (λ d b q. omega (arith, s.least d b, row_end d b, ap (λ j. num l j 5) q))).told)

  -- so many are listed
  listed_length : length g.so_far.listed ≡ n
  listed_length = sym (length-map g.so_far.listed bare) ∙ sym (ap length g.going.rows) ∙ length-map (rows_of l n) bare ∙ length_rows l 0 n

  module _ (below : get_or ends c 0 < H) where
    -- 7
    pub loop_full : 1024 ≤ n → (r : Scheduled) → r.verdict ≡ Refused 7 c → r.count ≡ 0 → Listed bs (unfinished bs) r l
    loop_full h r p q =
        listed_refused r 7 c (sym g.same ∙ no_room T H g.so_far ends c s g.going.full ends_are below (1024 - n) (omega arith)) g.going.placed p q

    module _ (t : Turn) (u : Turned bs l n c H (get_or nodes c blank) (get_or ends c 0) t) where
      its_arc : arc_of C v.edge ≡ passage_arc T v
      its_arc = ap (λ k. arc_of (component_in bs k) v.edge) (sym open_now.component)

      edge_there : v.edge < length C.arcs
      edge_there =
          let i = (get_or nodes c blank).row in
          subst (λ k. v.edge < length (component_in bs k).arcs) node_stands.component
          (subst (λ e. e < length (component_in bs (num l i 0)).arcs) (ap (λ (x : Passage). x.edge) open_now.shown) (g.going.placed.row i open_now.row).there)

      message_is : message_in T H (rows_of l n) (row_passage l (get_or nodes c blank).row) ≡ message_in T H g.so_far.listed v
      message_is =
          sym (message_of_bare T H (rows_of l n) (row_passage l (get_or nodes c blank).row))
          ∙ ap₂ (message_in T H) g.going.rows open_now.shown
          ∙ message_of_bare T H g.so_far.listed v

      entry_is : entry_of t.at ≡ leaves (arc_of C v.edge) (message_in T H g.so_far.listed v) (get_or ends c 0) (entry_of (get_or nodes c blank).entry)
      entry_is =
          u.leads
          ∙ ap₂ (λ (x : Passage) (m : Option ℕ). leaves (passage_arc T x) m (get_or ends c 0) (entry_of (get_or nodes c blank).entry)) open_now.shown message_is
          ∙ ap (λ a. leaves a (message_in T H g.so_far.listed v) (get_or ends c 0) (entry_of (get_or nodes c blank).entry)) (sym its_arc)

      -- what it leads to
      leads : closing T H g.so_far.listed v ≡ cut C (entry_of t.at)
      leads =
          ap (λ a. leaves a (message_in T H g.so_far.listed v) v.end v.entry) (sym its_arc)
          ∙ ap₂ (λ k e. leaves (arc_of C v.edge) (message_in T H g.so_far.listed v) k e) open_now.end open_now.entry
          ∙ leaves_cut (header_of (read_of bs)) C (limits_of bs b g.going.placed.valid c s.there) v.edge edge_there
          (message_in T H g.so_far.listed v) (get_or ends c 0) (entry_of (get_or nodes c blank).entry)
          ∙ ap (cut C) (sym entry_is)

      tick_is : t.at.tick ≡ get_or ends c 0
      tick_is = turned_tick bs l n c H (get_or nodes c blank) (get_or ends c 0) t u

      present : c < size T
      present = s.there

      -- the opening that is refused
      stop_is : (k : ℕ) → some (stop_at k g.so_far.listed c C (closing T H g.so_far.listed v)) ≡ some (stop_of bs k n c t.at)
      stop_is k = ap₂ (λ m d. some (record { number = k; passage = m; component = c; automaton = C; entry = d })) listed_length leads

      -- the component and the location are there
      stops_at : (k : ℕ) → n ≤ 1024 → go_on_stop T H (1024 - n) g.so_far ≡ some (stop_at k g.so_far.listed c C (closing T H g.so_far.listed v))
          → StopsAt bs (stop_in bs) k n c t.at
      stops_at k h e = record { stop = sym g.stop ∙ e ∙ stop_is k; few = h; component = present; location = u.there }

      pub loop_full_at : n ≤ 1024 → 1024 ≤ n → StopsAt bs (stop_in bs) 7 n c t.at
      loop_full_at m h = stops_at 7 m (full_stop T H g.so_far ends c s g.going.full ends_are below (1024 - n) (omega arith))

      refuses : {k : ℕ} {why : Unopened} → k ≡ number_of why → t.opening ≡ Err why → opening c C (closing T H g.so_far.listed v) ≡ refused k c
      refuses n q = ap (opening c C) leads ∙ opens_not bs c (limits_of bs b g.going.placed.valid c present) t.at u.there t.opening u.opens n q

      module _ (room : n < 1024) where
        -- 8 or 9
        pub loop_fails : {k : ℕ} {why : Unopened} → k ≡ number_of why → t.opening ≡ Err why → (r : Scheduled) → r.verdict ≡ Refused k c → r.count ≡ 0 → Listed bs (unfinished bs) r l
        loop_fails {k} e q r p z =
            listed_refused r k c (sym g.same ∙ fails T H g.so_far ends c s g.going.full ends_are below (1024 - n) (omega arith) k (refuses e q))
            g.going.placed p z

        pub loop_fails_at : {k : ℕ} {why : Unopened} → k ≡ number_of why → t.opening ≡ Err why → StopsAt bs (stop_in bs) k n c t.at
        loop_fails_at {k} e q = stops_at k (omega arith) (stop_here T H g.so_far ends c s g.going.full ends_are below (1024 - n) (omega arith) k (refuses e q))

      -- it opens, and the passage that closed gets its message
      module _ (room : n < 1024) {e : TakenEdge} (q : t.opening ≡ Ok e) (fits : n * 9 + 9 ≤ length l) (back : ℕ) (among : back ≤ n)
          (skips : (i : ℕ) → back ≤ i → i < n → num l i 5 ≤ t.at.tick + e.end) (l' : List ℕ)
          (is : l' ≡ sets l (n * 9) (c ∷ e.edge ∷ t.at.location ∷ t.at.tick ∷ (t.at.tick + e.ready) ∷ (t.at.tick + e.end) ∷ 255 ∷ e.place ∷ back ∷ []))
          (in-nodes : c < length nodes) (in-ends : c < length ends) where
        abbrev w : Passage
        w = made bs c t.at e

        opens : opening c C (cut C (entry_of t.at)) ≡ accepted w
        opens = opens_made bs c (limits_of bs b g.going.placed.valid c present) t.at u.there t.opening u.opens q

        opened_going : Going bs l' (n + 1) (size T) (keeps nodes n c t.at e) (until ends c t.at e) (put g.so_far w)
        opened_going =
            let p : Placed bs (start_of bs c) c (Ok e) = subst (Placed bs (start_of bs c) c) q u.placed in
            going_on bs l n back c t.at e fits l' is opens present p (omega (arith, horizon_small bs b g.going.placed.valid, tick_is)) room
            (rw tick_is u.young) nodes ends in-nodes in-ends g.going s tick_is among skips

        same_going : go_on T H (1024 - (n + 1)) (put g.so_far w) ≡ unfinished bs
        same_going =
            let m : 1024 - n - 1 ≡ 1024 - (n + 1) = omega arith in
            ap (λ r. go_on T H r (put g.so_far w)) (sym m)
            ∙ sym (goes T H g.so_far ends c s g.going.full ends_are below (1024 - n) (omega arith) w (ap (opening c C) leads ∙ opens))
            ∙ g.same

        same_stop : go_on_stop T H (1024 - (n + 1)) (put g.so_far w) ≡ stop_in bs
        same_stop =
            let m : 1024 - n - 1 ≡ 1024 - (n + 1) = omega arith in
            ap (λ r. go_on_stop T H r (put g.so_far w)) (sym m)
            ∙ sym (stop_later T H g.so_far ends c s g.going.full ends_are below (1024 - n) (omega arith) w (ap (opening c C) leads ∙ opens))
            ∙ g.stop

        -- the row of the passage that closed, and the rows with its message
        abbrev closer : ℕ
        closer = (get_or nodes c blank).row

        abbrev l'' : List ℕ
        l'' = relabelled l' (n + 1) closer t.message

        -- the next row's passage is open, so row i is an earlier one
        module _ (i : ℕ) (h : i < n + 1) (shut : (d : ℕ) → d < size T → (get_or (keeps nodes n c t.at e) d blank).row ≡ i → ⊥) where
          earlier : i < n
          earlier =
              let z : i ≡ n → ⊥ = λ z. shut c present (ap (λ (x : Node). x.row) (get_or-set_same nodes c (kept_of t.at e n) blank in-nodes) ∙ sym z) in
              omega arith

          -- it closed before, unless it closes now
          before : (i ≡ closer → ⊥) → Closed bs l n ends i
          before z = g.closed i earlier
              (λ d a y. by_cases (ℕ_discrete d c)
              (λ x. z (sym y ∙ ap (λ j. (get_or nodes j blank).row) x))
              (λ x. shut d a (ap (λ (k : Node). k.row) (get_or-set_other nodes c d (kept_of t.at e n) blank x) ∙ y)))

          ended : (d : ℕ) → d < size T → num l i 5 ≤ get_or ends d 0
          ended d a = by_cases (ℕ_discrete i closer)
              (λ z. omega (arith, s.least d a, row_end c present, ap (λ j. num l j 5) z))
              (λ z. (before z).ended d a)

          ended_then : (d : ℕ) → d < size T → num l'' i 5 ≤ get_or (until ends c t.at e) d 0
          ended_then d a =
              let x : num l'' i 5 ≡ num l i 5 = stays l' (n + 1) closer t.message i 5 h (omega arith) (λ y. omega arith) ∙ same bs l n back c t.at e fits l' is i 5 earlier (omega arith) in
              by_cases (ℕ_discrete d c)
              (λ z. rw (z, get_or-set_same ends c (t.at.tick + e.end) 0 in-ends) (omega (arith, x, tick_is, ended c present)))
              (λ z. rw (get_or-set_other ends c d (t.at.tick + e.end) 0 z) (omega (arith, x, ended d a)))

          told : Told bs H l'' (n + 1) i
          told =
              let x = same_passage bs l n back c t.at e fits l' is i earlier in
              let y = rows_more bs l n back c t.at e fits l' is in
              let f : num l i 5 ≤ t.at.tick + e.end = omega (arith, tick_is, ended c present) in
              by_cases (ℕ_discrete i closer)
              (λ z. told_now bs l l' n closer t.message (bare w) y H i earlier x f z (omega (arith, ap length is, length-sets l (n * 9) (c ∷ e.edge ∷ t.at.location ∷ t.at.tick ∷ (t.at.tick + e.ready) ∷ (t.at.tick + e.end) ∷ 255 ∷ e.place ∷ back ∷ []))) (u.message ∙ ap (λ j. message_in T H (rows_of l n) (row_passage l j)) (sym z)))
              (λ z. told_still bs l l' n closer t.message (bare w) y H i earlier x f z (before z).told)

        pub loop_on : Progress bs l'' (n + 1) (keeps nodes n c t.at e) (until ends c t.at e)
        loop_on =
            record {
              so_far = put g.so_far w;
              same = same_going;
              stop = same_stop;
              going = going_still l' (n + 1) closer t.message bs opened_going;
              closed = λ i h shut. record { ended = ended_then i h shut; told = told i h shut };
            }
