-- A passage opens: its row, and what the code keeps of it. Assumes nothing.
use mathlib.Core.Path.{◌≡◌, refl, sym, ap, ◌∙◌}
use mathlib.Core.Logic.{by_cases}
use mathlib.Core.List.{List, [], ◌∷◌, map}
use Prim.Native.Nat.{ℕ, zero, suc, ◌+◌, ◌*◌, ◌≤◌, ◌<◌}
use native.Mathlib.Omega.{arith}
use native.Mathlib.Decide.{ℕ_discrete}
use borrow.Author.Count.{below_more}
use lib.ListN.{length, get_or, set, length-append, length-set}
use lib.Seq.{sets, get_or-set_same, get_or-set_other}
use Rattle.model.specs.Lists.{All, snoc, accepted, refused}
use Rattle.model.specs.declared.TableHeader.{TableHeader}
use Rattle.model.specs.Table.{size, arc_of}
use Rattle.model.specs.Limits.{ComponentIn}
use Rattle.model.specs.Window.{channel_of}
use Rattle.model.specs.Places.{start_of, read_of, component_in}
use Rattle.model.specs.Schedule.{Passage, passage_of, opening, OpenedSoFar, bare}
use Rattle.model.specs.Schedule.{opened as put}
use Rattle.model.specs.Checks.{passage_at}
use Rattle.model.proofs.Schedule.Own.{at_set, at_snoc}
use Rattle.model.proofs.Window.Opening.{opened}
use Rattle.window.specs.declared.Entry.{Entry}
use Rattle.std.specs.Prelude.{Result, Ok, Err}
use Rattle.window.specs.declared.Unopened.{Unopened}
use Rattle.window.specs.declared.TakenEdge.{TakenEdge}
use Rattle.window.specs.Views.{entry_of, opening_of, number_of, Placed}
use Rattle.rows.specs.Rows.{num, row_passage, rows_from, rows_of, RowsPlaced}
use Rattle.rows.proofs.Stored.{row_others, row_written}
use Rattle.rows.proofs.Grown.{rows_added, passage_added, placed_added}
use Rattle.schedule.specs.declared.Node.{Node}
use Rattle.schedule.specs.Going.{cut, kept_of, Soonest, Stands, Open, blank, Going, fresh}
use Rattle.schedule.proofs.Cut.{recast, opening_cut, opens_cut}

-- ## What opens

-- the passage over that edge, entered there
abbrev pub made : List ℕ → ℕ → Entry → TakenEdge → Passage
made bs c at t =
    passage_of c (cut (component_in bs c) (entry_of at)) (record { edge = t.edge; ready = t.ready; end = t.end }) (channel_of (arc_of (component_in bs c) t.edge))

module _ (bs : List ℕ) (c : ℕ) {channels : TableHeader} (i : ComponentIn channels (component_in bs c)) (at : Entry) (there : at.location < length (component_in bs c).locations)
    (r : Result TakenEdge Unopened) (e : opening_of c (component_in bs c) (entry_of at) r ≡ opening c (component_in bs c) (entry_of at)) where
  opens : opening c (component_in bs c) (cut (component_in bs c) (entry_of at)) ≡ opening_of c (component_in bs c) (cut (component_in bs c) (entry_of at)) r
  opens =
      let C = component_in bs c in
      opening_cut channels C i c (entry_of at) there ∙ ap (recast (cut C (entry_of at))) (sym e) ∙ sym (opens_cut c C (entry_of at) (cut C (entry_of at)) r refl)

  pub opens_made : {t : TakenEdge} → r ≡ Ok t → opening c (component_in bs c) (cut (component_in bs c) (entry_of at)) ≡ accepted (made bs c at t)
  opens_made q = opens ∙ ap (opening_of c (component_in bs c) (cut (component_in bs c) (entry_of at))) q

  pub opens_not : {k : ℕ} {why : Unopened} → k ≡ number_of why → r ≡ Err why → opening c (component_in bs c) (cut (component_in bs c) (entry_of at)) ≡ refused k c
  opens_not n q = opens ∙ ap (opening_of c (component_in bs c) (cut (component_in bs c) (entry_of at))) q ∙ ap (λ m. refused m c) (sym n)

-- ## Rows

pub length_rows : (l : List ℕ) (i n : ℕ) → length (rows_from l i n) ≡ n
unfolding rows_from
length_rows l i zero = refl
length_rows l i (suc n) = ap suc (length_rows l (suc i) n)

-- no rows at all
pub no_rows : {bs l : List ℕ} {n : ℕ} → RowsPlaced bs l n → RowsPlaced bs l 0
no_rows r =
    record {
      valid = r.valid;
      few = omega arith;
      fits = omega arith;
      row = λ i h. absurd (omega arith);
      order = λ i j a h. absurd (omega arith);
      back = λ j h. absurd (omega arith);
      skips = λ j i h a c. absurd (omega arith);
    }

map_snoc : {A B : Type 0} (f : A → B) (xs : List A) (x : A) → map f (snoc xs x) ≡ snoc (map f xs) (f x)
map_snoc f [] x = refl
map_snoc f (y ∷ xs) x = ap (λ l. f y ∷ l) (map_snoc f xs x)

-- the row of an open passage
pub stands : {bs l : List ℕ} {n c : ℕ} {node : Node} {until : ℕ} {v : Passage} → Open bs l n c node until v → Stands l n c node until
stands {bs} {l} {n} {c} {node} {until} {v} o =
    record {
      row = o.row;
      component = ap (λ (x : Passage). x.component) o.shown ∙ o.component;
      place = o.place;
      tick = ap (λ (x : Passage). x.entry.tick) o.shown ∙ ap (λ (x : Rattle.model.specs.Window.Entry). x.tick) o.entry;
      end = ap (λ (x : Passage). x.end) o.shown ∙ o.end;
      young = o.young;
    }

-- a passage over edge t opens at `at` and gets row n
module _ (bs l : List ℕ) (n back c : ℕ) (at : Entry) (t : TakenEdge) (fits : n * 9 + 9 ≤ length l) where
  abbrev row : List ℕ
  row = c ∷ t.edge ∷ at.location ∷ at.tick ∷ (at.tick + t.ready) ∷ (at.tick + t.end) ∷ 255 ∷ t.place ∷ back ∷ []

  module _ (l' : List ℕ) (is : l' ≡ sets l (n * 9) row) where
    -- the rows before it stay
    pub same : (j k : ℕ) → j < n → k < 9 → num l' j k ≡ num l j k
    same j k h b = rw is (row_others l row n refl j k (λ e. omega arith) b)

    new : (k : ℕ) → k < 9 → num l' n k ≡ get_or row k 0
    new k b = rw is (row_written l row n refl k fits b)

    pub new_entry : num l' n 3 ≡ at.tick
    new_entry = new 3 (omega arith)

    pub new_end : num l' n 5 ≡ at.tick + t.end
    new_end = new 5 (omega arith)

    pub same_passage : (j : ℕ) → j < n → row_passage l' j ≡ row_passage l j
    same_passage j h =
        rw (
          same j 0 h (omega arith),
          same j 1 h (omega arith),
          same j 2 h (omega arith),
          same j 3 h (omega arith),
          same j 4 h (omega arith),
          same j 5 h (omega arith),
          same j 6 h (omega arith),
        )

    -- the open passages stay
    pub still : (d : ℕ) (node : Node) (until : ℕ) (v : Passage) → Open bs l n d node until v → Open bs l' (n + 1) d node until v
    still d node until v o =
        record {
          component = o.component;
          entry = o.entry;
          end = o.end;
          row = omega (arith, o.row);
          shown = ap bare (same_passage node.row o.row) ∙ o.shown;
          place = same node.row 7 o.row (omega arith) ∙ o.place;
          young = o.young;
        }

    new-passage : row_passage l' n ≡ bare (made bs c at t)
    new-passage = rw is (passage_added l n c t.edge at.location at.tick (at.tick + t.ready) (at.tick + t.end) t.place back fits)

    -- the passage is open
    pub opened_now : All (λ x. x ≤ at.tick) at.clocks
        → Open bs l' (n + 1) c (kept_of at t n) (at.tick + t.end) (made bs c at t)
    opened_now y =
        record {
          component = refl;
          entry = refl;
          end = refl;
          row = omega arith;
          shown = ap bare new-passage;
          place = new 7 (omega arith);
          young = y;
        }

    -- the rows, and that they are the passages
    pub rows_more : rows_of l' (n + 1) ≡ snoc (rows_of l n) (bare (made bs c at t))
    rows_more = rw is (rows_added l n c t.edge at.location at.tick (at.tick + t.ready) (at.tick + t.end) t.place back fits)

    pub rows_now : (vs : List Passage) → map bare (rows_of l n) ≡ map bare vs → map bare (rows_of l' (n + 1)) ≡ map bare (snoc vs (made bs c at t))
    rows_now vs e =
        ap (map bare) rows_more
        ∙ map_snoc bare (rows_of l n) (bare (made bs c at t))
        ∙ ap (λ xs. snoc xs (bare (made bs c at t))) e
        ∙ sym (map_snoc bare vs (made bs c at t))

    module _ (o : opening c (component_in bs c) (cut (component_in bs c) (entry_of at)) ≡ accepted (made bs c at t)) where
      pub early : at.tick ≤ at.tick + t.ready
      early = (opened c (component_in bs c) (cut (component_in bs c) (entry_of at)) o).early

      -- it lasts
      pub wide : at.tick + t.ready < at.tick + t.end
      wide = (opened c (component_in bs c) (cut (component_in bs c) (entry_of at)) o).wide

      pub placed_now : c < size (read_of bs).table → Placed bs (start_of bs c) c (Ok t) → at.tick ≤ 60000 → n < 1024 → RowsPlaced bs l n
          → ((j : ℕ) → j < n → num l j 3 ≤ at.tick) → back ≤ n → ((j : ℕ) → back ≤ j → j < n → num l j 5 ≤ at.tick + t.end) → RowsPlaced bs l' (n + 1)
      placed_now present p small few r order among skips =
          rw is (placed_added l n c t.edge at.location at.tick (at.tick + t.ready) (at.tick + t.end) t.place back fits bs r
          (record {
            present = present;
            there = p.0;
            stands = p.1;
            early = early;
            window = wide;
            small = omega (arith, p.3);
            order = order;
            among = among;
            skips = skips;
          }) few)

-- ## All open passages

-- what the code keeps then
abbrev pub keeps : List Node → ℕ → ℕ → Entry → TakenEdge → List Node
keeps nodes n c at t = set nodes c (kept_of at t n)

abbrev pub until : List ℕ → ℕ → Entry → TakenEdge → List ℕ
until ends c at t = set ends c (at.tick + t.end)

module _ (bs l : List ℕ) (n back c : ℕ) (at : Entry) (t : TakenEdge) (fits : n * 9 + 9 ≤ length l) (l' : List ℕ)
    (is : l' ≡ sets l (n * 9) (c ∷ t.edge ∷ at.location ∷ at.tick ∷ (at.tick + t.ready) ∷ (at.tick + t.end) ∷ 255 ∷ t.place ∷ back ∷ []))
    (o : opening c (component_in bs c) (cut (component_in bs c) (entry_of at)) ≡ accepted (made bs c at t)) (present : c < size (read_of bs).table)
    (p : Placed bs (start_of bs c) c (Ok t)) (small : at.tick ≤ 60000) (few : n < 1024) (young : All (λ x. x ≤ at.tick) at.clocks)
    (nodes : List Node) (ends : List ℕ) (in-nodes : c < length nodes) (in-ends : c < length ends) where
  -- the new one is kept
  here : Open bs l' (n + 1) c (get_or (keeps nodes n c at t) c blank) (get_or (until ends c at t) c 0) (made bs c at t)
  here =
      rw (get_or-set_same nodes c (kept_of at t n) blank in-nodes, get_or-set_same ends c (at.tick + t.end) 0 in-ends)
      (opened_now bs l n back c at t fits l' is young)

  -- the others are kept
  others : (d : ℕ) (v : Passage) → (d ≡ c → ⊥) → Open bs l n d (get_or nodes d blank) (get_or ends d 0) v
      → Open bs l' (n + 1) d (get_or (keeps nodes n c at t) d blank) (get_or (until ends c at t) d 0) v
  others d v e k =
      rw (get_or-set_other nodes c d (kept_of at t n) blank e, get_or-set_other ends c d (at.tick + t.end) 0 e)
      (still bs l n back c at t fits l' is d (get_or nodes d blank) (get_or ends d 0) v k)

  -- all of them at tick 0
  pub first_on : at.tick ≡ 0 → ((j : ℕ) → j < n → num l j 3 ≡ 0) → (j : ℕ) → j < n + 1 → num l' j 3 ≡ 0
  first_on e first =
      below_more (λ (j : ℕ). num l' j 3 ≡ 0) n (λ j h. same bs l n back c at t fits l' is j 3 h (omega arith) ∙ first j h) (new_entry bs l n back c at t fits l' is ∙ e)

  -- one of the openings at tick 0
  pub begun_on : (vs : List Passage) → Going bs l n n nodes ends (fresh vs) → n ≡ c → back ≡ n → at.tick ≡ 0 → ((j : ℕ) → j < n → num l j 3 ≡ 0)
      → Going bs l' (n + 1) (n + 1) (keeps nodes n c at t) (until ends c at t) (fresh (snoc vs (made bs c at t)))
  begun_on vs g nc z e first =
      record {
        placed = placed_now bs l n back c at t fits l' is o present p small few g.placed (λ j h. omega (arith, first j h)) (omega arith) (λ j a h. absurd (omega arith));
        rows = rows_now bs l n back c at t fits l' is vs g.rows;
        full = omega (arith, length-append vs (made bs c at t ∷ []), g.full);
        each = λ k h. at_snoc vs c (made bs c at t) (omega (arith, g.full))
            (λ d v. Open bs l' (n + 1) d (get_or (keeps nodes n c at t) d blank) (get_or (until ends c at t) d 0) v)
            here
            (λ d b. others d (passage_at vs d) (λ q. omega arith) (g.each d (omega arith)))
            k
            (omega arith);
        entered = λ i d a b. omega (arith, first_on e first i a);
      }

  -- the passage that closed first is replaced
  pub going_on : {k : ℕ} {q : OpenedSoFar} → Going bs l n k nodes ends q → Soonest ends k c → at.tick ≡ get_or ends c 0 → back ≤ n
      → ((i : ℕ) → back ≤ i → i < n → num l i 5 ≤ at.tick + t.end)
      → Going bs l' (n + 1) k (keeps nodes n c at t) (until ends c at t) (put q (made bs c at t))
  going_on {k} {q} g s e among skips =
      record {
        placed = placed_now bs l n back c at t fits l' is o present p small few g.placed (λ j h. omega (arith, g.entered j c h s.there)) among skips;
        rows = rows_now bs l n back c at t fits l' is q.listed g.rows;
        full = length-set q.current c (made bs c at t) ∙ g.full;
        each = λ d h. at_set q.current c (made bs c at t) (omega (arith, g.full, s.there))
            (λ d v. Open bs l' (n + 1) d (get_or (keeps nodes n c at t) d blank) (get_or (until ends c at t) d 0) v)
            here
            d
            (λ u. others d (passage_at q.current d) u (g.each d h));
        entered = λ i d a b. omega (arith, now g s e i a, later s e d b);
      }
    where
      now : Going bs l n k nodes ends q → Soonest ends k c → at.tick ≡ get_or ends c 0 → (i : ℕ) → i < n + 1 → num l' i 3 ≤ get_or ends c 0
      now g s e = below_more (λ (j : ℕ). num l' j 3 ≤ get_or ends c 0) n
          (λ j h. omega (arith, same bs l n back c at t fits l' is j 3 h (omega arith), g.entered j c h s.there))
          (omega (arith, new_entry bs l n back c at t fits l' is))

      later : Soonest ends k c → at.tick ≡ get_or ends c 0 → (d : ℕ) → d < k → get_or ends c 0 < get_or (until ends c at t) d 0 + 1
      later s e d b = by_cases (ℕ_discrete d c)
          (λ r. rw (r, get_or-set_same ends c (at.tick + t.end) 0 in-ends) (omega arith))
          (λ r. rw (get_or-set_other ends c d (at.tick + t.end) 0 r) (omega (arith, s.least d b)))
