-- All nodes at their programs' start. Assumes nothing.
use mathlib.Core.Path.{◌≡◌, refl, sym, ap, ap₂, ◌∙◌}
use mathlib.Core.List.{List, ◌∷◌, map}
use Prim.Native.Nat.{ℕ, zero, suc, ◌+◌, ◌≤◌, ◌<◌}
use native.Mathlib.Omega.{arith}
use borrow.Author.Count.{below_more}
use lib.IntN.{ℤ}
use lib.ListN.{length}
use Rattle.model.specs.Lists.{Bytes, from, below}
use Rattle.model.specs.Table.{no_component, header_of}
use Rattle.model.specs.Reader.{byte}
use Rattle.model.specs.Places.{start_of, Valid, read_of, component_in, ComponentAt}
use Rattle.model.specs.Limits.{ComponentIn}
use Rattle.model.specs.Machine.{Node, start_node, part_bytes}
use Rattle.model.specs.Run.{Counts, offset_in, no_work, start_nodes, stand_of}
use Rattle.model.proofs.Reader.Located.{valid_located, valid_in}
use Rattle.model.proofs.Basics.Sums.{by_number}
use Rattle.rows.specs.Rows.{rows_of}
use Rattle.translator.proofs.Standing.{valid_count, few_nodes}
use Rattle.registers.specs.Words.{node_in, part_in, held_in, Eight, SameNode, wake_tick_in, finish_tick_in}
use Rattle.registers.proofs.Frames.{same_node, same_part, same_held}
use Rattle.node.specs.declared.Counts.{Counts as Held}
use Rattle.node.specs.Views.{node_of}
use Rattle.stand.specs.Stands.{due_tick, last_tick}
use Rattle.machine.specs.Running.{RowsStand, counts_at, view_in, ready_at, NodeStands}
use Rattle.run.specs.Ends.{NodeStarted, counts_of, Started}

-- ## Lists by number

-- what is made of the numbers alike is the same
same_from : {B : Type 0} (f g : ℕ → B) (i n : ℕ) → ((c : ℕ) → c < i + n → f c ≡ g c) → map f (from i n) ≡ map g (from i n)
same_from f g i zero h = refl
same_from {B} f g i (suc n) h =
    ap₂ (λ (x : B) (xs : List B). x ∷ xs) (h i (omega arith)) (same_from f g (suc i) n (λ c k. h c (omega arith)))

pub same_below : {B : Type 0} (f g : ℕ → B) (n : ℕ) → ((c : ℕ) → c < n → f c ≡ g c) → map f (below n) ≡ map g (below n)
same_below f g n h = same_from f g 0 n (λ c k. h c (omega arith))

-- the nodes at the start, by number
started_from : (program : List ℕ) (k : ℕ → Counts) (i n : ℕ) → start_nodes program i (map k (from i n)) ≡ map (λ c. start_node (part_bytes program c) (k c).clocks (k c).variables) (from i n)
unfolding start_nodes
started_from program k i zero = refl
started_from program k i (suc n) =
    ap (λ (xs : List Node). start_node (part_bytes program i) (k i).clocks (k i).variables ∷ xs) (started_from program k (suc i) n)

-- ## A node that stays

module _ {l : List ℕ} {v : List ℤ} {l' : List ℕ} {v' : List ℤ} {i : ℕ} (s : SameNode l v l' v' i) (program : List ℕ) where
  same_view : view_in program l' v' i ≡ view_in program l v i
  same_view =
      ap (λ (p : List ℕ). node_of p (held_in l' i) (node_in l' v' i)) (same_part s program)
      ∙ ap₂ (node_of (part_in program l i)) (same_held s) (same_node s)

  same_counts : counts_at l' i ≡ counts_at l i
  same_counts = ap (λ (k : Held). record { clocks = k.clocks; variables = k.variables }) (same_held s)

  same_stands : {rows : List ℕ} {n m : ℕ} → NodeStands program rows n l v i m → NodeStands program rows n l' v' i m
  same_stands {rows} {n} {m} g =
      record {
        inside = rw (s.words 21 (omega arith), s.words 22 (omega arith)) g.inside;
        short = rw (s.words 22 (omega arith)) g.short;
        part = same_part s program ∙ g.part;
        held = rw (same_held s) g.held;
        within = rw (same_node s) g.within;
        row = rw (s.words 20 (omega arith), s.words 25 (omega arith)) g.row;
        wakes = rw (s.words 28 (omega arith)) g.wakes;
        due =
            s.words 26 (omega arith) ∙ g.due
            ∙ ap₂ (λ (x : Node) (k : ℕ). due_tick x (stand_of x) + k) (sym same_view) (sym (s.words 28 (omega arith)));
        last =
            s.words 27 (omega arith) ∙ g.last
            ∙ ap₂ (λ (x k : ℕ). x + k)
            (ap₂ (λ (x : Node) (k : ℕ). last_tick x (ready_at (rows_of rows n) k) (stand_of x)) (sym same_view) (sym (s.words 25 (omega arith))))
            (sym (s.words 28 (omega arith)));
      }

-- ## The nodes one after the other

-- the first k nodes of the table stand at their programs' start, with these offsets
pub record StartedTo (table program rows : List ℕ) (n : ℕ) (os l : List ℕ) (v : List ℤ) (k : ℕ) : Type 0 where
  pub eight : Eight l v
  pub stands : (c : ℕ) → c < k → NodeStands program rows n l v c 0
  pub view : (c : ℕ) → c < k → view_in program l v c ≡ start_node (part_bytes program c) (component_in table c).clocks (component_in table c).variables
  pub counts : (c : ℕ) → c < k → counts_at l c ≡ counts_of (component_in table c)
  pub wakes : (c : ℕ) → c < k → wake_tick_in l c ≡ offset_in os c
  pub finish : (c : ℕ) → c < k → finish_tick_in l c ≡ no_work

pub none_started : {table program rows : List ℕ} {n : ℕ} {os l : List ℕ} {v : List ℤ} → Eight l v → StartedTo table program rows n os l v 0
none_started g =
    record {
      eight = g;
      stands = λ c h. absurd (omega arith);
      view = λ c h. absurd (omega arith);
      counts = λ c h. absurd (omega arith);
      wakes = λ c h. absurd (omega arith);
      finish = λ c h. absurd (omega arith);
    }

module _ (table : List ℕ) (b : Bytes table) (valid : Valid table) where
  module _ (c : ℕ) (h : c < byte table 3) (start : ℕ) (e : start ≡ start_of table c) where
    there : ComponentAt table start (component_in table c)
    there = rw e ((valid_located table b valid).component c (omega (arith, valid_count table b valid)))

    limits : ComponentIn (header_of (read_of table)) (component_in table c)
    limits = valid_in table b valid c (omega (arith, valid_count table b valid))

    pub start_inside : start + 6 ≤ length table
    start_inside = omega (arith, there.fits)

    pub few-clocks : byte table (start + 4) ≤ 4
    few-clocks = omega (arith, there.clocks, limits.most_clocks)

    pub few_variables : byte table (start + 5) ≤ 4
    few_variables = omega (arith, there.variables, limits.variables)

    -- one node more
    module _ {program rows : List ℕ} {n : ℕ} {os l l' : List ℕ} {v v' : List ℤ} (s : StartedTo table program rows n os l v c) {wake : ℕ}
        (x : NodeStarted program rows n (byte table (start + 4)) (byte table (start + 5)) wake l v c l' v') (w : wake ≡ offset_in os c) where
      view_here : view_in program l' v' c ≡ start_node (part_bytes program c) (component_in table c).clocks (component_in table c).variables
      view_here = x.view ∙ ap₂ (start_node (part_bytes program c)) there.clocks there.variables

      counts_here : counts_at l' c ≡ counts_of (component_in table c)
      counts_here = x.counts ∙ ap₂ (λ (j k : ℕ). record { clocks = j; variables = k }) there.clocks there.variables

      pub one_started : StartedTo table program rows n os l' v' (c + 1)
      one_started =
          record {
            eight = x.eight;
            stands = below_more (λ i. NodeStands program rows n l' v' i 0) c (λ i k. same_stands (x.others i (λ p. omega arith)) program (s.stands i k)) x.stands;
            view = below_more (λ i. view_in program l' v' i ≡ start_node (part_bytes program i) (component_in table i).clocks (component_in table i).variables) c (λ i k. same_view (x.others i (λ p. omega arith)) program ∙ s.view i k) view_here;
            counts = below_more (λ i. counts_at l' i ≡ counts_of (component_in table i)) c (λ i k. same_counts (x.others i (λ p. omega arith)) program ∙ s.counts i k) counts_here;
            wakes = below_more (λ i. wake_tick_in l' i ≡ offset_in os i) c (λ i k. (x.others i (λ p. omega arith)).words 28 (omega arith) ∙ s.wakes i k) (x.wakes ∙ w);
            finish = below_more (λ i. finish_tick_in l' i ≡ no_work) c (λ i k. (x.others i (λ p. omega arith)).words 29 (omega arith) ∙ s.finish i k) x.finish;
          }

  -- all of them
  module _ {program rows : List ℕ} {n : ℕ} (listed : RowsStand rows n) {os l : List ℕ} {v : List ℤ} {c : ℕ} (s : StartedTo table program rows n os l v c) (all : byte table 3 ≤ c) where
    nodes_are : start_nodes program 0 (map (counts_at l) (below (byte table 3))) ≡ map (view_in program l v) (below (byte table 3))
    nodes_are =
        started_from program (counts_at l) 0 (byte table 3)
        ∙ same_below (λ i. start_node (part_bytes program i) (counts_at l i).clocks (counts_at l i).variables) (view_in program l v) (byte table 3)
        (λ i h. ap (λ (k : Counts). start_node (part_bytes program i) k.clocks k.variables) (s.counts i (omega arith)) ∙ sym (s.view i (omega arith)))

    pub all_started : Started table program rows n os l v
    all_started =
        record {
          counts =
              same_below (counts_at l) (λ i. counts_of (component_in table i)) (byte table 3) (λ i h. s.counts i (omega arith))
              ∙ ap (λ (k : ℕ). map (λ i. counts_of (component_in table i)) (below k)) (valid_count table b valid)
              ∙ by_number counts_of no_component (read_of table).table.components;
          offsets =
              same_below (wake_tick_in l) (offset_in os) (byte table 3) (λ i h. s.wakes i (omega arith))
              ∙ ap (λ (k : ℕ). map (offset_in os) (below k)) (valid_count table b valid);
          running =
              λ H.
              record {
                most = few_nodes table b valid;
                listed = listed;
                eight = s.eight;
                nodes = nodes_are;
                each = λ i h. s.stands i (omega arith);
                finish = λ i h. s.finish i (omega arith);
                alike = refl;
              };
        }
