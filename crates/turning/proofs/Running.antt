-- The run goes on with the slices turned. Assumes nothing.
use mathlib.Core.Path.{◌≡◌, refl, sym, ap, ap₂, subst, ◌∙◌}
use mathlib.Core.List.{List, ◌∷◌, map}
use Prim.Native.Nat.{ℕ, zero, suc, ◌+◌, ◌-◌, ◌*◌, ◌≤◌, ◌<◌}
use native.Mathlib.Omega.{arith}
use lib.IntN.{ℤ}
use lib.ListN.{length, get_or, drop, length-map}
use Rattle.model.specs.Lists.{from, below}
use Rattle.model.specs.Schedule.{Passage, own}
use Rattle.model.specs.Checks.{no_passage}
use Rattle.model.specs.Machine.{Node}
use Rattle.model.specs.Run.{Counts, ready_of_nth, Run, no_node, node_of}
use Rattle.model.proofs.Schedule.Retrace.{at_map}
use Rattle.recurrence.proofs.Agree.{with_ready}
use Rattle.recurrence.proofs.Shift.{rested, rested_from, rested_run}
use Rattle.later_runs.proofs.Front.{delayed}
use Rattle.rows.specs.Rows.{rows_of}
use Rattle.node.specs.declared.Node
use Rattle.node.specs.declared.Counts as held
use Rattle.node.specs.Views
use Rattle.registers.specs.Words.{node_in, part_in, held_in, wake_tick_in, finish_tick_in}
use Rattle.registers.specs.Words as words
use Rattle.registers.proofs.Frames.{part_alike, held_alike}
use Rattle.machine.specs.Running.{RowIs, counts_at, setting_in, view_in, NodeStands, previous_in, Running}
use Rattle.machine.proofs.Numbered.{at_below, same_below}
use Rattle.turning.specs.Turned.{between, NodeTurned, Turned}
use Rattle.turning.proofs.Between.{map_drop, own_delayed}
use Rattle.turning.proofs.Back.{fewer_within}

-- ## The nodes of a run, by the slices

pub running_node : {program rows : List ℕ} {n : ℕ} {l : List ℕ} {v : List ℤ} {count : ℕ} {s : Run} → Running program rows n l v count s → (c : ℕ) → c < count → node_of s c ≡ view_in program l v c
running_node {program} {rows} {n} {l} {v} {count} {s} r c h = ap (λ (ns : List Node). get_or ns c no_node) r.nodes ∙ at_below (view_in program l v) no_node count c h

pub running_sleeps : {program rows : List ℕ} {n : ℕ} {l : List ℕ} {v : List ℤ} {count : ℕ} {s : Run} → Running program rows n l v count s → (c : ℕ) → c < count → (node_of s c).sleeps ≡ (node_in l v c).sleeps
running_sleeps r c h = ap (λ (x : Node). x.sleeps) (running_node r c h)

-- ## Rows that are later

-- a row of them is the row of the same passage
pub row_delayed : (period : ℕ) {S S' : List Passage} {c k row : ℕ} → S' ≡ map (delayed period) S → RowIs S c k row → RowIs S' c k row
row_delayed period {S} {S'} {c} {k} {row} e r = subst (λ (vs : List Passage). RowIs vs c k row) (sym e) later
  where
    long : length (map (delayed period) S) ≡ length S
    long = length-map S (delayed period)

    later : RowIs (map (delayed period) S) c k row
    later =
        record {
          among = omega (arith, long, r.among);
          rest =
              ap (own c) (map_drop (delayed period) row S) ∙ own_delayed period c (drop row S) ∙ ap (map (delayed period)) r.rest
              ∙ sym (ap (drop k) (own_delayed period c S) ∙ map_drop (delayed period) k (own c S));
          there =
              λ h.
              let b : row < length S = omega (arith, long, h) in
              ap (λ (x : Passage). x.component) (at_map (delayed period) S row no_passage no_passage b) ∙ r.there b;
        }

-- ## A node turned

module _ {program rows : List ℕ} {n : ℕ} {l : List ℕ} {v : List ℤ} {c fewer row : ℕ} {l' : List ℕ} {v' : List ℤ} (t : NodeTurned program rows n l v c fewer row l' v') where
  part_same : part_in program l' c ≡ part_in program l c
  part_same = part_alike program l l' c t.beside

  held_same : held_in l' c ≡ held_in l c
  held_same = held_alike l l' c t.beside

  view_turned : view_in program l' v' c
      ≡ Rattle.node.specs.Views.node_of (part_in program l c) (held_in l c) (words.with_sleeps (node_in l v c) ((node_in l v c).sleeps - fewer))
  view_turned =
      ap (λ (p : List ℕ). Rattle.node.specs.Views.node_of p (held_in l' c) (node_in l' v' c)) part_same
      ∙ ap₂ (Rattle.node.specs.Views.node_of (part_in program l c)) held_same t.node

  -- with those sleeps it is what it was
  rested_view : fewer ≤ (node_in l v c).sleeps → rested fewer (view_in program l' v' c) ≡ view_in program l v c
  rested_view h =
      ap (rested fewer) view_turned
      ∙ ap (λ (k : ℕ). Rattle.recurrence.proofs.Shift.with_sleeps (view_in program l v c) k) (let z : (node_in l v c).sleeps - fewer + fewer ≡ (node_in l v c).sleeps = omega arith in z)

  counts_same : counts_at l' c ≡ counts_at l c
  counts_same = ap (λ (k : held.Counts). record { clocks = k.clocks; variables = k.variables }) held_same

  stands_turned : {rows₀ : List ℕ} {m : ℕ} → NodeStands program rows₀ n l v c m → RowIs (rows_of rows n) c ((node_in l v c).sleeps - fewer) row → NodeStands program rows n l' v' c m
  stands_turned {rows₀} {m} a r =
      record {
        inside = rw (t.beside 21 (omega arith) (omega arith), t.beside 22 (omega arith) (omega arith)) a.inside;
        short = rw (t.beside 22 (omega arith) (omega arith)) a.short;
        part = part_same ∙ a.part;
        held = rw held_same a.held;
        within = rw t.node (fewer_within ((node_in l v c).sleeps - fewer) (omega arith) a.within);
        row = rw (ap (λ (x : Rattle.node.specs.declared.Node.Node). x.sleeps) t.node, t.row_is) r;
        wakes = rw t.wakes a.wakes;
        due = t.due;
        last = t.last;
      }

-- ## All of them

rested-from : (d : ℕ → ℕ) (f g : ℕ → Node) (i n : ℕ) → ((c : ℕ) → c < i + n → rested (d c) (f c) ≡ g c) → rested_from d i (map f (from i n)) ≡ map g (from i n)
rested-from d f g i zero h = refl
rested-from d f g i (suc n) h =
    ap₂ (λ (x : Node) (xs : List Node). x ∷ xs) (h i (omega arith)) (rested-from d f g (suc i) n (λ c k. h c (omega arith)))

-- what the next part begins with
pub record GoesOnTurned (program rows : List ℕ) (n : ℕ) (l : List ℕ) (count period : ℕ) (d : ℕ → ℕ) (s : Run) (rows' l' : List ℕ) (v' : List ℤ) : Type 0 where
  pub next : Run
  pub back : rested_run d next ≡ s
  pub running : Running program rows' n l' v' count next
  pub tick : next.tick ≡ s.tick
  pub used : next.used ≡ s.used
  pub observations : next.observations ≡ s.observations
  pub previous : next.previous ≡ s.previous
  pub works : next.works ≡ s.works
  pub setting : (H : ℕ) → setting_in program H rows' n l' count ≡ with_ready (setting_in program H rows n l count) (λ c k. ready_of_nth (own c (map (delayed period) (rows_of rows n))) k)

module _ {program rows : List ℕ} {n : ℕ} {l : List ℕ} {v : List ℤ} {count first second period : ℕ} {rows' l' : List ℕ} {v' : List ℤ}
    (t : Turned program rows n l v count first second period rows' l' v') {s : Run} (r : Running program rows n l v count s)
    (d : ℕ → ℕ) (counted : (c : ℕ) → c < count → d c ≡ between (rows_of rows n) first second c)
    (enough : (c : ℕ) → c < count → d c ≤ (node_of s c).sleeps)
    (stands : (c : ℕ) → c < count → RowIs (rows_of rows n) c ((node_of s c).sleeps - d c) (first + c)) where
  abbrev next_run : Run
  next_run = record { tick = s.tick; used = s.used; nodes = map (view_in program l' v') (below count); observations = s.observations; previous = s.previous; works = s.works }

  node_rested : (c : ℕ) → c < count → rested (d c) (view_in program l' v' c) ≡ view_in program l v c
  node_rested c h =
      ap (λ (k : ℕ). rested k (view_in program l' v' c)) (counted c h)
      ∙ rested_view (t.each c h) (omega (arith, counted c h, enough c h, running_sleeps r c h))

  node_stands : (c : ℕ) → c < count → NodeStands program rows' n l' v' c (s.used * 131070)
  node_stands c h =
      let k : (node_of s c).sleeps - d c ≡ (node_in l v c).sleeps - between (rows_of rows n) first second c = omega (arith, counted c h, running_sleeps r c h) in
      stands_turned (t.each c h) (r.each c h) (row_delayed period t.moved (subst (λ (m : ℕ). RowIs (rows_of rows n) c m (first + c)) k (stands c h)))

  -- its last work finished when it did
  finish_same : (c : ℕ) → c < count → finish_tick_in l' c ≡ previous_in l' c s.works
  finish_same c h = (t.each c h).finish ∙ r.finish c h ∙ rw (t.each c h).wakes

  setting_turned : (H : ℕ) → setting_in program H rows' n l' count ≡ with_ready (setting_in program H rows n l count) (λ c k. ready_of_nth (own c (map (delayed period) (rows_of rows n))) k)
  setting_turned H =
      ap (λ (S : List Passage). record { program = program; horizon = H; counts = map (counts_at l') (below count); ready = λ c k. ready_of_nth (own c S) k; offsets = map (wake_tick_in l') (below count) }) t.moved
      ∙ ap₂ (λ (ks : List Counts) (os : List ℕ). record { program = program; horizon = H; counts = ks; ready = λ c k. ready_of_nth (own c (map (delayed period) (rows_of rows n))) k; offsets = os })
      (same_below (counts_at l') (counts_at l) count (λ c h. counts_same (t.each c h)))
      (same_below (wake_tick_in l') (wake_tick_in l) count (λ c h. (t.each c h).wakes))

  -- The law.
  pub goes_on_turned : GoesOnTurned program rows n l count period d s rows' l' v'
  goes_on_turned =
      record {
        next = next_run;
        back =
            ap (λ (ns : List Node). record { tick = s.tick; used = s.used; nodes = ns; observations = s.observations; previous = s.previous; works = s.works })
            (rested-from d (view_in program l' v') (view_in program l v) 0 count (λ c h. node_rested c (omega arith)) ∙ sym r.nodes);
        running =
            record {
              most = r.most;
              listed = t.stand;
              eight = t.eight;
              nodes = refl;
              each = node_stands;
              finish = finish_same;
              alike = r.alike;
            };
        tick = refl;
        used = refl;
        observations = refl;
        previous = refl;
        works = refl;
        setting = setting_turned;
      }
