-- A run that is being carried out in the slices, and the same after one more choice. Assumes nothing.
use mathlib.Core.Path.{◌≡◌, refl, sym, ap, ap₂, subst, ◌∙◌}
use mathlib.Core.Bool.{Bool, true, false, cond}
use mathlib.Core.List.{List, [], ◌∷◌, ◌++◌}
use Prim.Native.Nat.{ℕ, suc, ◌+◌, ◌-◌, ◌*◌, ◌≤◌, ◌<◌}
use native.Mathlib.Omega.{arith}
use borrow.Author.Tests.{eqb-true, eq-eqb, ne_eqb}
use lib.Dec.{eqb}
use lib.IntN.{ℤ}
use lib.ListN.{length, get_or, length-append}
use lib.Seq.{sets}
use Rattle.model.specs.Lists.{any, each, below}
use Rattle.model.specs.Network.{Observation}
use Rattle.model.specs.Run.{Setting, offset_of, own_tick, Run, forbidden, on, over, node_of, stand_of, sleeping, observes, ticked, after_tick, late_nodes, choose1, no_node, ends, run_from, observation_width, Written, written_bytes, with_ticks, written_in}
use Rattle.model.proofs.Basics.Bools.{and_is}
use Rattle.model.proofs.Schedule.Own.{all_then}
use Rattle.model.proofs.Run.FinishTicks.{with_ticks_join, with_ticks_length}
use Rattle.node.specs.declared.Node.{Node}
use Rattle.node.specs.Views.{Within}
use Rattle.registers.specs.Words.{word_in, node_in, part_in, wake_tick_in}
use Rattle.machine.proofs.Alone.{offset_at}
use Rattle.std.specs.Prelude.{Option, None, Some}
use Rattle.std.specs.Option.{is_some}
use Rattle.model.specs.Calls.{end_of}
use Rattle.machine.specs.Running.{setting_in, view_in, NodeStands, Standing, Running}
use Rattle.machine.specs.Chosen.{op_of, observes_now, Chosen}
use Rattle.run.specs.declared.Ended.{Ended}
use Rattle.run.specs.Ends.{Roomy, most_used, Brief, Over, Begun, PartEnds, FirstLate}
use Rattle.node.proofs.Ops.{stand_op}
use Rattle.run.proofs.Ticks.{due_said, late_none, late_some}
use Rattle.run.proofs.Choices.{numbered_below, as_many, tick_choice, awake, sleep_ends, one_seen}
use Rattle.run.proofs.Carried.{Reaches, reaches_first, reaches_next, ends_forbidden, ends_over, ends_used, roomy_at, brief_at, over_length, over_more, ends_as}

-- ## Registers that have not grown beyond a number have not grown beyond a greater one

within_more : (m k : ℕ) (r : Node) → m ≤ k → Within m r → Within k r
within_more m k r h w =
    record {
      t = omega (arith, w.t);
      clocks = all_then {P = λ x. x ≤ m} {Q = λ x. x ≤ k} (λ x p. omega arith) w.clocks;
      sleeps = omega (arith, w.sleeps);
    }

stands_more : (program rows : List ℕ) (n : ℕ) (l : List ℕ) (v : List ℤ) (c m k : ℕ) → m ≤ k → NodeStands program rows n l v c m → NodeStands program rows n l v c k
stands_more program rows n l v c m k h N =
    record {
      inside = N.inside;
      short = N.short;
      part = N.part;
      held = N.held;
      within = within_more m k (node_in l v c) h N.within;
      row = N.row;
      wakes = N.wakes;
      due = N.due;
      last = N.last;
    }

-- ## The run so far

-- what the end that is answered says
abbrev pub Says : Ended → ℕ → ℕ → ℕ → ℕ → ℕ → Type 0
Says e end node tick used written = (e.end ≡ end_of end node) × (e.tick ≡ tick) × (e.used ≡ used) × (e.written ≡ written)

module _ (program : List ℕ) (H : ℕ) (rows : List ℕ) (n count : ℕ) (l₀ choices out₀ : List ℕ) (s₀ : Run) where
  -- what the run goes by
  abbrev goes_by : Setting
  goes_by = setting_in program H rows n l₀ count

  -- so many choices are carried out, at that tick, with so many observations; the slices hold the nodes
  pub record Stage (l : List ℕ) (v : List ℤ) (out : List ℕ) (now k w : ℕ) : Type 0 where
    pub state : Run
    pub running : Running program rows n l v count state
    pub same : setting_in program H rows n l count ≡ goes_by
    pub reaches : Reaches goes_by choices s₀ k state
    pub tick : state.tick ≡ now
    pub used : state.used ≡ s₀.used + k
    pub early : now ≤ s₀.used + k
    pub written : w ≡ length state.observations
    pub few : w ≤ s₀.used + k
    pub bytes : Over (written_in state) out₀ out

  -- no choice yet
  pub first_stage : {v : List ℤ} {out : List ℕ} {tick written : ℕ} → Begun program H rows n l₀ v count choices out tick written s₀ out₀ → Stage l₀ v out tick 0 written
  first_stage B =
      record {
        state = s₀;
        running = B.running;
        same = refl;
        reaches = reaches_first goes_by choices s₀;
        tick = B.tick;
        used = omega arith;
        early = omega (arith, B.tick, B.early);
        written = B.written;
        few = omega (arith, B.written, B.few);
        bytes = B.bytes;
      }

module _ {program : List ℕ} {H : ℕ} {rows : List ℕ} {n count : ℕ} {l₀ choices out₀ : List ℕ} {s₀ : Run} {l : List ℕ} {v : List ℤ} {out : List ℕ} {now k w : ℕ} (St : Stage program H rows n count l₀ choices out₀ s₀ l v out now k w) where
  -- what the run goes by, and where it stands
  abbrev g : Setting
  g = setting_in program H rows n l₀ count

  abbrev s : Run
  s = St.state

  -- the end as it is answered
  ends_here : {e : Ended} {end node : ℕ} → Says e end node now k w → (end ≡ 0 → ⊥) → run_from g choices s₀ ≡ ends s end node → PartEnds program H rows n l₀ count choices s₀ out₀ e l v out
  ends_here {e} {end} {node} h other r =
      ends_as program H rows n l₀ count choices s₀ out₀ e l v out s end node r h.0 (h.1 ∙ sym St.tick) (St.used ∙ ap (λ (x : ℕ). s₀.used + x) (sym h.2)) (h.3 ∙ St.written) St.bytes (λ z. absurd (other z))

  -- all choices are used up
  pub used-up : {e : Ended} → length choices ≤ k → Says e 1 255 now k w → PartEnds program H rows n l₀ count choices s₀ out₀ e l v out
  used-up h x = ends_here x (λ z. omega arith) (ends_used g choices s₀ k s St.reaches h)

  -- the choices so far are not too many
  pub few_used : Brief g choices s₀ → s₀.used + k ≤ most_used
  few_used B = omega (arith, St.used, brief_at g choices s₀ k s St.reaches B)

  -- the slices stand
  pub standing : Brief g choices s₀ → Standing program rows n l v count
  standing B =
      let R = St.running in
      record {
        most = R.most;
        listed = R.listed;
        eight = R.eight;
        each = λ c x. stands_more program rows n l v c (s.used * 131070) 3000000000000000000 (omega (arith, St.used, few_used B)) (R.each c x);
      }

  module _ (more : k < length choices) (brief : Brief g choices s₀) where
    -- the next choice
    abbrev b : ℕ
    b = get_or choices k 0

    -- ## A tick

    module _ (is : b ≡ 255) where
      -- what the words say of somebody due decides
      tick_by : {d : Bool} → any (λ (c : ℕ). eqb (word_in l c 26) now) (below count) ≡ d
          → choose1 g s b ≡ cond d forbidden (after_tick g (ticked s) (late_nodes g (suc s.tick) 0 s.nodes))
      tick_by {d} e =
          tick_choice g s b is
          ∙ ap (λ (t : Bool). cond t forbidden (after_tick g (ticked s) (late_nodes g (suc s.tick) 0 s.nodes)))
          (due_said program H rows n l₀ l v count s St.running St.same s.tick (omega (arith, St.tick, St.early, few_used brief))
          ∙ subst (λ (t : ℕ). any (λ (c : ℕ). eqb (word_in l c 26) t) (below count) ≡ d) (sym St.tick) e)

      -- somebody is due
      pub tick_forbidden : {e : Ended} → any (λ (c : ℕ). eqb (word_in l c 26) now) (below count) ≡ true → Says e 3 255 now k w → PartEnds program H rows n l₀ count choices s₀ out₀ e l v out
      tick_forbidden d x = ends_here x (λ z. omega arith) (ends_forbidden g choices s₀ k s St.reaches more (tick_by d))

      -- nobody is
      module _ (d : any (λ (c : ℕ). eqb (word_in l c 26) now) (below count) ≡ false) {r : ℕ} (F : FirstLate l count (now + 1) r) where
        then : suc s.tick ≡ now + 1
        then = omega (arith, St.tick)

        F' : FirstLate l count (suc s.tick) r
        F' = subst (λ (t : ℕ). FirstLate l count t r) (sym then) F

        -- the slices are the nodes after the tick too
        runs_then : Running program rows n l v count (ticked s)
        runs_then =
            let R = St.running in
            record {
              most = R.most;
              listed = R.listed;
              eight = R.eight;
              nodes = R.nodes;
              each = λ c x. stands_more program rows n l v c (s.used * 131070) (suc s.used * 131070) (omega arith) (R.each c x);
              finish = R.finish;
              alike = R.alike;
            }

        -- the end after the tick
        ends_then : {e : Ended} {end node : ℕ} → Says e end node (now + 1) (k + 1) w → choose1 g s b ≡ over (ticked s) end node → PartEnds program H rows n l₀ count choices s₀ out₀ e l v out
        ends_then {e} {end} {node} h o =
            ends_as program H rows n l₀ count choices s₀ out₀ e l v out (ticked s) end node (ends_over g choices s₀ k s St.reaches more o) h.0 (h.1 ∙ sym then) (omega (arith, St.used, h.2)) (h.3 ∙ St.written) St.bytes
            (λ z. record { running = runs_then; same = St.same; early = omega (arith, St.used, St.early, St.tick); few = omega (arith, St.used, St.few, St.written) })

        -- a node is late
        pub tick_late : {e : Ended} → r < count → Says e 2 r (now + 1) (k + 1) w → PartEnds program H rows n l₀ count choices s₀ out₀ e l v out
        tick_late h x =
            let m = late_some program H rows n l₀ l v count s St.running St.same (suc s.tick) (omega (arith, St.tick, St.early, few_used brief)) F' h in
            ends_then x (tick_by d ∙ ap (after_tick g (ticked s)) m.1)

        passes : count ≤ r → choose1 g s b ≡ cond (eqb (suc s.tick) H) (over (ticked s) 0 255) (on (ticked s))
        passes h =
            tick_by d ∙ ap (after_tick g (ticked s)) (late_none program H rows n l₀ l v count s St.running St.same (suc s.tick) (omega (arith, St.tick, St.early, few_used brief)) F' h)

        -- the horizon is reached
        pub tick_horizon : {e : Ended} → count ≤ r → now + 1 ≡ H → Says e 0 255 (now + 1) (k + 1) w → PartEnds program H rows n l₀ count choices s₀ out₀ e l v out
        tick_horizon h q x =
            ends_then x (passes h ∙ ap (λ (t : Bool). cond t (over (ticked s) 0 255) (on (ticked s))) (eq-eqb (suc s.tick) H (then ∙ q)))

        -- the run goes on
        pub tick_stage : count ≤ r → (now + 1 ≡ H → ⊥) → Stage program H rows n count l₀ choices out₀ s₀ l v out (now + 1) (k + 1) w
        tick_stage h q =
            record {
              state = ticked s;
              running = runs_then;
              same = St.same;
              reaches =
                  reaches_next g choices s₀ k s St.reaches more
                  (passes h ∙ ap (λ (t : Bool). cond t (over (ticked s) 0 255) (on (ticked s))) (ne_eqb (suc s.tick) H (λ e. q (sym then ∙ e))));
              tick = then;
              used = omega (arith, St.used);
              early = omega (arith, St.early);
              written = St.written;
              few = omega (arith, St.few);
              bytes = St.bytes;
            }

    -- ## A node

    -- there is room for the observation that is written if it sleeps until now
    pub room : Roomy g choices s₀ (length out₀) → (b ≡ 255 → ⊥) → b < count → wake_tick_in l b ≤ now → observes_now program l v b (now - wake_tick_in l b) ≡ true → w * 36 + 36 ≤ length out
    room R not h up o =
        let both = (and_is (eqb (op_of program l v b) 0) (eqb (now - wake_tick_in l b) (word_in l b 1))).0 o in
        let offset : offset_of g b ≡ wake_tick_in l b = ap (λ (q : Setting). offset_of q b) (sym St.same) ∙ offset_at program H rows n l count b h in
        let wake : offset_of g b ≤ s.tick = omega (arith, St.tick, offset, up) in
        let clock : own_tick g b s.tick ≡ now - wake_tick_in l b = omega (arith, St.tick, offset) in
        let node : node_of s b ≡ view_in program l v b = ap (λ (ns : List Rattle.model.specs.Machine.Node). get_or ns b no_node) St.running.nodes ∙ numbered_below (view_in program l v) count b h in
        let there : b < length s.nodes = omega (arith, ap length St.running.nodes, as_many (view_in program l v) 0 count) in
        let sleeps : stand_of (node_of s b) ≡ sleeping = ap stand_of node ∙ stand_op (part_in program l b) (word_in l b 0) 0 (eqb-true (op_of program l v b) 0 both.0) in
        let due : own_tick g b s.tick ≡ (node_of s b).t = clock ∙ eqb-true (now - wake_tick_in l b) (word_in l b 1) both.1 ∙ sym (ap (λ (r : Rattle.model.specs.Machine.Node). r.t) node) in
        let fits = roomy_at g choices s₀ (k + 1) (awake g s b) (reaches_next g choices s₀ k s St.reaches more (sleep_ends g s b not there wake sleeps due)) (length out₀) R in
        let longer = length-append s.observations (observes b (own_tick g b s.tick) (node_of s b) ∷ []) in
        let same = with_ticks_length s.observations s.previous St.running.alike in
        let long : length out ≡ length out₀ = over_length (written_in s) out₀ out St.bytes (omega (arith, same, roomy_at g choices s₀ k s St.reaches (length out₀) R)) in
        omega (arith, St.written)

    module _ {m : Option ℕ} {l' : List ℕ} {v' : List ℤ} {out' : List ℕ} (C : Chosen program rows n H count now b l v out w m l' v' out') where
      -- it may not go on
      pub node_forbidden : {e : Ended} → m ≡ None → Says e 3 255 now k w → PartEnds program H rows n l₀ count choices s₀ out₀ e l' v' out'
      node_forbidden {e} none h =
          let not : is_some m ≡ false = ap is_some none in
          ends_as program H rows n l₀ count choices s₀ out₀ e l' v' out' s 3 255
          (ends_forbidden g choices s₀ k s St.reaches more (subst (λ (q : Setting). choose1 q s b ≡ forbidden) St.same (C.refuses not s St.running St.tick)))
          h.0 (h.1 ∙ sym St.tick) (St.used ∙ ap (λ (x : ℕ). s₀.used + x) (sym h.2)) (h.3 ∙ St.written) (subst (Over (written_in s) out₀) (sym (C.keeps not).2) St.bytes) (λ z. absurd (omega arith))

      -- it goes on
      pub node_stage : {w' : ℕ} → m ≡ Some w' → Roomy g choices s₀ (length out₀) → Stage program H rows n count l₀ choices out₀ s₀ l' v' out' now (k + 1) w'
      node_stage {w'} some R =
          let A = C.allows (ap is_some some) s St.running St.tick in
          let counted : w' ≡ w + length A.seen = (let both = sym some ∙ A.counted in cc) in
          let goes : choose1 g s b ≡ on A.next = subst (λ (q : Setting). choose1 q s b ≡ on A.next) St.same A.goes in
          let at = reaches_next g choices s₀ k s St.reaches more goes in
          let whole : written_in A.next ≡ written_in s ++ with_ticks A.seen A.ticks =
          ap₂ (λ (os : List Observation) (fs : List ℕ). with_ticks os fs) A.observed A.noted ∙ with_ticks_join s.observations A.seen s.previous A.ticks St.running.alike in
          let count : length (written_in s) ≡ length s.observations = with_ticks_length s.observations s.previous St.running.alike in
          let fits : length (written_in s ++ with_ticks A.seen A.ticks) * observation_width ≤ length out₀ =
          subst (λ (ws : List Written). length ws * observation_width ≤ length out₀) whole
          (omega (arith, with_ticks_length A.next.observations A.next.previous A.running.alike, roomy_at g choices s₀ (k + 1) A.next at (length out₀) R)) in
          let longer : length A.next.observations ≡ length s.observations + length A.seen = ap length A.observed ∙ length-append s.observations A.seen in
          let one = one_seen g s b goes in
          record {
            state = A.next;
            running = A.running;
            same = A.same ∙ St.same;
            reaches = at;
            tick = A.tick ∙ St.tick;
            used = omega (arith, A.used, St.used);
            early = omega (arith, St.early);
            written = omega (arith, counted, St.written);
            few = omega (arith, counted, St.written, St.few);
            bytes =
                A.bytes
                ∙ ap (λ (x : ℕ). sets out (x * observation_width) (each written_bytes (with_ticks A.seen A.ticks))) (St.written ∙ sym count)
                ∙ subst (λ (ws : List Written). Over ws out₀ (sets out (length (written_in s) * observation_width) (each written_bytes (with_ticks A.seen A.ticks)))) (sym whole) (over_more (written_in s) (with_ticks A.seen A.ticks) out₀ out St.bytes fits);
          }
