-- The late runs counted one after the other. Assumes nothing.
use mathlib.Core.Path.{◌≡◌, refl, sym, ap, ap₂, subst, ◌∙◌}
use mathlib.Core.Logic.{by_cases}
use mathlib.Core.Bool.{Bool, true, false, cond, ◌&&◌}
use mathlib.Core.List.{List, [], ◌∷◌, map}
use Prim.Native.Nat.{ℕ, zero, suc, ◌+◌, ◌-◌, ◌≤◌, ◌<◌}
use native.Mathlib.Omega.{arith}
use native.Mathlib.Decide.{ℕ_discrete}
use borrow.Author.Tests.{eq-eqb, ne_eqb}
use lib.Dec.{eqb}
use lib.ListN.{length, get_or, set, length-set}
use lib.Seq.{get_or-set_same, get_or-set_other}
use Rattle.std.specs.Prelude.{Option, None, Some}
use Rattle.model.specs.Lists.{only, from, accepted}
use Rattle.model.specs.Places.{Valid, read_of}
use Rattle.model.specs.Schedule.{Passage}
use Rattle.model.specs.Checks.{accepted_schedule_of}
use Rattle.model.specs.Run.{Setting, setting_of, run}
use Rattle.simulation.specs.Simulated.{Span, simulated, trials, draw_after, ends_late, ends_late_at}
use Rattle.simulation.proofs.Counts.{one_more}
use Rattle.simulator.specs.Answers.{TriedAs}
use Rattle.simulated_runs.specs.Answers.{TalliedAs}

-- one more for a node
one_up : (nodes : List ℕ) (node c : ℕ) → node < length nodes → c ≡ node → get_or (set nodes node (get_or nodes node 0 + 1)) c 0 ≡ get_or nodes c 0 + 1
one_up nodes node c h e =
    ap (λ (i : ℕ). get_or (set nodes node (get_or nodes node 0 + 1)) i 0) e ∙ get_or-set_same nodes node (get_or nodes node 0 + 1) 0 h
    ∙ ap (λ (i : ℕ). get_or nodes i 0 + 1) (sym e)

-- of so many runs from a seed some are counted, and so many are left, from that generator
pub record Counted (g : Setting) (w : Span) (runs seed left late : ℕ) (nodes : List ℕ) (state : ℕ) : Type 0 where
  pub all : late + length (only (ends_late g w) (trials g w left state)) ≡ length (only (ends_late g w) (trials g w runs seed))
  pub each : (c : ℕ) → c < 8 → get_or nodes c 0 + length (only (ends_late_at g w c) (trials g w left state)) ≡ length (only (ends_late_at g w c) (trials g w runs seed))
  pub draw : draw_after g w left state ≡ draw_after g w runs seed

module _ (g : Setting) (w : Span) where
  -- none yet
  pub none_counted : (runs seed : ℕ) {zeros : List ℕ} → ((c : ℕ) → c < 8 → get_or zeros c 0 ≡ 0) → Counted g w runs seed runs 0 zeros seed
  none_counted runs seed z = record { all = omega arith; each = λ c h. omega (arith, z c h); draw = refl }

  module _ {runs seed left late : ℕ} {nodes : List ℕ} {state : ℕ} (C : Counted g w runs seed (suc left) late nodes state) {found : Option ℕ} {next : ℕ} (T : TriedAs g w state found next) where
    abbrev cs : List ℕ
    cs = (simulated g w state).choices

    abbrev rest : List (List ℕ)
    rest = trials g w left next

    first : trials g w (suc left) state ≡ cs ∷ rest
    unfolding trials
    first = ap (λ (x : ℕ). cs ∷ trials g w left x) (sym T.1)

    -- so many with it
    counts : (p : List ℕ → Bool) → length (only p (trials g w (suc left) state)) ≡ cond {A = ℕ} (p cs) 1 0 + length (only p rest)
    counts p = ap (λ (ls : List (List ℕ)). length (only p ls)) first ∙ one_more p cs rest

    drawn_on : draw_after g w left next ≡ draw_after g w runs seed
    unfolding draw_after
    drawn_on = ap (draw_after g w left) T.1 ∙ C.draw

    -- a late run has the late node
    is-late : (b : Bool) (node : ℕ) → eqb (run g cs).end 2 ≡ b → cond b (Some (run g cs).node) None ≡ Some node → (eqb (run g cs).end 2 ≡ true) × ((run g cs).node ≡ node)
    is-late true node e q = (e, cc)
    is-late false node e q = absurd (cc)

    is_not : (b : Bool) → eqb (run g cs).end 2 ≡ b → cond b (Some (run g cs).node) None ≡ None → eqb (run g cs).end 2 ≡ false
    is_not true e q = absurd (cc)
    is_not false e q = e

    -- it is late
    pub late_counted : {node : ℕ} → found ≡ Some node → node < 8 → 8 ≤ length nodes → Counted g w runs seed left (late + 1) (set nodes node (get_or nodes node 0 + 1)) next
    late_counted {node} is h long =
        let q = is-late (eqb (run g cs).end 2) node refl (sym T.0 ∙ is) in
        let marks : ◌≡◌ {A = ℕ} (cond (ends_late g w cs) 1 0) 1 = ap (λ (b : Bool). cond {A = ℕ} b 1 0) q.0 in
        record {
          all = omega (arith, counts (ends_late g w), C.all, marks);
          each =
              λ c k.
              by_cases (ℕ_discrete c node)
              (λ e. let m : ◌≡◌ {A = ℕ} (cond (ends_late_at g w c cs) 1 0) 1 = ap₂ (λ (a b : Bool). cond {A = ℕ} (a && b) 1 0) q.0 (eq-eqb (run g cs).node c (q.1 ∙ sym e)) in
              omega (arith, counts (ends_late_at g w c), C.each c k, m, one_up nodes node c (omega (arith, h, long)) e))
              (λ e. let m : ◌≡◌ {A = ℕ} (cond (ends_late_at g w c cs) 1 0) 0 = ap₂ (λ (a b : Bool). cond {A = ℕ} (a && b) 1 0) q.0 (ne_eqb (run g cs).node c (λ z. e (sym z ∙ q.1))) in
              omega (arith, counts (ends_late_at g w c), C.each c k, m, get_or-set_other nodes node c (get_or nodes node 0 + 1) 0 e));
          draw = drawn_on;
        }

    -- it is not
    pub none_late : found ≡ None → Counted g w runs seed left late nodes next
    none_late is =
        let q = is_not (eqb (run g cs).end 2) refl (sym T.0 ∙ is) in
        let marks : ◌≡◌ {A = ℕ} (cond (ends_late g w cs) 1 0) 0 = ap (λ (b : Bool). cond {A = ℕ} b 1 0) q in
        record {
          all = omega (arith, counts (ends_late g w), C.all, marks);
          each =
              λ c k.
              let m : ◌≡◌ {A = ℕ} (cond (ends_late_at g w c cs) 1 0) 0 = ap (λ (b : Bool). cond {A = ℕ} (b && eqb (run g cs).node c) 1 0) q in
              omega (arith, counts (ends_late_at g w c), C.each c k, m);
          draw = drawn_on;
        }

-- ## All

-- a list by its numbers
by_numbers : (f : ℕ → ℕ) (i n : ℕ) (xs : List ℕ) → length xs ≡ n → ((c : ℕ) → c < n → get_or xs c 0 ≡ f (i + c)) → xs ≡ map f (from i n)
by_numbers f i zero [] e h = refl
by_numbers f i zero (x ∷ xs) e h = absurd (omega (arith, e))
by_numbers f i (suc n) [] e h = absurd (omega (arith, e))
by_numbers f i (suc n) (x ∷ xs) e h =
    let a : i + 0 ≡ i = omega arith in
    ap₂ (λ (y : ℕ) (ys : List ℕ). y ∷ ys) (h 0 (omega arith) ∙ ap f a)
    (by_numbers f (suc i) n xs (omega (arith, e)) (λ c k. h (suc c) (omega arith) ∙ ap f (let b : i + suc c ≡ suc i + c = omega arith in b)))

-- no run is left
pub all_counted : (g : Setting) (w : Span) {runs seed late : ℕ} {nodes : List ℕ} {state : ℕ} → Counted g w runs seed 0 late nodes state → length nodes ≡ 8
    → TalliedAs g w runs seed (record { late = late; nodes = nodes; state = state })
unfolding trials draw_after
all_counted g w {runs} {seed} {late} {nodes} {state} C eight =
    record {
      late = omega (arith, C.all);
      nodes =
          by_numbers (λ c. length (only (ends_late_at g w c) (trials g w runs seed))) 0 8 nodes eight
          (λ c h.
          let a : c ≡ 0 + c = omega arith in
          let e : get_or nodes c 0 ≡ length (only (ends_late_at g w c) (trials g w runs seed)) = omega (arith, C.each c h) in
          e ∙ ap (λ (i : ℕ). length (only (ends_late_at g w i) (trials g w runs seed))) a);
      state = C.draw;
    }

-- ## The loop over the runs of a table

-- so many are left, and no count is above those that are done
pub record Tallying (table : List ℕ) (w : Span) (runs seed left late : ℕ) (nodes : List ℕ) (state : ℕ) : Type 0 where
  pub few : late + left ≤ runs
  pub eight : length nodes ≡ 8
  pub each : (c : ℕ) → c < 8 → get_or nodes c 0 + left ≤ runs
  pub counted : (S : List Passage) → accepted_schedule_of (read_of table) ≡ accepted S → Counted (setting_of (read_of table) S) w runs seed left late nodes state

module _ (table : List ℕ) (valid : Valid table) (w : Span) {runs seed : ℕ} where
  -- none is done
  pub tally_first : {zeros : List ℕ} → length zeros ≡ 8 → ((c : ℕ) → c < 8 → get_or zeros c 0 ≡ 0) → Tallying table w runs seed runs 0 zeros seed
  tally_first long z =
      record {
        few = omega arith;
        eight = long;
        each = λ c h. omega (arith, z c h);
        counted = λ S e. none_counted (setting_of (read_of table) S) w runs seed z;
      }

  module _ {left late : ℕ} {nodes : List ℕ} {state : ℕ} (T : Tallying table w runs seed left late nodes state) where
    -- other names of the counts
    pub counts_as : {late' : ℕ} {nodes' : List ℕ} → late' ≡ late → nodes' ≡ nodes → Tallying table w runs seed left late' nodes' state
    counts_as {late'} {nodes'} e f =
        subst (λ (k : ℕ). Tallying table w runs seed left k nodes' state) (sym e) (subst (λ (l : List ℕ). Tallying table w runs seed left late l state) (sym f) T)

    module _ (some : 0 < left) {found : Option ℕ} {next : ℕ} (R : (S : List Passage) → accepted_schedule_of (read_of table) ≡ accepted S → TriedAs (setting_of (read_of table) S) w state found next) where
      ahead : (S : List Passage) → accepted_schedule_of (read_of table) ≡ accepted S → Counted (setting_of (read_of table) S) w runs seed (suc (left - 1)) late nodes state
      ahead S e =
          let a : left ≡ suc (left - 1) = omega (arith, some) in
          subst (λ (k : ℕ). Counted (setting_of (read_of table) S) w runs seed k late nodes state) a (T.counted S e)

      -- one more is done, late ..
      pub tally_late : {node : ℕ} → found ≡ Some node → node < 8 → Tallying table w runs seed (left - 1) (late + 1) (set nodes node (get_or nodes node 0 + 1)) next
      tally_late {node} is h =
          record {
            few = omega (arith, T.few, some);
            eight = length-set nodes node (get_or nodes node 0 + 1) ∙ T.eight;
            each =
                λ c k.
                by_cases (ℕ_discrete c node)
                (λ e. omega (arith, T.each c k, some, one_up nodes node c (omega (arith, h, T.eight)) e))
                (λ e. omega (arith, T.each c k, get_or-set_other nodes node c (get_or nodes node 0 + 1) 0 e));
            counted = λ S e. late_counted (setting_of (read_of table) S) w (ahead S e) (R S e) is h (omega (arith, T.eight));
          }

      -- .. or not
      pub tally_on : found ≡ None → Tallying table w runs seed (left - 1) late nodes next
      tally_on is =
          record {
            few = omega (arith, T.few);
            eight = T.eight;
            each = λ c k. omega (arith, T.each c k);
            counted = λ S e. none_late (setting_of (read_of table) S) w (ahead S e) (R S e) is;
          }

    -- all are done
    pub tally_done : left ≡ 0 → (S : List Passage) → accepted_schedule_of (read_of table) ≡ accepted S
        → TalliedAs (setting_of (read_of table) S) w runs seed (record { late = late; nodes = nodes; state = state })
    tally_done z S e =
        all_counted (setting_of (read_of table) S) w (subst (λ (k : ℕ). Counted (setting_of (read_of table) S) w runs seed k late nodes state) z (T.counted S e)) T.eight
