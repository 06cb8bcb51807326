-- What `PairTrue` says, spelt out without its name: a hypothesis more in it, or in what it names, or a field less, no longer gives these. The laws
-- are projections and prove nothing else.
use Rattle.std.specs.Prelude.{◌≡◌, true, false, List, [], ℕ, ◌+◌, ◌*◌, ◌≤◌, ◌<◌, length}
use Rattle.model.specs.Lists.{◌∈◌, accepted}
use Rattle.model.specs.Table.{Table, Read, size}
use Rattle.model.specs.Reader.{read_table}
use Rattle.model.specs.Window.{Entry}
use Rattle.model.specs.Schedule.{Passage, own}
use Rattle.model.specs.Checks.{accepted_schedule_of, IndependentWithin}
use Rattle.model.specs.Run.{setting_to, run}
use Rattle.model.specs.Demand3.{Demand3}
use Rattle.model.specs.Finishes.{Finishes, OnPath}
use Rattle.model.specs.Progress.{Reaches, Continues, UsesAtMost}
use Rattle.recurrence.specs.Recurrence.{timeless, Recurs, accepted_schedule_to, recurrence_call, PairTrue}

-- ## The pair

-- "ticks with a < b < H at which all components enter, with equal locations, clocks and variables at both"
pub recurs_says : (T : Table) (H : ℕ) (S : List Passage) (a b : ℕ) → Recurs T H S a b
    → (a < b) × (b < H)
    × ((c : ℕ) → c < size T
    → (at : Entry) × ((v : Passage) × (v ∈ own c S) × (v.entry.tick ≡ a) × (timeless v.entry ≡ at))
    × ((v : Passage) × (v ∈ own c S) × (v.entry.tick ≡ b) × (timeless v.entry ≡ at)))
recurs_says T H S a b r = (
  r.before,
  r.below,
  λ c l. let x = r.enters c l in
      let p = x.1 in
      let q = x.2 in
      (x.0, (p.passage, p.listed, p.tick, p.state), (q.passage, q.listed, q.tick, q.state)),
)

module _ (table : List ℕ) (p : PairTrue table) (t : Read) (S : List Passage) (r : read_table table ≡ accepted t) (e : accepted_schedule_of t ≡ accepted S) where
  -- "the first such b in the schedule and the first a for it"
  pub pair_says : (recurrence_call table).found ≡ true
      → Recurs t.table t.horizon S (recurrence_call table).from (recurrence_call table).to
      × ((x y : ℕ) → Recurs t.table t.horizon S x y → (recurrence_call table).to ≤ y)
      × ((x : ℕ) → Recurs t.table t.horizon S x (recurrence_call table).to → (recurrence_call table).from ≤ x)
  pair_says f = let d = (p t S r e).first f in (d.recurs, d.first_b, d.first_a)

  -- ", or none"
  pub no_pair_says : (recurrence_call table).found ≡ false → (a b : ℕ) → Recurs t.table t.horizon S a b → ⊥
  no_pair_says f = (p t S r e).none f

  -- "Where it reports one, the network is proved free of a global scheduler for every later horizon too", and the runs hold to the path: every
  -- horizon from 1 on, every list of choices
  pub endless_says : (recurrence_call table).found ≡ true → (H : ℕ) → 1 ≤ H
      → (P : List Passage) × (accepted_schedule_to t.table H ≡ accepted P) × IndependentWithin 0 t.table H P
      × ((cs : List ℕ) → Demand3 t H P cs)
      × ((cs : List ℕ) → Finishes t H P [] cs × OnPath t H P cs)
      × Reaches t H P × Continues t H P
      × ((cs : List ℕ) → length (run (setting_to t H P) cs).state.observations ≤ length P)
      × UsesAtMost (H + (length P * 658 + size t.table * 1299)) t H P
  endless_says f H l =
      let u = (p t S r e).endless f H l in
      (u.passages, u.planned, u.independent, u.demand3, u.finishes, u.reaches, u.continues, u.few, u.uses)
