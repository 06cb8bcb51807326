-- The schedule without its loop: each component's passages are a chain that obeys the opening rule, they stand in the order of opening,
-- and the messages are those sought in the list itself. The law `is_schedule` in proofs/ says that this is the schedule.
use Rattle.std.specs.Prelude.{◌≡◌, ◌⊎◌, List, [], ◌∷◌, ℕ, ◌≤◌, ◌<◌, length}
use Rattle.model.specs.Lists.{All, accepted}
use Rattle.model.specs.Table.{Component, Table, size, component_of, arc_of}
use Rattle.model.specs.Window.{Entry, channel_of, leaves}
use Rattle.model.specs.Schedule.{Passage, own, message_in, with_message, start_entry, opening}

-- w is the passage that component c opens as it enters there; its message is put in later
abbrev pub Opens : ℕ → Component → Entry → Passage → Type 0
Opens c C at w = opening c C at ≡ accepted (with_message w (channel_of (arc_of C w.edge)))

-- v and the passages after it: each opens where the one before leads to, and only the last ends at the horizon or later
pub data Chain (H c : ℕ) (C : Component) : Passage → List Passage → Type 0 where
  last : {v : Passage} → H ≤ v.end → Chain H c C v []
  link : {v w : Passage} {ws : List Passage} → v.end < H → Opens c C (leaves (arc_of C v.edge) v.message v.end v.entry) w
      → Chain H c C w ws → Chain H c C v (w ∷ ws)

-- the passages of component c
pub record Chained (H c : ℕ) (C : Component) (vs : List Passage) : Type 0 where
  pub head : Passage
  pub tail : List Passage
  pub is : vs ≡ head ∷ tail
  pub starts : Opens c C (start_entry C) head
  pub chain : Chain H c C head tail

-- v opens before w: at an earlier tick, or at the same tick in a component of a lower number
abbrev pub Before : Passage → Passage → Type 0
Before v w = (v.entry.tick < w.entry.tick) ⊎ ((v.entry.tick ≡ w.entry.tick) × (v.component < w.component))

pub data Ordered : List Passage → Type 0 where
  none : Ordered []
  more : {v : Passage} {vs : List Passage} → All (Before v) vs → Ordered vs → Ordered (v ∷ vs)

pub record IsSchedule (limit : ℕ) (T : Table) (H : ℕ) (S : List Passage) : Type 0 where
  pub few : length S ≤ limit
  pub present : All (λ v. v.component < size T) S
  pub chains : (c : ℕ) → c < size T → Chained H c (component_of T c) (own c S)
  pub messages : All (λ v. v.message ≡ message_in T H S v) S
  pub order : Ordered S
