-- The three walks of the search: what each finds.
use Rattle.std.specs.Prelude.{◌≡◌, List, ℕ, ◌+◌, ◌≤◌, ◌<◌, Option, Some, None}
use Rattle.std.proofs.Math.Option.{Option as Perhaps, none, some}
use Rattle.model.specs.Places.{read_of}
use Rattle.rows.specs.Rows.{num}
use Rattle.recurrence.specs.declared.Pair.{Pair}
use Rattle.recurrence.specs.Recurrence.{Recurrence, recurrence}
use Rattle.recurrence.proofs.Joint.{RowsAlike}
use Rattle.period.specs.Walking.{schedule_in, Joins, PlacesAgree}

-- z is the last row at which all enter
pub record LastJoint (l : List ℕ) (n k z : ℕ) : Type 0 where
  pub there : z < n
  pub joins : Joins l n k z
  pub after : (j : ℕ) → z < j → Joins l n k j → ⊥

-- the last number before z of which P holds, if there is one
abbrev pub LastBefore : (ℕ → Type 0) → ℕ → Option ℕ → Type 0
LastBefore P z None = (j : ℕ) → j < z → P j → ⊥
LastBefore P z (Some y) = (y < z) × P y × ((j : ℕ) → y < j → j < z → P j → ⊥)

-- at row j all enter, at the locations of row z; and in its states
abbrev pub There : List ℕ → ℕ → ℕ → ℕ → ℕ → Type 0
There l n k z j = Joins l n k j × PlacesAgree l k j z

abbrev pub Like : List ℕ → List ℕ → ℕ → ℕ → ℕ → ℕ → Type 0
Like bs l n k z j = Joins l n k j × RowsAlike (schedule_in bs) k j z

-- the last row before z at which all enter at the locations of z
abbrev pub LastThere : List ℕ → ℕ → ℕ → ℕ → Option ℕ → Type 0
LastThere l n k z y = LastBefore (There l n k z) z y

-- the last row before z at which all enter in the states of z
abbrev pub LastLike : List ℕ → List ℕ → ℕ → ℕ → ℕ → Option ℕ → Type 0
LastLike bs l n k z y = LastBefore (Like bs l n k z) z y

-- rows i and j, at which all enter in the same states, stand so many ticks apart
pub record Apart (bs l : List ℕ) (n k distance i j : ℕ) : Type 0 where
  pub early : Joins l n k i
  pub late : Joins l n k j
  pub distant : num l j 3 ≡ num l i 3 + distance
  pub alike : RowsAlike (schedule_in bs) k i j

-- the first two such rows
pub record FirstLike (bs l : List ℕ) (n k distance : ℕ) (r : Option Pair) : Type 0 where
  pub i : ℕ
  pub j : ℕ
  pub apart : Apart bs l n k distance i j
  pub first : (e f : ℕ) → e < i → Apart bs l n k distance e f → ⊥
  pub told : r ≡ Some (record { from = num l i 3; to = num l i 3 + distance })

-- a pair, or none
abbrev pub PairIs : Perhaps Recurrence → Option Pair → Type 0
PairIs none r = r ≡ None
PairIs (some p) r = r ≡ Some (record { from = p.from; to = p.to })
