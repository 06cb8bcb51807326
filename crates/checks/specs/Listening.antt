-- "For each send the components listening are noted as eight bits, and exactly one may be set, by one window." What is noted of the windows
-- found that may hear a send: the components listening, those that do so by more than one window, and each one's row.
use Rattle.std.specs.Prelude.{◌⊎◌, ◌≡◌, true, cond, List, [], ◌∷◌, ℕ, ◌^◌, ◌≢◌, ◌≤◌, ◌<◌, eqb, length, get_or}
use Rattle.std.proofs.Math.Option.{none, some}
use Rattle.std.specs.Int.Bits.{bit_or}
use Rattle.std.specs.Int.Count.{ones}
use Rattle.model.specs.declared.Hearing.{Hearing}
use Rattle.model.specs.declared.Hearing.TheVariants.{Well}
use Rattle.model.specs.Lists.{first}
use Rattle.model.specs.Table.{Table}
use Rattle.model.specs.Schedule.{Passage}
use Rattle.model.specs.Checks.{may_hear, heard_as, unheard, crowded}
use Rattle.rows.specs.Rows.{num, row_passage, rows_of}
use Rattle.checks.specs.declared.unheard.SendsHeard.{SendsHeard}
use Rattle.checks.specs.declared.unheard.SendsHeard.TheVariants.{Apart, Shared}
use Rattle.checks.specs.declared.unheard.Unheard.{Unheard}
use Rattle.std.specs.declared.result.Result.{Result}
use Rattle.std.specs.declared.result.Result.TheVariants.{Ok, Err}

-- those that listen by more than one window, with one more window of component c, whose bit may be set already
abbrev pub repeated_with : ℕ → ℕ → ℕ → ℕ
repeated_with listening repeated c = cond (eqb (bit_or listening (2 ^ c)) listening) (bit_or repeated (2 ^ c)) repeated

-- one window, of one of n rows: its component's bit alone is set, once, and the row stands at the component's place
pub record Alone (l : List ℕ) (n : ℕ) (window : Passage) (listening repeated : ℕ) (rows : List ℕ) : Type 0 where
  pub row : ℕ
  pub there : row < n
  pub is : window ≡ row_passage l row
  pub bit : listening ≡ 2 ^ num l row 0
  pub once : repeated ≡ 0
  pub at : get_or rows (num l row 0) 0 ≡ row

-- no window, one, or more: then a component listens, two do, or one by more than one window
abbrev pub Masks : List ℕ → ℕ → List Passage → ℕ → ℕ → List ℕ → Type 0
Masks l n [] listening repeated rows = (listening ≡ 0) × (repeated ≡ 0)
Masks l n (v ∷ []) listening repeated rows = Alone l n v listening repeated rows
Masks l n (v ∷ w ∷ vs) listening repeated rows = (1 ≤ ones listening) × ((2 ≤ ones listening) ⊎ (1 ≤ repeated))

pub record Noted (l : List ℕ) (n : ℕ) (found : List Passage) (listening repeated : ℕ) (rows : List ℕ) : Type 0 where
  pub masks : Masks l n found listening repeated rows
  pub room : length rows ≡ 8

-- one receive window hears a send well, or as the fault says
abbrev pub HeardAlone : {A : Type 0} → Result A Hearing → Hearing → Type 0
HeardAlone (Ok x) hearing = Well ≡ hearing
HeardAlone (Err fault) hearing = (fault ≡ hearing) × (fault ≢ Well)

-- of n rows that hear the send of row i well this is one, and the only one that may hear it
pub record HeardBy (G : ℕ) (T : Table) (l : List ℕ) (n i row : ℕ) : Type 0 where
  pub told : Well ≡ heard_as G T (rows_of l n) (row_passage l i)
  pub there : row < n
  pub alone : (j : ℕ) → j < n → may_hear G T (row_passage l j) (row_passage l i) ≡ true → j ≡ row

-- how n rows hear the send of row i
abbrev pub HeardIs : ℕ → Table → List ℕ → ℕ → ℕ → Result ℕ Hearing → Type 0
HeardIs G T l n i (Ok row) = HeardBy G T l n i row
HeardIs G T l n i (Err fault) = (fault ≡ heard_as G T (rows_of l n) (row_passage l i)) × (fault ≢ Well)

-- what is told of 11 and 12
abbrev pub HeardAs : ℕ → Table → ℕ → List ℕ → ℕ → Result SendsHeard Unheard → Type 0
HeardAs G T H l n (Ok Apart) = (none ≡ first (unheard G T H (rows_of l n)) (rows_of l n)) × (none ≡ first (crowded G T H (rows_of l n)) (rows_of l n))
HeardAs G T H l n (Ok Shared) = none ≡ first (unheard G T H (rows_of l n)) (rows_of l n)
HeardAs G T H l n (Err fault) =
    (some (row_passage l fault.send) ≡ first (unheard G T H (rows_of l n)) (rows_of l n)) × (fault.send < n) × (fault.hearing ≡ heard_as G T (rows_of l n) (row_passage l fault.send))
