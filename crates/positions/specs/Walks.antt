-- The walk through the rows: what has been read, and what is answered.
use Rattle.std.specs.Prelude.{◌≡◌, List, ℕ, ◌*◌, ◌≤◌, ◌<◌, length, get_or}
use Rattle.model.specs.Table.{size}
use Rattle.model.specs.Places.{read_of}
use Rattle.model.specs.Positions.{Asked, bad_pair, PositionsCall}
use Rattle.rows.specs.Rows.{num}
use Rattle.schedule.specs.Filled.{AcceptedRows}
use Rattle.positions.specs.declared.Positioned.{Positioned}

-- the last of the first k rows that is of component c
pub record Last (l : List ℕ) (k c i : ℕ) : Type 0 where
  pub there : i < k
  pub component : num l i 0 ≡ c
  pub after : (j : ℕ) → i < j → j < k → num l j 0 ≡ c → ⊥

-- k of n rows were read, all entered by the tick; for each component that has one among them the last is kept
pub record ReadUpTo (l : List ℕ) (n : ℕ) (latest : List ℕ) (k tick : ℕ) : Type 0 where
  pub few : n ≤ 1024
  pub fits : n * 9 ≤ length l
  pub within : k ≤ n
  pub small : (i : ℕ) → i < n → num l i 0 < 8
  pub entered : (i : ℕ) → i < k → num l i 3 ≤ tick
  pub last : (i : ℕ) → i < k → Last l k (num l i 0) (get_or latest (num l i 0) 0)

-- the rows of some accepted table, of which all pairs can be asked
pub record Walkable (l : List ℕ) (n : ℕ) (qs : List Asked) : Type 0 where
  pub table : List ℕ
  pub rows : AcceptedRows table l n
  pub components : size (read_of table).table ≤ 8
  pub fine : bad_pair (read_of table) 0 qs ≡ 0

-- the call's answer, and the lent bytes afterwards
pub record Gives (call : PositionsCall) (r : Positioned) (after : List ℕ) : Type 0 where
  pub verdict : r.verdict ≡ call.verdict
  pub read : r.read ≡ call.read
  pub lent : after ≡ call.lent
