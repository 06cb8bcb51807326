-- What a row's edge tells: whether it is a send in time; and its component's number is small. Assumes nothing.
use mathlib.Core.Path.{◌≡◌, refl, ◌∙◌}
use mathlib.Core.Bool.{Bool, true, false, ◌&&◌, not}
use mathlib.Core.List.{List}
use Prim.Native.Nat.{ℕ, ◌≤◌, ◌<◌}
use native.Mathlib.Omega.{arith}
use borrow.Author.Tests.{lt-ltb, le-ltb}
use mir.Val.{Fits}
use mir.Syntax.{w8}
use lib.ListN.{get_or}
use Rattle.model.specs.Lists.{is_none}
use Rattle.model.specs.Table.{Table}
use Rattle.model.specs.Window.{channel_of}
use Rattle.model.specs.Places.{read_of}
use Rattle.model.specs.Schedule.{Passage, passage_arc}
use Rattle.model.specs.Checks.{is_send}
use Rattle.model.proofs.Reader.RoundTrip.{written_read}
use Rattle.model.proofs.Reader.Located.{valid_read}
use Rattle.rows.specs.Rows.{num, option_of, RowsPlaced}
use Rattle.std.specs.Prelude.{is_some}
use Rattle.std.specs.declared.option.Option.{Option as Found}
use Rattle.std.specs.declared.option.Option.TheVariants.{Some, None}
use Rattle.rows.proofs.Placed.{known_bytes}
use Rattle.checks.specs.Faults.{RowStands}

-- a table has at most eight components
pub row_small : (bs l : List ℕ) (n i : ℕ) → ((j : ℕ) → Fits w8 (get_or bs j 0)) → RowsPlaced bs l n → i < n → num l i 0 < 8
row_small bs l n i b r h =
    let w = written_read bs (read_of bs) (known_bytes bs b) (valid_read bs r.valid) in
    omega (arith, w.0.most_components, (r.row i h).present)

pub row_stands : (bs l : List ℕ) (n i : ℕ) → ((j : ℕ) → Fits w8 (get_or bs j 0)) → RowsPlaced bs l n → i < n → RowStands l i
row_stands bs l n i b r h = record { fits = omega (arith, r.fits); small = row_small bs l n i b r h }

-- ## A send with ready < H: the number first

pub and_false : (a : Bool) → a && false ≡ false
and_false true = refl
and_false false = refl

module _ (T : Table) (H : ℕ) (v : Passage) where
  pub ready_late : H ≤ v.ready → false ≡ is_send T H v
  ready_late h = rw (le-ltb v.ready H h, and_false)

  pub ready_early : (o : Found ℕ) → v.ready < H → option_of o ≡ channel_of (passage_arc T v) → is_some o ≡ is_send T H v
  ready_early o h e = rw (lt-ltb v.ready H h, ← e) (same_found o ∙ same (not (is_none (option_of o))))
    where
      same_found : (x : Found ℕ) → is_some x ≡ not (is_none (option_of x))
      same_found None = refl
      same_found (Some k) = refl

      same : (a : Bool) → a ≡ a && true
      same true = refl
      same false = refl
