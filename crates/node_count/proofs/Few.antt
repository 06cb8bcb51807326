-- A table that is read has at most 8 nodes. Assumes nothing.
use mathlib.Core.Path.{◌≡◌}
use mathlib.Core.Bool.{◌&&◌}
use mathlib.Core.List.{List}
use Prim.Native.Nat.{ℕ, ◌≤◌}
use native.Mathlib.Omega.{arith}
use Rattle.model.specs.Lists.{accepted}
use Rattle.model.specs.Table.{Read}
use Rattle.model.specs.Reader.{byte, version_fine, length_fine, count_fine, bands_fine, read_table}
use Rattle.model.proofs.Reader.Parts.{cond_accepted}
use Rattle.model.proofs.Basics.Bools.{and_is, tests}

pub read_few : (table : List ℕ) (t : Read) → read_table table ≡ accepted t → byte table 3 ≤ 8
unfolding read_table
read_few table t e =
    let first = cond_accepted (version_fine table) _ 1 255 e in
    let second = cond_accepted (length_fine table) _ 2 255 first.1 in
    let third = cond_accepted (count_fine table && bands_fine table) _ 3 255 second.1 in
    let both = (and_is (count_fine table) (bands_fine table)).0 third.0 in
    let numbers = simp tests at both.0 in
    omega arith
