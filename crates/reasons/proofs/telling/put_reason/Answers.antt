-- `reasons::telling::put_reason` meets its contract. Assumes nothing.
use native.Mathlib.Omega.{arith}
use native.Mathlib.Numerals.{towards_suc}
use lib.ListN.{length-set}
use Rattle.reasons.proofs.telling.put_reason.Goals as goal

pub bounds-told-at-2 : goal.bounds-told-at-2
bounds-told-at-2 c = simp length-set (omega arith)

pub bounds-told-at-3 : goal.bounds-told-at-3
bounds-told-at-3 c = simp length-set (omega arith)

pub returns : goal.returns
returns c = rw (c.reason_number.ensures, c.reason_bound.ensures) (simp towards_suc)
