-- `verdict_text::put_each_met` meets its contract. Assumes nothing.
use mathlib.Core.Path.{◌≡◌}
use mathlib.Core.List.{◌++◌}
use Prim.Native.Nat.{◌+◌, ◌*◌, ◌-◌, ◌≤◌}
use lib.ListN.{length, take}
use Rattle.verdict_text.specs.VerdictText.{met_at, met_line}
use Rattle.text.proofs.Lines.{left}
use Rattle.verdict_text.proofs.put_each_met.Given as goal

abbrev pub invariant-loop-i : goal.invariant-loop-i
invariant-loop-i l =
    (1 ≤ l.i) × (l.i ≤ l.n) × (l.at + l.n * 160 ≤ length l.initial.out) × (l.n * 7 ≤ length l.list) × (length l.out ≡ length l.initial.out) × (l.end ≤ l.at + l.i * 160)
    × (take l.end l.out ++ left 7 met_at (met_line l.spread l.number (met_at l.list)) l.list l.n l.i ≡ take l.at l.initial.out ++ left 7 met_at (met_line l.spread l.number (met_at l.list)) l.list l.n 1)

abbrev pub decreases-loop-i : goal.decreases-loop-i
decreases-loop-i l = l.n - l.i
