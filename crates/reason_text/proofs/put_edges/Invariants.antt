-- `reason_text::put_edges` meets its contract. Assumes nothing.
use mathlib.Core.Path.{◌≡◌}
use Prim.Native.Nat.{◌+◌, ◌*◌, ◌≤◌}
use lib.ListN.{length}
use Rattle.model.specs.Places.{arc_place, component_in}
use Rattle.window.specs.Views.{entry_of}
use Rattle.text.specs.Words.{Added}
use Rattle.reason_text.proofs.Lining.{lines_before}
use Rattle.reason_text.proofs.put_edges.Given as goal

abbrev pub invariant-loop-e : goal.invariant-loop-e
invariant-loop-e l =
    (l.e ≤ l.count) × (l.place ≡ arc_place l.table l.start l.e) × (l.at ≤ l.from + l.e * 180) × (length l.out ≡ length l.initial.out)
    × Added l.initial.out l.from (lines_before (component_in l.table l.c) (entry_of l.entry) l.taken l.ready l.end l.e) l.out l.at
