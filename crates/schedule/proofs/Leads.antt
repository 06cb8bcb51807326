-- An open passage closes: its edge can be read at its place, and leads to a location of its component. Assumes nothing.
use mathlib.Core.Path.{◌≡◌, sym, ap, ap₂, subst, ◌∙◌}
use mathlib.Core.Bool.{Bool}
use mathlib.Core.List.{List}
use mathlib.Core.Option.{Option}
use Prim.Native.Nat.{ℕ, ◌-◌, ◌≤◌, ◌<◌}
use native.Mathlib.Omega.{arith}
use mir.Val.{Fits}
use mir.Syntax.{w8}
use lib.ListN.{length, take, drop, get_or}
use Rattle.model.specs.Table.{header_of, Arc, sizes_of, size}
use Rattle.model.specs.Limits.{ComponentIn}
use Rattle.model.specs.Window.{leads_to, leaves}
use Rattle.model.specs.Places.{arc_at, budgeted, read_of, component_in}
use Rattle.model.specs.Schedule.{passage_arc, message_in}
use Rattle.model.proofs.Reader.Located.{valid_in}
use Rattle.parts.proofs.Skim.{tail}
use Rattle.window.specs.declared.Entry.{Entry}
use Rattle.window.specs.Views.{ArcReady, entry_of}
use Rattle.window.proofs.Ready.{valid_ready}
use Rattle.rows.specs.Rows.{num, message_of, row_passage, rows_of, RowsPlaced, RowPlaced, RowKnown}
use Rattle.rows.proofs.Placed.{known_bytes, row_known, at_within, at_arc}
use Rattle.schedule.specs.declared.Node.{Node}
use Rattle.schedule.specs.Going.{Stands}
use Rattle.schedule.proofs.Cut.{arc_in, leads_in}

module _ (bs l : List ℕ) (n c : ℕ) (node : Node) (tick : ℕ) (b : (j : ℕ) → Fits w8 (get_or bs j 0)) (r : RowsPlaced bs l n) (s : Stands l n c node tick) where
  known : RowKnown bs l node.row
  known = row_known bs l n node.row r s.row

  placed : RowPlaced bs l node.row
  placed = r.row node.row s.row

  pub place_within : node.place < length bs
  place_within = at_within bs l node.row node.place b known (sym s.place)

  -- the bytes there are its edge
  pub place_arc : (w : Bool) → w ≡ budgeted bs → arc_at w (take (length bs - node.place) (drop node.place bs)) ≡ passage_arc (read_of bs).table (row_passage l node.row)
  place_arc w same = at_arc bs l node.row node.place b known (sym s.place) w same

  pub place_ready : (w : Bool) → w ≡ budgeted bs → ArcReady w (take (length bs - node.place) (drop node.place bs))
  place_ready w same =
      rw (same, tail bs node.place, ← s.place, placed.place)
      (valid_ready bs (known_bytes bs b) r.valid (num l node.row 0) placed.present (num l node.row 1) placed.there)

  pub its_present : c < size (read_of bs).table
  its_present = subst (λ (k : ℕ). k < size (read_of bs).table) s.component placed.present

  pub its_in : ComponentIn (header_of (read_of bs)) (component_in bs c)
  its_in = valid_in bs (known_bytes bs b) r.valid c its_present

  -- it ends after it was entered
  pub its_tick : node.entry.tick ≤ tick
  its_tick = omega (arith, s.tick, s.end, placed.early, placed.window)

  -- it leads to a location
  pub leads_there : (w : Bool) → w ≡ budgeted bs → (m : Option ℕ) → leads_to (arc_at w (take (length bs - node.place) (drop node.place bs))) m < length (component_in bs c).locations
  leads_there w same m =
      subst (λ (a : Arc). leads_to a m < length (component_in bs c).locations) (sym (place_arc w same))
      (subst (λ (k : ℕ). leads_to (passage_arc (read_of bs).table (row_passage l node.row)) m < length (component_in bs k).locations) s.component
      (leads_in (sizes_of (header_of (read_of bs)) (component_in bs (num l node.row 0))) (passage_arc (read_of bs).table (row_passage l node.row)) m
      (arc_in (header_of (read_of bs)) (component_in bs (num l node.row 0)) (valid_in bs (known_bytes bs b) r.valid (num l node.row 0) placed.present) (num l node.row 1) placed.there)))

  module _ (w : Bool) (same : w ≡ budgeted bs) (H m : ℕ) (at : Entry) (is : entry_of at ≡ leaves (arc_at w (take (length bs - node.place) (drop node.place bs))) (message_of m) tick (entry_of node.entry)) where
    pub location_there : at.location < length (component_in bs c).locations
    unfolding leaves
    location_there =
        subst (λ (k : ℕ). k < length (component_in bs c).locations) (sym (ap (λ (e : Rattle.model.specs.Window.Entry). e.location) is)) (leads_there w same (message_of m))

    pub leaves_row : message_of m ≡ message_in (read_of bs).table H (rows_of l n) (row_passage l node.row)
        → entry_of at ≡ leaves (passage_arc (read_of bs).table (row_passage l node.row)) (message_in (read_of bs).table H (rows_of l n) (row_passage l node.row)) tick (entry_of node.entry)
    leaves_row e = is ∙ ap₂ (λ (a : Arc) (k : Option ℕ). leaves a k tick (entry_of node.entry)) (place_arc w same) e
