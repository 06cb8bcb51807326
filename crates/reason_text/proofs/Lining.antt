-- The lines of the edges from a location, one after the other, and that they are those of the definition. Assumes nothing.
use mathlib.Core.Path.{◌≡◌, refl, sym, ap, ◌∙◌}
use mathlib.Core.Bool.{Bool, true, false, cond}
use mathlib.Core.List.{List, [], ◌++◌, append-nil}
use Prim.Native.Nat.{ℕ, ◌+◌}
use borrow.Author.Tests.{eqb-true, eqb-false, eq-eqb, ne_eqb}
use lib.Dec.{eqb}
use lib.ListN.{get_or}
use mir.Syntax.{w8}
use mir.Val.{Fits}
use Rattle.model.specs.declared.Location.{Location}
use Rattle.model.specs.Lists.{◌∈◌, each}
use Rattle.model.specs.Table.{Arc, Component, location_of, arc_of}
use Rattle.model.specs.Window.{Entry}
use Rattle.model.specs.Places.{component_in}
use Rattle.model.specs.Reasons.{reason_by, edges_from}
use Rattle.model.proofs.Schedule.Own.{all_then}
use Rattle.model.proofs.Schedule.Answered.{told_edge}
use Rattle.window.specs.Views.{entry_of}
use Rattle.rows.specs.Rows.{message_of}
use Rattle.schedule.proofs.Fields.{each_snoc}
use Rattle.reasons.specs.declared.Asked.{Asked}
use Rattle.reasons.specs.Stays.{named_by, Present}
use Rattle.reasons.proofs.EdgeReasons.{edges_before, before_in, before_out}
use Rattle.reasons.proofs.Laying.{each_same, clock_there, edge_in, same_reason}
use Rattle.text.specs.Words.{Added, ascii, field}
use Rattle.schedule_text.specs.ScheduleText.{passage_line}
use Rattle.text.proofs.Appended.{next, nothing, same_words}
use Rattle.reason_text.specs.ReasonText.{reason_words, line_at, edge_line, passage_head}
use Rattle.reason_text.specs.Lines.{line_if_here, lines_at}
use Rattle.reason_text.proofs.Wording.{bound_there, words_cut}

-- ## One edge

module _ (l : Location) (at : Entry) (taken ready end e : ℕ) (a : Arc) {before after : List ℕ} {from to : ℕ} where
  pub line_here : a.edge.source ≡ at.location → Added before from (line_at l at taken ready end e a) after to → Added before from (line_if_here l at taken ready end e a) after to
  line_here h w = rw (eq-eqb a.edge.source at.location h) w

pub line_elsewhere : (l : Location) (at : Entry) (taken ready end e : ℕ) (a : Arc) (before : List ℕ) (from : ℕ) → (a.edge.source ≡ at.location → ⊥)
    → Added before from (line_if_here l at taken ready end e a) before from
line_elsewhere l at taken ready end e a before from h = rw (ne_eqb a.edge.source at.location h) (nothing before from)

-- ## The edges before number e

module _ (C : Component) (at : Entry) (taken ready end : ℕ) where
  abbrev line : ℕ → List ℕ
  line e = line_at (location_of C at.location) at taken ready end e (arc_of C e)

  abbrev pub lines_before : ℕ → List ℕ
  lines_before e = each line (edges_before C at.location e)

  one_more : (e : ℕ) → lines_before (e + 1) ≡ lines_before e ++ line_if_here (location_of C at.location) at taken ready end e (arc_of C e)
  one_more e = go (eqb (arc_of C e).edge.source at.location) refl
    where
      go : (t : Bool) → eqb (arc_of C e).edge.source at.location ≡ t → lines_before (e + 1) ≡ lines_before e ++ cond t (line e) []
      go true q = ap (each line) (before_in C at.location e (eqb-true _ _ q)) ∙ each_snoc line (edges_before C at.location e) e
      go false q = ap (each line) (before_out C at.location e (eqb-false _ _ q)) ∙ sym (append-nil (lines_before e))

  pub turn : (l : Location) (e : ℕ) (a : Arc) {before between after : List ℕ} {from middle to : ℕ} → l ≡ location_of C at.location → a ≡ arc_of C e
      → Added before from (lines_before e) between middle → Added between middle (line_if_here l at taken ready end e a) after to → Added before from (lines_before (e + 1)) after to
  turn l e a p q first second =
      let s = same_words (line_if_here (location_of C at.location) at taken ready end e (arc_of C e)) second (rw (p, q)) in
      same_words (lines_before (e + 1)) (next first s) (sym (one_more e))

-- ## The definition

module _ (bs : List ℕ) (b : (j : ℕ) → Fits w8 (get_or bs j 0)) (r : Asked) (p : Present bs r) where
  abbrev C : Component
  C = component_in bs r.component

  same_line : (e : ℕ) → e ∈ edges_from C r.at.location
      → line_at (location_of C r.at.location) (entry_of r.at) r.edge r.ready r.end e (arc_of C e) ≡ edge_line C (named_by bs r).passage e
  same_line e m =
      let h = (told_edge C r.at.location e m).0 in
      let a = edge_in bs b r p e h in
      let l = location_of C r.at.location in
      let given = reason_by l (entry_of r.at) r.edge r.ready e (arc_of C e) in
      let words = words_cut C l (entry_of r.at) r.edge r.ready r.end (arc_of C e) (clock_there bs b r p) (all_then (λ g q. q.clock) a.clock_guards) (all_then (λ g q. q.variable) a.data_guards) given (bound_there l (entry_of r.at) r.edge r.ready e (arc_of C e)) in
      ap (λ w. field "edge " e ++ ascii ": " ++ w ++ ascii "\n") (words ∙ ap (reason_words l (named_by bs r).passage.entry r.edge r.ready r.end (arc_of C e)) (same_reason bs b r p e h))

  pub all_lines : lines_at C (entry_of r.at) r.edge r.ready r.end ≡ each (edge_line C (named_by bs r).passage) (edges_from C r.at.location)
  all_lines = each_same _ (edge_line C (named_by bs r).passage) (edges_from C r.at.location) same_line

-- the line of the passage tells nothing of clocks and variables
pub head_is : (bs : List ℕ) (r : Asked)
    → passage_head r.number
    (record { component = r.component; edge = r.edge; entry = record { location = r.at.location; tick = r.at.tick; clocks = []; values = [] }; ready = r.ready; end = r.end; message = message_of r.message })
    ≡ passage_head r.number (named_by bs r).passage
unfolding passage_line
head_is bs r = refl
