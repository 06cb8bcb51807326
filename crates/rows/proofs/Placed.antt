-- What is known of a row of a valid table's passages: its edge stands at its place, whole, and is within the limits. Assumes nothing.
use mathlib.Core.Path.{◌≡◌, refl, sym, ap, subst, ◌∙◌}
use mathlib.Core.Bool.{Bool}
use mathlib.Core.List.{List}
use Prim.Native.Nat.{ℕ, ◌+◌, ◌-◌, ◌≤◌, ◌<◌}
use native.Mathlib.Omega.{arith}
use mir.Val.{Fits}
use mir.Syntax.{w8}
use lib.ListN.{length, take, drop, get_or, length-drop}
use Rattle.model.specs.declared.Sizes.{Sizes}
use Rattle.model.specs.declared.Action.TheVariants.{Send}
use Rattle.model.specs.Lists.{Bytes}
use Rattle.model.specs.Table.{header_of, Arc, sizes_of, no_arc, size}
use Rattle.model.specs.Limits.{ActionIn, ArcIn}
use Rattle.model.specs.Places.{arc_length, arc_at, budgeted, start_of, arc_place, ComponentAt, Valid, read_of, component_in}
use Rattle.model.specs.Schedule.{passage_arc}
use Rattle.model.proofs.Basics.Words.{byte_small}
use Rattle.model.proofs.Basics.Walk.{all_at}
use Rattle.model.proofs.Reader.Located.{are_bytes, valid_read, valid_located, valid_in}
use Rattle.model.proofs.Reader.RoundTrip.{written_read}
use Rattle.decoder.specs.Decoded.{Decodable}
use Rattle.decoder.proofs.Callers.{decodable, head_seven}
use Rattle.parts.proofs.Skim.{tail}
use Rattle.rows.specs.Rows.{num, row_passage, RowPlaced, RowsPlaced, EdgeStands, RowKnown, option_of}
use Rattle.rows.proofs.Channels.{sent_small}
use Rattle.std.specs.Prelude.{IfSome}
use Rattle.std.specs.declared.option.Option.{Option as Found}
use Rattle.model.specs.Window.{channel_of}

-- a send's channel is one of the table's
channel_below : (s : Sizes) (a : Arc) (k : ℕ) → ArcIn s a → Send k ≡ a.edge.action → k < s.channels
channel_below s a k i e =
    let p : ActionIn s a (Send k) = subst (ActionIn s a) (sym e) i.action in
    p.channel

module _ (bs l : List ℕ) (i : ℕ) (b : Bytes bs) (v : Valid bs) (r : RowPlaced bs l i) where
  component_there : ComponentAt bs (start_of bs (num l i 0)) (component_in bs (num l i 0))
  component_there = (valid_located bs b v).component (num l i 0) r.present

  -- the row's edge stands at its place ..
  pub row_arc : arc_at (budgeted bs) (drop (num l i 7) bs) ≡ passage_arc (read_of bs).table (row_passage l i)
  row_arc = rw r.place (component_there.arc (num l i 1) r.there)

  -- .. whole ..
  pub row_whole : num l i 7 + arc_length (budgeted bs) (drop (num l i 7) bs) ≤ length bs
  row_whole = rw r.place (component_there.arc_fits (num l i 1) r.there)

  -- .. and is within the limits
  pub row_in : ArcIn (sizes_of (header_of (read_of bs)) (component_in bs (num l i 0))) (arc_at (budgeted bs) (drop (num l i 7) bs))
  row_in = rw row_arc (all_at no_arc (valid_in bs b v (num l i 0) r.present).arcs (num l i 1) r.there)

  pub row_decodable : Decodable (budgeted bs) (drop (num l i 7) bs)
  row_decodable =
      let h = drop (num l i 7) bs in
      decodable (budgeted bs) h (simp length-drop (omega (arith, row_whole)))

  pub row_stands : EdgeStands (budgeted bs) (drop (num l i 7) bs)
  row_stands =
      let h = drop (num l i 7) bs in
      record {
        head = row_decodable.head;
        whole = row_decodable.whole;
        channel = λ k e. omega (arith, channel_below _ (arc_at (budgeted bs) h) k row_in e, (valid_located bs b v).channels, byte_small b 4);
      }

-- ## Small places

-- a valid table has at most 8,192 bytes
pub valid_small : (bs : List ℕ) → Bytes bs → Valid bs → length bs ≤ 8192
valid_small bs b v = let w = written_read bs (read_of bs) b (valid_read bs v) in omega (arith, w.0.bytes, ap length w.1)

-- so an edge's place is below that
pub place_small : (bs : List ℕ) (c e : ℕ) → Bytes bs → Valid bs → c < size (read_of bs).table → e < length (component_in bs c).arcs → arc_place bs (start_of bs c) e < 8192
place_small bs c e b v h k = omega (arith, ((valid_located bs b v).component c h).arc_fits e k, valid_small bs b v, head_seven (budgeted bs))

-- ## For callees

-- one of n rows
pub row_known : (bs l : List ℕ) (n i : ℕ) → RowsPlaced bs l n → i < n → RowKnown bs l i
row_known bs l n i r h = record { valid = r.valid; row = r.row i h; fits = omega (arith, r.fits) }

-- the bytes of a lent slice: what `c.shared-slice-known.given` says
pub known_bytes : (bs : List ℕ) → ((j : ℕ) → Fits w8 (get_or bs j 0)) → Bytes bs
known_bytes bs b = are_bytes bs (λ j. (b j).fits)

-- at a place that was read from the row: the bytes from there on are lent
module _ (bs l : List ℕ) (i at : ℕ) (b : (j : ℕ) → Fits w8 (get_or bs j 0)) (r : RowKnown bs l i) (e : at ≡ num l i 7) where
  pub at_within : at < length bs
  at_within = omega (arith, row_whole bs l i (known_bytes bs b) r.valid r.row, head_seven (budgeted bs))

  pub at_stands : (w : Bool) → w ≡ budgeted bs → EdgeStands w (take (length bs - at) (drop at bs))
  at_stands w same = rw (same, tail bs at, e) (row_stands bs l i (known_bytes bs b) r.valid r.row)

  pub at_arc : (w : Bool) → w ≡ budgeted bs → arc_at w (take (length bs - at) (drop at bs)) ≡ passage_arc (read_of bs).table (row_passage l i)
  at_arc w same = rw (same, tail bs at, e) (row_arc bs l i (known_bytes bs b) r.valid r.row)

-- the channel that a row's edge sends on is not the number that stands for none
pub sent_below : (bs l : List ℕ) (i : ℕ) → ((j : ℕ) → Fits w8 (get_or bs j 0)) → RowKnown bs l i → (o : Found ℕ) → option_of o ≡ channel_of (passage_arc (read_of bs).table (row_passage l i)) → IfSome o (λ k. k < 255)
sent_below bs l i b r o q =
    let bytes = known_bytes bs b in
    sent_small (budgeted bs) (drop (num l i 7) bs) (row_stands bs l i bytes r.valid r.row) o (q ∙ ap channel_of (sym (row_arc bs l i bytes r.valid r.row)))

-- a table with a row has a first byte
pub has_first : (bs l : List ℕ) (i : ℕ) → ((j : ℕ) → Fits w8 (get_or bs j 0)) → RowKnown bs l i → 1 ≤ length bs
has_first bs l i b r = omega (arith, at_within bs l i (num l i 7) b r refl)
