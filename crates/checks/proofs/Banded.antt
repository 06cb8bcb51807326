-- The bands of a valid table, where they stand in its bytes; the channel of a row that sends. Assumes nothing.
use mathlib.Core.Path.{◌≡◌, refl, sym, ap, ◌∙◌}
use mathlib.Core.Bool.{false}
use mathlib.Core.List.{List}
use mathlib.Core.Option.{Option, none, some}
use Prim.Native.Nat.{ℕ, ◌+◌, ◌≤◌, ◌<◌}
use native.Mathlib.Omega.{arith}
use lib.Dec.{eqb}
use lib.ListN.{length, get_or, drop, get_or-replicate}
use Rattle.model.specs.declared.Action.{Action}
use Rattle.model.specs.declared.Action.TheVariants.{Internal, Send, Receive}
use Rattle.model.specs.declared.Sizes.{Sizes}
use Rattle.model.specs.Lists.{Bytes}
use Rattle.model.specs.Table.{Arc, Table, band_of}
use Rattle.model.specs.Limits.{ActionIn}
use Rattle.model.specs.Window.{sends, channel_of}
use Rattle.model.specs.Reader.{byte}
use Rattle.model.specs.Places.{arc_at, budgeted, Valid, read_of}
use Rattle.model.specs.Schedule.{Passage, passage_arc}
use Rattle.model.specs.Checks.{same_band, disturb}
use Rattle.model.proofs.Reader.RoundTrip.{written_read}
use Rattle.model.proofs.Reader.Located.{valid_read, valid_located}
use Rattle.rows.specs.Rows.{num, row_passage, RowKnown}
use Rattle.rows.proofs.Placed.{row_arc, row_in}

-- ## The bands

module _ (bs : List ℕ) (b : Bytes bs) (v : Valid bs) where
  -- the header is there
  pub first_there : 0 < length bs
  first_there = let w = written_read bs (read_of bs) b (valid_read bs v) in omega (arith, ((valid_located bs b v).component 0 (omega (arith, w.0.least_components))).fits)

  -- version 1: band 0
  pub first_band : (k : ℕ) → byte bs 0 < 2 → k < (read_of bs).table.channels → 0 ≡ band_of (read_of bs).table k
  first_band k h c =
      let w = written_read bs (read_of bs) b (valid_read bs v) in
      let z = w.0.bands.first (omega (arith, (valid_located bs b v).version)) in
      sym (ap (λ (l : List ℕ). get_or l k 0) z ∙ get_or-replicate (read_of bs).table.channels k 0 0 c)

  -- else its byte
  module _ (k : ℕ) (h : 2 ≤ byte bs 0) (c : k < (read_of bs).table.channels) where
    pub band_fits : 7 + k < length bs
    band_fits = omega (arith, (valid_located bs b v).version, (valid_located bs b v).bands_fit (omega (arith, (valid_located bs b v).version)))

    pub band_there : byte bs (7 + k) ≡ band_of (read_of bs).table k
    band_there = (valid_located bs b v).band (omega (arith, (valid_located bs b v).version)) k c

-- ## The channel of a row

-- a send's channel is one of the table's
sent_below : (s : Sizes) (a : Arc) (x : Action) (k : ℕ) → ActionIn s a x → sends x ≡ some k → k < s.channels
sent_below s a Internal k i e = let z : ◌≡◌ {A = ℕ} 0 1 = cc in absurd (omega arith)
sent_below s a (Send j) k i e = let z : j ≡ k = cc in omega (arith, i.channel)
sent_below s a Receive k i e = let z : ◌≡◌ {A = ℕ} 0 1 = cc in absurd (omega arith)

pub row_channel : (bs l : List ℕ) (i k : ℕ) → Bytes bs → RowKnown bs l i → some k ≡ channel_of (passage_arc (read_of bs).table (row_passage l i)) → k < (read_of bs).table.channels
row_channel bs l i k b r e =
    let a = arc_at (budgeted bs) (drop (num l i 7) bs) in
    let s : channel_of a ≡ some k = ap channel_of (row_arc bs l i b r.valid r.row) ∙ sym e in
    sent_below _ a a.edge.action k (row_in bs l i b r.valid r.row).action s

-- ## Two rows

module _ (T : Table) (v w : Passage) where
  pub none_disturbs : none ≡ channel_of (passage_arc T v) → false ≡ disturb T v w
  none_disturbs q = ap (λ (o : Option ℕ). same_band T o (channel_of (passage_arc T w))) q

  pub disturbs_none : none ≡ channel_of (passage_arc T w) → false ≡ disturb T v w
  disturbs_none q = go (channel_of (passage_arc T v)) ∙ ap (λ (o : Option ℕ). same_band T (channel_of (passage_arc T v)) o) q
    where
      go : (o : Option ℕ) → false ≡ same_band T o none
      go none = refl
      go (some j) = refl

  pub disturbs : (j k x y : ℕ) → some j ≡ channel_of (passage_arc T v) → some k ≡ channel_of (passage_arc T w) → x ≡ band_of T j → y ≡ band_of T k → eqb x y ≡ disturb T v w
  disturbs j k x y p q e f =
      ap (λ (a : ℕ). eqb a y) e ∙ ap (λ (a : ℕ). eqb (band_of T j) a) f
      ∙ ap (λ (o : Option ℕ). same_band T o (some k)) p
      ∙ ap (λ (o : Option ℕ). same_band T (channel_of (passage_arc T v)) o) q
