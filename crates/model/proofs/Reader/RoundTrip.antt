-- The law of the table's reader: reading gives a table exactly if that table is in the limits and the bytes are its bytes. Assumes nothing.
use mathlib.Core.Path.{◌≡◌, refl, ap, subst, ◌∙◌}
use mathlib.Core.Logic.{◌↔◌}
use mathlib.Core.Bool.{true, ◌&&◌}
use mathlib.Core.List.{List, [], ◌∷◌, ◌++◌}
use Prim.Native.Nat.{ℕ, ◌+◌, ◌≤◌}
use native.Mathlib.Omega.{arith}
use lib.ListN.{length, drop}
use Rattle.model.specs.Lists.{All, Bytes, be16, each, Answer, accepted}
use Rattle.model.specs.Table.{TableHeader, header_of, Component, Read}
use Rattle.model.specs.Bytes.{band_bytes, component_bytes, table_bytes}
use Rattle.model.specs.Limits.{ComponentIn, InLimits}
use Rattle.model.specs.Reader.{header_at, byte, word, read_components, version_fine, length_fine, count_fine, body_start, bands_at, bands_fine, read_with, read_table}
use Rattle.model.proofs.Basics.Bools.{and_is, tests}
use Rattle.model.proofs.Basics.Words.{word_back, word_bytes}
use Rattle.model.proofs.Reader.Parts.{after_ok, cond_accepted, accepted_same, from, firsts_rest, bytes_drop}
use Rattle.model.proofs.Reader.Bands.{bands_in, bands_said, start_back, bands_back, fine_back}
use Rattle.model.proofs.Reader.Components.{components_reads, components_wrote}

-- the bytes of a table in the limits are read as that table
pub read_written : (t : Read) → InLimits t → read_table (table_bytes t) ≡ accepted t
unfolding read_table table_bytes
read_written t h =
    let C = t.table.components in
    let R = each component_bytes C in
    let bs = table_bytes t in
    let size : word bs 1 ≡ length bs = word_back (7 + length (band_bytes t.version t.table.bands ++ R)) ∙ omega arith in
    let horizon : word bs 5 ≡ t.horizon = word_back t.horizon in
    let first : version_fine bs ≡ true = simp tests (omega (arith, h.least_version, h.most_version)) in
    let second : length_fine bs ≡ true = simp tests (omega (arith, h.bytes)) in
    let third : count_fine bs ≡ true = simp tests (omega arith) in
    let bands : bands_fine bs ≡ true = fine_back bs t.table.bands R h.bands refl (omega arith) in
    let start : drop (body_start bs) bs ≡ R = start_back bs t.table.bands R h.bands refl (omega arith) in
    let back : bands_at bs ≡ t.table.bands = bands_back bs t.table.bands R h.bands refl (omega arith) in
    rw (first, second, third, bands, start, components_reads (header_of t) 0 h.components, back)
    (ap {B = Answer Read} (λ n. accepted (record { version = t.version; table = t.table; horizon = n })) horizon)

-- what the header and the components say together
whole_said : (bs : List ℕ) (Cs : List Component) → Bytes bs → version_fine bs ≡ true → length_fine bs ≡ true → count_fine bs ≡ true → bands_fine bs ≡ true
    → (length Cs ≡ byte bs 3) × All (ComponentIn (header_at bs)) Cs × (drop (body_start bs) bs ≡ each component_bytes Cs)
    → InLimits (read_with bs Cs) × (bs ≡ table_bytes (read_with bs Cs))
unfolding table_bytes
whole_said bs Cs b first second third bands c =
    let t = read_with bs Cs in
    let v = simp tests at first in
    let n = simp tests at second in
    let k = simp tests at third in
    let whole = firsts_rest 7 bs n.0.0 in
    let R = band_bytes (byte bs 0) (bands_at bs) ++ each component_bytes Cs in
    let rest : drop 7 bs ≡ R = bands_said bs ∙ ap (λ l. band_bytes (byte bs 0) (bands_at bs) ++ l) c.2 in
    let size : 7 + length R ≡ word bs 1 = omega (arith, ap length whole, ap length rest, n.1) in
    let stated : be16 (7 + length R) ≡ byte bs 1 ∷ byte bs 2 ∷ [] = ap be16 size ∙ word_bytes b 1 in
    let horizon : be16 (word bs 5) ≡ byte bs 5 ∷ byte bs 6 ∷ [] = word_bytes b 5 in
    let header : from bs 0 7 ++ drop 7 bs ≡ table_bytes t = cc in
    let same = whole ∙ header in (
      record {
        least_version = v.0;
        most_version = v.1;
        bands = bands_in bs n.0.0 bands;
        least_components = omega (arith, c.0);
        most_components = omega (arith, c.0);
        channels = omega arith;
        least_horizon = omega arith;
        most_horizon = omega arith;
        bytes = subst (λ l. length l ≤ 8192) same n.0.1;
        components = c.1;
      },
      same,
    )

-- bytes that are read as a table: it is in the limits, and they are its bytes
pub written_read : (bs : List ℕ) (t : Read) → Bytes bs → read_table bs ≡ accepted t → InLimits t × (bs ≡ table_bytes t)
unfolding read_table
written_read bs t b e =
    let first = cond_accepted (version_fine bs) _ 1 255 e in
    let second = cond_accepted (length_fine bs) _ 2 255 first.1 in
    let third = cond_accepted (count_fine bs && bands_fine bs) _ 3 255 second.1 in
    let both = (and_is (count_fine bs) (bands_fine bs)).0 third.0 in
    let k = after_ok (read_components (header_at bs) (byte bs 3) 0 (drop (body_start bs) bs)) _ third.1 in
    let c = components_wrote (header_at bs) (byte bs 3) 0 (drop (body_start bs) bs) k.0 (bytes_drop (body_start bs) b) k.1 in
    subst (λ (u : Read). InLimits u × (bs ≡ table_bytes u)) (accepted_same k.2) (whole_said bs k.0 b first.0 second.0 both.0 both.1 c)

-- reading gives a table exactly if that table is in the limits and the bytes are its bytes
pub law : (bs : List ℕ) (t : Read) → Bytes bs → (read_table bs ≡ accepted t) ↔ (InLimits t × (bs ≡ table_bytes t))
law bs t b = (written_read bs t b, λ h. ap read_table h.1 ∙ read_written t h.0)
