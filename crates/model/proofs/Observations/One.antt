-- An observation written is read back. Assumes nothing.
use mathlib.Core.Path.{◌≡◌, refl, sym, ap, ◌∙◌}
use mathlib.Core.List.{List, [], ◌∷◌, ◌++◌, append_assoc}
use Prim.Native.Nat.{ℕ, ◌+◌, ◌*◌, ◌/◌, ◌%◌, ◌≤◌, ◌<◌}
use native.Mathlib.Nat.{div-div-eq-div-mul, mod-eq_of_lt}
use native.Mathlib.Omega.{arith}
use lib.IntN.{ℤ, pos}
use lib.ListN.{length, drop}
use lib.Seq.{drop_at}
use Rattle.model.specs.Lists.{All, each, be16}
use Rattle.model.specs.Table.{Table, component_of}
use Rattle.model.specs.Bytes.{unsigned}
use Rattle.model.specs.Limits.{Int16}
use Rattle.model.specs.Reader.{word, complement}
use Rattle.model.specs.Places.{list_at}
use Rattle.model.specs.Network.{Observation}
use Rattle.model.specs.Run.{be32, four, observation_bytes, Written, written_bytes}
use Rattle.model.specs.Observations.{wide, read_observation}
use Rattle.model.proofs.Basics.Words.{word_back, complement_back}
use Rattle.model.proofs.Basics.Walk.{list_back}
use Rattle.model.proofs.Basics.Sums.{each_join}
use Rattle.model.proofs.Observations.Size.{clocks_long, observation_long}

-- ## Numbers

-- four digits
digits : (x a b c p q r : ℕ) → a * 256 + p ≡ x → b * 256 + q ≡ a → c * 256 + r ≡ b → (c * 256 + r) * 65536 + (q * 256 + p) ≡ x
digits x a b c p q r e f g = omega arith

-- a number of four bytes
wide_back : (x : ℕ) (r : List ℕ) → x < 4294967296 → wide (be32 x ++ r) ≡ x
wide_back x r h =
    let two : x / 256 / 256 ≡ x / 65536 = div-div-eq-div-mul x 256 256 in
    let three : x / 65536 / 256 ≡ x / 16777216 = div-div-eq-div-mul x 65536 256 in
    let last : x / 16777216 < 256 = omega arith in
    digits x (x / 256) (x / 65536) (x / 16777216 % 256) (x % 256) (x / 256 % 256) (x / 65536 % 256) (word_back x)
    (ap (λ (n : ℕ). n * 256 + x / 256 % 256) (sym two) ∙ word_back (x / 256))
    (ap (λ (n : ℕ). n * 256 + x / 65536 % 256) (mod-eq_of_lt last ∙ sym three) ∙ word_back (x / 65536))

-- a signed number of two
signed_back : (z : ℤ) (r : List ℕ) → Int16 z → complement (word (be16 (unsigned z) ++ r) 0) ≡ z
signed_back z r h = ap complement (word_back (unsigned z)) ∙ complement_back z h

-- ## "four ..; absent ones 0"

-- the four begin with those there are
four_begins : {A : Type 0} (z : A) (xs : List A) → length xs ≤ 4 → (zs : List A) × (four z xs ≡ xs ++ zs)
four_begins z [] h = (z ∷ z ∷ z ∷ z ∷ [], refl)
four_begins z (a ∷ []) h = (z ∷ z ∷ z ∷ [], refl)
four_begins z (a ∷ b ∷ []) h = (z ∷ z ∷ [], refl)
four_begins z (a ∷ b ∷ c ∷ []) h = (z ∷ [], refl)
four_begins z (a ∷ b ∷ c ∷ d ∷ []) h = ([], refl)
four_begins z (a ∷ b ∷ c ∷ d ∷ e ∷ ds) h = absurd (omega arith)

-- as many of the four as there are, read back
module _ {A : Type 0} (f : A → List ℕ) (w : ℕ) (sized : (x : A) → length (f x) ≡ w) (value : List ℕ → A) (In : A → Type 0)
    (back : (x : A) (r : List ℕ) → In x → value (f x ++ r) ≡ x) where
  four_back : (z : A) (n : ℕ) (xs : List A) → length xs ≡ n → length xs ≤ 4 → All In xs → (r : List ℕ) → list_at value w n (each f (four z xs) ++ r) ≡ xs
  four_back z n xs e h a r =
      let p = four_begins z xs h in
      ap (λ (m : ℕ). list_at value w m (each f (four z xs) ++ r)) (sym e)
      ∙ ap (λ (l : List ℕ). list_at value w (length xs) l) (ap (λ (l : List A). each f l ++ r) p.1 ∙ (ap (λ (l : List ℕ). l ++ r) (each_join f xs p.0) ∙ append_assoc (each f xs) (each f p.0) r))
      ∙ list_back f w sized value In back a (each f p.0 ++ r)

-- ## An observation

-- its numbers fit their bytes, and it has as many clocks and values as its component
pub record Fits (T : Table) (o : Observation) : Type 0 where
  pub tick : o.tick < 4294967296
  pub clocks : All (λ x. x < 4294967296) o.clocks
  pub values : All Int16 o.values
  pub few_clocks : length o.clocks ≤ 4
  pub few_values : length o.values ≤ 4
  pub clocks_of : length o.clocks ≡ (component_of T o.component).clocks
  pub values_of : length o.values ≡ (component_of T o.component).variables

-- its 32 bytes are read back, whatever follows
pub observation_back : (T : Table) (o : Observation) (r : List ℕ) → Fits T o → read_observation T (observation_bytes o ++ r) ≡ o
unfolding read_observation observation_bytes
observation_back T o r h = rw (tick, clocks, values)
  where
    grown : List ℕ
    grown = each be32 (four 0 o.clocks)

    kept : List ℕ
    kept = each (λ (z : ℤ). be16 (unsigned z)) (four (pos 0) o.values)

    tick : wide (be32 o.tick ++ ((grown ++ kept) ++ r)) ≡ o.tick
    tick = wide_back o.tick ((grown ++ kept) ++ r) h.tick

    clocks : list_at wide 4 (component_of T o.component).clocks ((grown ++ kept) ++ r) ≡ o.clocks
    clocks = rw (append_assoc grown kept r)
        (four_back be32 4 (λ x. refl) wide (λ x. x < 4294967296) wide_back 0 _ o.clocks h.clocks_of h.few_clocks h.clocks (kept ++ r))

    values : list_at (λ b. complement (word b 0)) 2 (component_of T o.component).variables (drop 16 ((grown ++ kept) ++ r)) ≡ o.values
    values = rw (append_assoc grown kept r, drop_at grown (kept ++ r) 16 (clocks_long o.clocks))
        (four_back (λ (z : ℤ). be16 (unsigned z)) 2 (λ z. refl) (λ b. complement (word b 0)) Int16 signed_back (pos 0) _ o.values h.values_of h.few_values h.values r)

-- ## As it is written

-- it fits its bytes, and so does its tick
pub record WrittenFits (T : Table) (w : Written) : Type 0 where
  pub observation : Fits T w.observation
  pub previous : w.previous < 4294967296

pub written_back : (T : Table) (w : Written) (r : List ℕ) → WrittenFits T w → read_observation T (written_bytes w ++ r) ≡ w.observation
written_back T w r h =
    rw (append_assoc (observation_bytes w.observation) (be32 w.previous) r) (observation_back T w.observation (be32 w.previous ++ r) h.observation)

-- "after the old 32 comes the tick"
pub previous_back : (T : Table) (w : Written) (r : List ℕ) → WrittenFits T w → wide (drop 32 (written_bytes w ++ r)) ≡ w.previous
previous_back T w r h =
    rw (append_assoc (observation_bytes w.observation) (be32 w.previous) r, drop_at (observation_bytes w.observation) (be32 w.previous ++ r) 32 (observation_long w.observation))
    (wide_back w.previous r h.previous)
