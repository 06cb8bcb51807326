-- The numbers of a component's and of an edge's first bytes, one after the other; the ranges of a receive edge's counts. Assumes nothing.
use Rattle.parts.specs.Kinds.{kind_of, kind_byte}
use mathlib.Core.Path.{◌≡◌, refl}
use mathlib.Core.List.{List, [], ◌∷◌}
use Prim.Native.Nat.{ℕ, zero, suc, ◌^◌, min}
use Rattle.model.specs.declared.Sizes.{Sizes}
use Rattle.refusal_place.specs.Ranges.{byte_field, head_fields, edge_fields, data_limit, item_least, item_limit}
use Rattle.refusal_place.specs.Walk.{ranged, contents}
use Rattle.refusal_place.specs.declared.Subject.{Subject}
use Rattle.refusal_place.specs.declared.Walk.{Walk}

module _ (bs : List ℕ) (who : Subject) (w w₁ w₂ w₃ w₄ : Walk) where
  pub head_steps : (n : ℕ) (w₅ : Walk) → w₁ ≡ ranged bs who (byte_field 2 1 17) w → w₂ ≡ ranged bs who (byte_field 3 0 n) w₁ → w₃ ≡ ranged bs who (byte_field 4 1 5) w₂
      → w₄ ≡ ranged bs who (byte_field 5 0 5) w₃ → w₅ ≡ ranged bs who (byte_field 6 1 33) w₄ → w₅ ≡ contents bs who (head_fields n) w
  unfolding contents
  head_steps n w₅ a b c d e = rw (e, d, c, b, a)

  pub edge_steps : (s : Sizes) (kind n limit : ℕ) (w₅ : Walk) → n ≡ s.locations → limit ≡ 2 ^ min s.clocks 4
      → w₁ ≡ ranged bs who (byte_field 0 0 3) w → w₂ ≡ ranged bs who (byte_field 1 0 n) w₁ → w₃ ≡ ranged bs who (byte_field 2 0 n) w₂
      → w₄ ≡ ranged bs who (byte_field 3 0 limit) w₃
      → w₅ ≡ contents bs who (byte_field 4 0 5 ∷ byte_field 5 0 (data_limit kind) ∷ byte_field 6 (item_least kind) (item_limit kind) ∷ []) w₄
      → w₅ ≡ contents bs who (edge_fields s kind) w
  unfolding contents
  edge_steps s kind n limit w₅ p q a b c d e = rw (e, d, c, b, a, p, q)

-- the fields of an edge hang on its kind alone
pub fields_by_kind : (s : Sizes) (byte : ℕ) → edge_fields s (kind_byte (kind_of byte)) ≡ edge_fields s byte
fields_by_kind s zero = refl
fields_by_kind s (suc zero) = refl
fields_by_kind s (suc (suc n)) = refl
