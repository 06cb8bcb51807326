-- The parts of an edge and of a component one after the other, and the components, as the code walks them. Assumes nothing.
use Rattle.parts.specs.Kinds.{kind_of, kind_byte}
use mathlib.Core.Path.{◌≡◌, refl, sym, ap, ◌∙◌}
use mathlib.Core.Bool.{Bool, true, false, cond}
use mathlib.Core.List.{List}
use Prim.Native.Nat.{ℕ, zero, suc, pred, ◌+◌, ◌-◌, ◌≤◌}
use native.Mathlib.Omega.{arith}
use native.Mathlib.Numerals.{add-one}
use lib.ListN.{length}
use Rattle.model.specs.declared.Sizes.{Sizes}
use Rattle.model.specs.declared.TableHeader.{TableHeader}
use Rattle.model.specs.Reader.{byte, word, header_at}
use Rattle.refusal_place.specs.Ranges.{word_field}
use Rattle.refusal_place.specs.Walk.{judged, fits, ends, one_part, counted, of_component, of_edge, several, items, budget_part, edge_from, sizes_from, end_from, length_stated, body_from, component_from, component, components}
use Rattle.refusal_place.specs.declared.Part.TheVariants.{ComponentLength, ComponentHead, EdgeHead, Budget, ClockBound, DataBound, TableEnd}
use Rattle.refusal_place.specs.declared.Subject.{Subject}
use Rattle.refusal_place.specs.declared.Walk.{Walk}

module _ (bs : List ℕ) (end : ℕ) (s : Sizes) (c e : ℕ) where
  pub items_by_kind : (byte n : ℕ) (w : Walk) → items bs end s c e (kind_byte (kind_of byte)) n w ≡ items bs end s c e byte n w
  items_by_kind zero n w = refl
  items_by_kind (suc zero) n w = refl
  items_by_kind (suc (suc k)) n w = refl

  pub edge_is : (from kind n m l : ℕ) (u₁ u₂ u₃ : Subject) (w w₁ wᵇ w₂ w₃ w₄ : Walk) → kind ≡ byte bs from → n ≡ byte bs (from + 4) → m ≡ byte bs (from + 5)
      → l ≡ byte bs (from + 6)
      → u₁ ≡ of_edge c e EdgeHead → u₂ ≡ of_edge c e ClockBound → u₃ ≡ of_edge c e DataBound → w₁ ≡ one_part bs end s u₁ w → wᵇ ≡ budget_part bs end s c e w₁ → w₂ ≡ several bs end s u₂ n wᵇ
      → w₃ ≡ several bs end s u₃ m w₂ → w₄ ≡ items bs end s c e kind l w₃ → w₄ ≡ edge_from bs end s c e from w
  unfolding edge_from
  edge_is from kind n m l u₁ u₂ u₃ w w₁ wᵇ w₂ w₃ w₄ a b d f g h i p j q r t = rw (t, r, q, j, p, g, h, i, a, b, d, f)

  -- the budget: a part of its own where edges have one, else nothing
  pub budget_told : (u : Subject) (w r : Walk) → s.budgets ≡ true → u ≡ of_edge c e Budget → r ≡ one_part bs end s u w → r ≡ budget_part bs end s c e w
  unfolding budget_part
  budget_told u w r q a t =
      t ∙ ap (λ (x : Subject). one_part bs end s x w) a ∙ sym (ap (λ (b : Bool). cond b (one_part bs end s (of_edge c e Budget) w) w) q)

  pub budget_passed : (w : Walk) → s.budgets ≡ false → w ≡ budget_part bs end s c e w
  unfolding budget_part
  budget_passed w q = sym (ap (λ (b : Bool). cond b (one_part bs end s (of_edge c e Budget) w) w) q)

-- ## Components

module _ (bs : List ℕ) (c : ℕ) (w : Walk) where
  pub stated_is : (limit value : ℕ) (who : Subject) (two r : Walk) → who ≡ of_component c ComponentLength → limit ≡ length bs - w.at + 1 → value ≡ word bs w.at
      → two ≡ fits (length bs) who 2 w → r ≡ judged 4 who (word_field 0 0 limit) value two → r ≡ length_stated bs c w
  unfolding length_stated
  stated_is limit value who two r a b d e f = rw (f, e, d, b, a, add-one (length bs - w.at))

  pub component_is : (header : TableHeader) (end : ℕ) (s : Sizes) (who : Subject) (known head r : Walk) → end ≡ end_from bs w.at → s ≡ sizes_from bs header w.at
      → known ≡ length_stated bs c w → who ≡ of_component c ComponentHead → head ≡ one_part bs end s who known
      → r ≡ body_from bs end s c w.at head
      → r ≡ component_from bs header c w.at w
  unfolding component_from
  component_is header end s who known head r a b d e f g = rw (g, f, e, d, b, a)

pub components_is : (bs : List ℕ) (count : ℕ) (header : TableHeader) (who : Subject) (w walk r : Walk) → 1 ≤ count → count ≡ byte bs 3 → header ≡ header_at bs
    → who ≡ of_component (count - 1) TableEnd → walk ≡ counted (component bs header) 0 count w → r ≡ ends (length bs) who walk → r ≡ components bs w
unfolding components
components_is bs count header who w walk r h a b d e f =
    let z : count - 1 ≡ pred count = less count h in
    rw (f, d, z, e, a, b)
  where
    less : (n : ℕ) → 1 ≤ n → n - 1 ≡ pred n
    less zero k = absurd (omega arith)
    less (suc n) k = omega arith
