-- The body of a component and the component, from where their parts end. Assumes nothing.
use mathlib.Core.Path.{◌≡◌, ◌∙◌}
use mathlib.Core.Bool.{true, false}
use mathlib.Core.List.{List}
use Prim.Native.Nat.{ℕ, ◌≤◌, ◌<◌}
use native.Mathlib.Omega.{arith}
use borrow.Author.Tests.{le-leb, lt-leb}
use lib.ListN.{length, drop, drop_of_length-le}
use lib.Seq.{drop-cons}
use Rattle.model.specs.declared.TableHeader.{TableHeader}
use Rattle.model.specs.Table.{Component}
use Rattle.model.proofs.Basics.Bools.{tests}
use Rattle.model.specs.Reader.{byte, many, read_location, read_arc, head_fine, sizes_at, component_with, finished, read_body, read_component}
use Rattle.parts.specs.declared.Kind.TheVariants.{Locations}
use mathlib.Core.Option.{Option, none, some}
use Rattle.parts.specs.Place.{left, failed, skim, passes}
use Rattle.table.specs.Directory.{fault_in}
use Rattle.parts.proofs.Skim.{was_left, was_failed}
use Rattle.parts.proofs.Sequence.{locations_as}

-- ## The body of a component

module _ (heading : TableHeader) (h r : List ℕ) where
  pub locations_fail : {n : ℕ} → skim (many (passes Locations (sizes_at heading h)) (byte h 2) r) ≡ failed n → fault_in (read_body heading h r) ≡ some n
  locations_fail e =
      let s = sizes_at heading h in rw (was_failed (many (read_location s) (byte h 2) r) (locations_as s (byte h 2) r ∙ e))

  module _ (r₁ : List ℕ) (e : skim (many (passes Locations (sizes_at heading h)) (byte h 2) r) ≡ left r₁) where
    pub arcs_fail : {n : ℕ} → skim (many (read_arc (sizes_at heading h)) (byte h 6) r₁) ≡ failed n → fault_in (read_body heading h r) ≡ some n
    arcs_fail f =
        let s = sizes_at heading h in
        let (ls, q) = was_left (many (read_location s) (byte h 2) r) (locations_as s (byte h 2) r ∙ e) in
        rw (q, was_failed (many (read_arc s) (byte h 6) r₁) f)

    -- whatever component was read, what is left decides
    ended : (r₂ : List ℕ) (x : Option ℕ) → skim (many (read_arc (sizes_at heading h)) (byte h 6) r₁) ≡ left r₂
        → ((C : Component) → fault_in (finished C r₂) ≡ x) → fault_in (read_body heading h r) ≡ x
    ended r₂ x f g =
        let s = sizes_at heading h in
        let (ls, q) = was_left (many (read_location s) (byte h 2) r) (locations_as s (byte h 2) r ∙ e) in
        let (es, t) = was_left (many (read_arc s) (byte h 6) r₁) f in
        let whole = g (component_with h ls es) in
        rw (q, t) whole

    pub bytes_left : (p : List ℕ) (b : ℕ) → b < length p → skim (many (read_arc (sizes_at heading h)) (byte h 6) r₁) ≡ left (drop b p) → fault_in (read_body heading h r) ≡ some 4
    bytes_left p b k f = ended (drop b p) (some 4) f (λ C. rw (drop-cons p b 0 k))

    pub ends_there : (p : List ℕ) (b : ℕ) → length p ≤ b → skim (many (read_arc (sizes_at heading h)) (byte h 6) r₁) ≡ left (drop b p) → fault_in (read_body heading h r) ≡ none
    ends_there p b k f = ended (drop b p) none f (λ C. rw (drop_of_length-le p k))

-- ## A component

module _ (heading : TableHeader) (p : List ℕ) where
  pub head_short : length p < 7 → fault_in (read_component heading p) ≡ some 4
  unfolding read_component
  head_short h = rw (lt-leb 7 (length p) h)

  pub head_bad : 7 ≤ length p → head_fine p ≡ false → fault_in (read_component heading p) ≡ some 5
  unfolding read_component
  head_bad h e = rw (le-leb 7 (length p) h, e)

  pub head_good : 7 ≤ length p → head_fine p ≡ true → fault_in (read_component heading p) ≡ fault_in (read_body heading p (drop 7 p))
  unfolding read_component
  head_good h e = rw (le-leb 7 (length p) h, e)

-- a fine head has at most four clocks
pub few-clocks : (h : List ℕ) → head_fine h ≡ true → byte h 4 ≤ 4
few-clocks h e = let t = simp tests at e in omega arith
