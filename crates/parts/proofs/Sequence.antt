-- Parts after parts: an edge, from where its parts end. Assumes nothing.
use mathlib.Core.Path.{◌≡◌, refl, ◌∙◌}
use mathlib.Core.Option.{Option, none}
use Rattle.model.specs.declared.ClockGuard.{ClockGuard}
use Rattle.model.specs.declared.DataGuard.{DataGuard}
use mathlib.Core.Bool.{Bool, true, false}
use mathlib.Core.List.{List}
use Prim.Native.Nat.{ℕ, ◌+◌, ◌-◌, ◌≤◌, ◌<◌}
use native.Mathlib.Omega.{arith}
use borrow.Author.Tests.{le-leb, lt-leb}
use lib.ListN.{length, drop, length-drop}
use lib.Seq.{drop-drop}
use Rattle.model.specs.declared.Sizes.{Sizes}
use Rattle.model.specs.Reader.{word, Parsed, ok, fault, ◌then◌, Items, read_budget, read_arc_parts, byte, many, clock_guard_fine, clock_guard_at, data_guard_fine, data_guard_at, location_fine, location_at, read_clock_guard, read_data_guard, read_location, read_items, arc_with, edge_fine, read_arc_body, read_arc}
use Rattle.parts.specs.declared.Kind.TheVariants.{Locations, ClockGuards, DataGuards}
use Rattle.std.specs.Prelude.{Result, Ok, Err}
use Rattle.parts.specs.declared.PartFault.{PartFault}
use Rattle.parts.specs.Place.{left, failed, skim, Passed, passes}
use Rattle.model.proofs.Basics.Walk.{word_drop}
use Rattle.parts.proofs.Skim.{was_left, was_failed, keeps}
use Rattle.parts.proofs.EdgeItems.{same_many}

-- a place that one reading reaches is reached by another that ends there too
pub moved : {A B : Type 0} {p : List ℕ} {from : ℕ} {r : Result ℕ PartFault} {m : Parsed A} {n : Parsed B} → skim m ≡ skim n → Passed p from r n → Passed p from r m
moved e q = record { says = e ∙ q.says; within = q.within }

-- a place further on was reached from here too
pub further : {A : Type 0} {p : List ℕ} {from on : ℕ} (r : Result ℕ PartFault) {m : Parsed A} → from ≤ on → Passed p on r m → Passed p from r m
further (Ok k) h q = record { says = q.says; within = (omega (arith, q.within.0), q.within.1) }
further (Err question) h q = record { says = q.says; within = tt }

-- the parts that the code passes by their width, as the reading's own
module _ (s : Sizes) (n : ℕ) (bs : List ℕ) where
  pub clock-guards : skim (many (read_clock_guard s) n bs) ≡ skim (many (passes ClockGuards s) n bs)
  clock-guards = same_many 5 (clock_guard_fine s) clock_guard_at (λ x. tt) n bs

  pub data-guards : skim (many (read_data_guard s) n bs) ≡ skim (many (passes DataGuards s) n bs)
  data-guards = same_many 5 (data_guard_fine s) data_guard_at (λ x. tt) n bs

  pub locations_as : skim (many (read_location s) n bs) ≡ skim (many (passes Locations s) n bs)
  locations_as = same_many 3 (location_fine s) location_at (λ x. tt) n bs

-- ## An edge after its 7 bytes

module _ (s : Sizes) (h : List ℕ) (b : Option ℕ) (r : List ℕ) where
  pub guards_fail : {n : ℕ} → skim (many (passes ClockGuards s) (byte h 4) r) ≡ failed n → skim (read_arc_parts s h b r) ≡ failed n
  guards_fail e = rw (was_failed (many (read_clock_guard s) (byte h 4) r) (clock-guards s (byte h 4) r ∙ e))

  module _ (r₁ : List ℕ) (e : skim (many (passes ClockGuards s) (byte h 4) r) ≡ left r₁) where
    pub data_fail : {n : ℕ} → skim (many (passes DataGuards s) (byte h 5) r₁) ≡ failed n → skim (read_arc_parts s h b r) ≡ failed n
    data_fail f =
        let (cs, q) = was_left (many (read_clock_guard s) (byte h 4) r) (clock-guards s (byte h 4) r ∙ e) in
        rw (q, was_failed (many (read_data_guard s) (byte h 5) r₁) (data-guards s (byte h 5) r₁ ∙ f))

    pub guards_pass : (r₂ : List ℕ) → skim (many (passes DataGuards s) (byte h 5) r₁) ≡ left r₂ → skim (read_arc_parts s h b r) ≡ skim (read_items s (byte h 0) (byte h 6) r₂)
    guards_pass r₂ f =
        let (cs, q) = was_left (many (read_clock_guard s) (byte h 4) r) (clock-guards s (byte h 4) r ∙ e) in
        let (ds, t) = was_left (many (read_data_guard s) (byte h 5) r₁) (data-guards s (byte h 5) r₁ ∙ f) in
        rw (q, t) (keeps (read_items s (byte h 0) (byte h 6) r₂) (arc_with h b cs ds))

-- ## The budget

module _ (b : Bool) (p : List ℕ) (at : ℕ) where
  pub no_budget : b ≡ false → skim (read_budget b (drop at p)) ≡ left (drop at p)
  no_budget e = rw e

  pub budget_short : b ≡ true → length p - at < 2 → skim (read_budget b (drop at p)) ≡ failed 4
  budget_short e h = rw (e, lt-leb 2 (length (drop at p)) (simp length-drop (omega arith)))

  pub budget_bad : b ≡ true → at + 2 ≤ length p → 60000 < word p at → skim (read_budget b (drop at p)) ≡ failed 5
  budget_bad e h w = rw (e, le-leb 2 (length (drop at p)) (simp length-drop (omega arith)), ← word_drop p at, lt-leb (word p at) 60000 w)

  pub budget_good : b ≡ true → at + 2 ≤ length p → word p at ≤ 60000 → skim (read_budget b (drop at p)) ≡ left (drop (at + 2) p)
  budget_good e h w = rw (e, le-leb 2 (length (drop at p)) (simp length-drop (omega arith)), ← word_drop p at, le-leb (word p at) 60000 w, ← drop-drop 2 at p)

-- what is left does not hang on the budget
module _ (s : Sizes) (h : List ℕ) (b : Option ℕ) where
  after_items : (cs : List ClockGuard) (ds : List DataGuard) (m : Parsed Items) → skim (m then λ i r. ok (arc_with h b cs ds i) r) ≡ skim (m then λ i r. ok (arc_with h none cs ds i) r)
  after_items cs ds (ok i r) = refl
  after_items cs ds (fault n) = refl

  after_data : (cs : List ClockGuard) (m : Parsed (List DataGuard))
      → skim (m then λ ds r₂. read_items s (byte h 0) (byte h 6) r₂ then λ i r₃. ok (arc_with h b cs ds i) r₃) ≡ skim (m then λ ds r₂. read_items s (byte h 0) (byte h 6) r₂ then λ i r₃. ok (arc_with h none cs ds i) r₃)
  after_data cs (ok ds r) = after_items cs ds (read_items s (byte h 0) (byte h 6) r)
  after_data cs (fault n) = refl

  after_clocks : (m : Parsed (List ClockGuard))
      → skim (m then λ cs r₁. many (read_data_guard s) (byte h 5) r₁ then λ ds r₂. read_items s (byte h 0) (byte h 6) r₂ then λ i r₃. ok (arc_with h b cs ds i) r₃)
      ≡ skim (m then λ cs r₁. many (read_data_guard s) (byte h 5) r₁ then λ ds r₂. read_items s (byte h 0) (byte h 6) r₂ then λ i r₃. ok (arc_with h none cs ds i) r₃)
  after_clocks (ok cs r) = after_data cs (many (read_data_guard s) (byte h 5) r)
  after_clocks (fault n) = refl

  pub parts_any : (r : List ℕ) → skim (read_arc_parts s h b r) ≡ skim (read_arc_parts s h none r)
  parts_any r = after_clocks (many (read_clock_guard s) (byte h 4) r)

module _ (s : Sizes) (h r : List ℕ) where
  pub budget_fail : {n : ℕ} → skim (read_budget s.budgets r) ≡ failed n → skim (read_arc_body s h r) ≡ failed n
  budget_fail e = rw (was_failed (read_budget s.budgets r) e)

  pub budget_pass : (r₁ : List ℕ) → skim (read_budget s.budgets r) ≡ left r₁ → skim (read_arc_body s h r) ≡ skim (read_arc_parts s h none r₁)
  budget_pass r₁ e = let (b, q) = was_left (read_budget s.budgets r) e in rw q (parts_any s h b r₁)

-- ## An edge

module _ (s : Sizes) (p : List ℕ) (at : ℕ) where
  pub arc_short : length p - at < 7 → skim (read_arc s (drop at p)) ≡ failed 4
  unfolding read_arc
  arc_short h = rw (lt-leb 7 (length (drop at p)) (simp length-drop (omega arith)))

  pub arc_bad : at + 7 ≤ length p → edge_fine s (drop at p) ≡ false → skim (read_arc s (drop at p)) ≡ failed 5
  unfolding read_arc
  arc_bad h e = rw (le-leb 7 (length (drop at p)) (simp length-drop (omega arith)), e)

  pub arc_good : at + 7 ≤ length p → edge_fine s (drop at p) ≡ true → skim (read_arc s (drop at p)) ≡ skim (read_arc_body s (drop at p) (drop (at + 7) p))
  unfolding read_arc
  arc_good h e = rw (le-leb 7 (length (drop at p)) (simp length-drop (omega arith)), e, ← drop-drop 7 at p)
