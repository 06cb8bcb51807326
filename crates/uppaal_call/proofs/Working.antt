-- Whether all budgets are 0, edge by edge and component by component. Assumes nothing.
use mathlib.Core.Path.{◌≡◌, refl, sym, ap, ◌∙◌}
use mathlib.Core.Bool.{Bool, true, false, ◌&&◌}
use mathlib.Core.List.{List}
use Prim.Native.Nat.{ℕ, zero, suc, ◌+◌, ◌-◌, ◌≤◌, ◌<◌}
use native.Mathlib.Numerals.{add-one, sub-one}
use native.Mathlib.Omega.{arith}
use borrow.Author.Tests.{eq-eqb, ne_eqb, leb-false}
use lib.Dec.{eqb, leb}
use lib.ListN.{length, take, drop, length-drop, drop_of_length-le}
use lib.Seq.{get_or-drop, drop-cons}
use Rattle.model.specs.Lists.{Bytes, all}
use Rattle.model.specs.Table.{Arc, no_component}
use Rattle.model.specs.Reader.{byte, word}
use Rattle.model.specs.Places.{arc_length, arc_at, budgeted, start_of, Valid, read_of}
use Rattle.model.proofs.Reader.Located.{valid_located}
use Rattle.blocks.specs.FrontEdges.{arcs_at, ArcsFit}
use Rattle.blocks.proofs.Arcs.{edge_passed, edge_whole}
use Rattle.parts.proofs.Skim.{tail}
use Rattle.translator.specs.Front.{arcs_place, front_component}
use Rattle.translator.proofs.Standing.{valid_limits, valid_count, node_is}
use Rattle.uppaal.specs.UppaalCall.{no_work, budgetless, all_budgetless}
use Rattle.uppaal_call.proofs.Budgets.{older_budgetless}

-- ## Edge by edge

abbrev pub resting : ℕ → List ℕ → Bool
resting k h = all (λ (a : Arc). no_work a.budget) (arcs_at true k h)

pub resting_all : (p : List ℕ) (place : ℕ) → place ≡ arcs_place p → resting (byte p 6) (drop place p) ≡ budgetless (front_component true p)
unfolding front_component
resting_all p place e = ap (λ (i : ℕ). resting (byte p 6) (drop i p)) e

pub resting_done : (k : ℕ) (h : List ℕ) → k ≤ 0 → resting k h ≡ true
unfolding arcs_at
resting_done zero h q = refl
resting_done (suc k) h q = absurd (omega arith)

ahead : (k : ℕ) (h : List ℕ) → 0 < k → resting k h ≡ (eqb (word h 7) 0 && resting (k - 1) (drop (arc_length true h) h))
unfolding arcs_at arc_at
ahead zero h q = absurd (omega arith)
ahead (suc k) h q = rw sub-one

module _ (p : List ℕ) (place k : ℕ) (more : 0 < k) where
  word_there : word (drop place p) 7 ≡ word p (place + 7)
  word_there =
      let e : place + 8 ≡ suc (place + 7) = omega arith in
      rw (get_or-drop place p 7 0, get_or-drop place p 8 0, e)

  -- the budget stands
  pub budget_there : place ≤ length p → ArcsFit true k (drop place p) → place + 9 ≤ length p
  budget_there g f = omega (arith, edge_whole true p place k more g f, ap length (tail p place), length-drop place p)

  -- a budget that is not 0
  pub resting_not : (n : ℕ) → n ≡ word p (place + 7) → (n ≡ 0 → ⊥) → resting k (drop place p) ≡ false
  resting_not n e h =
      ahead k (drop place p) more
      ∙ ap (λ (b : Bool). b && resting (k - 1) (drop (arc_length true (drop place p)) (drop place p))) (ne_eqb (word (drop place p) 7) 0 (λ z. h (e ∙ sym word_there ∙ z)))

  pub resting_on : (n : ℕ) → n ≡ word p (place + 7) → n ≡ 0 → (long : ℕ) → long ≡ arc_length true (take (length p - place) (drop place p))
      → resting k (drop place p) ≡ resting (k - 1) (drop (place + long) p)
  resting_on n e h long q =
      ahead k (drop place p) more
      ∙ ap (λ (b : Bool). b && resting (k - 1) (drop (arc_length true (drop place p)) (drop place p))) (eq-eqb (word (drop place p) 7) 0 (word_there ∙ sym e ∙ h))
      ∙ ap (resting (k - 1)) (edge_passed true p place long q)

-- ## Component by component

module _ (bs : List ℕ) (b : Bytes bs) (v : Valid bs) where
  -- those from number c on
  abbrev pub resting_from : ℕ → Bool
  resting_from c = all budgetless (drop c (read_of bs).table.components)

  pub restings_done : (c : ℕ) → byte bs 3 ≤ c → resting_from c ≡ true
  restings_done c h =
      let k : length (read_of bs).table.components ≤ c = omega (arith, valid_count bs b v) in
      ap (all budgetless) (drop_of_length-le (read_of bs).table.components k)

  -- without budgets there is nothing to ask
  pub none_works : (w : Bool) → w ≡ budgeted bs → w ≡ false → true ≡ all_budgetless (read_of bs).table
  none_works w e f =
      let g : leb 3 (byte bs 0) ≡ false = sym e ∙ f in
      sym (older_budgetless (read_of bs) (valid_limits bs b v) (omega (arith, leb-false 3 (byte bs 0) g, (valid_located bs b v).version)))

  module _ (c : ℕ) (h : c < byte bs 3) (start : ℕ) (e : start ≡ start_of bs c) (w : Bool) (same : w ≡ budgeted bs) (has : w ≡ true) (r : Bool)
      (q : r ≡ budgetless (front_component true (take (length bs - start) (drop start bs)))) where
    turned : resting_from c ≡ (r && resting_from (c + 1))
    turned =
        let n = node_is bs b v c h start e true (sym has ∙ same) in
        rw (q, n, add-one) (ap (all budgetless) (drop-cons (read_of bs).table.components c no_component (omega (arith, valid_count bs b v))))

    pub restings_not : r ≡ false → resting_from c ≡ false
    restings_not f = turned ∙ ap (λ (x : Bool). x && resting_from (c + 1)) f

    pub restings_on : r ≡ true → resting_from c ≡ resting_from (c + 1)
    restings_on f = turned ∙ ap (λ (x : Bool). x && resting_from (c + 1)) f
