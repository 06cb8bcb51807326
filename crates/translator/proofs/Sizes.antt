-- How long the pieces of a node's part are. Assumes nothing.
use mathlib.Core.Path.{◌≡◌, refl, ap, ◌∙◌}
use mathlib.Core.Bool.{Bool, true, false, cond}
use mathlib.Core.List.{List, [], ◌∷◌}
use Prim.Native.Nat.{ℕ, zero, suc, ◌+◌, ◌-◌, ◌*◌, ◌≤◌, ◌<◌}
use native.Mathlib.Omega.{arith}
use borrow.Author.Tests.{eq-eqb, ne_eqb}
use lib.ListN.{length, take, drop, length-append}
use lib.Seq.{drop-drop}
use Rattle.model.specs.declared.Action.TheVariants.{Internal, Send, Receive}
use Rattle.model.specs.Lists.{each}
use Rattle.model.specs.Reader.{byte, word, clock_guard_at, data_guard_at, update_at, pair_at}
use Rattle.model.specs.Places.{list_at, arc_head_length, items_place, arc_length, budget_at, arc_at}
use Rattle.model.specs.Program.{clock_tests, budget_test, code, block_bytes, node_bytes}
use Rattle.model.proofs.Basics.Walk.{list_length}
use Rattle.model.proofs.Basics.Sums.{total}
use Rattle.model.proofs.Program.Size.{trial_length, arc_share, work_length, Sourced, clock_tests_most, trial_parts, edge_block_length, node_length}
use Rattle.decoder.proofs.ByAction.{internal_updates, receive_pairs}
use Rattle.parts.proofs.Skim.{tail}
use Rattle.blocks.specs.declared.Kind.TheVariants.{ClockGuards}
use Rattle.blocks.specs.Made.{made_of, all_made}
use Rattle.blocks.specs.FrontEdges.{arcs_at}
use Rattle.translator.specs.Front.{arcs_place, front_component}
use Rattle.blocks.proofs.Arcs.{edge_passed}
use Rattle.blocks.proofs.Parts.{clocks_made}
use Rattle.translator.proofs.Nodes.{front_locations}

-- ## Clock bounds

pub one_test : (h : List ℕ) (k : ℕ) → k ≡ word h 3 → k ≡ 65535 → 4 ≡ length (block_bytes (clock_tests (clock_guard_at h ∷ [])))
unfolding block_bytes each code
one_test h k q e = rw (← q, eq-eqb k 65535 e)

pub two_tests : (h : List ℕ) (k : ℕ) → k ≡ word h 3 → (k ≡ 65535 → ⊥) → 8 ≡ length (block_bytes (clock_tests (clock_guard_at h ∷ [])))
unfolding block_bytes each code
two_tests h k q e = rw (← q, ne_eqb k 65535 e)

pub clocks_most : (n : ℕ) (h : List ℕ) → length (all_made ClockGuards n h) ≤ 8 * n
clocks_most n h =
    let gs = list_at clock_guard_at 5 n h in
    omega (arith, ap length (clocks_made n h), clock_tests_most gs, list_length clock_guard_at 5 n h)

-- a turn of the loop: the test ahead is counted
pub clock_counted : (h : List ℕ) (place k long all r : ℕ) → 0 < k → long + length (all_made ClockGuards k (drop place h)) ≡ all
    → r ≡ length (block_bytes (clock_tests (clock_guard_at (take (length h - place) (drop place h)) ∷ [])))
    → long + r + length (all_made ClockGuards (k - 1) (drop (place + 5) h)) ≡ all
unfolding all_made
clock_counted h place k long all r q e f =
    let z : k ≡ suc (k - 1) = omega arith in
    let g : r ≡ length (made_of ClockGuards (drop place h)) = f ∙ ap (λ (l : List ℕ). length (block_bytes (clock_tests (clock_guard_at l ∷ [])))) (tail h place) in
    let s : length (all_made ClockGuards k (drop place h)) ≡ length (made_of ClockGuards (drop place h)) + length (all_made ClockGuards (k - 1) (drop (place + 5) h)) =
    ap (λ (n : ℕ). length (all_made ClockGuards n (drop place h))) z
    ∙ length-append (made_of ClockGuards (drop place h)) (all_made ClockGuards (k - 1) (drop 5 (drop place h)))
    ∙ ap (λ (l : List ℕ). length (made_of ClockGuards (drop place h)) + length (all_made ClockGuards (k - 1) l)) (drop-drop 5 place h) in
    omega arith

pub none_counted : (h : List ℕ) (k : ℕ) → k ≤ 0 → length (all_made ClockGuards k h) ≡ 0
unfolding all_made
none_counted h zero q = refl
none_counted h (suc k) q = absurd (omega arith)

-- ## An edge

module _ (budgets : Bool) (h : List ℕ) where
  pub send_length : (channel : ℕ) → Send channel ≡ (arc_at budgets h).edge.action → 4 ≡ work_length (arc_at budgets h) (arc_at budgets h).edge.action
  unfolding work_length
  send_length channel e = rw (← e)

  -- the others have a statement for each item
  pub internal_length : Internal ≡ (arc_at budgets h).edge.action → byte h 6 * 4 + 4 ≡ work_length (arc_at budgets h) (arc_at budgets h).edge.action
  unfolding work_length
  internal_length e = rw (← e, internal_updates budgets h e) (omega (arith, list_length update_at 4 (byte h 6) (drop (items_place budgets h) h)))

  pub receive_length : Receive ≡ (arc_at budgets h).edge.action → byte h 6 * 4 + 4 ≡ work_length (arc_at budgets h) (arc_at budgets h).edge.action
  unfolding work_length
  receive_length e = rw (← e, receive_pairs budgets h e) (omega (arith, list_length pair_at 2 (byte h 6) (drop (items_place budgets h) h)))

  -- the statement of a budget
  budget_size : length (block_bytes (budget_test (budget_at budgets h))) ≡ cond budgets 4 0
  unfolding block_bytes each code
  budget_size = go budgets
    where
      go : (b : Bool) → length (block_bytes (budget_test (budget_at b h))) ≡ cond b 4 0
      go true = refl
      go false = refl

  trial_size : trial_length (arc_at budgets h) ≡ 12 + length (all_made ClockGuards (byte h 4) (drop (arc_head_length budgets) h)) + 8 * byte h 5 + cond budgets 4 0
  unfolding arc_at
  trial_size =
      omega (arith, trial_parts (arc_at budgets h), ap length (clocks_made (byte h 4) (drop (arc_head_length budgets) h)), list_length data_guard_at 5 (byte h 5) (drop (arc_head_length budgets + byte h 4 * 5) h), budget_size)

  -- its share, from its counts
  pub shared : (clocks c d w k g q : ℕ) → q ≡ arc_head_length budgets → c ≡ length (all_made ClockGuards (byte h 4) (take (length h - q) (drop q h))) → d ≡ byte h 5
      → w ≡ work_length (arc_at budgets h) (arc_at budgets h).edge.action → k ≡ clocks → g ≡ cond budgets 4 0
      → 2 + (12 + c + d * 8 + g) + (12 + w + k * 4) ≡ arc_share clocks (arc_at budgets h)
  unfolding arc_share
  shared clocks c d w k g q p a b e f i =
      let t : c ≡ length (all_made ClockGuards (byte h 4) (drop (arc_head_length budgets) h)) = a ∙ ap (λ (l : List ℕ). length (all_made ClockGuards (byte h 4) l)) (tail h q) ∙ ap (λ (j : ℕ). length (all_made ClockGuards (byte h 4) (drop j h))) p in
      omega (arith, trial_size, edge_block_length clocks (arc_at budgets h))

-- ## A node

-- the shares of k edges
abbrev pub shares_from : Bool → ℕ → ℕ → List ℕ → ℕ
shares_from budgets clocks k h = total (arc_share clocks) (arcs_at budgets k h)

pub share_counted : (budgets : Bool) (clocks : ℕ) (h : List ℕ) (edge k long all r next : ℕ) → 0 < k → long + shares_from budgets clocks k (drop edge h) ≡ all
    → r ≡ arc_share clocks (arc_at budgets (take (length h - edge) (drop edge h)))
    → next ≡ arc_length budgets (take (length h - edge) (drop edge h))
    → (long + r ≤ all) × (long + r + shares_from budgets clocks (k - 1) (drop (edge + next) h) ≡ all)
unfolding total arcs_at
share_counted budgets clocks h edge k long all r next q e f g =
    let z : k ≡ suc (k - 1) = omega arith in
    let v : r ≡ arc_share clocks (arc_at budgets (drop edge h)) = f ∙ ap (λ (l : List ℕ). arc_share clocks (arc_at budgets l)) (tail h edge) in
    let d = edge_passed budgets h edge next g in
    let s : shares_from budgets clocks k (drop edge h) ≡ arc_share clocks (arc_at budgets (drop edge h)) + shares_from budgets clocks (k - 1) (drop (edge + next) h) =
    ap (λ (n : ℕ). shares_from budgets clocks n (drop edge h)) z ∙ ap (λ (l : List ℕ). arc_share clocks (arc_at budgets (drop edge h)) + shares_from budgets clocks (k - 1) l) d in
    (omega arith, omega arith)

pub no_shares : (budgets : Bool) (clocks k : ℕ) (h : List ℕ) → k ≤ 0 → shares_from budgets clocks k h ≡ 0
unfolding total arcs_at
no_shares budgets clocks zero h q = refl
no_shares budgets clocks (suc k) h q = absurd (omega arith)

-- before the first edge
pub node_shares : (budgets : Bool) (p : List ℕ) (n edge : ℕ) → Sourced (front_component budgets p) → n ≡ byte p 2 → edge ≡ 7 + n * 3
    → 6 + n * 6 + shares_from budgets (byte p 4) (byte p 6) (drop edge p) ≡ length (node_bytes (front_component budgets p))
unfolding front_component
node_shares budgets p n edge h e f =
    let z : edge ≡ arcs_place p = omega arith in
    let s : shares_from budgets (byte p 4) (byte p 6) (drop edge p) ≡ shares_from budgets (byte p 4) (byte p 6) (drop (arcs_place p) p) = ap (λ (i : ℕ). shares_from budgets (byte p 4) (byte p 6) (drop i p)) z in
    omega (arith, node_length (front_component budgets p) h, front_locations budgets p)
