-- `run_text::offsets::is_together` meets its contract. Assumes nothing.
use Rattle.std.proofs.Common.{◌≡◌, ◌∙◌, ◌+◌, ◌≤◌, ◌<◌, ℕ, Bool, true, false, length, List, MatchBool, refl, subst, get_or, arith, tests, rules}
use Rattle.std.specs.List.{HoldsAt, AllWithin, range_with_len}
use Rattle.std.proofs.lemmas.Iterator.{cases_from_all, YieldsList-from_range}
use Rattle.std.proofs.lemmas.List.FromFn.{length-range_with_len, get_or-range_with_len}
use Rattle.model.specs.Run.{offset_in}
use Rattle.model.specs.Calls.{offsets_fine}
use Rattle.run_text.proofs.OffsetsTold.{all_together, one_apart}
use Rattle.run_text.proofs.offsets.is_together.Goals as goal

module _ (n : ℕ) (offsets : List ℕ) where
  abbrev nodes : List ℕ
  nodes = range_with_len 0 n

  -- node k, wherever it stands
  at : (k d : ℕ) → k < n → get_or nodes k d ≡ k
  at k d h = get_or-range_with_len 0 n k d h ∙ (let e : 0 + k ≡ k = omega arith in e)

  told : (r : Bool) → MatchBool r (AllWithin (λ k. offset_in offsets k ≤ 0) nodes 0 (length nodes)) ((k : ℕ) × (k < length nodes) × HoldsAt (λ j. 0 < offset_in offsets j) nodes k)
      → r ≡ offsets_fine 0 n offsets
  told true h = all_together n offsets (λ k l. subst (λ (j : ℕ). offset_in offsets j ≤ 0) (at k 0 l) (h k 0 (omega arith) (omega (arith, length-range_with_len 0 n))))
  told false (k, l, h) =
      let here : k < n = omega (arith, length-range_with_len 0 n) in
      one_apart n offsets k here (subst (λ (j : ℕ). 0 < offset_in offsets j) (at k 0 here) (h 0))

pub returns : goal.returns
returns c =
    let a = c.args in
    told a.nodes a.offsets.now c.all.result
    (cases_from_all _ _ _ (λ k. offset_in a.offsets.now k ≤ 0) (λ k. 0 < offset_in a.offsets.now k) c.all.ensures.ran (YieldsList-from_range 0 a.nodes a.nodes refl (omega arith)) (λ x q k. search (rules, tests)) (λ x q k. search (rules, tests)))
