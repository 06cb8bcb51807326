-- All components step out that have reached their end: one way of the network. Assumes nothing.
use mathlib.Core.Path.{◌≡◌, refl, sym, ap, subst, ◌∙◌}
use mathlib.Core.Bool.{Bool, true, false, cond}
use mathlib.Core.List.{List, [], ◌∷◌, ◌++◌, map, append-nil}
use Prim.Native.Nat.{ℕ, zero, suc, ◌+◌, ◌<◌}
use native.Mathlib.Omega.{arith}
use borrow.Author.Tests.{eqb-true, eq-eqb, ne_eqb}
use lib.Dec.{eqb}
use lib.ListN.{length, get_or, set, length-append}
use lib.Seq.{append_snoc, set_at, get_or_at, set-get_or}
use Rattle.model.specs.Table.{Table, size, component_of}
use Rattle.model.specs.Schedule.{Passage}
use Rattle.model.specs.Network.{PathPassage, passage_in, step_out}
use Rattle.model.proofs.Network.Passage.{place_in}
use Rattle.model.proofs.Network.Ways.{Way, no_way, one_way, then_way, same_way}
use Rattle.model.proofs.Network.Lanes.{Lane, lane, no_lane, lane_at, state_of, waited, settle, leaving, out, settle_all, outs, Turn, stays, moves, turn, Good, place_at, out_step}

-- what component d leaves where component c leaves vs
abbrev pub left_at : ℕ → List Passage → ℕ → List PathPassage
left_at c vs d = cond (eqb c d) (map waited vs) []

module _ (T : Table) (H τ : ℕ) where
  -- one component steps out if it is to
  out_way : (L : List Lane) (c : ℕ) → c < size T → Good H (component_of T c) τ (lane_at L c)
      → Way T (state_of τ L) (out τ c (lane_at L c)) (state_of τ (set L c (settle τ (lane_at L c)))) (left_at c (leaving τ (lane_at L c))) []
  out_way L c there g = go (turn τ (lane_at L c))
    where
      K : Lane
      K = lane_at L c

      none_left : (t : Bool) → [] ≡ cond t (map waited []) []
      none_left true = refl
      none_left false = refl

      one_left : (vs : List Passage) → vs ≡ K.passage ∷ [] → K.done ≡ true → (d : ℕ) (t : Bool) → eqb c d ≡ t
          → cond t (passage_in (state_of τ L) d ∷ []) [] ≡ cond t (map waited vs) []
      one_left vs e w d true h =
          let i : passage_in (state_of τ L) d ≡ place_in K.passage true = ap (λ (j : ℕ). passage_in (state_of τ L) j) (sym (eqb-true c d h)) ∙ place_at τ L c ∙ ap (λ (b : Bool). place_in K.passage b) w in
          ap (λ (p : PathPassage). p ∷ []) i ∙ ap (map waited) (sym e)
      one_left vs e w d false h = refl

      go : Turn τ K → Way T (state_of τ L) (out τ c K) (state_of τ (set L c (settle τ K))) (left_at c (leaving τ K)) []
      go (stays s l o h) =
          same_way T (no_way T (state_of τ L)) (sym (o c))
          (ap (state_of τ) (sym (set-get_or L c no_lane) ∙ ap (λ (M : Lane). set L c M) (sym s)))
          (λ d. none_left (eqb c d) ∙ ap (λ (vs : List Passage). left_at c vs d) (sym l))
          refl
      go (moves v vs d e n s l o) =
          same_way T (one_way T (state_of τ L) (step_out c) (state_of τ (set L c (lane v false vs))) (out_step T H τ L c there g v vs d e n)) (sym (o c))
          (ap (λ (M : Lane). state_of τ (set L c M)) (sym s))
          (λ i. one_left (leaving τ K) l d i (eqb c i) refl)
          refl

  -- what component d leaves where the components from i on step out that are to
  abbrev left_from : ℕ → List Lane → ℕ → List PathPassage
  left_from i [] d = []
  left_from i (K ∷ L) d = left_at i (leaving τ K) d ++ left_from (suc i) L d

  -- the components from i on step out that are to
  outs_from : (P L : List Lane) (i : ℕ) → length P ≡ i → length (P ++ L) ≡ size T
      → ((j : ℕ) → j < length L → Good H (component_of T (i + j)) τ (get_or L j no_lane))
      → Way T (state_of τ (P ++ L)) (outs τ i L) (state_of τ (P ++ settle_all τ L)) (left_from i L) []
  outs_from P [] i lp ls gs = no_way T (state_of τ (P ++ []))
  outs_from P (K ∷ L) i lp ls gs =
      then_way T first (same_way T (outs_from (P ++ (settle τ K ∷ [])) L (suc i) longer whole later) refl (ap (state_of τ) (append_snoc P (settle τ K) (settle_all τ L))) (λ d. refl) refl)
    where
      at : lane_at (P ++ K ∷ L) i ≡ K
      at = get_or_at P K L no_lane i lp

      less : i < size T
      less = omega (arith, ls, length-append P (K ∷ L))

      good : Good H (component_of T i) τ (lane_at (P ++ K ∷ L) i)
      good =
          let z : i + 0 ≡ i = omega arith in
          subst (λ (M : Lane). Good H (component_of T i) τ M) (sym at) (subst (λ (n : ℕ). Good H (component_of T n) τ K) z (gs 0 (omega arith)))

      first : Way T (state_of τ (P ++ K ∷ L)) (out τ i K) (state_of τ (P ++ (settle τ K ∷ []) ++ L)) (left_at i (leaving τ K)) []
      first =
          same_way T (out_way (P ++ K ∷ L) i less good) (ap (out τ i) at)
          (ap (state_of τ) (ap (λ (M : Lane). set (P ++ K ∷ L) i (settle τ M)) at ∙ set_at P K L (settle τ K) i lp ∙ sym (append_snoc P (settle τ K) L)))
          (λ d. ap (λ (M : Lane). left_at i (leaving τ M) d) at)
          refl

      longer : length (P ++ (settle τ K ∷ [])) ≡ suc i
      longer = omega (arith, length-append P (settle τ K ∷ []))

      whole : length (P ++ (settle τ K ∷ []) ++ L) ≡ size T
      whole = omega (arith, ls, length-append (P ++ (settle τ K ∷ [])) L, length-append P (settle τ K ∷ []), length-append P (K ∷ L))

      later : (j : ℕ) → j < length L → Good H (component_of T (suc i + j)) τ (get_or L j no_lane)
      later j h =
          let z : i + suc j ≡ suc i + j = omega arith in
          subst (λ (n : ℕ). Good H (component_of T n) τ (get_or L j no_lane)) z (gs (suc j) (omega arith))

  -- components below i leave nothing
  left_below : (i : ℕ) (L : List Lane) (d : ℕ) → d < i → left_from i L d ≡ []
  left_below i [] d h = refl
  left_below i (K ∷ L) d h = rw (ne_eqb i d (λ e. omega arith)) (left_below (suc i) L d (omega arith))

  -- component i + j leaves what its lane says
  left-at : (i : ℕ) (L : List Lane) (j : ℕ) → left_from i L (i + j) ≡ map waited (leaving τ (get_or L j no_lane))
  unfolding leaving
  left-at i [] j = refl
  left-at i (K ∷ L) zero =
      let z : i ≡ i + 0 = omega arith in
      rw (eq-eqb i (i + 0) z, left_below (suc i) L (i + 0) (omega arith)) (append-nil (map waited (leaving τ K)))
  left-at i (K ∷ L) (suc j) =
      let z : i + suc j ≡ suc i + j = omega arith in
      rw (ne_eqb i (i + suc j) (λ e. omega arith)) (ap (left_from (suc i) L) z ∙ left-at (suc i) L j)

  -- all step out that are to
  pub outs_way : (L : List Lane) → length L ≡ size T → ((c : ℕ) → c < size T → Good H (component_of T c) τ (lane_at L c))
      → Way T (state_of τ L) (outs τ 0 L) (state_of τ (settle_all τ L)) (λ c. map waited (leaving τ (lane_at L c))) []
  outs_way L count gs =
      let z : (j : ℕ) → 0 + j ≡ j = λ j. omega arith in
      same_way T
      (outs_from [] L 0 refl count (λ j h. subst (λ (n : ℕ). Good H (component_of T n) τ (get_or L j no_lane)) (sym (z j)) (gs j (omega arith))))
      refl
      refl
      (λ c. ap (left_from 0 L) (sym (z c)) ∙ left-at 0 L c)
      refl
