-- The index of a component's edges, from edge to edge. Assumes nothing.
use mathlib.Core.Path.{◌≡◌, refl, sym, ap, ◌∙◌}
use mathlib.Core.List.{List}
use Prim.Native.Nat.{ℕ, suc, ◌+◌, ◌*◌, ◌≤◌, ◌<◌}
use native.Mathlib.Omega.{arith}
use native.Mathlib.Decide.{ℕ_discrete}
use lib.ListN.{length, get_or, set, length-set}
use lib.Seq.{get_or-set_same, get_or-set_other}
use Rattle.model.specs.Places.{arc_place, component_in}
use Rattle.window.specs.Indexed.{first_from, next_of, place_of, source_of, NextFrom, Indexed, Within, PlacesPut, LinksPut}

-- ## The places, from the first edge on

module _ (bs before : List ℕ) (c start : ℕ) where
  pub places_none : PlacesPut bs before before c start 0
  places_none = record { same = refl; below = λ j h. refl; above = λ j h. refl; place = λ e h. absurd (omega (arith, h)) }

  pub places_turn : (index : List ℕ) (k place : ℕ) → PlacesPut bs before index c start k → c * 80 + 80 ≤ length before → k < 32 → place ≡ arc_place bs start k
      → PlacesPut bs before (set index (c * 80 + 48 + k) place) c start (k + 1)
  places_turn index k place p f h q =
      record {
        same = length-set index (c * 80 + 48 + k) place ∙ p.same;
        below = λ j l. get_or-set_other index (c * 80 + 48 + k) j place 0 (λ e. omega (arith, e, l)) ∙ p.below j l;
        above = λ j l. get_or-set_other index (c * 80 + 48 + k) j place 0 (λ e. omega (arith, e, l, h)) ∙ p.above j l;
        place = λ e l. go e l (ℕ_discrete e k);
      }
    where
      go : (e : ℕ) → e < k + 1 → Dec (e ≡ k) → place_of (set index (c * 80 + 48 + k) place) c e ≡ arc_place bs start e
      go e l (yes i) = rw i (get_or-set_same index (c * 80 + 48 + k) place 0 (omega (arith, p.same)) ∙ q)
      go e l (no i) = get_or-set_other index (c * 80 + 48 + k) (c * 80 + 48 + e) place 0 (λ j. i (omega (arith, j))) ∙ p.place e (omega (arith, l, i))

-- ## The links, from the last edge to the first

module _ (bs before : List ℕ) (c : ℕ) where
  pub links_none : (n : ℕ) → n ≡ length (component_in bs c).arcs → n ≤ 32 → ((q : ℕ) → q < 16 → first_from before c q ≡ 32) → LinksPut bs before before c n
  links_none n e m f =
      record {
        same = refl;
        below = λ j h. refl;
        above = λ j h. refl;
        first = λ q h. record { from = omega (arith, f q h); none = λ i l u v w. omega (arith, e, l, v); leaves = λ u. absurd (omega (arith, f q h, e, u)) };
        next = λ i l h. absurd (omega (arith, e, l, h));
      }

  -- edge k leaves location q
  module _ (index : List ℕ) (k q : ℕ) (p : LinksPut bs before index c (suc k)) (f : c * 80 + 80 ≤ length before) (h : k < 32) (s : source_of (component_in bs c) k ≡ q) (b : q < 16) where
    -- the first edge of a location
    linked_first : (i : ℕ) → i < 16 → Dec (i ≡ q) → NextFrom (component_in bs c) i k (first_from (set (set index (c * 80 + 16 + k) (first_from index c q)) (c * 80 + q) k) c i)
    linked_first i l (yes e) =
        let w : first_from (set (set index (c * 80 + 16 + k) (first_from index c q)) (c * 80 + q) k) c i ≡ k = rw e (get_or-set_same (set index (c * 80 + 16 + k) (first_from index c q)) (c * 80 + q) k 0 (omega (arith, length-set index (c * 80 + 16 + k) (first_from index c q), p.same))) in
        record { from = omega (arith, w); none = λ j m u v z. omega (arith, w, m, u); leaves = λ u. ap (source_of (component_in bs c)) w ∙ (s ∙ sym e) }
    linked_first i l (no e) =
        let w : first_from (set (set index (c * 80 + 16 + k) (first_from index c q)) (c * 80 + q) k) c i ≡ first_from index c i =
        get_or-set_other (set index (c * 80 + 16 + k) (first_from index c q)) (c * 80 + q) (c * 80 + i) k 0 (λ z. e (omega (arith, z))) ∙ get_or-set_other index (c * 80 + 16 + k) (c * 80 + i) (first_from index c q) 0 (λ z. omega (arith, z, l)) in
        record {
          from = omega (arith, w, (p.first i l).from);
          none = λ j m u v z. later j m (omega (arith, w, u)) v z (ℕ_discrete j k);
          leaves = λ u. ap (source_of (component_in bs c)) w ∙ (p.first i l).leaves (omega (arith, w, u));
        }
      where
        later : (j : ℕ) → k ≤ j → j < first_from index c i → j < length (component_in bs c).arcs → source_of (component_in bs c) j ≡ i → Dec (j ≡ k) → ⊥
        later j m u v z (yes d) = e (sym z ∙ (ap (source_of (component_in bs c)) d ∙ s))
        later j m u v z (no d) = (p.first i l).none j (omega (arith, m, d)) u v z

    -- the edge after an edge
    linked_next : (i : ℕ) → k ≤ i → i < length (component_in bs c).arcs → i < 32 → Dec (i ≡ k)
        → NextFrom (component_in bs c) (source_of (component_in bs c) i) (suc i) (next_of (set (set index (c * 80 + 16 + k) (first_from index c q)) (c * 80 + q) k) c i)
    linked_next i l u n (yes e) =
        let w : next_of (set (set index (c * 80 + 16 + k) (first_from index c q)) (c * 80 + q) k) c i ≡ first_from index c q =
        rw e (get_or-set_other (set index (c * 80 + 16 + k) (first_from index c q)) (c * 80 + q) (c * 80 + 16 + k) k 0 (λ z. omega (arith, z, b)) ∙ get_or-set_same index (c * 80 + 16 + k) (first_from index c q) 0 (omega (arith, p.same))) in
        let o = p.first q b in
        let r : source_of (component_in bs c) i ≡ q = ap (source_of (component_in bs c)) e ∙ s in
        record {
          from = omega (arith, w, o.from, e);
          none = λ j m t v z. o.none j (omega (arith, e, m)) (omega (arith, w, t)) v (z ∙ r);
          leaves = λ t. ap (source_of (component_in bs c)) w ∙ (o.leaves (omega (arith, w, t)) ∙ sym r);
        }
    linked_next i l u n (no e) =
        let w : next_of (set (set index (c * 80 + 16 + k) (first_from index c q)) (c * 80 + q) k) c i ≡ next_of index c i =
        get_or-set_other (set index (c * 80 + 16 + k) (first_from index c q)) (c * 80 + q) (c * 80 + 16 + i) k 0 (λ z. omega (arith, z, b)) ∙ get_or-set_other index (c * 80 + 16 + k) (c * 80 + 16 + i) (first_from index c q) 0 (λ z. e (omega (arith, z))) in
        let o = p.next i (omega (arith, l, e)) u in
        record { from = omega (arith, w, o.from); none = λ j m t v z. o.none j m (omega (arith, w, t)) v z; leaves = λ t. ap (source_of (component_in bs c)) w ∙ o.leaves (omega (arith, w, t)) }

    pub links_turn : length (component_in bs c).arcs ≤ 32 → LinksPut bs before (set (set index (c * 80 + 16 + k) (first_from index c q)) (c * 80 + q) k) c k
    links_turn n =
        record {
          same = length-set (set index (c * 80 + 16 + k) (first_from index c q)) (c * 80 + q) k ∙ (length-set index (c * 80 + 16 + k) (first_from index c q) ∙ p.same);
          below = λ j l. get_or-set_other (set index (c * 80 + 16 + k) (first_from index c q)) (c * 80 + q) j k 0 (λ e. omega (arith, e, l)) ∙ (get_or-set_other index (c * 80 + 16 + k) j (first_from index c q) 0 (λ e. omega (arith, e, l)) ∙ p.below j l);
          above = λ j l. get_or-set_other (set index (c * 80 + 16 + k) (first_from index c q)) (c * 80 + q) j k 0 (λ e. omega (arith, e, l, b)) ∙ (get_or-set_other index (c * 80 + 16 + k) j (first_from index c q) 0 (λ e. omega (arith, e, l, h)) ∙ p.above j l);
          first = λ i l. linked_first i l (ℕ_discrete i q);
          next = λ i l u. linked_next i l u (omega (arith, u, n)) (ℕ_discrete i k);
        }

-- ## The whole index of a component

module _ (bs before placed linked : List ℕ) (c start : ℕ) (p : PlacesPut bs before placed c start (length (component_in bs c).arcs)) (l : LinksPut bs placed linked c 0) where
  pub indexed : c * 80 + 80 ≤ length before → Indexed bs linked c start
  indexed f =
      record {
        fits = omega (arith, p.same, l.same);
        place = λ e h. l.above (c * 80 + 48 + e) (omega arith) ∙ p.place e h;
        first = λ q h. l.first q h;
        next = λ e h. l.next e (omega arith) h;
      }

  pub within : Within before linked c
  within = record { same = l.same ∙ p.same; below = λ j h. l.below j h ∙ p.below j (omega (arith, h)); above = λ j h. l.above j (omega (arith, h)) ∙ p.above j h }

-- it stays while a later component's is made
module _ (bs index after : List ℕ) (c d start : ℕ) (w : Within index after d) (h : c < d) where
  stays : (j : ℕ) → j < c * 80 + 80 → get_or after j 0 ≡ get_or index j 0
  stays j l = w.below j (omega arith)

  moved : (j : ℕ) {q e : ℕ} → j < c * 80 + 80 → NextFrom (component_in bs c) q e (get_or index j 0) → NextFrom (component_in bs c) q e (get_or after j 0)
  moved j l o = rw (stays j l) o

  pub still_indexed : length (component_in bs c).arcs ≤ 32 → Indexed bs index c start → Indexed bs after c start
  still_indexed n x =
      record {
        fits = omega (arith, w.same, x.fits);
        place = λ e l. stays (c * 80 + 48 + e) (omega arith) ∙ x.place e l;
        first = λ q l. moved (c * 80 + q) (omega arith) (x.first q l);
        next = λ e l. moved (c * 80 + 16 + e) (omega arith) (x.next e l);
      }
