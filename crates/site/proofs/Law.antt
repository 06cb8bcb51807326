-- The airtime in use over any sequence of calls. Assumes nothing.
use mathlib.Core.Path.{◌≡◌, refl, sym, ap, ap₂, subst, ◌∙◌}
use mathlib.Core.Bool.{Bool, true, false, cond, ◌&&◌, not}
use mathlib.Core.List.{List, [], ◌∷◌}
use mathlib.Core.Option.{Option, none, some}
use mathlib.Core.Logic.{by_cases}
use Prim.Native.Nat.{ℕ, zero, suc, ◌+◌, ◌≤◌, ◌<◌}
use native.Mathlib.Omega.{arith}
use native.Mathlib.Decide.{ℕ_discrete}
use borrow.Author.Tests.{ltb-true, leb-true, eqb-true, eq-eqb, ne_eqb}
use lib.Dec.{leb, ltb, eqb}
use lib.ListN.{length, get_or, set, length-set}
use lib.Seq.{get_or-set_same, get_or-set_other}
use Rattle.model.specs.Lists.{all, is_none, Answer, accepted, refused, ◌after◌}
use Rattle.site.specs.Airtime.{Load, load_in, Site, empty_site, place_at, placed, airtime_held, in_use, shares_horizon, putting, taking, Request, put, take, asked, site_or, granted, site_after, noted, standing, load_or, load_held, Accounted}
use Rattle.model.proofs.Basics.Bools.{clash}
use Rattle.model.proofs.Basics.Members.{in_at, all_is}
use Rattle.model.proofs.Reader.Parts.{some_clash}

-- the sum after one place is written
use_set : (ps : List (Option Load)) (k : ℕ) (q : Option Load) → k < length ps → in_use (set ps k q) + airtime_held (get_or ps k none) ≡ in_use ps + airtime_held q
use_set [] k q h = absurd (omega arith)
use_set (p ∷ ps) zero q h = omega arith
use_set (p ∷ ps) (suc k) q h = omega (arith, use_set ps k q (omega arith))

-- the sum of four
use_four : (ps : List (Option Load)) → length ps ≡ 4
    → in_use ps ≡ airtime_held (get_or ps 0 none) + airtime_held (get_or ps 1 none) + airtime_held (get_or ps 2 none) + airtime_held (get_or ps 3 none)
use_four [] e = absurd (omega arith)
use_four (a ∷ []) e = absurd (omega arith)
use_four (a ∷ b ∷ []) e = absurd (omega arith)
use_four (a ∷ b ∷ c ∷ []) e = absurd (omega arith)
use_four (a ∷ b ∷ c ∷ d ∷ []) e = omega arith
use_four (a ∷ b ∷ c ∷ d ∷ p ∷ ps) e = absurd (omega arith)

-- what holds of a site that came from an empty one by calls, with these tables standing
record Fair (limit : ℕ) (s : Site) (f : ℕ → Option (List ℕ)) : Type 0 where
  kept : s.limit ≡ limit
  four : length s.places ≡ 4
  places : (k : ℕ) → k < 4 → place_at s k ≡ load_held (f k)
  within : in_use s.places ≤ limit
  one : (j k : ℕ) (l m : Load) → j < 4 → k < 4 → place_at s j ≡ some l → place_at s k ≡ some m → l.horizon ≡ m.horizon

module _ (limit : ℕ) {s : Site} {f : ℕ → Option (List ℕ)} (F : Fair limit s f) where
  -- place k is written
  written : (k : ℕ) → k < 4 → (q : Option Load) (t : Option (List ℕ)) → q ≡ load_held t → (j : ℕ) → j < 4 → place_at (placed s k q) j ≡ load_held (cond (eqb j k) t (f j))
  written k h q t e j i = by_cases (ℕ_discrete j k)
      (λ y. ap (λ n. get_or (set s.places k q) n none) y ∙ get_or-set_same s.places k q none (omega (arith, F.four)) ∙ e ∙ sym (ap (λ b. load_held (cond b t (f j))) (eq-eqb j k y)))
      (λ n. get_or-set_other s.places k j q none n ∙ F.places j i ∙ sym (ap (λ b. load_held (cond b t (f j))) (ne_eqb j k n)))

  -- any other place is as it was
  other : (k : ℕ) (q : Option Load) (j : ℕ) → (j ≡ k → ⊥) → place_at (placed s k q) j ≡ place_at s j
  other k q j n = get_or-set_other s.places k j q none n

  -- a load goes in
  put_fair : (k : ℕ) (table : List ℕ) (l : Load) → load_in table ≡ accepted l → (a : Answer Site) → putting s k l ≡ a → Fair limit (site_or s a) (noted f (put k table) (granted a))
  put_fair k table l e a = go (ltb k 4) refl (is_none (place_at s k)) refl (all (shares_horizon l.horizon) s.places) refl (leb (in_use s.places + l.airtime) s.limit) refl
    where
      Good : Answer Site → Type 0
      Good b = Fair limit (site_or s b) (noted f (put k table) (granted b))

      empty_is : (o : Option Load) → is_none o ≡ true → o ≡ none
      empty_is none q = refl
      empty_is (some x) q = clash q

      shares : (o : Option Load) (m : Load) → o ≡ some m → shares_horizon l.horizon o ≡ true → m.horizon ≡ l.horizon
      shares o m q r = eqb-true m.horizon l.horizon (subst (λ x. shares_horizon l.horizon x ≡ true) q r)

      fair : ltb k 4 ≡ true → is_none (place_at s k) ≡ true → all (shares_horizon l.horizon) s.places ≡ true → leb (in_use s.places + l.airtime) s.limit ≡ true
          → Fair limit (placed s k (some l)) (λ j. cond (eqb j k) (some table) (f j))
      fair p q r t =
          let h = ltb-true k 4 p in
          let free = empty_is (place_at s k) q in
          let each : (j : ℕ) (m : Load) → j < 4 → place_at (placed s k (some l)) j ≡ some m → m.horizon ≡ l.horizon =
          λ j m i y. by_cases (ℕ_discrete j k)
          (λ z. (let w : some m ≡ some l = sym y ∙ ap (λ n. get_or (set s.places k (some l)) n none) z ∙ get_or-set_same s.places k (some l) none (omega (arith, F.four)) in
          let v : m ≡ l = cc in ap (λ (x : Load). x.horizon) v))
          (λ n. shares (place_at s j) m (sym (other k (some l) j n) ∙ y) ((all_is (shares_horizon l.horizon) s.places).0 r (place_at s j) (in_at none s.places j (omega (arith, F.four))))) in
          record {
            kept = F.kept;
            four = length-set s.places k (some l) ∙ F.four;
            places = written k h (some l) (some table) (sym (ap load_or e));
            within = omega (arith, use_set s.places k (some l) (omega (arith, F.four)), ap airtime_held free, leb-true (in_use s.places + l.airtime) s.limit t, F.kept);
            one = λ i j x y u v w z. each i x u w ∙ sym (each j y v z);
          }

      go : (p : Bool) → ltb k 4 ≡ p → (q : Bool) → is_none (place_at s k) ≡ q → (r : Bool) → all (shares_horizon l.horizon) s.places ≡ r → (t : Bool) → leb (in_use s.places + l.airtime) s.limit ≡ t
          → cond (p && q) (cond r (cond t (accepted (placed s k (some l))) (refused 28 255)) (refused 27 255)) (refused 26 255) ≡ a → Good a
      go false p q y r z t w d = subst Good d F
      go true p false y r z t w d = subst Good d F
      go true p true y false z t w d = subst Good d F
      go true p true y true z false w d = subst Good d F
      go true p true y true z true w d = subst Good d (fair p y z w)

  -- a place is emptied
  take_fair : (k : ℕ) (a : Answer Site) → taking s k ≡ a → Fair limit (site_or s a) (noted f (take k) (granted a))
  take_fair k a = go (ltb k 4) refl (not (is_none (place_at s k)))
    where
      Good : Answer Site → Type 0
      Good b = Fair limit (site_or s b) (noted f (take k) (granted b))

      fair : ltb k 4 ≡ true → Fair limit (placed s k none) (λ j. cond (eqb j k) none (f j))
      fair p =
          let h = ltb-true k 4 p in
          let each : (j : ℕ) (m : Load) → j < 4 → place_at (placed s k none) j ≡ some m → place_at s j ≡ some m =
          λ j m i y. by_cases (ℕ_discrete j k)
          (λ z. some_clash (sym y ∙ ap (λ n. get_or (set s.places k none) n none) z ∙ get_or-set_same s.places k none none (omega (arith, F.four))))
          (λ n. sym (other k none j n) ∙ y) in
          record {
            kept = F.kept;
            four = length-set s.places k none ∙ F.four;
            places = written k h none none refl;
            within = omega (arith, use_set s.places k none (omega (arith, F.four)), F.within);
            one = λ i j x y u v w z. F.one i j x y u v (each i x u w) (each j y v z);
          }

      go : (p : Bool) → ltb k 4 ≡ p → (q : Bool) → cond (p && q) (accepted (placed s k none)) (refused 26 255) ≡ a → Good a
      go false p q d = subst Good d F
      go true p false d = subst Good d F
      go true p true d = subst Good d (fair p)

  -- one call
  call_fair : (r : Request) → Fair limit (site_or s (asked s r)) (noted f r (granted (asked s r)))
  call_fair (take k) = take_fair k (asked s (take k)) refl
  call_fair (put k table) = go (load_in table) refl
    where
      go : (o : Answer Load) → load_in table ≡ o → Fair limit (site_or s (o after λ l. putting s k l)) (noted f (put k table) (granted (o after λ l. putting s k l)))
      go (accepted l) e = put_fair k table l e (putting s k l) refl
      go (refused n c) e = F

-- any sequence
all_fair : (limit : ℕ) (rs : List Request) {s : Site} {f : ℕ → Option (List ℕ)} → Fair limit s f → Fair limit (site_after s rs) (standing s f rs)
unfolding site_after standing
all_fair limit [] F = F
all_fair limit (r ∷ rs) F = all_fair limit rs (call_fair limit F r)

pub accounted : Accounted
accounted limit rs =
    record {
      kept = F.kept;
      places = F.places;
      sum =
          use_four (site_after (empty_site limit) rs).places F.four
          ∙ ap₂ (λ x y. x + y) (ap₂ (λ x y. x + y) (ap₂ (λ x y. x + y) (ap airtime_held (F.places 0 (omega arith))) (ap airtime_held (F.places 1 (omega arith)))) (ap airtime_held (F.places 2 (omega arith)))) (ap airtime_held (F.places 3 (omega arith)));
      within = F.within;
      one = F.one;
    }
  where
    blank : (k : ℕ) → k < 4 → place_at (empty_site limit) k ≡ none
    blank zero h = refl
    blank (suc zero) h = refl
    blank (suc (suc zero)) h = refl
    blank (suc (suc (suc zero))) h = refl
    blank (suc (suc (suc (suc k)))) h = absurd (omega arith)

    F : Fair limit (site_after (empty_site limit) rs) (standing (empty_site limit) (λ j. none) rs)
    F = all_fair limit rs (record { kept = refl; four = refl; places = blank; within = omega arith; one = λ j k l m i h e g. some_clash (sym e ∙ blank j i) })
