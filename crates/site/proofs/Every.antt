-- What one call does to any struct: `SiteCalls`. Assumes nothing.
use mathlib.Core.Path.{◌≡◌, refl, sym, ap, subst, ◌∙◌}
use mathlib.Core.Logic.{◌↔◌}
use mathlib.Core.Bool.{Bool, true, false, ◌&&◌}
use mathlib.Core.List.{List}
use mathlib.Core.Option.{Option, none, some}
use Prim.Native.Nat.{ℕ, ◌≤◌, ◌<◌}
use native.Mathlib.Omega.{arith}
use borrow.Author.Tests.{ltb-true, lt-ltb, leb-true, leb-false, eqb-true, eq-eqb}
use lib.Dec.{leb, ltb}
use Rattle.model.specs.Lists.{all, is_none, Answer, accepted, refused, ◌after◌}
use Rattle.model.proofs.Basics.Bools.{and_is, clash}
use Rattle.model.proofs.Reader.Parts.{some_same, some_clash}
use Rattle.site.specs.declared.Networks.{Networks}
use Rattle.site.specs.Airtime.{Load, load_in, Site, place_at, placed, in_use, shares_horizon, putting, taking, Request, asked}
use Rattle.site.specs.Lent.{place_in, site_in, answered, put_call, take_call}
use Rattle.site.specs.Called.{named_place, asks_for, Others, Done, RefusedKeeps, SameLimit, Called, Free, Filled, Share, sum_with, ChecksFirst, PlaceRefused, HorizonRefused, SumRefused, PutDone, NoneConcerned, PutRefused, TakeRefused, EveryCall}
use Rattle.site.proofs.Keeping.{by_place, at_place}
use Rattle.site.proofs.Calls.{went, called_answered, others_stay, is_done, keeps, limit_stays}
use Rattle.site.proofs.Sequence.{called_is}

every_call : (s : Networks) (r : Request) → Called s r
every_call s r =
    let k = named_place r in
    let o = asks_for r in
    let a = asked (site_in s) r in
    let e = sym (called_answered s r) in
    let w = called_is s r in
    record {
      others = subst (Others s r) e (others_stay s k o a (went s r));
      done = subst (Done r) e (is_done s k o a (went s r));
      keeps = subst (RefusedKeeps s) e (keeps s k o a (went s r));
      limit = subst (SameLimit s) e (limit_stays s k o a (went s r));
      returned = w.uses ∙ sym (ap (λ (t : Site). in_use t.places) w.is);
    }

-- ## The tests, in the words of the sentences

none_is : (o : Option Load) → (is_none o ≡ true) ↔ (o ≡ none)
none_is none = (λ e. refl, λ e. refl)
none_is (some l) = (λ e. clash e, λ e. some_clash e)

free_is : (s : Networks) (k : ℕ) → (ltb k 4 && is_none (place_at (site_in s) k) ≡ true) ↔ Free s k
free_is s k = (
  λ e.
      let h = (and_is (ltb k 4) (is_none (place_at (site_in s) k))).0 e in
      let l = ltb-true k 4 h.0 in
      (l, sym (at_place s k l) ∙ (none_is (place_at (site_in s) k)).0 h.1),
  λ h. (and_is (ltb k 4) (is_none (place_at (site_in s) k))).1 (lt-ltb k 4 h.0, (none_is (place_at (site_in s) k)).1 (at_place s k h.0 ∙ h.1)),
)

-- one place
shares_is : (h : ℕ) (o : Option Load) → (shares_horizon h o ≡ true) ↔ ((m : Load) → o ≡ some m → m.horizon ≡ h)
shares_is h none = (λ e m q. some_clash (sym q), λ f. refl)
shares_is h (some l) = (
  λ e m q. sym (ap (λ (x : Load). x.horizon) (some_same q)) ∙ eqb-true l.horizon h e,
  λ f. eq-eqb l.horizon h (f l refl),
)

four_true : (p q r t : Bool) → (p && (q && (r && (t && true))) ≡ true) ↔ (p ≡ true) × (q ≡ true) × (r ≡ true) × (t ≡ true)
four_true true true true true = (λ e. (refl, refl, refl, refl), λ h. refl)
four_true true true true false = (λ e. clash e, λ h. h.3)
four_true true true false t = (λ e. clash e, λ h. h.2)
four_true true false r t = (λ e. clash e, λ h. h.1)
four_true false q r t = (λ e. clash e, λ h. h.0)

share_is : (s : Networks) (h : ℕ) → (all (shares_horizon h) (site_in s).places ≡ true) ↔ Share s h
share_is s h = (
  λ e.
      let f = tests.0 e in
      λ j m l q. (shares_is h (place_in s j)).0 (by_place (λ i. shares_horizon h (place_in s i) ≡ true) f.0 f.1 f.2 f.3 j l) m q,
  λ f. tests.1 (one f 0 (omega arith), one f 1 (omega arith), one f 2 (omega arith), one f 3 (omega arith)),
)
  where
    tests : (all (shares_horizon h) (site_in s).places ≡ true) ↔ (shares_horizon h (place_in s 0) ≡ true) × (shares_horizon h (place_in s 1) ≡ true) × (shares_horizon h (place_in s 2) ≡ true) × (shares_horizon h (place_in s 3) ≡ true)
    tests = four_true (shares_horizon h (place_in s 0)) (shares_horizon h (place_in s 1)) (shares_horizon h (place_in s 2)) (shares_horizon h (place_in s 3))

    one : Share s h → (j : ℕ) → j < 4 → shares_horizon h (place_in s j) ≡ true
    one f j l = (shares_is h (place_in s j)).1 (λ m q. f j m l q)

-- ## Putting

module _ (s : Networks) (k : ℕ) (l : Load) where
  -- what a put comes to, by its three tests
  data Put : Type 0 where
    wrong : (Free s k → ⊥) → putting (site_in s) k l ≡ refused 26 255 → Put
    strange : Free s k → (Share s l.horizon → ⊥) → putting (site_in s) k l ≡ refused 27 255 → Put
    full : Free s k → Share s l.horizon → s.limit < sum_with s l → putting (site_in s) k l ≡ refused 28 255 → Put
    fits : Free s k → Share s l.horizon → sum_with s l ≤ s.limit → putting (site_in s) k l ≡ accepted (placed (site_in s) k (some l)) → Put

  put_case : Put
  put_case = go (ltb k 4 && is_none (place_at (site_in s) k)) refl (all (shares_horizon l.horizon) (site_in s).places) refl (leb (sum_with s l) s.limit) refl
    where
      go : (p : Bool) → ltb k 4 && is_none (place_at (site_in s) k) ≡ p → (q : Bool) → all (shares_horizon l.horizon) (site_in s).places ≡ q → (r : Bool) → leb (sum_with s l) s.limit ≡ r → Put
      go false e q f r g = wrong (λ h. clash (sym e ∙ (free_is s k).1 h)) (rw e)
      go true e false f r g = strange ((free_is s k).0 e) (λ h. clash (sym f ∙ (share_is s l.horizon).1 h)) (rw (e, f))
      go true e true f false g = full ((free_is s k).0 e) ((share_is s l.horizon).0 f) (leb-false (sum_with s l) s.limit g) (rw (e, f, g))
      go true e true f true g = fits ((free_is s k).0 e) ((share_is s l.horizon).0 f) (leb-true (sum_with s l) s.limit g) (rw (e, f, g))

module _ (s : Networks) (k : ℕ) (table : List ℕ) where
  -- the call, by what the table comes to
  with_load : (o : Answer Load) → load_in table ≡ o → put_call s k table ≡ answered s k (o after λ l. putting (site_in s) k l)
  unfolding put_call
  with_load o e = ap (λ (a : Answer Load). answered s k (a after λ l. putting (site_in s) k l)) e

  checks : ChecksFirst table (put_call s k table)
  checks n c e = (ap (λ (x : Networks). x.number) (with_load (refused n c) e), ap (λ (x : Networks). x.component) (with_load (refused n c) e))

  module _ (l : Load) (e : load_in table ≡ accepted l) where
    is : (a : Answer Site) → putting (site_in s) k l ≡ a → put_call s k table ≡ answered s k a
    is a q = with_load (accepted l) e ∙ ap (answered s k) q

    says : (a : Answer Site) → putting (site_in s) k l ≡ a → (put_call s k table).number ≡ (answered s k a).number
    says a q = ap (λ (x : Networks). x.number) (is a q)

    is_26 : putting (site_in s) k l ≡ refused 26 255 → (put_call s k table).number ≡ 26
    is_26 q = says (refused 26 255) q

    is_27 : putting (site_in s) k l ≡ refused 27 255 → (put_call s k table).number ≡ 27
    is_27 q = says (refused 27 255) q

    is_28 : putting (site_in s) k l ≡ refused 28 255 → (put_call s k table).number ≡ 28
    is_28 q = says (refused 28 255) q

    is_0 : putting (site_in s) k l ≡ accepted (placed (site_in s) k (some l)) → (put_call s k table).number ≡ 0
    is_0 q = says (accepted (placed (site_in s) k (some l))) q

    place : PlaceRefused s k (put_call s k table)
    place = (there (put_case s k l), back (put_case s k l))
      where
        there : Put s k l → (put_call s k table).number ≡ 26 → Free s k → ⊥
        there (wrong n q) z h = n h
        there (strange f n q) z h = omega (arith, z, is_27 q)
        there (full f n m q) z h = omega (arith, z, is_28 q)
        there (fits f n m q) z h = omega (arith, z, is_0 q)

        back : Put s k l → (Free s k → ⊥) → (put_call s k table).number ≡ 26
        back (wrong n q) h = is_26 q
        back (strange f n q) h = absurd (h f)
        back (full f n m q) h = absurd (h f)
        back (fits f n m q) h = absurd (h f)

    horizon : HorizonRefused s k l (put_call s k table)
    horizon = (there (put_case s k l), λ h. back (put_case s k l) h.0 h.1)
      where
        there : Put s k l → (put_call s k table).number ≡ 27 → Free s k × (Share s l.horizon → ⊥)
        there (wrong n q) z = absurd (omega (arith, z, is_26 q))
        there (strange f n q) z = (f, n)
        there (full f n m q) z = absurd (omega (arith, z, is_28 q))
        there (fits f n m q) z = absurd (omega (arith, z, is_0 q))

        back : Put s k l → Free s k → (Share s l.horizon → ⊥) → (put_call s k table).number ≡ 27
        back (wrong n q) h g = absurd (n h)
        back (strange f n q) h g = is_27 q
        back (full f n m q) h g = absurd (g n)
        back (fits f n m q) h g = absurd (g n)

    above : SumRefused s k l (put_call s k table)
    above = (there (put_case s k l), λ h. back (put_case s k l) h.0 h.1 h.2)
      where
        there : Put s k l → (put_call s k table).number ≡ 28 → Free s k × Share s l.horizon × (s.limit < sum_with s l)
        there (wrong n q) z = absurd (omega (arith, z, is_26 q))
        there (strange f n q) z = absurd (omega (arith, z, is_27 q))
        there (full f n m q) z = (f, n, m)
        there (fits f n m q) z = absurd (omega (arith, z, is_0 q))

        back : Put s k l → Free s k → Share s l.horizon → s.limit < sum_with s l → (put_call s k table).number ≡ 28
        back (wrong n q) h g m = absurd (n h)
        back (strange f n q) h g m = absurd (n g)
        back (full f n u q) h g m = is_28 q
        back (fits f n u q) h g m = absurd (omega (arith, u, m))

    done : PutDone s k l (put_call s k table)
    done = (there (put_case s k l), λ h. back (put_case s k l) h.0 h.1 h.2)
      where
        there : Put s k l → (put_call s k table).number ≡ 0 → Free s k × Share s l.horizon × (sum_with s l ≤ s.limit)
        there (wrong n q) z = absurd (omega (arith, z, is_26 q))
        there (strange f n q) z = absurd (omega (arith, z, is_27 q))
        there (full f n m q) z = absurd (omega (arith, z, is_28 q))
        there (fits f n m q) z = (f, n, m)

        back : Put s k l → Free s k → Share s l.horizon → sum_with s l ≤ s.limit → (put_call s k table).number ≡ 0
        back (wrong n q) h g m = absurd (n h)
        back (strange f n q) h g m = absurd (n g)
        back (full f n u q) h g m = absurd (omega (arith, u, m))
        back (fits f n u q) h g m = is_0 q

    concerned : NoneConcerned (put_call s k table)
    concerned = go (put_case s k l)
      where
        go : Put s k l → NoneConcerned (put_call s k table)
        go (wrong n q) = ap (λ (x : Networks). x.component) (is (refused 26 255) q)
        go (strange f n q) = ap (λ (x : Networks). x.component) (is (refused 27 255) q)
        go (full f n m q) = ap (λ (x : Networks). x.component) (is (refused 28 255) q)
        go (fits f n m q) = ap (λ (x : Networks). x.component) (is (accepted (placed (site_in s) k (some l))) q)

every_put : (s : Networks) (k : ℕ) (table : List ℕ) → PutRefused s k table
every_put s k table =
    record {
      checks = checks s k table;
      place = place s k table;
      horizon = horizon s k table;
      above = above s k table;
      done = done s k table;
      concerned = concerned s k table;
    }

-- ## Taking

every_take : (s : Networks) (k : ℕ) → TakeRefused s k
every_take s k = go (ltb k 4) refl (is_none (place_at (site_in s) k)) refl
  where
    none_filled : (Filled s k → ⊥) → taking (site_in s) k ≡ refused 26 255 → TakeRefused s k
    none_filled n q =
        let e : take_call s k ≡ answered s k (refused 26 255) = ap (answered s k) q in
        let z : (take_call s k).number ≡ 26 = ap (λ (x : Networks). x.number) e in
        record { place = (λ _. n, λ _. z); done = (λ y. absurd (omega (arith, y, z)), λ h. absurd (n h)); concerned = ap (λ (x : Networks). x.component) e }

    is_filled : Filled s k → taking (site_in s) k ≡ accepted (placed (site_in s) k none) → TakeRefused s k
    is_filled h q =
        let e : take_call s k ≡ answered s k (accepted (placed (site_in s) k none)) = ap (answered s k) q in
        let z : (take_call s k).number ≡ 0 = ap (λ (x : Networks). x.number) e in
        record { place = (λ y. absurd (omega (arith, y, z)), λ n. absurd (n h)); done = (λ _. h, λ _. z); concerned = ap (λ (x : Networks). x.component) e }

    go : (p : Bool) → ltb k 4 ≡ p → (q : Bool) → is_none (place_at (site_in s) k) ≡ q → TakeRefused s k
    go false e q f = none_filled (λ h. clash (sym e ∙ lt-ltb k 4 h.0)) (rw e)
    go true e true f = none_filled (λ h. h.1 (sym (at_place s k h.0) ∙ (none_is (place_at (site_in s) k)).0 f)) (rw (e, f))
    go true e false f =
        is_filled (ltb-true k 4 e, λ q. clash (sym f ∙ (none_is (place_at (site_in s) k)).1 (at_place s k (ltb-true k 4 e) ∙ q))) (rw (e, f))

pub every : EveryCall
every s = record { called = every_call s; putting = every_put s; taking = every_take s }
