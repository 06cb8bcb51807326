-- The struct after any sequence of calls is the site of the definitions after them. Assumes nothing.
use mathlib.Core.Path.{◌≡◌, refl, sym, ap, subst, ◌∙◌}
use mathlib.Core.Bool.{Bool}
use mathlib.Core.List.{List, [], ◌∷◌}
use mathlib.Core.Option.{Option, none, some}
use Prim.Native.Nat.{ℕ, ◌+◌, ◌<◌}
use native.Mathlib.Omega.{arith}
use lib.Dec.{eqb}
use Rattle.site.specs.declared.Networks.{Networks}
use Rattle.site.specs.Airtime.{Load, Site, empty_site, place_at, airtime_held, Request, asked, site_or, granted, site_after, noted, standing, load_held}
use Rattle.site.specs.Lent.{place_in, site_in, called_with, empty_networks, networks_after, networks_left, seen, InUse}
use Rattle.site.specs.Called.{named_place, asks_for}
use Rattle.site.proofs.Law.{accounted}
use Rattle.site.proofs.Keeping.{at_place}
use Rattle.site.proofs.Calls.{Shows, went, called_answered, shows, says}

-- one call
pub called_is : (s : Networks) (r : Request) → Shows (called_with s r) (site_or (site_in s) (asked (site_in s) r))
called_is s r =
    subst (λ (n : Networks). Shows n (site_or (site_in s) (asked (site_in s) r))) (sym (called_answered s r))
    (shows s (named_place r) (asks_for r) (asked (site_in s) r) (went s r))

-- whether it was granted is what it says
call_says : (s : Networks) (r : Request) → eqb (called_with s r).number 0 ≡ granted (asked (site_in s) r)
call_says s r = ap (λ (n : Networks). eqb n.number 0) (called_answered s r) ∙ says s (named_place r) (asks_for r) (asked (site_in s) r) (went s r)

module _ (s : Networks) (t : Site) (w : Shows s t) (r : Request) where
  next_is : Shows (called_with s r) (site_or t (asked t r))
  next_is = subst (λ (x : Site). Shows (called_with s r) (site_or x (asked x r))) w.is (called_is s r)

  next_says : eqb (called_with s r).number 0 ≡ granted (asked t r)
  next_says = call_says s r ∙ ap (λ (x : Site). granted (asked x r)) w.is

-- any sequence
after_is : (rs : List Request) (s : Networks) (t : Site) → Shows s t → Shows (networks_after s rs) (site_after t rs)
unfolding networks_after site_after
after_is [] s t w = w
after_is (r ∷ rs) s t w = after_is rs (called_with s r) (site_or t (asked t r)) (next_is s t w r)

seen_is : (rs : List Request) (s : Networks) (t : Site) (f : ℕ → Option (List ℕ)) → Shows s t → seen s f rs ≡ standing t f rs
unfolding seen standing
seen_is [] s t f w = refl
seen_is (r ∷ rs) s t f w =
    seen_is rs (called_with s r) (site_or t (asked t r)) (noted f r (eqb (called_with s r).number 0)) (next_is s t w r)
    ∙ ap (λ (b : Bool). standing (site_or t (asked t r)) (noted f r b) rs) (next_says s t w r)

-- "Over any sequence of calls the airtime in use, which each returns, is the sum over those put in and not taken out since."
pub in_use_law : (limit : ℕ) (rs : List Request) → InUse limit rs
in_use_law limit rs =
    let start : Shows (empty_networks limit) (empty_site limit) = record { is = refl; uses = refl } in
    let w = after_is rs (empty_networks limit) (empty_site limit) start in
    let v : standing (empty_site limit) (λ j. none) rs ≡ seen (empty_networks limit) (λ j. none) rs = sym (seen_is rs (empty_networks limit) (empty_site limit) (λ j. none) start) in
    let a = accounted limit rs in
    record {
      sum =
          subst
          (λ (f : ℕ → Option (List ℕ)). (networks_left limit rs).in_use ≡ airtime_held (load_held (f 0)) + airtime_held (load_held (f 1)) + airtime_held (load_held (f 2)) + airtime_held (load_held (f 3)))
          v (w.uses ∙ a.sum);
      within = omega (arith, w.uses, a.within);
      limited = ap (λ (t : Site). t.limit) w.is ∙ a.kept;
      present =
          λ k h.
          sym (at_place (networks_left limit rs) k h) ∙ ap (λ (t : Site). place_at t k) w.is ∙ a.places k h
          ∙ ap (λ (f : ℕ → Option (List ℕ)). load_held (f k)) v;
      one =
          let there : (j : ℕ) (l : Load) → j < 4 → place_in (networks_left limit rs) j ≡ some l → place_at (site_after (empty_site limit) rs) j ≡ some l =
          λ j l h e. sym (ap (λ (t : Site). place_at t j) w.is) ∙ at_place (networks_left limit rs) j h ∙ e in
          λ j k l m h i e f. a.one j k l m h i (there j l h e) (there k m i f);
    }
