-- What one call does to a struct, whatever it holds. Assumes nothing.
use mathlib.Core.Path.{◌≡◌, refl, sym, ap, subst, ◌∙◌}
use mathlib.Core.Bool.{Bool, true, false, cond, ◌&&◌, not}
use mathlib.Core.List.{List, [], ◌∷◌}
use mathlib.Core.Option.{Option, none, some}
use Prim.Native.Nat.{ℕ, ◌+◌, ◌≤◌, ◌<◌}
use native.Mathlib.Omega.{arith}
use borrow.Author.Tests.{ltb-true, ne_eqb}
use lib.Dec.{leb, ltb, eqb}
use lib.ListN.{get_or}
use lib.Seq.{get_or-set_other}
use Rattle.model.specs.Lists.{all, is_none, Answer, accepted, refused, ◌after◌}
use Rattle.site.specs.declared.Networks.{Networks}
use Rattle.site.specs.Airtime.{Load, load_in, Site, place_at, placed, airtime_held, in_use, shares_horizon, putting, taking, Request, put, take, asked, site_or, granted, load_or}
use Rattle.site.specs.Lent.{held_of, place_in, site_in, horizon_held, written, carried, answered, put_call, called_with}
use Rattle.site.specs.Called.{named_place, asks_for, RefusedKeeps, SameLimit}
use Rattle.site.proofs.Keeping.{by_place, at_place, written_there, held_some}
use Rattle.site.proofs.Loading.{load_real}
use Rattle.site.proofs.Refusals.{Told, told_load}

-- a network has a horizon
abbrev Real : Option Load → Type 0
Real none = Unit {0}
Real (some l) = 1 ≤ l.horizon

held_back : (p : Option Load) → Real p → held_of (horizon_held p) (airtime_held p) ≡ p
held_back none r = refl
held_back (some l) r = held_some l.horizon l.airtime r

-- ## What a request comes to

-- carried out, with o in place k; or refused, and then not with 0
pub data Went (s : Networks) (k : ℕ) (o : Option Load) : Answer Site → Type 0 where
  written_in : k < 4 → Real o → Went s k o (accepted (placed (site_in s) k o))
  told : {n : ℕ} (c : ℕ) → 1 ≤ n → Went s k o (refused n c)

went_take : (s : Networks) (k : ℕ) → Went s k none (taking (site_in s) k)
went_take s k = go (ltb k 4) refl (not (is_none (place_at (site_in s) k)))
  where
    go : (p : Bool) → ltb k 4 ≡ p → (q : Bool) → Went s k none (cond (p && q) (accepted (placed (site_in s) k none)) (refused 26 255))
    go false e q = told {n = 26} 255 (omega arith)
    go true e false = told {n = 26} 255 (omega arith)
    go true e true = written_in (ltb-true k 4 e) tt

went_put : (s : Networks) (k : ℕ) (table : List ℕ) → Went s k (load_or (load_in table)) (load_in table after λ l. putting (site_in s) k l)
went_put s k table = load (load_in table) refl
  where
    tried : (l : Load) → 1 ≤ l.horizon → (p : Bool) → ltb k 4 ≡ p → (q r t : Bool)
        → Went s k (some l) (cond (p && q) (cond r (cond t (accepted (placed (site_in s) k (some l))) (refused 28 255)) (refused 27 255)) (refused 26 255))
    tried l h false e q r t = told {n = 26} 255 (omega arith)
    tried l h true e false r t = told {n = 26} 255 (omega arith)
    tried l h true e true false t = told {n = 27} 255 (omega arith)
    tried l h true e true true false = told {n = 28} 255 (omega arith)
    tried l h true e true true true = written_in (ltb-true k 4 e) h

    load : (a : Answer Load) → load_in table ≡ a → Went s k (load_or a) (a after λ l. putting (site_in s) k l)
    load (refused n c) e = told c (subst (λ (a : Answer Load). Told a) e (told_load table))
    load (accepted l) e = tried l (load_real table l e) (ltb k 4) refl (is_none (place_at (site_in s) k)) (all (shares_horizon l.horizon) (site_in s).places) (leb (in_use (site_in s).places + l.airtime) (site_in s).limit)

pub went : (s : Networks) (r : Request) → Went s (named_place r) (asks_for r) (asked (site_in s) r)
went s (put k table) = went_put s k table
went s (take k) = went_take s k

pub called_answered : (s : Networks) (r : Request) → called_with s r ≡ answered s (named_place r) (asked (site_in s) r)
unfolding put_call
called_answered s (put k table) = refl
called_answered s (take k) = refl

-- ## The struct afterwards

-- it is a site, with the airtime that it says is in use
pub record Shows (s : Networks) (t : Site) : Type 0 where
  pub is : site_in s ≡ t
  pub uses : s.in_use ≡ in_use t.places

module _ (s : Networks) (k : ℕ) (o : Option Load) where
  placed_back : Real o → k < 4 → site_in (carried s k (placed (site_in s) k o)) ≡ placed (site_in s) k o
  placed_back r =
      let e = held_back o r in
      by_place (λ j. site_in (carried s j (placed (site_in s) j o)) ≡ placed (site_in s) j o)
      (ap (λ (p : Option Load). placed (site_in s) 0 p) e)
      (ap (λ (p : Option Load). placed (site_in s) 1 p) e)
      (ap (λ (p : Option Load). placed (site_in s) 2 p) e)
      (ap (λ (p : Option Load). placed (site_in s) 3 p) e)
      k

  pub shows : (a : Answer Site) → Went s k o a → Shows (answered s k a) (site_or (site_in s) a)
  shows _ (written_in h r) = record { is = placed_back r h; uses = refl }
  shows _ (told c h) = record { is = refl; uses = refl }

  -- 0 says that it was carried out
  pub says : (a : Answer Site) → Went s k o a → eqb (answered s k a).number 0 ≡ granted a
  says _ (written_in h r) = refl
  says _ (told {n} c h) = ne_eqb n 0 (λ e. omega (arith, h, e))

  -- the numbers of another place
  other_number : (xs : List ℕ) (v j : ℕ) → j < 4 → (j ≡ k → ⊥) → get_or (written xs k v) j 0 ≡ get_or xs j 0
  other_number xs v j h n =
      get_or-set_other (get_or xs 0 0 ∷ get_or xs 1 0 ∷ get_or xs 2 0 ∷ get_or xs 3 0 ∷ []) k j v 0 n
      ∙ by_place (λ i. get_or (get_or xs 0 0 ∷ get_or xs 1 0 ∷ get_or xs 2 0 ∷ get_or xs 3 0 ∷ []) i 0 ≡ get_or xs i 0) refl refl refl refl j h

  pub others_stay : (a : Answer Site) → Went s k o a → (j : ℕ) → j < 4 → (j ≡ k → ⊥)
      → (get_or (answered s k a).horizons j 0 ≡ get_or s.horizons j 0) × (get_or (answered s k a).airtimes j 0 ≡ get_or s.airtimes j 0)
  others_stay _ (written_in h r) j i n = (
    other_number s.horizons (horizon_held (place_at (placed (site_in s) k o) k)) j i n,
    other_number s.airtimes (airtime_held (place_at (placed (site_in s) k o) k)) j i n,
  )
  others_stay _ (told c h) j i n = (refl, refl)

  pub is_done : (a : Answer Site) → Went s k o a → (answered s k a).number ≡ 0 → place_in (answered s k a) k ≡ o
  is_done _ (written_in h r) e =
      sym (at_place (carried s k (placed (site_in s) k o)) k h) ∙ ap (λ (t : Site). place_at t k) (placed_back r h) ∙ written_there s o k h
  is_done _ (told c h) e = absurd (omega (arith, h, e))

  pub keeps : (a : Answer Site) → Went s k o a → RefusedKeeps s (answered s k a)
  keeps _ (written_in h r) n = absurd (n refl)
  keeps _ (told c h) n = (refl, refl)

  pub limit_stays : (a : Answer Site) → Went s k o a → SameLimit s (answered s k a)
  limit_stays _ (written_in h r) = refl
  limit_stays _ (told c h) = refl
