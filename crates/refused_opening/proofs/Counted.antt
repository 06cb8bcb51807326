-- The reasons of edges, one after the other. Assumes nothing.
use mathlib.Core.Path.{◌≡◌, refl, sym, ap, ◌∙◌}
use mathlib.Core.Bool.{Bool, true, false}
use mathlib.Core.List.{List, [], ◌∷◌}
use Prim.Native.Nat.{ℕ, ◌+◌, ◌≤◌, ◌<◌}
use native.Mathlib.Numerals.{add-one}
use native.Mathlib.Omega.{arith}
use lib.Dec.{eqb}
use lib.ListN.{length, drop, get_or, drop_of_length-le}
use lib.Seq.{drop-cons}
use Rattle.model.specs.declared.Location.{Location}
use Rattle.model.specs.Table.{Arc, no_arc}
use Rattle.model.specs.Window.{Entry, data_holds, long_enough}
use Rattle.window.specs.declared.Standing.{Standing}
use Rattle.window.specs.declared.Standing.TheVariants.{Elsewhere, Blocked, Windowless, Candidate}
use Rattle.refused_opening.specs.declared.Tally.{Tally}
use Rattle.window.specs.Views.{standing_of}
use Rattle.refused_opening.specs.Counting.{leaves, fails, shut, reasons_of, reasons_among}

-- ## One edge after the other

module _ (l : Location) (at : Entry) where
  -- an edge counts as its reason says
  pub one_more : (a : Arc) (as' : List Arc)
      → ((reasons_among l at (a ∷ as')).leaving ≡ leaves (standing_of l at a) + (reasons_among l at as').leaving)
      × ((reasons_among l at (a ∷ as')).blocked ≡ fails (standing_of l at a) + (reasons_among l at as').blocked)
      × ((reasons_among l at (a ∷ as')).windowless ≡ shut (standing_of l at a) + (reasons_among l at as').windowless)
  one_more a as' =
      go (eqb a.edge.source at.location) (data_holds a.data_guards at.values) (long_enough l a at.clocks) refl refl refl
    where
      go : (s d w : Bool) → eqb a.edge.source at.location ≡ s → data_holds a.data_guards at.values ≡ d
          → long_enough l a at.clocks ≡ w
          → ((reasons_among l at (a ∷ as')).leaving ≡ leaves (standing_of l at a) + (reasons_among l at as').leaving)
          × ((reasons_among l at (a ∷ as')).blocked ≡ fails (standing_of l at a) + (reasons_among l at as').blocked)
          × ((reasons_among l at (a ∷ as')).windowless ≡ shut (standing_of l at a) + (reasons_among l at as').windowless)
      go false d w p q r = rw p (omega arith, omega arith, omega arith)
      go true false w p q r = rw (p, q) (omega arith, omega arith, omega arith)
      go true true false p q r = rw (p, q, r) (omega arith, omega arith, omega arith)
      go true true true p q r = rw (p, q, r) (omega arith, omega arith, omega arith)

  -- the edges before number e are counted, those from it on are left
  pub record Counted (as' : List Arc) (e : ℕ) (t : Tally) : Type 0 where
    pub leaving : t.leaving + (reasons_among l at (drop e as')).leaving ≡ (reasons_among l at as').leaving
    pub blocked : t.blocked + (reasons_among l at (drop e as')).blocked ≡ (reasons_among l at as').blocked
    pub windowless : t.windowless + (reasons_among l at (drop e as')).windowless ≡ (reasons_among l at as').windowless

  pub count_first : (as' : List Arc) (t : Tally) → t.leaving ≡ 0 → t.blocked ≡ 0 → t.windowless ≡ 0 → Counted as' 0 t
  count_first as' t a b c = record { leaving = omega arith; blocked = omega arith; windowless = omega arith }

  pub count_on : (as' : List Arc) (e : ℕ) (t u : Tally) → e < length as' → Counted as' e t
      → u.leaving ≡ t.leaving + leaves (standing_of l at (get_or as' e no_arc)) → u.blocked ≡ t.blocked + fails (standing_of l at (get_or as' e no_arc))
      → u.windowless ≡ t.windowless + shut (standing_of l at (get_or as' e no_arc)) → Counted as' (e + 1) u
  count_on as' e t u h k a b c =
      let s : drop e as' ≡ get_or as' e no_arc ∷ drop (e + 1) as' = drop-cons as' e no_arc h ∙ ap (λ k. get_or as' e no_arc ∷ drop k as') (sym (add-one e)) in
      let m = one_more (get_or as' e no_arc) (drop (e + 1) as') in
      record {
        leaving = omega (arith, k.leaving, ap (λ x. (reasons_among l at x).leaving) s, m.0);
        blocked = omega (arith, k.blocked, ap (λ x. (reasons_among l at x).blocked) s, m.1);
        windowless = omega (arith, k.windowless, ap (λ x. (reasons_among l at x).windowless) s, m.2);
      }

  pub count_all : (as' : List Arc) (e : ℕ) (t : Tally) → length as' ≤ e → Counted as' e t → reasons_of t ≡ reasons_among l at as'
  count_all as' e t h k =
      let s : drop e as' ≡ [] = drop_of_length-le as' h in
      let a : t.leaving ≡ (reasons_among l at as').leaving = omega (arith, k.leaving, ap (λ x. (reasons_among l at x).leaving) s) in
      let b : t.blocked ≡ (reasons_among l at as').blocked = omega (arith, k.blocked, ap (λ x. (reasons_among l at x).blocked) s) in
      let c : t.windowless ≡ (reasons_among l at as').windowless = omega (arith, k.windowless, ap (λ x. (reasons_among l at x).windowless) s) in
      rw (a, b, c)

-- an edge counts at most once
pub once : (r : Standing) → (leaves r ≤ 1) × (fails r ≤ 1) × (shut r ≤ 1)
once Elsewhere = (omega arith, omega arith, omega arith)
once (Blocked j) = (omega arith, omega arith, omega arith)
once Windowless = (omega arith, omega arith, omega arith)
once (Candidate ready past) = (omega arith, omega arith, omega arith)
