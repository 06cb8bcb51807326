-- The passage that ends first, on a tie that of the lowest component, among those that pass a test. Assumes nothing.
use mathlib.Core.Path.{◌≡◌, refl, sym, ap, subst, ◌∙◌}
use mathlib.Core.Bool.{Bool, true, false, cond, ◌&&◌, ◌||◌}
use mathlib.Core.List.{List, [], ◌∷◌}
use mathlib.Core.Option.{Option, none, some}
use mathlib.Core.Logic.{◌⊎◌, inl, inr}
use Prim.Native.Nat.{ℕ, zero, suc, ◌≤◌, ◌<◌}
use native.Mathlib.Omega.{arith}
use native.Mathlib.Decide.{ℕ_discrete}
use borrow.Author.Tests.{ltb-true, ltb-false, eqb-true, eqb-false}
use lib.Dec.{ltb, eqb}
use lib.ListN.{length}
use Rattle.model.specs.Schedule.{Passage, sooner, earliest, next}
use Rattle.model.specs.Checks.{passage_at}
use Rattle.model.proofs.Basics.Bools.{clash}
use Rattle.model.proofs.Reader.Parts.{some_clash}

-- v ends no later than x, and if at the same tick, its component is not above x's
pub record NoLater (v x : Passage) : Type 0 where
  pub end : v.end ≤ x.end
  pub component : v.end ≡ x.end → v.component ≤ x.component

-- no passage is later than itself
no_later_self : (v : Passage) → NoLater v v
no_later_self v = record { end = omega arith; component = λ e. omega arith }

-- no later than what is no later
no_later_trans : {v x y : Passage} → NoLater v x → NoLater x y → NoLater v y
no_later_trans {v} {x} {y} a b =
    record {
      end = omega (arith, a.end, b.end);
      component = λ e. omega (arith, a.component (omega (arith, a.end, b.end)), b.component (omega (arith, a.end, b.end)));
    }

-- o is the one of b and s that ends first
record Sooner (b : Option Passage) (s : Passage) (o : Option Passage) : Type 0 where
  got : Passage
  is : o ≡ some got
  which : (s ≡ got) ⊎ (b ≡ some got)
  new : NoLater got s
  old : (x : Passage) → b ≡ some x → NoLater got x

-- the sooner of two is the one that ends first
sooner_is : (b : Option Passage) (s : Passage) → Sooner b s (sooner b s)
sooner_is none s = record { got = s; is = refl; which = inl refl; new = no_later_self s; old = λ x e. some_clash (sym e) }
sooner_is (some c) s = go (ltb s.end c.end) refl (eqb s.end c.end) refl (ltb s.component c.component) refl
  where
    less : NoLater s c → Sooner (some c) s (some s)
    less h = record { got = s; is = refl; which = inl refl; new = no_later_self s; old = λ x e. (let q : c ≡ x = cc in subst (NoLater s) q h) }

    more : NoLater c s → Sooner (some c) s (some c)
    more h = record { got = c; is = refl; which = inr refl; new = h; old = λ x e. (let q : c ≡ x = cc in subst (NoLater c) q (no_later_self c)) }

    go : (t : Bool) → ltb s.end c.end ≡ t → (u : Bool) → eqb s.end c.end ≡ u → (w : Bool) → ltb s.component c.component ≡ w
        → Sooner (some c) s (cond (t || (u && w)) (some s) (some c))
    go true e u f w g = let h = ltb-true s.end c.end e in less (record { end = omega arith; component = λ q. absurd (omega arith) })
    go false e true f true g =
        let h = eqb-true s.end c.end f in
        let k = ltb-true s.component c.component g in
        less (record { end = omega arith; component = λ q. omega arith })
    go false e true f false g =
        let h = eqb-true s.end c.end f in
        let k = ltb-false s.component c.component g in
        more (record { end = omega arith; component = λ q. omega arith })
    go false e false f w g =
        let h = ltb-false s.end c.end e in
        more (record { end = h; component = λ q. absurd (eqb-false s.end c.end f (sym q)) })

-- v is the first to end among b and those of vs that pass the test
pub record Earliest (p : Passage → Bool) (vs : List Passage) (b : Option Passage) (v : Passage) : Type 0 where
  pub member : (b ≡ some v) ⊎ ((i : ℕ) × (i < length vs) × (v ≡ passage_at vs i) × (p v ≡ true))
  pub first : (i : ℕ) → i < length vs → p (passage_at vs i) ≡ true → NoLater v (passage_at vs i)
  pub old : (x : Passage) → b ≡ some x → NoLater v x

module _ (p : Passage → Bool) where
  -- the earliest is the first to end
  pub earliest_is : (vs : List Passage) (b : Option Passage) {v : Passage} → earliest p vs b ≡ some v → Earliest p vs b v
  earliest_is [] b {v} e = record { member = inl e; first = λ i h t. absurd (omega arith); old = λ x f. (let q : v ≡ x = cc in subst (NoLater v) q (no_later_self v)) }
  earliest_is (s ∷ vs) b {v} e = go (λ o h. earliest_is vs o h) (p s) refl e
    where
      moved : (sooner b s ≡ some v) ⊎ ((i : ℕ) × (i < length vs) × (v ≡ passage_at vs i) × (p v ≡ true)) → p s ≡ true → Sooner b s (sooner b s)
          → (b ≡ some v) ⊎ ((i : ℕ) × (i < length (s ∷ vs)) × (v ≡ passage_at (s ∷ vs) i) × (p v ≡ true))
      moved (inl q) t r =
          let g : r.got ≡ v = (let z = r.is in cc) in
          elim r.which [ inl w ↦ inr (0, omega arith, sym g ∙ sym w, subst (λ x. p x ≡ true) (w ∙ g) t) | inr w ↦ inl (w ∙ ap some g) ]
      moved (inr m) t r = inr (suc m.0, omega (arith, m.1), m.2, m.3)

      firsts : (b' : Option Passage) → Earliest p vs b' v → (p s ≡ true → NoLater v s) → (i : ℕ) → i < length (s ∷ vs) → p (passage_at (s ∷ vs) i) ≡ true → NoLater v (passage_at (s ∷ vs) i)
      firsts b' l f zero h t = f t
      firsts b' l f (suc i) h t = l.first i (omega arith) t

      go : ((o : Option Passage) → earliest p vs o ≡ some v → Earliest p vs o v) → (t : Bool) → p s ≡ t → earliest p vs (cond t (sooner b s) b) ≡ some v → Earliest p (s ∷ vs) b v
      go ih true t h =
          let l = ih (sooner b s) h in
          let r = sooner_is b s in
          let best = l.old r.got r.is in
          record {
            member = moved l.member t r;
            first = firsts (sooner b s) l (λ u. no_later_trans best r.new);
            old = λ x f. no_later_trans best (r.old x f);
          }
      go ih false t h =
          let l = ih b h in
          record {
            member = elim l.member [ inl q ↦ inl q | inr m ↦ inr (suc m.0, omega (arith, m.1), m.2, m.3) ];
            first = firsts b l (λ u. clash (sym t ∙ u));
            old = l.old;
          }

  -- where there is none, none was there before, and none passes the test
  pub earliest_none : (vs : List Passage) (b : Option Passage) → earliest p vs b ≡ none → (b ≡ none) × ((i : ℕ) → i < length vs → p (passage_at vs i) ≡ false)
  earliest_none [] b e = (e, λ i h. absurd (omega arith))
  earliest_none (s ∷ vs) b e = go (λ o h. earliest_none vs o h) (p s) refl e
    where
      go : ((o : Option Passage) → earliest p vs o ≡ none → (o ≡ none) × ((i : ℕ) → i < length vs → p (passage_at vs i) ≡ false)) → (t : Bool) → p s ≡ t
          → earliest p vs (cond t (sooner b s) b) ≡ none → (b ≡ none) × ((i : ℕ) → i < length (s ∷ vs) → p (passage_at (s ∷ vs) i) ≡ false)
      go ih true t h = some_clash (sym (sooner_is b s).is ∙ (ih (sooner b s) h).0)
      go ih false t h = ((ih b h).0, at)
        where
          at : (i : ℕ) → i < length (s ∷ vs) → p (passage_at (s ∷ vs) i) ≡ false
          at zero k = t
          at (suc i) k = (ih b h).1 i (omega arith)

-- v ends before x, or at the same tick in a component of a lower number
abbrev pub EndsBefore : Passage → Passage → Type 0
EndsBefore v x = (v.end < x.end) ⊎ ((v.end ≡ x.end) × (v.component < x.component))

-- what ends before all others that pass the test is the earliest
pub earliest_of : (p : Passage → Bool) (vs : List Passage) (i : ℕ) → i < length vs → p (passage_at vs i) ≡ true
    → ((j : ℕ) → j < length vs → (j ≡ i → ⊥) → p (passage_at vs j) ≡ true → EndsBefore (passage_at vs i) (passage_at vs j)) → earliest p vs none ≡ some (passage_at vs i)
earliest_of p vs i h t f = go (earliest p vs none) refl
  where
    never : {v x : Passage} → NoLater x v → EndsBefore v x → ⊥
    never n (inl q) = omega (arith, n.end)
    never n (inr q) = omega (arith, n.component (sym q.0), q.1)

    at : (v : Passage) → Earliest p vs none v → (j : ℕ) → j < length vs → v ≡ passage_at vs j → p v ≡ true → Dec (j ≡ i) → some v ≡ some (passage_at vs i)
    at v l j k e u (yes q) = ap some (e ∙ ap (passage_at vs) q)
    at v l j k e u (no n) = absurd (never (subst (λ x. NoLater x (passage_at vs i)) e (l.first i h t)) (f j k n (subst (λ x. p x ≡ true) e u)))

    from : (v : Passage) → Earliest p vs none v → (none ≡ some v) ⊎ ((j : ℕ) × (j < length vs) × (v ≡ passage_at vs j) × (p v ≡ true)) → some v ≡ some (passage_at vs i)
    from v l (inl q) = some_clash (sym q)
    from v l (inr m) = at v l m.0 m.1 m.2 m.3 (ℕ_discrete m.0 i)

    go : (o : Option Passage) → earliest p vs none ≡ o → earliest p vs none ≡ some (passage_at vs i)
    go none e = clash (sym ((earliest_none p vs none e).1 i h) ∙ t)
    go (some v) e = let l = earliest_is p vs none e in e ∙ from v l l.member

-- ## The open passage that closes next

-- v, the passage at that place, is the first to end
pub record Closes (vs : List Passage) (v : Passage) : Type 0 where
  pub place : ℕ
  pub there : place < length vs
  pub is : v ≡ passage_at vs place
  pub first : (i : ℕ) → i < length vs → NoLater v (passage_at vs i)

-- what closes next is the first to end
pub next_closes : (vs : List Passage) {v : Passage} → next vs ≡ some v → Closes vs v
next_closes vs {v} e = go (earliest_is (λ v. true) vs none e)
  where
    go : Earliest (λ v. true) vs none v → Closes vs v
    go l = elim l.member [ inl q ↦ some_clash (sym q) | inr m ↦ record { place = m.0; there = m.1; is = m.2; first = λ i h. l.first i h refl } ]

-- nothing closes next: nothing is open
pub next_none : (vs : List Passage) → next vs ≡ none → length vs ≡ 0
next_none [] e = refl
next_none (v ∷ vs) e = clash (sym ((earliest_none (λ v. true) (v ∷ vs) none e).1 0 (omega arith)))

-- what ends before all others closes next
pub closes_next : (vs : List Passage) (i : ℕ) → i < length vs → ((j : ℕ) → j < length vs → (j ≡ i → ⊥) → EndsBefore (passage_at vs i) (passage_at vs j)) → next vs ≡ some (passage_at vs i)
closes_next vs i h f = earliest_of (λ v. true) vs i h refl (λ j k n t. f j k n)
