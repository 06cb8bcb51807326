-- The faults of a send told apart: each of 11, 15, 16 and 17 is answered exactly where it should be, by ticks. Assumes nothing.
use mathlib.Core.Path.{◌≡◌, refl, sym, ap, ap₂, subst, ◌∙◌}
use mathlib.Core.Logic.{◌↔◌}
use mathlib.Core.Bool.{Bool, true, false, cond, ◌&&◌, not}
use mathlib.Core.List.{List, [], ◌∷◌}
use mathlib.Core.Option.{Option, none, some}
use Prim.Native.Nat.{ℕ, zero, suc, ◌+◌, ◌≤◌, ◌<◌, max, min}
use native.Mathlib.Omega.{arith}
use borrow.Author.Tests.{ltb-true, ltb-false, leb-true, le-leb, not-true}
use lib.Dec.{leb}
use lib.ListN.{length, get_or}
use Rattle.model.specs.declared.Hearing.{Hearing}
use Rattle.model.specs.declared.Hearing.TheVariants.{Well, Nobody, Several, LateStart, EarlyEnd}
use Rattle.model.specs.Lists.{only, first, ◌∈◌, here, Answer, accepted, refused}
use Rattle.model.specs.Table.{Table}
use Rattle.model.specs.Schedule.{Passage}
use Rattle.model.specs.Checks.{near, starts_earlier, ends_later, is_send, may_hear, heard_well, hearing_of, hearing_number, heard_as, unheard_number, collides, unheard, crowded, fault_of, fault_by, checked, no_passage, passage_at}
use Rattle.model.specs.Hearings.{HearsWithin, Alone, HeardWell, StartsLate, EndsSoon, HeardTwice, Says, FirstAtFault}
use Rattle.model.proofs.Basics.Bools.{clash, and_is}
use Rattle.model.proofs.Basics.Members.{in_at, number-of, not_true_is, only_is, only_none, once_is}
use Rattle.model.proofs.Reader.Parts.{refused_clash}
use Rattle.model.proofs.Checks.Heard.{Windows, hears_is}

-- ## Heard well, or one of the four

abbrev pub is_well : Hearing → Bool
is_well Well = true
is_well Nobody = false
is_well Several = false
is_well LateStart = false
is_well EarlyEnd = false

-- 11 finds no fault exactly where the hearing has none
pub well_hears : (G : ℕ) (s : Passage) (l : List Passage) → heard_well G s l ≡ is_well (hearing_of G s l)
well_hears G s [] = refl
well_hears G s (r ∷ []) = go (starts_earlier G r s) (ends_later G r s)
  where
    go : (a b : Bool) → a && b ≡ is_well (cond a (cond b Well EarlyEnd) LateStart)
    go true true = refl
    go true false = refl
    go false b = refl
well_hears G s (r ∷ q ∷ rs) = refl

-- a send is at fault exactly if it is not heard well
pub unheard_is : (G : ℕ) (T : Table) (H : ℕ) (S : List Passage) (s : Passage) → (unheard G T H S s ≡ true) ↔ (is_send T H s ≡ true) × (is_well (heard_as G T S s) ≡ false)
unheard_is G T H S s = (
  λ e.
      let h = (and_is (is_send T H s) (not (heard_well G s l))).0 e in
      (h.0, sym (well_hears G s l) ∙ not-true (heard_well G s l) h.1),
  λ h. let f : heard_well G s l ≡ false = well_hears G s l ∙ h.1 in rw (h.0, f),
)
  where
    l : List Passage
    l = only (λ r. may_hear G T r s) S

-- each fault has a number of its own
pub numbers_apart : (h k : Hearing) → hearing_number h ≡ hearing_number k → h ≡ k
numbers_apart Well Well e = refl
numbers_apart Well Nobody e = absurd (omega (arith, e))
numbers_apart Well Several e = absurd (omega (arith, e))
numbers_apart Well LateStart e = absurd (omega (arith, e))
numbers_apart Well EarlyEnd e = absurd (omega (arith, e))
numbers_apart Nobody Well e = absurd (omega (arith, e))
numbers_apart Nobody Nobody e = refl
numbers_apart Nobody Several e = absurd (omega (arith, e))
numbers_apart Nobody LateStart e = absurd (omega (arith, e))
numbers_apart Nobody EarlyEnd e = absurd (omega (arith, e))
numbers_apart Several Well e = absurd (omega (arith, e))
numbers_apart Several Nobody e = absurd (omega (arith, e))
numbers_apart Several Several e = refl
numbers_apart Several LateStart e = absurd (omega (arith, e))
numbers_apart Several EarlyEnd e = absurd (omega (arith, e))
numbers_apart LateStart Well e = absurd (omega (arith, e))
numbers_apart LateStart Nobody e = absurd (omega (arith, e))
numbers_apart LateStart Several e = absurd (omega (arith, e))
numbers_apart LateStart LateStart e = refl
numbers_apart LateStart EarlyEnd e = absurd (omega (arith, e))
numbers_apart EarlyEnd Well e = absurd (omega (arith, e))
numbers_apart EarlyEnd Nobody e = absurd (omega (arith, e))
numbers_apart EarlyEnd Several e = absurd (omega (arith, e))
numbers_apart EarlyEnd LateStart e = absurd (omega (arith, e))
numbers_apart EarlyEnd EarlyEnd e = refl

-- ## What is said of a send, by ticks

-- a passage may hear a send exactly if it is a receive window of another component that names the channel, and a tick of the one lies at most G
-- from a tick of the other: those nearest to each other do, if any
pub may_hear_is : (G : ℕ) (T : Table) (r s : Passage) → r.ready ≤ r.end → s.ready ≤ s.end → (may_hear G T r s ≡ true) ↔ HearsWithin G T r s
may_hear_is G T r s a b = (
  λ e.
      let h = (hears_is G T r s).0 e in
      let n = (and_is (leb r.ready (s.end + G)) (leb s.ready (r.end + G))).0 h.3 in
      let x = leb-true r.ready (s.end + G) n.0 in
      let y = leb-true s.ready (r.end + G) n.1 in
      record {
        receive = h.0;
        other = h.1;
        named = h.2;
        heard_at = max r.ready (min r.end s.ready);
        sent_at = max s.ready (min s.end r.ready);
        in_receive = record { from = omega arith; to = omega arith };
        in_send = record { from = omega arith; to = omega arith };
        close = (omega arith, omega arith);
      },
  λ h.
      let n : near G r s ≡ true = rw (
        le-leb r.ready (s.end + G) (omega (arith, h.in_receive.from, h.in_send.to, h.close)),
        le-leb s.ready (r.end + G) (omega (arith, h.in_receive.to, h.in_send.from, h.close)),
      ) in
      (hears_is G T r s).1 (h.receive, h.other, h.named, n),
)

-- two of a list pass a test: two numbers
two_of : {A : Type 0} (p : A → Bool) (d : A) (S : List A) {r q : A} {rs : List A} → only p S ≡ r ∷ q ∷ rs
    → (i j : ℕ) × (i < j) × (j < length S) × (p (get_or S i d) ≡ true) × (p (get_or S j d) ≡ true)
two_of p d [] e = let z : ◌≡◌ {A = ℕ} 0 1 = cc in absurd (omega arith)
two_of p d (x ∷ S) {r} {q} {rs} e = go (two_of p d S) (p x) refl e
  where
    tail_same : {A : Type 0} {x y : A} {xs ys : List A} → x ∷ xs ≡ y ∷ ys → xs ≡ ys
    tail_same e = cc

    go : ((only p S ≡ r ∷ q ∷ rs) → (i j : ℕ) × (i < j) × (j < length S) × (p (get_or S i d) ≡ true) × (p (get_or S j d) ≡ true))
        → (b : Bool) → p x ≡ b → cond b (x ∷ only p S) (only p S) ≡ r ∷ q ∷ rs
        → (i j : ℕ) × (i < j) × (j < suc (length S)) × (p (get_or (x ∷ S) i d) ≡ true) × (p (get_or (x ∷ S) j d) ≡ true)
    go ih true t k =
        let m : q ∈ only p S = subst (λ l. q ∈ l) (sym (tail_same k)) (here refl) in
        let h = (only_is p S).0 m in
        let n = number-of d h.0 in
        (0, suc n.0, omega arith, omega (arith, n.1), t, subst (λ v. p v ≡ true) (sym n.2) h.1)
    go ih false t k = let (i, j, a, b, u, v) = ih k in (suc i, suc j, omega arith, omega arith, u, v)

module _ (G : ℕ) (T : Table) (S : List Passage) (wins : Windows S) (s : Passage) (m : s ∈ S) where
  abbrev p : Passage → Bool
  p r = may_hear G T r s

  hears_at : (j : ℕ) → j < length S → p (passage_at S j) ≡ true → HearsWithin G T (passage_at S j) s
  hears_at j u = (may_hear_is G T (passage_at S j) s (wins (passage_at S j) (in_at no_passage S j u)) (wins s m)).0

  heard-at : (j : ℕ) → j < length S → HearsWithin G T (passage_at S j) s → p (passage_at S j) ≡ true
  heard-at j u = (may_hear_is G T (passage_at S j) s (wins (passage_at S j) (in_at no_passage S j u)) (wins s m)).1

  -- the send is heard as it is said
  pub hearing_is : Says G T S s (heard_as G T S s)
  hearing_is = go (only p S) refl
    where
      single : (r : Passage) (i : ℕ) → passage_at S i ≡ r → Alone G T S s i → (a b : Bool) → starts_earlier G r s ≡ a → ends_later G r s ≡ b
          → Says G T S s (cond a (cond b Well EarlyEnd) LateStart)
      single r i e o true true f g =
          record {
            index = i;
            single = o;
            earlier = subst (λ (v : Passage). v.ready + G < s.ready) (sym e) (ltb-true (r.ready + G) s.ready f);
            later = subst (λ (v : Passage). s.end + G < v.end) (sym e) (ltb-true (s.end + G) r.end g);
          }
      single r i e o true false f g =
          record {
            index = i;
            single = o;
            early = subst (λ (v : Passage). v.ready + G < s.ready) (sym e) (ltb-true (r.ready + G) s.ready f);
            soon = subst (λ (v : Passage). v.end ≤ s.end + G) (sym e) (ltb-false (s.end + G) r.end g);
          }
      single r i e o false b f g =
          record {
            index = i;
            single = o;
            late = subst (λ (v : Passage). s.ready ≤ v.ready + G) (sym e) (ltb-false (r.ready + G) s.ready f);
          }

      go : (l : List Passage) → only p S ≡ l → Says G T S s (hearing_of G s l)
      go [] e = λ j u h. clash (sym ((only_none p S).0 e (passage_at S j) (in_at no_passage S j u)) ∙ heard-at j u h)
      go (r ∷ []) e =
          let h = (only_is p S).0 (subst (λ l. r ∈ l) (sym e) (here refl)) in
          let n = number-of no_passage h.0 in
          let there : p (passage_at S n.0) ≡ true = subst (λ v. p v ≡ true) (sym n.2) h.1 in
          let o : Alone G T S s n.0 = record {
            there = n.1;
            hears = hears_at n.0 n.1 there;
            alone = λ j u k. (once_is p no_passage S).0 (omega (arith, ap length e)) j n.0 u n.1 (heard-at j u k) there;
          } in
          single r n.0 n.2 o (starts_earlier G r s) (ends_later G r s) refl refl
      go (r ∷ q ∷ rs) e =
          let (i, j, a, b, u, v) = two_of p no_passage S e in
          record {
            one = i;
            other = j;
            apart = a;
            there = b;
            hears_one = hears_at i (omega arith) u;
            hears_other = hears_at j b v;
          }

-- ## No two of them are said of one send

module _ (G : ℕ) (T : Table) (S : List Passage) (s : Passage) where
  -- where one alone hears it, it is not heard by none ..
  not_nobody : {i : ℕ} → Alone G T S s i → Says G T S s Nobody → ⊥
  not_nobody {i} a n = n i a.there a.hears

  -- .. nor twice
  not_twice : {i : ℕ} → Alone G T S s i → HeardTwice G T S s → ⊥
  not_twice a t =
      omega (arith, t.apart, t.there, a.alone t.one (omega (arith, t.apart, t.there)) t.hears_one, a.alone t.other t.there t.hears_other)

  -- none is not two
  not_both : Says G T S s Nobody → HeardTwice G T S s → ⊥
  not_both n t = n t.other t.there t.hears_other

  -- two that alone hear it are one
  same_one : {i j : ℕ} → Alone G T S s i → Alone G T S s j → i ≡ j
  same_one {i} a b = b.alone i a.there a.hears

  -- well heard, it is not late ..
  not_late : HeardWell G T S s → StartsLate G T S s → ⊥
  not_late h l =
      omega (arith, subst (λ (k : ℕ). (passage_at S k).ready + G < s.ready) (same_one h.single l.single) h.earlier, l.late)

  -- .. and does not end too soon
  not_soon : HeardWell G T S s → EndsSoon G T S s → ⊥
  not_soon h e =
      omega (arith, subst (λ (k : ℕ). s.end + G < (passage_at S k).end) (same_one h.single e.single) h.later, e.soon)

  -- late is not early enough
  not_early : StartsLate G T S s → EndsSoon G T S s → ⊥
  not_early l e =
      omega (arith, subst (λ (k : ℕ). s.ready ≤ (passage_at S k).ready + G) (same_one l.single e.single) l.late, e.early)

  -- one answer alone is said of a send
  pub hearing_only : (h k : Hearing) → Says G T S s h → Says G T S s k → h ≡ k
  hearing_only Well Well a b = refl
  hearing_only Well Nobody a b = absurd (not_nobody a.single b)
  hearing_only Well Several a b = absurd (not_twice a.single b)
  hearing_only Well LateStart a b = absurd (not_late a b)
  hearing_only Well EarlyEnd a b = absurd (not_soon a b)
  hearing_only Nobody Well a b = absurd (not_nobody b.single a)
  hearing_only Nobody Nobody a b = refl
  hearing_only Nobody Several a b = absurd (not_both a b)
  hearing_only Nobody LateStart a b = absurd (not_nobody b.single a)
  hearing_only Nobody EarlyEnd a b = absurd (not_nobody b.single a)
  hearing_only Several Well a b = absurd (not_twice b.single a)
  hearing_only Several Nobody a b = absurd (not_both b a)
  hearing_only Several Several a b = refl
  hearing_only Several LateStart a b = absurd (not_twice b.single a)
  hearing_only Several EarlyEnd a b = absurd (not_twice b.single a)
  hearing_only LateStart Well a b = absurd (not_late b a)
  hearing_only LateStart Nobody a b = absurd (not_nobody a.single b)
  hearing_only LateStart Several a b = absurd (not_twice a.single b)
  hearing_only LateStart LateStart a b = refl
  hearing_only LateStart EarlyEnd a b = absurd (not_early a b)
  hearing_only EarlyEnd Well a b = absurd (not_soon b a)
  hearing_only EarlyEnd Nobody a b = absurd (not_nobody a.single b)
  hearing_only EarlyEnd Several a b = absurd (not_twice a.single b)
  hearing_only EarlyEnd LateStart a b = absurd (not_early b a)
  hearing_only EarlyEnd EarlyEnd a b = refl

-- ## Each number, exactly

-- what `first` finds, by its number
first-at : {A : Type 0} (p : A → Bool) (d : A) (S : List A) {x : A} → first p S ≡ some x
    → (i : ℕ) × (i < length S) × (get_or S i d ≡ x) × (p x ≡ true) × ((j : ℕ) → j < i → p (get_or S j d) ≡ false)
first-at p d [] e = let z : ◌≡◌ {A = ℕ} 0 1 = cc in absurd (omega arith)
first-at {A} p d (y ∷ S) {x} e = go (λ k. first-at p d S k) (p y) refl e
  where
    passed_on : (i : ℕ) → p y ≡ false → ((j : ℕ) → j < i → p (get_or S j d) ≡ false) → (j : ℕ) → j < suc i → p (get_or (y ∷ S) j d) ≡ false
    passed_on i h k zero u = h
    passed_on i h k (suc j) u = k j (omega arith)

    go : (first p S ≡ some x → (i : ℕ) × (i < length S) × (get_or S i d ≡ x) × (p x ≡ true) × ((j : ℕ) → j < i → p (get_or S j d) ≡ false)) → (t : Bool) → p y ≡ t
        → cond t (some y) (first p S) ≡ some x
        → (i : ℕ) × (i < suc (length S)) × (get_or (y ∷ S) i d ≡ x) × (p x ≡ true) × ((j : ℕ) → j < i → p (get_or (y ∷ S) j d) ≡ false)
    go ih true h k = let f : y ≡ x = cc in (0, omega arith, f, ap p (sym f) ∙ h, λ j u. absurd (omega arith))
    go ih false h k = let (i, u, f, g, n) = ih k in (suc i, omega arith, f, g, passed_on i h n)

-- and back
at_first : {A : Type 0} (p : A → Bool) (d : A) (S : List A) (i : ℕ) → i < length S → p (get_or S i d) ≡ true → ((j : ℕ) → j < i → p (get_or S j d) ≡ false)
    → first p S ≡ some (get_or S i d)
at_first p d [] i u t k = absurd (omega arith)
at_first p d (y ∷ S) zero u t k = rw t
at_first p d (y ∷ S) (suc i) u t k = rw (k 0 (omega arith)) (at_first p d S i (omega arith) t (λ j v. k (suc j) (omega arith)))

-- neither 10 nor 12 is a number of theirs
not_others : (h : Hearing) → (hearing_number h ≡ 10 → ⊥) × (hearing_number h ≡ 12 → ⊥)
not_others Well = (λ e. omega (arith, e), λ e. omega (arith, e))
not_others Nobody = (λ e. omega (arith, e), λ e. omega (arith, e))
not_others Several = (λ e. omega (arith, e), λ e. omega (arith, e))
not_others LateStart = (λ e. omega (arith, e), λ e. omega (arith, e))
not_others EarlyEnd = (λ e. omega (arith, e), λ e. omega (arith, e))

-- one refusal has one number and one component
refused_same : {A : Type 0} {n m c d : ℕ} → ◌≡◌ {A = Answer A} (refused n c) (refused m d) → (n ≡ m) × (c ≡ d)
refused_same e = (cc, cc)

module _ (G : ℕ) (T : Table) (H : ℕ) (S : List Passage) (wins : Windows S) where
  -- a passage by its number is said to be heard as it is
  says_at : (i : ℕ) → i < length S → Says G T S (passage_at S i) (heard_as G T S (passage_at S i))
  says_at i u = hearing_is G T S wins (passage_at S i) (in_at no_passage S i u)

  -- what is said of it is how it is heard
  said_at : (i : ℕ) → i < length S → (h : Hearing) → Says G T S (passage_at S i) h → heard_as G T S (passage_at S i) ≡ h
  said_at i u h a = hearing_only G T S (passage_at S i) (heard_as G T S (passage_at S i)) h (says_at i u) a

  -- sends before the first at fault are heard well
  well_at : (j : ℕ) → j < length S → unheard G T H S (passage_at S j) ≡ false → is_send T H (passage_at S j) ≡ true → HeardWell G T S (passage_at S j)
  well_at j u f e = go (heard_as G T S (passage_at S j)) (says_at j u) (λ k. clash (sym f ∙ (unheard_is G T H S (passage_at S j)).1 (e, k)))
    where
      go : (h : Hearing) → Says G T S (passage_at S j) h → (is_well h ≡ false → ⊥) → HeardWell G T S (passage_at S j)
      go Well a k = a
      go Nobody a k = absurd (k refl)
      go Several a k = absurd (k refl)
      go LateStart a k = absurd (k refl)
      go EarlyEnd a k = absurd (k refl)

  -- the first send that 11 finds at fault is the first with a fault, by ticks
  found_is : (h : Hearing) → is_well h ≡ false → first (collides G T H S) S ≡ none → (s : Passage)
      → ((first (unheard G T H S) S ≡ some s) × (heard_as G T S s ≡ h)) ↔ ((i : ℕ) × FirstAtFault G T H S h i × (passage_at S i ≡ s))
  found_is h fault none-meet s = (to, from)
    where
      to : (first (unheard G T H S) S ≡ some s) × (heard_as G T S s ≡ h) → (i : ℕ) × FirstAtFault G T H S h i × (passage_at S i ≡ s)
      to (e, q) =
          let (i, u, f, t, k) = first-at (unheard G T H S) no_passage S e in
          let sent = (unheard_is G T H S s).0 t in
          let heard : heard_as G T S (passage_at S i) ≡ h = ap (heard_as G T S) f ∙ q in (
            i,
            record {
              apart = none-meet;
              there = u;
              before = λ j v. well_at j (omega arith) (k j v);
              sends = ap (is_send T H) f ∙ sent.0;
              says = subst (Says G T S (passage_at S i)) heard (says_at i u);
            },
            f,
          )

      from : (i : ℕ) × FirstAtFault G T H S h i × (passage_at S i ≡ s) → (first (unheard G T H S) S ≡ some s) × (heard_as G T S s ≡ h)
      from (i, a, f) =
          let heard : heard_as G T S (passage_at S i) ≡ h = said_at i a.there h a.says in
          let here-fault : unheard G T H S (passage_at S i) ≡ true = (unheard_is G T H S (passage_at S i)).1 (a.sends, ap is_well heard ∙ fault) in
          let none_before : (j : ℕ) → j < i → unheard G T H S (passage_at S j) ≡ false = λ j v.
          (not_true_is (unheard G T H S (passage_at S j))).1 (λ e.
          let k = (unheard_is G T H S (passage_at S j)).0 e in
          let w = said_at j (omega (arith, a.there)) Well (a.before j v k.0) in
          clash (sym k.1 ∙ ap is_well w)) in
          (at_first (unheard G T H S) no_passage S i a.there here-fault none_before ∙ ap some f, ap (heard_as G T S) (sym f) ∙ heard)

  -- 11 exactly if the first send at fault is heard by nobody, 15 if by several, 16 if its listener starts late, 17 if it ends too soon
  pub refused_is : (h : Hearing) → is_well h ≡ false → (c : ℕ)
      → (checked G T H S ≡ refused (hearing_number h) c) ↔ ((i : ℕ) × FirstAtFault G T H S h i × ((passage_at S i).component ≡ c))
  unfolding checked
  refused_is h fault c = (to (first (collides G T H S) S) refl (first (unheard G T H S) S) refl (first (crowded G T H S) S), from)
    where
      Told : Type 0
      Told = (i : ℕ) × FirstAtFault G T H S h i × ((passage_at S i).component ≡ c)

      to : (a : Option Passage) → first (collides G T H S) S ≡ a → (b : Option Passage) → first (unheard G T H S) S ≡ b → (d : Option Passage)
          → fault_of 10 a (fault_by (unheard_number G T S) b (fault_of 12 d (accepted S))) ≡ refused (hearing_number h) c → Told
      to (some v) f b g d e = absurd ((not_others h).0 (sym (refused_same e).0))
      to none f (some s) g d e =
          let k = refused_same e in
          let (i, a, q) = (found_is h fault f s).0 (g, numbers_apart (heard_as G T S s) h k.0) in
          (i, a, ap (λ (v : Passage). v.component) q ∙ k.1)
      to none f none g (some v) e = absurd ((not_others h).1 (sym (refused_same e).0))
      to none f none g none e = refused_clash (hearing_number h) c S (sym e)

      from : Told → checked G T H S ≡ refused (hearing_number h) c
      from (i, a, q) =
          let k = (found_is h fault a.apart (passage_at S i)).1 (i, a, refl) in
          let number : unheard_number G T S (passage_at S i) ≡ hearing_number h = ap hearing_number k.1 in
          rw (a.apart, k.0) (ap₂ {C = Answer (List Passage)} (λ (n d : ℕ). refused n d) number q)
