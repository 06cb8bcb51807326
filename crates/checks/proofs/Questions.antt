-- Questions 10 and 12, answered by what a sweep found; the tests of a pair of rows, the numbers first. Assumes nothing.
use mathlib.Core.Path.{◌≡◌, refl, sym, ap, ◌∙◌}
use mathlib.Core.Bool.{Bool, true, false, cond, ◌&&◌, ◌||◌, not}
use mathlib.Core.List.{List, [], ◌∷◌, ◌++◌}
use mathlib.Core.Option.{Option}
use Prim.Native.Nat.{ℕ, ◌+◌, ◌≤◌, ◌<◌}
use native.Mathlib.Omega.{arith}
use borrow.Author.Tests.{lt-leb, le-leb, not-true, not-false, le-ltb, lt-ltb}
use lib.Dec.{leb, eqb}
use lib.ListN.{length}
use Rattle.model.specs.declared.Hearing.TheVariants.{Well, LateStart, EarlyEnd}
use Rattle.model.specs.Lists.{any, only}
use Rattle.model.specs.Table.{Table}
use Rattle.model.specs.Window.{channel_of}
use Rattle.model.specs.Schedule.{Passage, passage_arc, names, others}
use Rattle.model.specs.Checks.{near, disturb, is_send, is_receive, meets, collides, may_hear, two, crowded, hearing_of}
use Rattle.model.proofs.Basics.Members.{only_none, any_none}
use Rattle.model.proofs.Checks.Heard.{two_is}
use Rattle.rows.specs.Rows.{row_passage}
use Rattle.checks.proofs.Sending.{and_false}
use Rattle.checks.proofs.Swept.{Near}

-- ## Tests

module _ (G : ℕ) where
  -- windows more than G apart
  apart_before : (v w : Passage) → w.end + G < v.ready → near G v w ≡ false
  apart_before v w h = rw (lt-leb v.ready (w.end + G) h)

  apart_after : (v w : Passage) → v.end + G < w.ready → near G v w ≡ false
  apart_after v w h = rw (lt-leb w.ready (v.end + G) h, and_false)

  -- of another component, no more than G apart: what `overlap` answers
  abbrev pub beside : Passage → Passage → Bool
  beside v w = others v w && near G v w

  pub ended_before : (v w : Passage) → w.end + G < v.ready → false ≡ beside v w
  ended_before v w h = rw (apart_before v w h, and_false)

  pub beside_is : (v w : Passage) {wr ve vc wc : ℕ} {x : Bool} → v.ready ≤ w.end + G → vc ≡ v.component → wc ≡ w.component → wr ≡ w.ready → ve ≡ v.end + G
      → x ≡ not (eqb vc wc) && leb wr ve → x ≡ beside v w
  beside_is v w h a b c d p = rw (le-leb v.ready (w.end + G) h, ← a, ← b, ← c, ← d) p

  -- how a send is heard by one window: what `heard_by` answers
  module _ (s r : Passage) where
    pub starts_late : s.ready ≤ r.ready + G → LateStart ≡ hearing_of G s (r ∷ [])
    starts_late h = rw (le-ltb (r.ready + G) s.ready h)

    pub ends_soon : r.ready + G < s.ready → r.end ≤ s.end + G → EarlyEnd ≡ hearing_of G s (r ∷ [])
    ends_soon h k = rw (lt-ltb (r.ready + G) s.ready h, le-ltb (s.end + G) r.end k)

    pub lies_around : r.ready + G < s.ready → s.end + G < r.end → Well ≡ hearing_of G s (r ∷ [])
    lies_around h k = rw (lt-ltb (r.ready + G) s.ready h, lt-ltb (s.end + G) r.end k)

-- the numbers first: b and d
numbers_first : (a b c d : Bool) → a && b && c && d ≡ (b && d) && (a && c)
numbers_first true true true d = sym (true_last d)
  where
    true_last : (t : Bool) → t && true ≡ t
    true_last true = refl
    true_last false = refl
numbers_first true true false d = sym (and_false d)
numbers_first true false c d = refl
numbers_first false true c d = sym (and_false d)
numbers_first false false c d = refl

-- ## Who hears a send

module _ (G : ℕ) (T : Table) where
  -- who may hear s
  abbrev pub hearing : Passage → Passage → Bool
  hearing s r = may_hear G T r s

  pub hear_near : (l : List ℕ) (i : ℕ) → Near G (hearing (row_passage l i)) l i
  hear_near l i =
      record {
        before = λ j h. rw (apart_after G (row_passage l j) (row_passage l i) h, and_false);
        after = λ j h. rw (apart_before G (row_passage l j) (row_passage l i) h, and_false);
      }

  module _ (r s : Passage) where
    hear_order : may_hear G T r s ≡ beside G r s && (is_receive T r && names (passage_arc T r) (channel_of (passage_arc T s)))
    hear_order = numbers_first (is_receive T r) (others r s) (names (passage_arc T r) (channel_of (passage_arc T s))) (near G r s)

    pub not_beside : (x : Bool) → x ≡ beside G r s → not x ≡ true → false ≡ may_hear G T r s
    not_beside x e t = let f : beside G r s ≡ false = sym e ∙ not-true x t in sym (hear_order ∙ rw f)

    pub not_receive : (x : Bool) → x ≡ is_receive T r → not x ≡ true → false ≡ may_hear G T r s
    not_receive x e t = let f : is_receive T r ≡ false = sym e ∙ not-true x t in rw f

    hears : (y : Bool) → beside G r s ≡ true → is_receive T r ≡ true → y ≡ names (passage_arc T r) (channel_of (passage_arc T s)) → y ≡ may_hear G T r s
    hears y f g q = q ∙ sym (hear_order ∙ rw (f, g))

    pub hear : (x w y : Bool) (m : Option ℕ) → x ≡ beside G r s → not x ≡ false → w ≡ is_receive T r → not w ≡ false → m ≡ channel_of (passage_arc T s)
        → y ≡ names (passage_arc T r) m → y ≡ may_hear G T r s
    hear x w y m e t f u k q = hears y (sym e ∙ not-false x t) (sym f ∙ not-false w u) (q ∙ ap (names (passage_arc T r)) k)

-- ## The questions

module _ (G : ℕ) (T : Table) (H : ℕ) where
  -- ## 10

  pub meets_near : (l : List ℕ) (i : ℕ) → Near G (meets G T H (row_passage l i)) l i
  meets_near l i =
      record {
        before = λ j h. rw (apart_before G (row_passage l i) (row_passage l j) h, and_false);
        after = λ j h. rw (apart_after G (row_passage l i) (row_passage l j) h, and_false);
      }

  module _ (s o : Passage) where
    share_order : near G s o ≡ near G o s
    share_order = go (leb s.ready (o.end + G)) (leb o.ready (s.end + G))
      where
        go : (c d : Bool) → c && d ≡ d && c
        go true true = refl
        go true false = refl
        go false true = refl
        go false false = refl

    meets_order : meets G T H s o ≡ beside G o s && (is_send T H o && disturb T s o)
    meets_order = ap (λ (t : Bool). is_send T H o && others o s && disturb T s o && t) share_order ∙ numbers_first (is_send T H o) (others o s) (disturb T s o) (near G o s)

    pub not_met : (x : Bool) → x ≡ beside G o s → not x ≡ true → false ≡ meets G T H s o
    not_met x e t = let f : beside G o s ≡ false = sym e ∙ not-true x t in sym (meets_order ∙ rw f)

    pub no_send_met : (x : Bool) → x ≡ is_send T H o → not x ≡ true → false ≡ meets G T H s o
    no_send_met x e t = let f : is_send T H o ≡ false = sym e ∙ not-true x t in rw f

    pub met : (x w y : Bool) → x ≡ beside G o s → not x ≡ false → w ≡ is_send T H o → not w ≡ false → y ≡ disturb T s o → y ≡ meets G T H s o
    met x w y e t k u q =
        let f : beside G o s ≡ true = sym e ∙ not-false x t in
        let g : is_send T H o ≡ true = sym k ∙ not-false w u in
        q ∙ sym (meets_order ∙ rw (f, g))

  -- what is asked of sends only
  pub not_asked : (s : Passage) (x b : Bool) → x ≡ is_send T H s → not x ≡ true → false ≡ is_send T H s && b
  not_asked s x b e t = let f : is_send T H s ≡ false = sym e ∙ not-true x t in rw f

  asked : (s : Passage) (x b y : Bool) → x ≡ is_send T H s → not x ≡ false → y ≡ b → y ≡ is_send T H s && b
  asked s x b y e t q = let f : is_send T H s ≡ true = sym e ∙ not-false x t in rw f q

  module _ (S : List Passage) (s : Passage) (x : Bool) (e : x ≡ is_send T H s) (t : not x ≡ false) where
    pub collides_none : [] ≡ only (meets G T H s) S → false ≡ collides G T H S s
    collides_none q = asked s x _ false e t (sym ((any_none (meets G T H s) S).1 ((only_none (meets G T H s) S).0 (sym q))))

    pub collides_one : (v : Passage) (vs : List Passage) → v ∷ vs ≡ only (meets G T H s) S → true ≡ collides G T H S s
    collides_one v vs q = asked s x _ true e t (sym (go S q))
      where
        p : Passage → Bool
        p = meets G T H s

        go : (S : List Passage) → v ∷ vs ≡ only p S → any p S ≡ true
        go [] k = let z : ◌≡◌ {A = ℕ} 0 1 = cc in absurd (omega arith)
        go (w ∷ S) k = each (go S) (p w) k
          where
            each : (v ∷ vs ≡ only p S → any p S ≡ true) → (t : Bool) → v ∷ vs ≡ cond t (w ∷ only p S) (only p S) → t || any p S ≡ true
            each ih true f = refl
            each ih false f = ih f

  -- ## 12

  module _ (r s : Passage) where
    pub no_send_beside : (x : Bool) → x ≡ beside G r s → not x ≡ true → false ≡ is_send T H s && may_hear G T r s
    no_send_beside x e t = rw (← not_beside G T r s x e t) (sym (and_false (is_send T H s)))

    pub hear_send : (x w y : Bool) (m : Option ℕ) → x ≡ beside G r s → not x ≡ false → w ≡ is_send T H s → not w ≡ false → is_receive T r ≡ true
        → m ≡ channel_of (passage_arc T s) → y ≡ names (passage_arc T r) m → y ≡ is_send T H s && may_hear G T r s
    hear_send x w y m e t f u g k q = asked s w _ y f u (hears G T r s y (sym e ∙ not-false x t) g (q ∙ ap (names (passage_arc T r)) k))

  -- a send that r may hear
  abbrev pub heard_send : Passage → Passage → Bool
  heard_send r s = is_send T H s && may_hear G T r s

  pub heard_near : (l : List ℕ) (i : ℕ) → Near G (heard_send (row_passage l i)) l i
  heard_near l i =
      record {
        before = λ j h. rw (apart_before G (row_passage l i) (row_passage l j) h, and_false, and_false);
        after = λ j h. rw (apart_after G (row_passage l i) (row_passage l j) h, and_false, and_false);
      }

  module _ (S : List Passage) (r : Passage) (x : Bool) (e : x ≡ is_receive T r) where
    pub not_crowded : not x ≡ true → false ≡ crowded G T H S r
    not_crowded t = let f : is_receive T r ≡ false = sym e ∙ not-true x t in rw f

    pub is-receive : not x ≡ false → is_receive T r ≡ true
    is-receive t = sym e ∙ not-false x t

    crowded_by : not x ≡ false → (y : Bool) → y ≡ two (only (heard_send r) S) → y ≡ crowded G T H S r
    crowded_by t y q = q ∙ sym (ap (λ (b : Bool). b && two (only (heard_send r) S)) (is-receive t))

    pub crowded_few : not x ≡ false → (found : List Passage) → length found ≤ 1 → found ≡ only (heard_send r) S → false ≡ crowded G T H S r
    crowded_few t found h q = crowded_by t false (sym ((two_is (only (heard_send r) S)).1 (rw (← q) h)))

    pub crowded_two : not x ≡ false → (found vs : List Passage) → 2 ≤ length found → found ++ vs ≡ only (heard_send r) S → true ≡ crowded G T H S r
    crowded_two t found vs h q = crowded_by t true (rw (← q) (many found h))
      where
        many : (found : List Passage) → 2 ≤ length found → true ≡ two (found ++ vs)
        many [] k = absurd (omega arith)
        many (v ∷ []) k = absurd (omega arith)
        many (v ∷ w ∷ found) k = refl
