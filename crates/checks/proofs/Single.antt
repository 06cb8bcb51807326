-- After 11 each send has one row that may hear it: where these rows are different ones, no receive hears two sends. Assumes nothing.
use mathlib.Core.Path.{◌≡◌, refl, sym, ap, subst, ◌∙◌}
use mathlib.Core.Bool.{Bool, true, false, ◌&&◌, not}
use mathlib.Core.List.{List, [], ◌∷◌}
use mathlib.Core.Option.{none}
use Prim.Native.Nat.{ℕ, ◌+◌, ◌≤◌, ◌<◌}
use native.Mathlib.Omega.{arith}
use native.Mathlib.Decide.{ℕ_discrete}
use borrow.Author.Tests.{eqb-true}
use lib.Dec.{eqb}
use lib.ListN.{length, get_or, set, length-set}
use lib.Seq.{get_or-set_same, get_or-set_other}
use Rattle.std.specs.Prelude.{◌≢◌, IsErrAnd}
use Rattle.std.specs.declared.result.Result.{Result}
use Rattle.std.specs.declared.result.Result.TheVariants.{Ok, Err}
use Rattle.model.specs.declared.Hearing.{Hearing}
use Rattle.model.specs.declared.Hearing.TheVariants.{Well, Nobody, Several, LateStart, EarlyEnd}
use Rattle.model.specs.Lists.{first, only, ◌∈◌, here}
use Rattle.model.specs.Table.{Table}
use Rattle.model.specs.Schedule.{Passage}
use Rattle.model.specs.Checks.{no_passage, passage_at, is_send, may_hear, heard_well, hearing_of, heard_as, unheard, crowded}
use Rattle.model.proofs.Basics.Bools.{clash, and_is}
use Rattle.model.proofs.Basics.Members.{number-of, only_is, once_is}
use Rattle.model.proofs.Checks.Heard.{crowded_none}
use Rattle.model.proofs.Checks.Hearings.{is_well, well_hears}
use Rattle.rows.specs.Rows.{row_passage, rows_of, RowsPlaced}
use Rattle.rows.proofs.Numbered.{rows_length, row_at}
use Rattle.checks.specs.Listening.{Noted, HeardBy, HeardIs}
use Rattle.checks.proofs.Questions.{hearing, heard_send}
use Rattle.checks.proofs.Sending.{row_small}
use Rattle.checks.proofs.Listening.{AloneAt, alone_at}
use Rattle.model.specs.Places.{read_of}
use mir.Val.{Fits}
use mir.Syntax.{w8}
use lib.Count.{ones}

-- ## Numbers of rows

module _ (p : Passage → Bool) (l : List ℕ) (n : ℕ) where
  at_row : (j : ℕ) → j < n → p (row_passage l j) ≡ true → p (passage_at (rows_of l n) j) ≡ true
  at_row j h e = ap p (row_at l n j h) ∙ e

  of_row : (j : ℕ) → j < n → p (passage_at (rows_of l n) j) ≡ true → p (row_passage l j) ≡ true
  of_row j h e = ap p (sym (row_at l n j h)) ∙ e

  below : {j : ℕ} → j < n → j < length (rows_of l n)
  below h = omega (arith, h, rows_length l n)

  -- the only one that is found has one number
  pub alone_row : (k : ℕ) → only p (rows_of l n) ≡ row_passage l k ∷ [] → k < n → (j : ℕ) → j < n → p (row_passage l j) ≡ true → j ≡ k
  alone_row k e h j u f =
      let m = (only_is p (rows_of l n)).0 (subst (λ vs. row_passage l k ∈ vs) (sym e) (here refl)) in
      (once_is p no_passage (rows_of l n)).0 (omega (arith, ap length e)) j k (below u) (below h) (at_row j u f) (at_row k h m.1)

  -- at most one number, at most one found
  pub one_row : ((j k : ℕ) → j < n → k < n → p (row_passage l j) ≡ true → p (row_passage l k) ≡ true → j ≡ k) → length (only p (rows_of l n)) ≤ 1
  one_row f =
      (once_is p no_passage (rows_of l n)).1 (λ j k u v a b.
      let x : j < n = omega (arith, u, rows_length l n) in
      let y : k < n = omega (arith, v, rows_length l n) in
      f j k x y (of_row j x a) (of_row k y b))

-- ## How a send is heard

-- the one window that is noted
module _ (G : ℕ) (bs l : List ℕ) (n i : ℕ) where
  pub alone_window : (m r : ℕ) (rows : List ℕ) → ((j : ℕ) → Fits w8 (get_or bs j 0)) → RowsPlaced bs l n → Noted l n (only (hearing G (read_of bs).table (row_passage l i)) (rows_of l n)) m r rows
      → ones m ≡ 1 → r ≡ 0 → AloneAt l n m rows (only (hearing G (read_of bs).table (row_passage l i)) (rows_of l n))
  alone_window m r rows b placed noted one once = alone_at l n m r rows (λ k h. row_small bs l n k b placed h) (omega (arith, one)) (omega (arith, once)) _ noted

module _ (G : ℕ) (T : Table) (l : List ℕ) (n i : ℕ) where
  -- by the one row that may hear it, well ..
  pub by_one : (row : ℕ) → only (hearing G T (row_passage l i)) (rows_of l n) ≡ row_passage l row ∷ [] → row < n
      → Well ≡ hearing_of G (row_passage l i) (row_passage l row ∷ []) → HeardBy G T l n i row
  by_one row e there q = record { told = rw e q; there = there; alone = alone_row (hearing G T (row_passage l i)) l n row e there }

  -- .. or not
  pub not_by_one : (h : Hearing) (row : ℕ) → only (hearing G T (row_passage l i)) (rows_of l n) ≡ row_passage l row ∷ []
      → h ≡ hearing_of G (row_passage l i) (row_passage l row ∷ []) → h ≡ heard_as G T (rows_of l n) (row_passage l i)
  not_by_one h row e q = rw e q

  -- what a `?` hands on
  pub handed_on : (o : Result ℕ Hearing) (h : Hearing) → IsErrAnd o (λ f. f ≡ h) → h ≡ heard_as G T (rows_of l n) (row_passage l i) → h ≢ Well → HeardIs G T l n i o
  handed_on (Ok row) h e told other = absurd e
  handed_on (Err f) h e told other = (e ∙ told, λ w. other (sym e ∙ w))

-- any other than well
not_well : (h : Hearing) → (h ≢ Well) → is_well h ≡ false
not_well Well o = absurd (o refl)
not_well Nobody o = refl
not_well Several o = refl
not_well LateStart o = refl
not_well EarlyEnd o = refl

-- ## The sweep over the sends

module _ (G : ℕ) (T : Table) (H : ℕ) (l : List ℕ) (n : ℕ) where
  -- row j may hear row k, a send
  abbrev Hears : ℕ → ℕ → Type 0
  Hears j k = heard_send G T H (row_passage l j) (row_passage l k) ≡ true

  -- the rows that may hear a send before row i are noted, and none of them hears two if they are apart
  pub record Marked (i : ℕ) (apart : Bool) (listens : List ℕ) : Type 0 where
    pub room : length listens ≡ 1024
    pub marked : (j k : ℕ) → j < n → k < i → Hears j k → get_or listens j 0 ≡ 1
    pub single : apart ≡ true → (j k m : ℕ) → j < n → k < i → m < i → Hears j k → Hears j m → k ≡ m

  pub marked_start : (listens : List ℕ) → length listens ≡ 1024 → Marked 0 true listens
  marked_start listens h = record { room = h; marked = λ j k u v. absurd (omega arith); single = λ e j k m u v. absurd (omega arith) }

  module _ (i : ℕ) (apart : Bool) (listens : List ℕ) (before : Marked i apart listens) where
    -- row i is no send ..
    pub marked_out : (x apart' : Bool) (listens' : List ℕ) → x ≡ is_send T H (row_passage l i) → x ≡ false → apart' ≡ apart → listens' ≡ listens → Marked (i + 1) apart' listens'
    marked_out x apart' listens' s t p q =
        rw (p, q)
        record {
          room = before.room;
          marked = λ j k u v f. before.marked j k u (earlier j k v f) f;
          single = λ a j k m u v w f g. before.single a j k m u (earlier j k v f) (earlier j m w g) f g;
        }
      where
        earlier : (j k : ℕ) → k < i + 1 → Hears j k → k < i
        earlier j k v f = go (ℕ_discrete k i)
          where
            go : Dec (k ≡ i) → k < i
            go (yes q) = clash (sym t ∙ s ∙ subst (λ x. is_send T H (row_passage l x) ≡ true) q ((and_is (is_send T H (row_passage l k)) (may_hear G T (row_passage l j) (row_passage l k))).0 f).0)
            go (no q) = omega (arith, v, q)

    -- .. or a send that one row may hear
    module _ (found : ℕ) (there : found < n) (few : n ≤ 1024) (alone : (j : ℕ) → j < n → may_hear G T (row_passage l j) (row_passage l i) ≡ true → j ≡ found)
        (apart' : Bool) (is : apart' ≡ apart && eqb (get_or listens found 0) 0) where
      by_found : (j k : ℕ) → j < n → k ≡ i → Hears j k → j ≡ found
      by_found j k u q f =
          alone j u (subst (λ x. may_hear G T (row_passage l j) (row_passage l x) ≡ true) q ((and_is (is_send T H (row_passage l k)) (may_hear G T (row_passage l j) (row_passage l k))).0 f).1)

      -- it was not noted before, so it heard none
      new : apart' ≡ true → (j k m : ℕ) → j < n → k ≡ i → m < i → Hears j k → Hears j m → ⊥
      new a j k m u q w f g =
          let z = eqb-true (get_or listens found 0) 0 ((and_is apart (eqb (get_or listens found 0) 0)).0 (sym is ∙ a)).1 in
          let o : get_or listens found 0 ≡ 1 = subst (λ x. get_or listens x 0 ≡ 1) (by_found j k u q f) (before.marked j m u w g) in
          omega (arith, z, o)

      pub marked_in : (listens' : List ℕ) → listens' ≡ set listens found 1 → Marked (i + 1) apart' listens'
      marked_in listens' q =
          rw q
          record {
            room = length-set listens found 1 ∙ before.room;
            marked = λ j k u v f. mark j k u v f (ℕ_discrete j found) (ℕ_discrete k i);
            single = λ a j k m u v w f g. same a j k m u v w f g (ℕ_discrete k i) (ℕ_discrete m i);
          }
        where
          mark : (j k : ℕ) → j < n → k < i + 1 → Hears j k → Dec (j ≡ found) → Dec (k ≡ i) → get_or (set listens found 1) j 0 ≡ 1
          mark j k u v f (yes p) q = subst (λ x. get_or (set listens found 1) x 0 ≡ 1) (sym p) (get_or-set_same listens found 1 0 (omega (arith, there, few, before.room)))
          mark j k u v f (no p) (yes q) = absurd (p (by_found j k u q f))
          mark j k u v f (no p) (no q) = get_or-set_other listens found j 1 0 p ∙ before.marked j k u (omega (arith, v, q)) f

          same : apart' ≡ true → (j k m : ℕ) → j < n → k < i + 1 → m < i + 1 → Hears j k → Hears j m → Dec (k ≡ i) → Dec (m ≡ i) → k ≡ m
          same a j k m u v w f g (yes p) (yes q) = p ∙ sym q
          same a j k m u v w f g (yes p) (no q) = absurd (new a j k m u p (omega (arith, w, q)) f g)
          same a j k m u v w f g (no p) (yes q) = absurd (new a j m k u q (omega (arith, v, p)) g f)
          same a j k m u v w f g (no p) (no q) =
              before.single ((and_is apart (eqb (get_or listens found 0) 0)).0 (sym is ∙ a)).0 j k m u (omega (arith, v, p)) (omega (arith, w, q)) f g

    -- all rows were looked at
    pub none_crowded : n ≤ i → apart ≡ true → none ≡ first (crowded G T H (rows_of l n)) (rows_of l n)
    none_crowded h a =
        sym ((crowded_none G T H (rows_of l n)).1 (λ r m e.
        let t = number-of no_passage m in
        let u : t.0 < n = omega (arith, t.1, rows_length l n) in
        let z : row_passage l t.0 ≡ r = sym (row_at l n t.0 u) ∙ t.2 in
        subst (λ v. length (only (heard_send G T H v) (rows_of l n)) ≤ 1) z
        (one_row (heard_send G T H (row_passage l t.0)) l n (λ k q x y f g. before.single a t.0 k q u (omega (arith, h, x)) (omega (arith, h, y)) f g))))

-- ## 11

-- a row that is no send is not asked
pub not_heard : (G : ℕ) (T : Table) (H : ℕ) (l : List ℕ) (n i : ℕ) (x : Bool) → x ≡ is_send T H (row_passage l i) → x ≡ false → false ≡ unheard G T H (rows_of l n) (row_passage l i)
not_heard G T H l n i x e t = let s : is_send T H (row_passage l i) ≡ false = sym e ∙ t in rw s

module _ (G : ℕ) (T : Table) (H : ℕ) (l : List ℕ) (n i : ℕ) (h : Hearing) (x : Bool) (e : x ≡ is_send T H (row_passage l i)) (t : x ≡ true)
    (told : h ≡ heard_as G T (rows_of l n) (row_passage l i)) where
  unheard_by : (y : Bool) → is_well h ≡ y → unheard G T H (rows_of l n) (row_passage l i) ≡ not y
  unheard_by y f =
      let s : is_send T H (row_passage l i) ≡ true = sym e ∙ t in
      let found = only (hearing G T (row_passage l i)) (rows_of l n) in
      let w : heard_well G (row_passage l i) found ≡ y = well_hears G (row_passage l i) found ∙ ap is_well (sym told) ∙ f in
      rw (s, w)

  pub is_unheard : (h ≢ Well) → true ≡ unheard G T H (rows_of l n) (row_passage l i)
  is_unheard other = sym (unheard_by false (not_well h other))

  pub is_heard : h ≡ Well → false ≡ unheard G T H (rows_of l n) (row_passage l i)
  is_heard w = sym (unheard_by true (ap is_well w))
