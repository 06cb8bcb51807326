-- The loops over all rows: the rows met before row j, counted or written. Assumes nothing.
use mathlib.Core.Path.{◌≡◌, refl, sym, ap, ◌∙◌}
use mathlib.Core.Bool.{Bool, true, false, ◌&&◌}
use mathlib.Core.List.{List, [], ◌∷◌, ◌++◌}
use Prim.Native.Nat.{ℕ, suc, ◌+◌, ◌-◌, ◌*◌, ◌≤◌, ◌<◌}
use native.Mathlib.Omega.{arith}
use lib.ListN.{length, drop, length-append}
use lib.Seq.{sets}
use Rattle.model.specs.Lists.{only, snoc, each}
use Rattle.model.specs.Table.{Table}
use Rattle.model.specs.Schedule.{Passage, seven_of}
use Rattle.model.specs.Checks.{is_send, meets, may_hear}
use Rattle.rows.specs.Rows.{row_passage, rows_from, rows_of}
use Rattle.checks.proofs.Swept.{rest, Swept, swept_in, swept_out, swept_done, Counted}
use Rattle.schedule.proofs.Fields.{fields_more, fields_laid}
use Rattle.meetings.specs.declared.Question.{Question}
use Rattle.meetings.specs.declared.Question.TheVariants.{Collision, Unheard, Crowded}
use Rattle.meetings.specs.Asked.{met_by}

-- ## The question asked

module _ (G : ℕ) (T : Table) (H : ℕ) (v w : Passage) {q : Question} (x : Bool) where
  pub asked_10 : q ≡ Collision → x ≡ meets G T H v w → x ≡ met_by G q T H v w
  asked_10 e p = rw e p

  pub asked_11 : q ≡ Unheard → x ≡ may_hear G T w v → x ≡ met_by G q T H v w
  asked_11 e p = rw e p

  pub asked_12 : (y z : Bool) → q ≡ Crowded → x ≡ y && z → y ≡ is_send T H w → z ≡ may_hear G T v w → x ≡ met_by G q T H v w
  asked_12 y z e p a b = rw (e, ← a, ← b) p

-- ## Counted

swept_start : (p : Passage → Bool) (l : List ℕ) (n : ℕ) → Swept p l n 0 []
swept_start p l n = let e : n - 0 ≡ n = omega arith in ap (λ (m : ℕ). only p (rows_from l 0 m)) e

pub counted_start : (p : Passage → Bool) (l : List ℕ) (n : ℕ) → Counted p l n 0 0
counted_start p l n = record { found = []; swept = swept_start p l n; count = refl }

pub counted_done : (p : Passage → Bool) (l : List ℕ) (n j k : ℕ) → n ≤ j → Counted p l n j k → k ≡ length (only p (rows_of l n))
counted_done p l n j k h c = c.count ∙ ap length (swept_done p l n j c.found h c.swept)

-- ## Written

-- after v was written at the front: the rows met before row j, k passages in all
pub record Put (p : Passage → Bool) (l : List ℕ) (n j k : ℕ) (v : Passage) (before after : List ℕ) : Type 0 where
  pub found : List Passage
  pub swept : Swept p l n j found
  pub count : k ≡ suc (length found)
  pub few : k ≤ suc j
  pub same : length after ≡ length before
  pub put : (start : List ℕ) → before ≡ sets start 0 (seven_of v) → after ≡ sets start 0 (each seven_of (v ∷ found))

module _ (p : Passage → Bool) (l : List ℕ) (n : ℕ) (v : Passage) (before : List ℕ) where
  pub put_start : Put p l n 0 1 v before before
  unfolding each
  put_start = record { found = []; swept = swept_start p l n; count = refl; few = omega arith; same = refl; put = λ start q. q }

  -- the same by other names
  pub put_as : (j k : ℕ) (after : List ℕ) {k' : ℕ} {after' : List ℕ} → k' ≡ k → after' ≡ after → Put p l n j k v before after → Put p l n j k' v before after'
  put_as j k after e f c = rw (e, f) c

  module _ (j k : ℕ) (after : List ℕ) (x : Bool) (h : j < n) (e : x ≡ p (row_passage l j)) (c : Put p l n j k v before after) where
    -- row j is met: there is room for it ..
    pub put_room : x ≡ true → length (v ∷ only p (rows_of l n)) * 7 ≤ length before → k * 7 + 7 ≤ length after
    put_room t r =
        let all = swept_in p l n j c.found x h e t c.swept in
        let m : length (snoc c.found (row_passage l j)) + length (only p (rest l n (j + 1))) ≡ length (only p (rows_of l n)) =
        sym (length-append (snoc c.found (row_passage l j)) (only p (rest l n (j + 1)))) ∙ ap length all in
        omega (arith, m, length-append c.found (row_passage l j ∷ []), c.count, c.same)

    -- .. and it is written, as number k ..
    pub put_in : x ≡ true → (after₁ : List ℕ) → length after₁ ≡ length after → after₁ ≡ sets after (k * 7) (seven_of (row_passage l j)) → Put p l n (j + 1) (k + 1) v before after₁
    put_in t after₁ s q =
        record {
          found = snoc c.found (row_passage l j);
          swept = swept_in p l n j c.found x h e t c.swept;
          count = omega (arith, length-append c.found (row_passage l j ∷ []), c.count);
          few = omega (arith, c.few);
          same = s ∙ c.same;
          put = λ start r. fields_more (v ∷ c.found) (row_passage l j) k start after after₁ c.count (c.put start r) q;
        }

    -- .. or it is not met
    pub put_out : x ≡ false → Put p l n (j + 1) k v before after
    put_out t =
        record {
          found = c.found;
          swept = swept_out p l n j c.found x h e t c.swept;
          count = c.count;
          few = omega (arith, c.few);
          same = c.same;
          put = c.put;
        }

  -- all rows were seen
  pub put_done : (start : List ℕ) (j k : ℕ) (after : List ℕ) → before ≡ sets start 0 (seven_of v) → n ≤ j → length (v ∷ only p (rows_of l n)) * 7 ≤ length start → Put p l n j k v before after
      → after ≡ each seven_of (v ∷ only p (rows_of l n)) ++ drop (length (v ∷ only p (rows_of l n)) * 7) start
  put_done start j k after q h r c =
      c.put start q
      ∙ ap (λ (found : List Passage). sets start 0 (each seven_of (v ∷ found))) (swept_done p l n j c.found h c.swept)
      ∙ fields_laid (v ∷ only p (rows_of l n)) (length (v ∷ only p (rows_of l n))) start refl r
