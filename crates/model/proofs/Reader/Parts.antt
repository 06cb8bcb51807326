-- Parts of a table: what an accepting reader says, and readers that agree with the bytes of what they read. Assumes nothing.
use mathlib.Core.Path.{◌≡◌, refl, sym, ap, ap₂, subst, subst₂, ◌∙◌}
use mathlib.Core.Bool.{Bool, true, false, cond}
use mathlib.Core.List.{List, [], ◌∷◌, ◌++◌, append_assoc}
use mathlib.Core.Option.{none, some}
use Prim.Native.Nat.{ℕ, zero, suc, ◌+◌, ◌≤◌}
use native.Mathlib.Omega.{arith}
use borrow.Author.Tests.{leb-true, le-leb}
use lib.Dec.{leb}
use lib.ListN.{length, drop, length-append}
use lib.Seq.{drop_at, drop-cons}
use Rattle.model.specs.Lists.{All, empty, more, Bytes, each, Answer, accepted, refused, ◌after◌}
use Rattle.model.specs.Reader.{byte, Parsed, ok, fault, ◌then◌, part, many, finished, about}
use Rattle.model.proofs.Basics.Words.{all_after}

-- ## Taking an accepting reader apart

-- a fault is not an acceptance: anything follows
pub fault_clash {ℓ} : {B : Type ℓ} {A : Type 0} (n : ℕ) (x : A) (r : List ℕ) → fault n ≡ ok x r → B
fault_clash n x r e = absurd (let z : ◌≡◌ {A = ℕ} 0 1 = cc in omega arith)

-- two steps accept: the first accepts, and so does the second with what the first gave
pub then_ok : {A B : Type 0} (a : Parsed A) (f : A → List ℕ → Parsed B) {y : B} {r : List ℕ} → (a then f) ≡ ok y r
    → (x : A) × (q : List ℕ) × (a ≡ ok x q) × (f x q ≡ ok y r)
then_ok (ok x q) f e = (x, q, refl, e)
then_ok (fault n) f {y} {r} e = fault_clash n y r e

-- a tested step accepts: the test is true, and the step accepts
pub cond_ok : {A : Type 0} (t : Bool) (a : Parsed A) (n : ℕ) {x : A} {r : List ℕ} → cond t a (fault n) ≡ ok x r → (t ≡ true) × (a ≡ ok x r)
cond_ok true a n e = (refl, e)
cond_ok false a n {x} {r} e = fault_clash n x r e

-- a step that a test forbids accepts: the test is false, and the step accepts
pub cond_not_ok : {A : Type 0} (t : Bool) (a : Parsed A) (n : ℕ) {x : A} {r : List ℕ} → cond t (fault n) a ≡ ok x r → (t ≡ false) × (a ≡ ok x r)
cond_not_ok true a n {x} {r} e = fault_clash n x r e
cond_not_ok false a n e = (refl, e)

-- two acceptances are equal: so are what they give and what they leave
pub ok_same : {A : Type 0} {x y : A} {q r : List ℕ} → ok x q ≡ ok y r → (x ≡ y) × (q ≡ r)
ok_same e = (cc, cc)

-- nothing is left: the value is the one handed in
pub finished_ok : {A : Type 0} (a : A) (bs : List ℕ) {x : A} {r : List ℕ} → finished a bs ≡ ok x r → (a ≡ x) × (bs ≡ [])
finished_ok a [] e = ((ok_same e).0, refl)
finished_ok a (b ∷ bs) {x} {r} e = fault_clash 4 x r e

-- ## Taking an acceptance of the whole table apart

-- a refusal is not an acceptance: anything follows
pub refused_clash {ℓ} : {B : Type ℓ} {A : Type 0} (n c : ℕ) (x : A) → refused n c ≡ accepted x → B
refused_clash n c x e = absurd (let z : ◌≡◌ {A = ℕ} 0 1 = cc in omega arith)

-- two steps accept: the first accepts, and so does the second with what the first gave
pub after_ok : {A B : Type 0} (a : Answer A) (f : A → Answer B) {y : B} → (a after f) ≡ accepted y → (x : A) × (a ≡ accepted x) × (f x ≡ accepted y)
after_ok (accepted x) f e = (x, refl, e)
after_ok (refused n c) f {y} e = refused_clash n c y e

-- a tested step accepts: the test is true, and the step accepts
pub cond_accepted : {A : Type 0} (t : Bool) (a : Answer A) (n c : ℕ) {x : A} → cond t a (refused n c) ≡ accepted x → (t ≡ true) × (a ≡ accepted x)
cond_accepted true a n c e = (refl, e)
cond_accepted false a n c {x} e = refused_clash n c x e

-- a component is accepted: its reader accepts
pub about_ok : {A : Type 0} (c : ℕ) (p : Parsed A) {x : A} → about c p ≡ accepted x → (r : List ℕ) × (p ≡ ok x r)
about_ok c (ok y r) e = (r, cc)
about_ok c (fault n) {x} e = refused_clash n c x e

-- two acceptances are equal: so is what they give
pub accepted_same : {A : Type 0} {x y : A} → accepted x ≡ accepted y → x ≡ y
accepted_same e = cc

-- and what two that are there are
pub some_same : {A : Type 0} {x y : A} → some x ≡ some y → x ≡ y
some_same e = cc

-- some is not none: anything follows
pub some_clash : {A : Type 0} {B : Type 0} {x : A} → some x ≡ none → B
some_clash e = absurd (let z : ◌≡◌ {A = ℕ} 0 1 = cc in omega arith)

-- ## Parts

-- what an accepted part says: it fits, its contents are fine, it gives what they say and leaves what is after it
pub record PartOk {A : Type 0} (n : ℕ) (fine : List ℕ → Bool) (value : List ℕ → A) (bs : List ℕ) (x : A) (r : List ℕ) : Type 0 where
  pub fits : n ≤ length bs
  pub passes : fine bs ≡ true
  pub says : value bs ≡ x
  pub leaves : drop n bs ≡ r

module _ {A : Type 0} (n : ℕ) (fine : List ℕ → Bool) (value : List ℕ → A) (bs : List ℕ) where
  -- an accepted part
  pub part_ok : {x : A} {r : List ℕ} → part n fine value bs ≡ ok x r → PartOk n fine value bs x r
  part_ok {x} {r} e =
      let a = cond_ok (leb n (length bs)) (cond (fine bs) (ok (value bs) (drop n bs)) (fault 5)) 4 e in
      let b = cond_ok (fine bs) (ok (value bs) (drop n bs)) 5 a.1 in
      let c = ok_same b.1 in
      record { fits = leb-true n (length bs) a.0; passes = b.0; says = c.0; leaves = c.1 }

  -- a part that fits, with fine contents, is accepted
  pub part_reads : n ≤ length bs → fine bs ≡ true → part n fine value bs ≡ ok (value bs) (drop n bs)
  part_reads h e = rw (le-leb n (length bs) h, e)

module _ {A : Type 0} (n : ℕ) (fine : List ℕ → Bool) (bs : List ℕ) (f : List ℕ → List ℕ → Parsed A) where
  -- a head of n bytes and what follows are accepted: the head fits, is fine, and what follows is accepted
  pub head_ok : {x : A} {r : List ℕ} → (part n fine (λ h. h) bs then f) ≡ ok x r → (n ≤ length bs) × (fine bs ≡ true) × (f bs (drop n bs) ≡ ok x r)
  head_ok {x} {r} e =
      let t = then_ok (part n fine (λ h. h) bs) f e in
      let u = part_ok n fine (λ h. h) bs t.2 in
      (u.fits, u.passes, ap₂ f u.says u.leaves ∙ t.3)

  -- a head of n bytes that fits and is fine
  pub head_reads : n ≤ length bs → fine bs ≡ true → (part n fine (λ h. h) bs then f) ≡ f bs (drop n bs)
  head_reads h e = rw (part_reads n fine (λ h. h) bs h e)

-- ## The first bytes

-- n bytes from number i on
abbrev pub from : List ℕ → ℕ → ℕ → List ℕ
from bs i zero = []
from bs i (suc n) = byte bs i ∷ from bs (suc i) n

-- a list is its bytes from number i on and what is left
pub from_rest : (bs : List ℕ) (i n : ℕ) → i + n ≤ length bs → drop i bs ≡ from bs i n ++ drop (i + n) bs
from_rest bs i zero h = let e : i + 0 ≡ i = omega arith in rw e
from_rest bs i (suc n) h =
    let e : i + suc n ≡ suc i + n = omega arith in
    let t = from_rest bs (suc i) n (omega arith) in
    rw e (drop-cons bs i 0 (omega arith) ∙ ap (λ l. byte bs i ∷ l) t)

-- a list of n bytes or more is its first n bytes and what is left
pub firsts_rest : (n : ℕ) (bs : List ℕ) → n ≤ length bs → bs ≡ from bs 0 n ++ drop n bs
firsts_rest n bs h =
    let e : 0 + n ≡ n = omega arith in
    let t = from_rest bs 0 n (omega arith) in
    rw e at t

-- what is left of a list of bytes are bytes
pub bytes_drop : (n : ℕ) {bs : List ℕ} → Bytes bs → Bytes (drop n bs)
bytes_drop zero a = a
bytes_drop (suc n) empty = empty
bytes_drop (suc n) (more h a) = bytes_drop n a

-- two parts and what is left, one after the other
pub joined : (a b r : List ℕ) {bs q : List ℕ} → bs ≡ a ++ q → q ≡ b ++ r → bs ≡ a ++ b ++ r
joined a b r d e = d ∙ ap (λ l. a ++ l) e ∙ sym (append_assoc a b r)

-- ## Readers that agree with bytes

-- what a reading says: the value is in its limits, the bytes are its bytes and the rest, and the rest are bytes
pub record Said {A : Type 0} (In : A → Type 0) (f : A → List ℕ) (bs : List ℕ) (x : A) (r : List ℕ) : Type 0 where
  pub within : In x
  pub same : bs ≡ f x ++ r
  pub bytes : Bytes r

-- the same, of an equal value and an equal rest
pub said_is : {A : Type 0} {In : A → Type 0} {f : A → List ℕ} {bs : List ℕ} {x y : A} {q r : List ℕ} → x ≡ y → q ≡ r → Said In f bs x q → Said In f bs y r
said_is {In = In} {f = f} {bs = bs} d e h = subst₂ (Said In f bs) d e h

-- a reader agrees with the bytes of a kind of part: what is written is read, and what is read is written so
pub record Agrees {A : Type 0} (p : List ℕ → Parsed A) (In : A → Type 0) (f : A → List ℕ) : Type 0 where
  pub reads : (x : A) (r : List ℕ) → In x → p (f x ++ r) ≡ ok x r
  pub wrote : (bs : List ℕ) (x : A) (r : List ℕ) → Bytes bs → p bs ≡ ok x r → Said In f bs x r

module _ {A : Type 0} (n : ℕ) (fine : List ℕ → Bool) (value : List ℕ → A) (In : A → Type 0) (f : A → List ℕ)
    (sized : (x : A) → length (f x) ≡ n)
    (put : (x : A) (r : List ℕ) → In x → (fine (f x ++ r) ≡ true) × (value (f x ++ r) ≡ x))
    (got : (bs : List ℕ) → Bytes bs → fine bs ≡ true → In (value bs) × (from bs 0 n ≡ f (value bs))) where
  -- a part of n bytes agrees if its tests and its value do
  pub part_agrees : Agrees (part n fine value) In f
  part_agrees = record { reads = reads; wrote = wrote }
    where
      reads : (x : A) (r : List ℕ) → In x → part n fine value (f x ++ r) ≡ ok x r
      reads x r h =
          let t = put x r h in
          let e = part_reads n fine value (f x ++ r) (simp length-append (omega (arith, sized x))) t.0 in
          e ∙ ap₂ ok t.1 (drop_at (f x) r n (sized x))

      wrote : (bs : List ℕ) (x : A) (r : List ℕ) → Bytes bs → part n fine value bs ≡ ok x r → Said In f bs x r
      wrote bs x r a e =
          let h = part_ok n fine value bs e in
          let g = got bs a h.passes in
          let s = firsts_rest n bs h.fits in
          let t : bs ≡ f x ++ r = s ∙ ap₂ (λ p q. p ++ q) (g.1 ∙ ap f h.says) h.leaves in
          record { within = subst In h.says g.0; same = t; bytes = all_after (f x) (subst Bytes t a) }

-- n values, each in its limits
abbrev pub Counted : {A : Type 0} → (A → Type 0) → ℕ → List A → Type 0
Counted In n xs = (length xs ≡ n) × All In xs

module _ {A : Type 0} (p : List ℕ → Parsed A) (In : A → Type 0) (f : A → List ℕ) (k : Agrees p In f) where
  -- several parts written are read back
  many_reads : {xs : List A} → All In xs → (r : List ℕ) → many p (length xs) (each f xs ++ r) ≡ ok xs r
  unfolding many each
  many_reads empty r = refl
  many_reads (more {x = x} {xs = xs} h a) r =
      rw (append_assoc, k.reads x (each f xs ++ r) h, many_reads a r)

  -- one more part
  said_more : {n : ℕ} {bs q r : List ℕ} {x : A} {xs : List A} → Said In f bs x q → Said (Counted In n) (each f) q xs r → Said (Counted In (suc n)) (each f) bs (x ∷ xs) r
  unfolding each
  said_more {bs = bs} {r = r} {x = x} {xs = xs} h t =
      record {
        within = (ap suc t.within.0, more h.within t.within.1);
        same = joined (f x) (each f xs) r h.same t.same;
        bytes = t.bytes;
      }

  -- several parts read are written so
  many_wrote : (n : ℕ) (bs : List ℕ) (xs : List A) (r : List ℕ) → Bytes bs → many p n bs ≡ ok xs r → Said (Counted In n) (each f) bs xs r
  unfolding many each
  many_wrote zero bs xs r a e =
      let q = ok_same e in
      said_is q.0 q.1 (record { within = (refl, empty); same = refl; bytes = a })
  many_wrote (suc n) bs xs r a e =
      let t = then_ok (p bs) _ e in
      let u = k.wrote bs t.0 t.1 a t.2 in
      let v = then_ok (many p n t.1) _ t.3 in
      let w = many_wrote n t.1 v.0 v.1 u.bytes v.2 in
      let q = ok_same v.3 in
      said_is q.0 q.1 (said_more u w)

  -- n parts of a kind that agrees agree
  pub many_agrees : (n : ℕ) → Agrees (many p n) (Counted In n) (each f)
  many_agrees n = record { reads = λ xs r h. rw (← h.0) (many_reads h.1 r); wrote = many_wrote n }
