-- Finish ticks of a node's works (document 02, wish 9): lists of them, the works in which a node has a part, and the windows that they lie in. Assumes
-- nothing.
use mathlib.Core.Path.{◌≡◌, refl, sym, ap, subst, ◌∙◌}
use mathlib.Core.Bool.{Bool, true, false, cond, ◌||◌}
use mathlib.Core.List.{List, [], ◌∷◌, ◌++◌, map, append_assoc}
use mathlib.Core.Option.{Option, none, some}
use Prim.Native.Nat.{ℕ, suc, ◌+◌, ◌≤◌, ◌<◌}
use native.Mathlib.Omega.{arith}
use borrow.Author.Tests.{eqb-true, eqb-false}
use lib.Dec.{eqb}
use lib.ListN.{length, length-append}
use Rattle.model.specs.Lists.{only}
use Rattle.model.specs.Table.{Table, size}
use Rattle.model.specs.Schedule.{Passage}
use Rattle.model.specs.Network.{Work, one, two, Observation}
use Rattle.model.specs.Order.{work_tick}
use Rattle.model.specs.Run.{Setting, own_tick, Run, takes_part, finish_ticks, last_of, Written, with_ticks, written_in}
use Rattle.model.specs.Demand3.{Begins}
use Rattle.model.specs.Apart.{own_work}
use Rattle.model.specs.Finishes.{InWindows}
use Rattle.model.proofs.Basics.Members.{only_append}
use Rattle.model.proofs.Network.Reached.{map_append}
use Rattle.model.proofs.Network.Order.{Moved, Does, alone, both, Fires, Comes, stop, next}
use Rattle.model.proofs.Run.Tied.{shown_by}

-- ## Lists

-- the last of a list that ends with n
pub last_end : (z : ℕ) (ns : List ℕ) (n : ℕ) → last_of z (ns ++ (n ∷ [])) ≡ n
last_end z [] n = refl
last_end z (m ∷ ns) n = last_end m ns n

-- all but one of z and the numbers after it: the one left is the last
pub one_left : (xs rest : List ℕ) (z : ℕ) (ns : List ℕ) → xs ++ rest ≡ z ∷ ns → length xs ≡ length ns → xs ++ (last_of z ns ∷ []) ≡ z ∷ ns
one_left xs [] z ns e l = absurd (omega (arith, length-append xs [], ap length e))
one_left xs (x ∷ []) z ns e l =
    let same : last_of z ns ≡ x = sym (ap (last_of 0) e) ∙ last_end 0 xs x in
    ap (λ (n : ℕ). xs ++ (n ∷ [])) same ∙ e
one_left xs (x ∷ y ∷ rest) z ns e l = absurd (omega (arith, length-append xs (x ∷ y ∷ rest), ap length e))

-- still the first of a longer list
pub begins_longer : {A : Type 0} {xs ys : List A} (zs : List A) → Begins xs ys → Begins xs (ys ++ zs)
begins_longer {xs = xs} {ys = ys} zs b =
    record { rest = b.rest ++ zs; is = sym (append_assoc xs b.rest zs) ∙ ap (λ l. l ++ zs) b.is }

-- observations and ticks, joined
pub with_ticks_join : (os ps : List Observation) (fs hs : List ℕ) → length fs ≡ length os
    → with_ticks (os ++ ps) (fs ++ hs) ≡ with_ticks os fs ++ with_ticks ps hs
with_ticks_join [] ps [] hs e = refl
with_ticks_join [] ps (f ∷ fs) hs e = absurd (omega arith)
with_ticks_join (o ∷ os) ps [] hs e = absurd (omega arith)
with_ticks_join (o ∷ os) ps (f ∷ fs) hs e =
    ap (λ (l : List Written). record { observation = o; previous = f } ∷ l) (with_ticks_join os ps fs hs (omega arith))

-- as many
pub with_ticks_length : (os : List Observation) (fs : List ℕ) → length fs ≡ length os → length (with_ticks os fs) ≡ length os
with_ticks_length [] fs e = refl
with_ticks_length (o ∷ os) [] e = absurd (omega arith)
with_ticks_length (o ∷ os) (f ∷ fs) e = ap suc (with_ticks_length os fs (omega arith))

-- those of node c
abbrev pub is_of : ℕ → Written → Bool
is_of c w = eqb w.observation.component c

-- their ticks
abbrev pub noted : ℕ → Run → List ℕ
noted c s = map (λ w. w.previous) (only (is_of c) (written_in s))

-- one for each observation of node c
pub noted_count : (c : ℕ) (os : List Observation) (fs : List ℕ) → length fs ≡ length os
    → length (map (λ (w : Written). w.previous) (only (is_of c) (with_ticks os fs))) ≡ length (shown_by c os)
noted_count c [] fs e = refl
noted_count c (o ∷ os) [] e = absurd (omega arith)
noted_count c (o ∷ os) (f ∷ fs) e = go (eqb o.component c) (noted_count c os fs (omega arith))
  where
    go : (x : Bool) → length (map (λ (w : Written). w.previous) (only (is_of c) (with_ticks os fs))) ≡ length (shown_by c os)
        → length
        (map (λ (w : Written). w.previous)
        (cond x (record { observation = o; previous = f } ∷ only (is_of c) (with_ticks os fs)) (only (is_of c) (with_ticks os fs))))
        ≡ length (cond x (o ∷ shown_by c os) (shown_by c os))
    go true h = ap suc h
    go false h = h

-- ## Works

-- the ticks of works joined
pub finish_join : (g : Setting) (c : ℕ) (ws us : List Work) → finish_ticks g c (ws ++ us) ≡ finish_ticks g c ws ++ finish_ticks g c us
finish_join g c ws us =
    ap (map (λ w. own_tick g c (work_tick w))) (only_append (takes_part c) ws us)
    ∙ map_append (λ w. own_tick g c (work_tick w)) (only (takes_part c) ws) (only (takes_part c) us)

-- by the nodes' own clocks node c has a part in the same works
pub own_part : (g : Setting) (c : ℕ) (ws : List Work) → length (only (takes_part c) (map (own_work g) ws)) ≡ length (finish_ticks g c ws)
own_part g c [] = refl
own_part g c (one d k ∷ ws) = go (eqb d c) (own_part g c ws)
  where
    go : (x : Bool) → length (only (takes_part c) (map (own_work g) ws)) ≡ length (finish_ticks g c ws)
        → length (cond x (one d (own_tick g d k) ∷ only (takes_part c) (map (own_work g) ws)) (only (takes_part c) (map (own_work g) ws)))
        ≡ length (map (λ (w : Work). own_tick g c (work_tick w)) (cond x (one d k ∷ only (takes_part c) ws) (only (takes_part c) ws)))
    go true h = ap suc h
    go false h = h
own_part g c (two a b k t ∷ ws) = go (eqb a c || eqb b c) (own_part g c ws)
  where
    go : (x : Bool) → length (only (takes_part c) (map (own_work g) ws)) ≡ length (finish_ticks g c ws)
        → length (cond x (two a b k (own_tick g a t) ∷ only (takes_part c) (map (own_work g) ws)) (only (takes_part c) (map (own_work g) ws)))
        ≡ length (map (λ (w : Work). own_tick g c (work_tick w)) (cond x (two a b k t ∷ only (takes_part c) ws) (only (takes_part c) ws)))
    go true h = ap suc h
    go false h = h

-- a passage less for each work in which node c has a part
module _ {T : Table} (c : ℕ) (h : c < size T) where
  -- of one work
  took : {w : Work} {A B : ℕ → List Passage} → Fires T w A B → length (cond (takes_part c w) (w ∷ []) []) + length (B c) ≡ length (A c)
  took {w} {A} {B} f = go f.is
    where
      gone : (v : Passage) → f.at c ≡ some v → length (A c) ≡ suc (length (B c))
      gone v e = ap length (subst (λ (x : Option Passage). Moved x (A c) (B c)) e (f.moved c h))

      kept : f.at c ≡ none → length (A c) ≡ length (B c)
      kept e = sym (ap length (subst (λ (x : Option Passage). Moved x (A c) (B c)) e (f.moved c h)))

      go : {w : Work} → Does T f.at w → length (cond (takes_part c w) (w ∷ []) []) + length (B c) ≡ length (A c)
      go (alone d τ hd v e others a) = by (eqb d c) refl
        where
          by : (x : Bool) → eqb d c ≡ x → length (cond x (one d τ ∷ []) []) + length (B c) ≡ length (A c)
          by true q = omega (arith, gone v (subst (λ n. f.at n ≡ some v) (eqb-true d c q) e))
          by false q = omega (arith, kept (others c h (λ i. eqb-false d c q (sym i))))
      go (both a b k τ ha hb v w e i others p) = by (eqb a c) refl (eqb b c) refl
        where
          by : (x : Bool) → eqb a c ≡ x → (y : Bool) → eqb b c ≡ y → length (cond (x || y) (two a b k τ ∷ []) []) + length (B c) ≡ length (A c)
          by true q y r = omega (arith, gone v (subst (λ n. f.at n ≡ some v) (eqb-true a c q) e))
          by false q true r = omega (arith, gone w (subst (λ n. f.at n ≡ some w) (eqb-true b c r) i))
          by false q false r = omega (arith, kept (others c h (λ j. eqb-false a c q (sym j)) (λ j. eqb-false b c r (sym j))))

  -- of all
  pub took_all : {A Z : ℕ → List Passage} {ws : List Work} → Comes T A ws Z → length (only (takes_part c) ws) + length (Z c) ≡ length (A c)
  took_all (stop e) = omega (arith, ap length (e c h))
  took_all {A} {Z} (next {B = B} {w = w} {ws = ws} f k) = go (takes_part c w) (took f) (took_all k)
    where
      go : (x : Bool) → length (cond x (w ∷ []) []) + length (B c) ≡ length (A c) → length (only (takes_part c) ws) + length (Z c) ≡ length (B c)
          → length (cond x (w ∷ only (takes_part c) ws) (only (takes_part c) ws)) + length (Z c) ≡ length (A c)
      go true p q = omega arith
      go false p q = omega arith

-- ## Windows

-- one tick more, in the window of the passage that is next
pub in_next : (fs : List ℕ) (f : ℕ) (fin : List Passage) (v : Passage) (vs : List Passage)
    → length fs ≡ length fin → InWindows fs (fin ++ (v ∷ vs)) → v.ready ≤ f → f ≤ v.end
    → InWindows (fs ++ (f ∷ [])) (fin ++ (v ∷ vs))
in_next [] f [] v vs l a p q = (p, q, tt)
in_next [] f (u ∷ fin) v vs l a p q = absurd (omega arith)
in_next (g ∷ fs) f [] v vs l a p q = absurd (omega arith)
in_next (g ∷ fs) f (u ∷ fin) v vs l a p q = (a.0, a.1, in_next fs f fin v vs (omega arith) a.2 p q)

-- the first of such ticks
pub in_fewer : (fs rest : List ℕ) (vs : List Passage) → InWindows (fs ++ rest) vs → InWindows fs vs
in_fewer [] rest vs a = tt
in_fewer (f ∷ fs) rest [] a = absurd a
in_fewer (f ∷ fs) rest (v ∷ vs) a = (a.0, a.1, in_fewer fs rest vs a.2)
