-- A trial and the edge kept: the candidate rule, case by case, and both in the words of the definitions. Assumes nothing.
use mathlib.Core.Path.{◌≡◌, refl}
use mathlib.Core.Bool.{Bool, true, false, ◌&&◌}
use Prim.Native.Nat.{ℕ, ◌-◌, ◌≤◌, ◌<◌}
use borrow.Author.Tests.{leb-true, leb-false, lt-ltb, le-ltb}
use lib.Dec.{leb, ltb}
use Rattle.model.specs.Machine.{lowered, met, spans, keeps}
use Rattle.node.specs.declared.Trial.{Trial}
use Rattle.node.specs.declared.Kept.{Kept}
use Rattle.node.specs.After.{lowered_to, met_by, spans_by, kept_by}
use Rattle.node.specs.Views.{trial_of, kept_of}

-- the end lowered
pub lowered_is : (x : Trial) (k clock : ℕ) → trial_of (lowered_to x k clock) ≡ lowered (trial_of x) k clock
lowered_is x k clock = go x.ended refl
  where
    go : (t : Bool) → x.ended ≡ t → trial_of (lowered_to x k clock) ≡ lowered (trial_of x) k clock
    go true e = rw e
    go false e = rw e

-- a window that is too short
pub spanned_is : (x : Trial) (k : ℕ) → trial_of (met_by x (spans_by x k)) ≡ met (trial_of x) (spans (trial_of x) k (trial_of x).end)
spanned_is x k = go x.ended refl
  where
    go : (t : Bool) → x.ended ≡ t → trial_of (met_by x (spans_by x k)) ≡ met (trial_of x) (spans (trial_of x) k (trial_of x).end)
    go true e = rw e
    go false e = rw e

module _ (x : Trial) (e : ℕ) (k : Kept) where
  -- a trial without an end keeps nothing
  pub keep_open : x.ended ≡ false → kept_by x e k ≡ k
  keep_open o = rw o

  -- nor one with a bound that failed
  pub keep_bad : x.ended ≡ true → x.good ≡ false → kept_by x e k ≡ k
  keep_bad o g = rw (o, g)

  -- nor one whose window is empty
  pub keep_narrow : x.ended ≡ true → x.good ≡ true → x.end ≤ x.ready → kept_by x e k ≡ k
  keep_narrow o g h = rw (o, g, le-ltb x.ready x.end h)

  -- nor one that is ready no earlier than the edge kept
  pub keep_later : x.ended ≡ true → x.good ≡ true → x.ready < x.end → k.some && leb k.ready x.ready ≡ true → kept_by x e k ≡ k
  keep_later o g h l = rw (o, g, lt-ltb x.ready x.end h, l)

  -- any other is kept
  pub keep_new : x.ended ≡ true → x.good ≡ true → x.ready < x.end → k.some && leb k.ready x.ready ≡ false
      → kept_by x e k ≡ record { some = true; edge = e; ready = x.ready; end = x.end }
  keep_new o g h l = rw (o, g, lt-ltb x.ready x.end h, l)

  -- the edge kept afterwards
  pub kept_is : kept_of (kept_by x e k) ≡ keeps (trial_of x) e (trial_of x).end (kept_of k)
  kept_is = go x.ended refl x.good refl (ltb x.ready x.end) refl k.some refl (leb k.ready x.ready) refl
    where
      go : (o : Bool) → x.ended ≡ o → (g : Bool) → x.good ≡ g → (l : Bool) → ltb x.ready x.end ≡ l → (s : Bool) → k.some ≡ s
          → (b : Bool) → leb k.ready x.ready ≡ b → kept_of (kept_by x e k) ≡ keeps (trial_of x) e (trial_of x).end (kept_of k)
      go false eo g eg l el s es b eb = rw eo
      go true eo false eg l el s es b eb = rw (eo, eg)
      go true eo true eg false el s es b eb = rw (eo, eg, el)
      go true eo true eg true el false es b eb = rw (eo, eg, el, es)
      go true eo true eg true el true es true eb = rw (eo, eg, el, es, eb, le-ltb x.ready k.ready (leb-true k.ready x.ready eb))
      go true eo true eg true el true es false eb = rw (eo, eg, el, es, eb, lt-ltb x.ready k.ready (leb-false k.ready x.ready eb))
