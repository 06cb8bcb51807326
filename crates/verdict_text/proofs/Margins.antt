-- What the numbers of ticks in the words mean in the checks' own terms. Assumes nothing.
use mathlib.Core.Path.{◌≡◌, refl, sym, ◌∙◌}
use mathlib.Core.Bool.{Bool, true, false, ◌&&◌}
use Prim.Native.Nat.{ℕ, ◌+◌, ◌≤◌, ◌<◌}
use native.Mathlib.Omega.{arith}
use borrow.Author.Tests.{ltb-true, ltb-false, leb-true, leb-false, lt-ltb, le-ltb, le-leb, lt-leb, eq-eqb, ne_eqb}
use lib.Dec.{eqb, leb, ltb}
use Rattle.model.specs.Schedule.{Passage}
use Rattle.model.specs.Checks.{near, starts_earlier, ends_later}
use Rattle.spread_text.specs.SpreadWords.{lacking}
use Rattle.verdict_text.specs.VerdictText.{met_of, too_close}

and_true : (t : Bool) → (t && true) ≡ t
and_true true = refl
and_true false = refl

-- so many ticks more are enough, and no fewer
pub lacking_least : (G earlier later k : ℕ) → ltb (earlier + G) (later + k) ≡ leb (lacking G earlier later) k
lacking_least G earlier later k = go (leb (lacking G earlier later) k) refl
  where
    go : (t : Bool) → leb (lacking G earlier later) k ≡ t → ltb (earlier + G) (later + k) ≡ t
    go true e = let h = leb-true (lacking G earlier later) k e in lt-ltb (earlier + G) (later + k) (omega (arith, h))
    go false e = let h = leb-false (lacking G earlier later) k e in le-ltb (earlier + G) (later + k) (omega (arith, h))

lacking_none : (G earlier later : ℕ) → ltb (earlier + G) later ≡ eqb (lacking G earlier later) 0
lacking_none G earlier later = go (ltb (earlier + G) later) refl
  where
    go : (t : Bool) → ltb (earlier + G) later ≡ t → t ≡ eqb (lacking G earlier later) 0
    go true e = let h = ltb-true (earlier + G) later e in sym (eq-eqb (lacking G earlier later) 0 (omega (arith, h)))
    go false e = let h = ltb-false (earlier + G) later e in sym (ne_eqb (lacking G earlier later) 0 (λ z. omega (arith, h, z)))

-- the listener r starts early enough, ends late enough: 16 and 17
pub starts_early : (G : ℕ) (r s : Passage) → starts_earlier G r s ≡ eqb (lacking G r.ready s.ready) 0
starts_early G r s = lacking_none G r.ready s.ready

pub ends-late : (G : ℕ) (r s : Passage) → ends_later G r s ≡ eqb (lacking G s.end r.end) 0
ends-late G r s = lacking_none G s.end r.end

-- a window so many ticks later
abbrev pub moved : ℕ → Passage → Passage
moved k v = record { component = v.component; edge = v.edge; entry = v.entry; ready = v.ready + k; end = v.end + k; message = v.message }

-- of two windows the one that is ready later, moved: they are too close for as long as it is by fewer ticks
module _ (G : ℕ) (one other : Passage) (k : ℕ) (h : one.ready ≤ other.ready) (l : other.ready ≤ other.end) where
  before-end : leb (other.ready + k) (one.end + G) ≡ ltb k (lacking G one.end other.ready)
  before-end = go (ltb k (lacking G one.end other.ready)) refl
    where
      go : (t : Bool) → ltb k (lacking G one.end other.ready) ≡ t → leb (other.ready + k) (one.end + G) ≡ t
      go true e = let q = ltb-true k (lacking G one.end other.ready) e in le-leb (other.ready + k) (one.end + G) (omega (arith, q))
      go false e = let q = ltb-false k (lacking G one.end other.ready) e in lt-leb (other.ready + k) (one.end + G) (omega (arith, q))

  other_moved : near G one (moved k other) ≡ ltb k (lacking G one.end other.ready)
  other_moved = rw (le-leb one.ready (other.end + k + G) (omega arith)) before-end

  same_moved : near G (moved k other) one ≡ ltb k (lacking G one.end other.ready)
  same_moved = rw (le-leb one.ready (other.end + k + G) (omega arith)) (and_true _ ∙ before-end)

module _ (G : ℕ) (fault w : Passage) (k : ℕ) where
  pub still_near : fault.ready ≤ w.ready → w.ready ≤ w.end → near G fault (moved k w) ≡ ltb k (too_close G (met_of fault) (met_of w))
  still_near h l = rw (le-leb fault.ready w.ready h) (other_moved G fault w k h l)

  pub fault_still_near : w.ready < fault.ready → fault.ready ≤ fault.end → near G (moved k fault) w ≡ ltb k (too_close G (met_of fault) (met_of w))
  fault_still_near h l = rw (lt-leb fault.ready w.ready h) (same_moved G w fault k (omega arith) l)
