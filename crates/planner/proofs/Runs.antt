-- Runs of bytes put one after the other, and a loop that puts them. Assumes nothing.
use mathlib.Core.Path.{◌≡◌, refl, sym, ap, subst, ◌∙◌}
use mathlib.Core.List.{List, [], ◌∷◌, ◌++◌}
use Prim.Native.Nat.{ℕ, suc, ◌+◌, ◌≤◌}
use native.Mathlib.Nat.{add-zero, add-suc, suc-add}
use native.Mathlib.Numerals.{towards_suc}
use native.Mathlib.Omega.{arith}
use lib.ListN.{length, set, drop, length-append}
use lib.Seq.{sets, length-sets, sets-eq}
use Rattle.planner.specs.Put.{Put}

-- a run of stores after a run of stores
pub sets_append : (xs ys l : List ℕ) (i : ℕ) → sets l i (xs ++ ys) ≡ sets (sets l i xs) (i + length xs) ys
sets_append [] ys l i = rw add-zero
sets_append (x ∷ xs) ys l i = rw (add-suc, ← suc-add) (sets_append xs ys (set l i x) (suc i))

-- the same bytes
pub put_is : {old new xs ys : List ℕ} {at next : ℕ} → xs ≡ ys → Put old at xs next new → Put old at ys next new
put_is {old} {new} {at = at} {next = next} e h = subst (λ (bytes : List ℕ). Put old at bytes next new) e h

-- one byte
pub put_one : (old : List ℕ) (at byte : ℕ) → Put old at (byte ∷ []) (at + 1) (set old at byte)
put_one old at byte = record { ends = refl; same = refl }

-- two bytes
pub put_two : (old : List ℕ) (at first second : ℕ) → Put old at (first ∷ second ∷ []) (at + 2) (set (set old at first) (at + 1) second)
put_two old at first second = record { ends = refl; same = simp towards_suc }

module _ {old new xs : List ℕ} {at next : ℕ} (h : Put old at xs next new) where
  -- a run after a run
  pub put_join : {later ys : List ℕ} {last : ℕ} → Put new next ys last later → Put old at (xs ++ ys) last later
  put_join {later} {ys} {last} k =
      record {
        ends = omega (arith, h.ends, k.ends, length-append xs ys);
        same = k.same ∙ rw (h.ends, h.same) (sym (sets_append xs ys old at));
      }

  -- the slice is as long as it was
  pub put_long : length new ≡ length old
  put_long = ap length h.same ∙ length-sets old at xs

-- what was put from the front on, and the rest as it was
pub put_front : {old new bytes : List ℕ} {next : ℕ} → Put old 0 bytes next new → length bytes ≤ length old → new ≡ bytes ++ drop (length bytes) old
put_front {old} {new} {bytes} h r = h.same ∙ sets-eq bytes old 0 (omega arith) ∙ (let e : 0 + length bytes ≡ length bytes = omega arith in ap (λ (k : ℕ). bytes ++ drop k old) e)

-- ## A loop

-- what is left to put, from this place on, makes the whole
pub record Putting (old : List ℕ) (from : ℕ) (all now : List ℕ) (at : ℕ) (left : List ℕ) : Type 0 where
  pub same : sets now at left ≡ sets old from all
  pub ends : at + length left ≡ from + length all

pub put_begin : (old : List ℕ) (from : ℕ) (all : List ℕ) → Putting old from all old from all
put_begin old from all = record { same = refl; ends = refl }

module _ {old all now : List ℕ} {from at : ℕ} where
  -- what is left, seen otherwise
  pub left_is : {xs ys : List ℕ} → xs ≡ ys → Putting old from all now at xs → Putting old from all now at ys
  left_is e h = subst (λ (left : List ℕ). Putting old from all now at left) e h

  -- a turn: the first of what is left is put
  pub put_on : {xs new : List ℕ} {next : ℕ} (ys : List ℕ) → Putting old from all now at (xs ++ ys) → Put now at xs next new → Putting old from all new next ys
  put_on {xs} ys h k =
      record {
        same = rw (k.ends, k.same) (sym (sets_append xs ys now at) ∙ h.same);
        ends = omega (arith, h.ends, k.ends, length-append xs ys);
      }

  -- nothing is left
  pub put_all : Putting old from all now at [] → Put old from all at now
  put_all h = record { ends = omega (arith, h.ends); same = h.same }

  -- the slice is as long as it was
  pub putting_long : {left : List ℕ} → Putting old from all now at left → length now ≡ length old
  putting_long {left} h = omega (arith, ap length h.same, length-sets now at left, length-sets old from all)
