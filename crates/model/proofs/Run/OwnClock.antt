-- Tests on a node's own clock as tests on the common tick: a time of the node, moved by its offset, against the tick. Assumes nothing.
use mathlib.Core.Path.{◌≡◌, refl}
use mathlib.Core.Bool.{Bool, true, false, ◌&&◌}
use Prim.Native.Nat.{ℕ, ◌+◌, ◌-◌, ◌≤◌}
use native.Mathlib.Omega.{arith}
use borrow.Author.Tests.{leb-true, leb-false, le-leb, eqb-true, eqb-false, eq-eqb, ne_eqb, ltb-true, ltb-false, lt-ltb, le-ltb}
use lib.Dec.{leb, ltb, eqb}
use Rattle.model.specs.Run.{Setting, offset_of, own_tick, awake}

-- due by its clock, and awake
pub due_shifted : (o due tick : ℕ) → eqb (due + o) tick ≡ (leb o tick && eqb (tick - o) due)
due_shifted o due tick = go (leb o tick) refl
  where
    same : (x : Bool) → o ≤ tick → eqb (tick - o) due ≡ x → eqb (due + o) tick ≡ x
    same true l q = eq-eqb (due + o) tick (let z = eqb-true (tick - o) due q in omega arith)
    same false l q = ne_eqb (due + o) tick (λ e. eqb-false (tick - o) due q (omega arith))

    go : (x : Bool) → leb o tick ≡ x → eqb (due + o) tick ≡ (x && eqb (tick - o) due)
    go true q = same (eqb (tick - o) due) (leb-true o tick q) refl
    go false q = ne_eqb (due + o) tick (λ e. let z = leb-false o tick q in omega arith)

-- late by its clock; while it is asleep it never is
pub late_shifted : (o last tick : ℕ) → ltb (last + o) tick ≡ ltb last (tick - o)
late_shifted o last tick = go (ltb last (tick - o)) refl
  where
    go : (x : Bool) → ltb last (tick - o) ≡ x → ltb (last + o) tick ≡ x
    go true q = lt-ltb (last + o) tick (let z = ltb-true last (tick - o) q in omega arith)
    go false q = le-ltb (last + o) tick (let z = ltb-false last (tick - o) q in omega arith)

-- a node without an offset goes by the common tick, and is awake
pub own_zero : (g : Setting) (c tick : ℕ) → offset_of g c ≡ 0 → own_tick g c tick ≡ tick
own_zero g c tick e = omega arith

pub awake_zero : (g : Setting) (c tick : ℕ) → offset_of g c ≡ 0 → awake g c tick ≡ true
awake_zero g c tick e = le-leb (offset_of g c) tick (omega arith)
