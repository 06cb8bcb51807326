-- The lines of the windows that met. Assumes nothing.
use mathlib.Core.Path.{◌≡◌, refl, sym, ap, ◌∙◌}
use mathlib.Core.Bool.{Bool, true, cond, ◌&&◌}
use mathlib.Core.List.{List, [], ◌++◌}
use Prim.Native.Nat.{ℕ, zero, suc, ◌+◌, ◌-◌, ◌≤◌, ◌<◌}
use native.Mathlib.Nat.{not-suc-le-zero}
use native.Mathlib.Omega.{arith}
use borrow.Author.Tests.{ltb-true, eq-eqb, ne_eqb}
use lib.Dec.{eqb, leb, ltb}
use lib.ListN.{length, drop}
use Rattle.model.specs.Lists.{each}
use Rattle.model.specs.Reader.{byte}
use Rattle.model.proofs.Basics.Bools.{and_is}
use Rattle.text.specs.Words.{told}
use Rattle.verdict_text.specs.VerdictText.{Met, met_at, mets_of, met_line, met_lines, fault_text, nobody_remedy, listener_remedy, remedy_text, band_told, band_line, band_text, meetings_text}

pub one_met : (G number : ℕ) (fault : Met) (list : List ℕ) (n : ℕ) → n ≡ 1 → met_lines G number fault (mets_of list 0) ≡ met_lines G number fault (mets_of list (n - 1))
one_met G number fault list n e = let p : 0 ≡ n - 1 = omega (arith, e) in ap (λ (m : ℕ). met_lines G number fault (mets_of list m)) p

some_met : (G number : ℕ) (fault : Met) (list : List ℕ) (m : ℕ) → 1 ≤ m → each (met_line G number fault) (mets_of list m) ≡ met_lines G number fault (mets_of list m)
unfolding told
some_met G number fault list zero h = absurd (not-suc-le-zero h)
some_met G number fault list (suc m) h = refl

pub more_met : (G number : ℕ) (fault : Met) (list : List ℕ) (n : ℕ) → 1 ≤ n → (n ≡ 1 → ⊥)
    → each (met_line G number fault) (mets_of list (n - 1)) ≡ met_lines G number fault (mets_of list (n - 1))
more_met G number fault list n h k = some_met G number fault list (n - 1) (omega (arith, k))

-- the window at fault comes first
pub first_at_fault : (G number : ℕ) (list : List ℕ) (n : ℕ) → (n ≡ 0 → ⊥)
    → fault_text G number (met_at list) ++ met_lines G number (met_at list) (mets_of (drop 7 list) (n - 1)) ++ remedy_text G number (met_at list) (mets_of (drop 7 list) (n - 1))
    ≡ meetings_text G number (mets_of list n)
unfolding meetings_text told
first_at_fault G number list n h =
    let p : suc (n - 1) ≡ n = omega (arith, h) in ap (λ (m : ℕ). meetings_text G number (mets_of list m)) p

-- the remedy, where a window listens ..
pub listened : (G number : ℕ) (sent : Met) (list : List ℕ) (n : ℕ) → 2 ≤ n → listener_remedy G number sent (met_at list) ≡ remedy_text G number sent (mets_of list (n - 1))
unfolding remedy_text told
listened G number sent list n h =
    let p : suc (n - 2) ≡ n - 1 = omega (arith, h) in ap (λ (m : ℕ). remedy_text G number sent (mets_of list m)) p

-- .. where none does ..
pub unlistened : (G number : ℕ) (sent : Met) (list : List ℕ) (n : ℕ) → number ≡ 11 → n < 2 → nobody_remedy G sent ≡ remedy_text G number sent (mets_of list (n - 1))
unfolding remedy_text told
unlistened G number sent list n e h =
    let p : 0 ≡ n - 1 = omega (arith, h) in
    sym (ap (λ (t : Bool). cond t (nobody_remedy G sent) []) (eq-eqb number 11 e)) ∙ ap (λ (m : ℕ). remedy_text G number sent (mets_of list m)) p

-- .. and where nothing is said
pub no_remedy : (G number : ℕ) (sent : Met) (list : List ℕ) (n : ℕ) → (number ≡ 11 → ⊥) → n < 2 → [] ≡ remedy_text G number sent (mets_of list (n - 1))
unfolding remedy_text told
no_remedy G number sent list n e h =
    let p : 0 ≡ n - 1 = omega (arith, h) in
    sym (ap (λ (t : Bool). cond t (nobody_remedy G sent) []) (ne_eqb number 11 e)) ∙ ap (λ (m : ℕ). remedy_text G number sent (mets_of list m)) p

-- a band that is told stands in the table
pub told_inside : (table : List ℕ) (number channel : ℕ) → band_told table number channel ≡ true → 7 + channel < length table
told_inside table number channel e =
    let h = (and_is (eqb number 10 && ltb (7 + channel) (length table)) (leb 2 (byte table 0))).0 e in
    ltb-true (7 + channel) (length table) ((and_is (eqb number 10) (ltb (7 + channel) (length table))).0 h.0).1

-- it is that of the first window
pub first_band : (table : List ℕ) (number : ℕ) (list : List ℕ) (n : ℕ) → (n ≡ 0 → ⊥) → band_line table number (met_at list).channel ≡ band_text table number (mets_of list n)
unfolding band_text told
first_band table number list n h = let p : suc (n - 1) ≡ n = omega (arith, h) in ap (λ (m : ℕ). band_text table number (mets_of list m)) p
