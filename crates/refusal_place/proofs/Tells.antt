-- The walk and the reader tell the same: one part, many of them, one after the other. Assumes nothing.
use mathlib.Core.Path.{◌≡◌, refl, sym, ◌∙◌}
use mathlib.Core.Bool.{Bool, true, false, cond}
use mathlib.Core.List.{List, [], ◌∷◌}
use Prim.Native.Nat.{ℕ, zero, suc, ◌≤◌}
use native.Mathlib.Omega.{arith}
use Rattle.model.specs.Reader.{Parsed, ok, fault, ◌then◌, many}
use Rattle.parts.specs.Place.{Rest, left, failed, skim}
use Rattle.refusal_place.specs.Walk.{going, counted}
use Rattle.refusal_place.specs.Told.{Fault}
use Rattle.refusal_place.specs.declared.Walk.{Walk}
use Rattle.refusal_place.proofs.Rests.{rest}
use Rattle.refusal_place.proofs.OneTest.{counted_stays}

-- ## The walk tells what a reading says

module _ (bs : List ℕ) (end c : ℕ) where
  -- what is left at the walk's place, or the number of the question that stopped it
  abbrev pub view : Walk → Rest
  view w = cond (going w) (left (rest bs end w.at)) (failed w.place.number)

  pub record Tells {A : Type 0} (m : Parsed A) (w : Walk) : Type 0 where
    pub says : skim m ≡ view w
    pub within : w.at ≤ end
    pub faulty : going w ≡ false → Fault bs c w.place

  -- it goes on with what is left
  pub goes : {A : Type 0} (a : A) (w : Walk) → going w ≡ true → w.at ≤ end → Tells (ok a (rest bs end w.at)) w
  goes a w g h = record { says = rw g; within = h; faulty = λ e. absurd (clash (sym g ∙ e)) }
    where
      clash : true ≡ false → ⊥
      clash e = let z : ◌≡◌ {A = ℕ} 0 1 = cc in omega arith

  -- it has stopped
  pub stopped : {A : Type 0} (n : ℕ) (w : Walk) → going w ≡ false → w.place.number ≡ n → w.at ≤ end → Fault bs c w.place → Tells {A = A} (fault n) w
  stopped n w g e h f = record { says = rw (g, e); within = h; faulty = λ _. f }

  pub maps : {A B : Type 0} (m : Parsed A) (f : A → B) (w : Walk) → Tells m w → Tells (m then λ a r. ok (f a) r) w
  maps (ok a r) f w t = record { says = t.says; within = t.within; faulty = t.faulty }
  maps (fault n) f w t = record { says = t.says; within = t.within; faulty = t.faulty }

  -- one reading after the other
  pub chain : {A B : Type 0} (m : Parsed A) (f : A → List ℕ → Parsed B) (w : Walk) (g : Walk → Walk) → Tells m w
      → ((a : A) → going w ≡ true → Tells (f a (rest bs end w.at)) (g w)) → (going w ≡ false → g w ≡ w) → Tells (m then f) (g w)
  chain m f w g t on off = go m (going w) refl t.says
    where
      go : (m : Parsed _) (b : Bool) → going w ≡ b → skim m ≡ view w → Tells (m then f) (g w)
      go (ok a r) true e q =
          let z : left r ≡ left (rest bs end w.at) = q ∙ rw e in
          let y : r ≡ rest bs end w.at = cc in
          rw y (on a e)
      go (ok a r) false e q = let z : left r ≡ failed w.place.number = q ∙ rw e in let y : ◌≡◌ {A = ℕ} 0 1 = cc in absurd (omega arith)
      go (fault n) true e q = let z : failed n ≡ left (rest bs end w.at) = q ∙ rw e in let y : ◌≡◌ {A = ℕ} 0 1 = cc in absurd (omega arith)
      go (fault n) false e q =
          let z : failed n ≡ failed w.place.number = q ∙ rw e in
          let y : w.place.number ≡ n = cc in
          rw (off e) (stopped n w e y t.within (t.faulty e))

  -- many parts of one kind
  pub many_tell : {A : Type 0} (R : List ℕ → Parsed A) (g : ℕ → Walk → Walk)
      → ((i : ℕ) (w : Walk) → going w ≡ true → w.at ≤ end → Tells (R (rest bs end w.at)) (g i w))
      → ((i : ℕ) (w : Walk) → going w ≡ false → g i w ≡ w)
      → (n i : ℕ) (w : Walk) → going w ≡ true → w.at ≤ end → Tells (many R n (rest bs end w.at)) (counted g i n w)
  unfolding many counted
  many_tell R g each st zero i w e h = goes [] w e h
  many_tell R g each st (suc n) i w e h =
      let t = each i w e h in
      chain (R (rest bs end w.at)) (λ a r. many R n r then λ l q. ok (a ∷ l) q) (g i w) (counted g (suc i) n) t
      (λ a on. maps (many R n (rest bs end (g i w).at)) (λ l. a ∷ l) (counted g (suc i) n (g i w)) (many_tell R g each st n (suc i) (g i w) on t.within))
      (counted_stays g st (suc i) n (g i w))
