-- Guards and assignments of the edge at the front, as they are written. Assumes nothing.
use mathlib.Core.Path.{◌≡◌, refl, sym, ap, ap₂, ◌∙◌}
use mathlib.Core.Bool.{Bool, true, false, cond}
use mathlib.Core.List.{List, [], ◌∷◌, ◌++◌, map, append_assoc}
use Prim.Native.Nat.{ℕ, zero, suc, pred, ◌+◌, ◌*◌}
use native.Mathlib.Omega.{arith}
use borrow.Author.Tests.{ne_eqb}
use lib.Dec.{eqb}
use lib.ListN.{length, drop}
use Rattle.model.specs.declared.Location.{Location}
use Rattle.model.specs.declared.Update.{Update}
use Rattle.model.specs.Lists.{each, only, from}
use Rattle.model.specs.Table.{Arc}
use Rattle.model.specs.Window.{masked}
use Rattle.model.specs.Reader.{byte, clock_guard_at, data_guard_at, update_at}
use Rattle.model.specs.Places.{list_at, arc_head_length, items_place, items_length, updates_at, arc_at}
use Rattle.words.specs.Words.{ascii}
use Rattle.uppaal.specs.Xta.{Assignment, resets}
use Rattle.uppaal.specs.XtaText.{atom_text, each_after, listed, closed, guard_text, assign_text}
use Rattle.uppaal.specs.Export.{highs, uppers_from, lows, data_atoms, range_atoms, others, assignment_of, assignments_of}
use Rattle.uppaal_parts.specs.Marks.{mark_of, marked, upper_of, highs_text, lows_text, datas_text, ranges_text, led_text, updates_text, resets_text, still_first, none_of, highs_count}
use Rattle.uppaal_parts.proofs.Told.{after_append, highs_told, lows_told, datas_told, ranges_told, guard_told, led_listed, led_append, updates_told, resets_told, count_told}
use Rattle.uppaal_steps.specs.Steps.{uppers_text}

-- ## Guards

pub guard_out_told : (t : ℕ) (l : Location) (a : Arc) → ascii " guard " ++ (uppers_text t l a ++ ascii ";") ≡ guard_text (marked t (uppers_from l a))
unfolding uppers_text guard_text listed
guard_out_told t l a = refl

pub guard_in_told : (t : ℕ) (l : Location) (a : Arc)
    → ascii " guard " ++ (uppers_text t l a ++ (each_after " && " atom_text (others a) ++ ascii ";")) ≡ guard_text (marked t (uppers_from l a) ++ others a)
unfolding uppers_text
guard_in_told t l a =
    let x = mark_of t (upper_of l.clock l.bound) in
    let xs = marked (pred t) (highs a.clock_guards) in
    ap (λ (z : List ℕ). ascii " guard " ++ z) (append_assoc (atom_text x) (each_after " && " atom_text xs) (each_after " && " atom_text (others a) ++ ascii ";"))
    ∙ sym (guard_told x xs (others a))

module _ (b : Bool) (h : List ℕ) where
  pub uppers_told : (t : ℕ) (l : Location) → atom_text (mark_of t (upper_of l.clock l.bound)) ++ highs_text (pred t) (byte h 4) (drop (arc_head_length b) h) ≡ uppers_text t l (arc_at b h)
  unfolding uppers_text arc_at
  uppers_told t l = ap (λ (x : List ℕ). atom_text (mark_of t (upper_of l.clock l.bound)) ++ x) (highs_told (pred t) (byte h 4) (drop (arc_head_length b) h))

  pub conditions_told : lows_text (byte h 4) (drop (arc_head_length b) h) ++ (datas_text (byte h 5) (drop (arc_head_length b + byte h 4 * 5) h) ++ each_after " && " atom_text (range_atoms [] (arc_at b h).updates))
      ≡ each_after " && " atom_text (others (arc_at b h))
  unfolding others arc_at
  conditions_told =
      let L = lows (list_at clock_guard_at 5 (byte h 4) (drop (arc_head_length b) h)) in
      let D = data_atoms (list_at data_guard_at 5 (byte h 5) (drop (arc_head_length b + byte h 4 * 5) h)) in
      let R = range_atoms [] (arc_at b h).updates in
      ap₂ ◌++◌ (lows_told (byte h 4) (drop (arc_head_length b) h))
      (ap (λ (x : List ℕ). x ++ each_after " && " atom_text R) (datas_told (byte h 5) (drop (arc_head_length b + byte h 4 * 5) h)) ∙ sym (after_append " && " atom_text D R))
      ∙ sym (after_append " && " atom_text L (D ++ R))

  -- ## Updates, by the edge's kind

  the_updates : byte h 0 ≡ 0 → (arc_at b h).updates ≡ list_at update_at 4 (byte h 6) (drop (items_place b h) h)
  unfolding arc_at updates_at
  the_updates e = ap (λ (k : ℕ). updates_at k (byte h 6) (drop (items_place b h) h)) e

  no_updates : (byte h 0 ≡ 0 → ⊥) → (arc_at b h).updates ≡ []
  unfolding arc_at updates_at
  no_updates e = go (byte h 0) e
    where
      go : (k : ℕ) → (k ≡ 0 → ⊥) → updates_at k (byte h 6) (drop (items_place b h) h) ≡ []
      go zero f = absurd (f refl)
      go (suc k) f = refl

  -- they stand whole
  pub updates_long : byte h 0 ≡ 0 → items_length (byte h 0) (byte h 6) ≡ byte h 6 * 4
  updates_long e = ap (λ (k : ℕ). items_length k (byte h 6)) e

  pub highs_are : highs_count (byte h 4) (drop (arc_head_length b) h) ≡ length (highs (arc_at b h).clock_guards)
  unfolding arc_at
  highs_are = count_told (byte h 4) (drop (arc_head_length b) h)

  pub ranges_there : byte h 0 ≡ 0 → ranges_text (drop (items_place b h) h) 0 (byte h 6) ≡ each_after " && " atom_text (range_atoms [] (arc_at b h).updates)
  unfolding list_at
  ranges_there e =
      ranges_told (drop (items_place b h) h) 0 (byte h 6) ∙ ap (λ (us : List Update). each_after " && " atom_text (range_atoms [] us)) (sym (the_updates e))

  pub ranges_none : (byte h 0 ≡ 0 → ⊥) → [] ≡ each_after " && " atom_text (range_atoms [] (arc_at b h).updates)
  unfolding range_atoms each_after each
  ranges_none e = ap (λ (us : List Update). each_after " && " atom_text (range_atoms [] us)) (sym (no_updates e))

  counted : (n : ℕ) → eqb n 0 ≡ none_of true (list_at update_at 4 n (drop (items_place b h) h))
  unfolding list_at
  counted zero = refl
  counted (suc n) = ne_eqb (suc n) 0 (λ z. omega arith)

  pub updates_there : byte h 0 ≡ 0 → (updates_text true (byte h 6) (drop (items_place b h) h) ≡ led_text true (map assignment_of (arc_at b h).updates)) × (eqb (byte h 6) 0 ≡ none_of true (arc_at b h).updates)
  updates_there e = (
    updates_told true (byte h 6) (drop (items_place b h) h) ∙ ap (λ (us : List Update). led_text true (map assignment_of us)) (sym (the_updates e)),
    counted (byte h 6) ∙ ap (none_of true) (sym (the_updates e)),
  )

  pub updates_none : (byte h 0 ≡ 0 → ⊥) → ([] ≡ led_text true (map assignment_of (arc_at b h).updates)) × (true ≡ none_of true (arc_at b h).updates)
  unfolding led_text
  updates_none e = (
    ap (λ (us : List Update). led_text true (map assignment_of us)) (sym (no_updates e)),
    ap (none_of true) (sym (no_updates e)),
  )

-- ## Assignments

none_false : {A : Type 0} (zs : List A) → none_of false zs ≡ false
none_false [] = refl
none_false (z ∷ zs) = refl

none_map : {A B : Type 0} (f : Bool) (g : A → B) (xs : List A) → none_of f (map g xs) ≡ none_of f xs
none_map f g [] = refl
none_map f g (x ∷ xs) = refl

none_append : {A : Type 0} (f : Bool) (xs ys : List A) → none_of f (xs ++ ys) ≡ none_of (none_of f xs) ys
none_append f [] ys = refl
none_append f (x ∷ xs) ys = sym (none_false ys)

still_told : (f : Bool) (mask i k : ℕ) → still_first f mask i k ≡ none_of f (only (masked mask) (from i k))
unfolding still_first
still_told f mask i zero = refl
still_told f mask i (suc k) = go (masked mask i) (λ g. still_told g mask (suc i) k)
  where
    rest : List ℕ
    rest = only (masked mask) (from (suc i) k)

    go : (b : Bool) → ((g : Bool) → still_first g mask (suc i) k ≡ none_of g rest) → still_first (cond b false f) mask (suc i) k ≡ none_of f (cond b (i ∷ rest) rest)
    go true ih = ih false ∙ none_false rest
    go false ih = ih f

closed_told : {A : Type 0} (zs : List A) → cond (none_of true zs) [] (ascii ";") ≡ closed ";" zs
closed_told [] = refl
closed_told (z ∷ zs) = refl

assign_told : (clocks : ℕ) (a : Arc) (f : Bool) → f ≡ none_of true a.updates
    → led_text true (map assignment_of a.updates) ++ (resets_text f a.edge.mask 0 clocks ++ cond (still_first f a.edge.mask 0 clocks) [] (ascii ";"))
    ≡ assign_text (assignments_of clocks a)
unfolding assign_text assignments_of
assign_told clocks a f e =
    let mask = a.edge.mask in
    let rs = only (masked mask) (from 0 clocks) in
    let xs = map assignment_of a.updates in
    let ys : List Assignment = map resets rs in
    let d : f ≡ none_of true xs = e ∙ sym (none_map true assignment_of a.updates) in
    let s : cond (still_first f mask 0 clocks) [] (ascii ";") ≡ closed ";" (xs ++ ys) =
    ap (λ (c : Bool). cond c [] (ascii ";")) (still_told f mask 0 clocks ∙ sym (none_map f resets rs) ∙ ap (λ (g : Bool). none_of g ys) d ∙ sym (none_append true xs ys)) ∙ closed_told (xs ++ ys) in
    let r : resets_text f mask 0 clocks ≡ led_text (none_of true xs) ys = resets_told f mask 0 clocks ∙ ap (λ (g : Bool). led_text g ys) d in
    ap₂ (λ (x y : List ℕ). led_text true xs ++ (x ++ y)) r s
    ∙ sym (append_assoc (led_text true xs) (led_text (none_of true xs) ys) (closed ";" (xs ++ ys)))
    ∙ ap (λ (x : List ℕ). x ++ closed ";" (xs ++ ys)) (sym (led_append true xs ys) ∙ led_listed (xs ++ ys))

pub assign_there : (b : Bool) (h : List ℕ) (clocks : ℕ) (f : Bool) → f ≡ none_of true (arc_at b h).updates
    → led_text true (map assignment_of (arc_at b h).updates) ++ (resets_text f (byte h 3) 0 clocks ++ cond (still_first f (byte h 3) 0 clocks) [] (ascii ";"))
    ≡ assign_text (assignments_of clocks (arc_at b h))
unfolding arc_at
assign_there b h clocks f e = assign_told clocks (arc_at b h) f e
