-- What is written from an edge's bytes is the text of the edge's parts. Assumes nothing.
use mathlib.Core.Path.{◌≡◌, refl, sym, ap, ap₂, ◌∙◌}
use mathlib.Core.Bool.{Bool, true, false, cond}
use mathlib.Core.List.{List, [], ◌∷◌, ◌++◌, map, append_assoc}
use Prim.Native.Nat.{ℕ, zero, suc, pred, ◌+◌, ◌*◌}
use Prim.Native.String.{String}
use native.Mathlib.Omega.{arith}
use lib.Dec.{eqb}
use lib.IntN.{pos}
use lib.ListN.{length, drop}
use lib.Seq.{drop-drop}
use Rattle.model.specs.declared.ClockGuard.{ClockGuard}
use Rattle.model.specs.declared.DataGuard.{DataGuard}
use Rattle.model.specs.declared.Update.{Update}
use Rattle.model.specs.Lists.{each, snoc, only, from}
use Rattle.model.specs.Window.{masked}
use Rattle.model.specs.Reader.{clock_guard_at, data_guard_at, update_at}
use Rattle.model.specs.Places.{list_at}
use Rattle.model.proofs.Basics.Sums.{each_join}
use Rattle.words.specs.Words.{ascii}
use Rattle.uppaal.specs.Xta.{Upper, Atom, value_at_least, value_at_most, Assignment, resets}
use Rattle.uppaal.specs.XtaText.{atom_text, each_after, listed, guard_text, assignment_text}
use Rattle.uppaal.specs.Export.{highs, lows, data_atoms, more, plus, stays, summed, range_atoms, assignment_of}
use Rattle.uppaal_parts.specs.Marks.{mark_of, marked, upper_of, highs_text, low_text, lows_text, all_told, data_text, datas_text, lead, led_text, update_text, updates_text, ranges_text, reset_of, resets_text, none_of, highs_count}

-- two lists, one after the other
pub after_append : {A : Type 0} (between : String) (f : A → List ℕ) (xs ys : List A) → each_after between f (xs ++ ys) ≡ each_after between f xs ++ each_after between f ys
unfolding each_after
after_append between f xs ys = each_join (λ x. ascii between ++ f x) xs ys

-- ## Atoms

pub highs_told : (t n : ℕ) (h : List ℕ) → highs_text t n h ≡ each_after " && " atom_text (marked t (highs (list_at clock_guard_at 5 n h)))
unfolding highs_text each_after each list_at
highs_told t zero h = refl
highs_told t (suc n) h = go (eqb (clock_guard_at h).high 65535) (λ u. highs_told u n (drop 5 h))
  where
    g : ClockGuard
    g = clock_guard_at h

    rest : List Upper
    rest = highs (list_at clock_guard_at 5 n (drop 5 h))

    go : (b : Bool) → ((u : ℕ) → highs_text u n (drop 5 h) ≡ each_after " && " atom_text (marked u rest))
        → cond b [] (ascii " && " ++ atom_text (mark_of t (upper_of g.clock g.high))) ++ highs_text (cond b t (pred t)) n (drop 5 h)
        ≡ each_after " && " atom_text (marked t (cond b rest (record { clock = g.clock; bound = g.high } ∷ rest)))
    go true ih = ih t
    go false ih = ap (λ (l : List ℕ). ascii " && " ++ atom_text (mark_of t (upper_of g.clock g.high)) ++ l) (ih (pred t))

pub lows_told : (n : ℕ) (h : List ℕ) → lows_text n h ≡ each_after " && " atom_text (lows (list_at clock_guard_at 5 n h))
unfolding all_told each_after each list_at
lows_told zero h = refl
lows_told (suc n) h = ap (λ (l : List ℕ). low_text (clock_guard_at h) ++ l) (lows_told n (drop 5 h))

pub datas_told : (n : ℕ) (h : List ℕ) → datas_text n h ≡ each_after " && " atom_text (data_atoms (list_at data_guard_at 5 n h))
unfolding all_told each_after each list_at
datas_told zero h = refl
datas_told (suc n) h =
    ap (λ (l : List ℕ). data_text (data_guard_at h) ++ l) (datas_told n (drop 5 h))
    ∙ ap (λ (l : List ℕ). ascii " && " ++ l)
    (append_assoc (atom_text (value_at_least g.variable g.low)) (ascii " && " ++ atom_text (value_at_most g.variable g.high)) (each_after " && " atom_text (data_atoms (list_at data_guard_at 5 n (drop 5 h)))))
  where
    g : DataGuard
    g = data_guard_at h

-- one more at the end
list_snoc : (i : ℕ) (h : List ℕ) → snoc (list_at update_at 4 i h) (update_at (drop (i * 4) h)) ≡ list_at update_at 4 (suc i) h
unfolding list_at
list_snoc zero h = refl
list_snoc (suc i) h =
    let e : 4 + i * 4 ≡ suc i * 4 = omega arith in
    ap (λ (l : List Update). update_at h ∷ l)
    (ap (λ (x : List ℕ). snoc (list_at update_at 4 i (drop 4 h)) (update_at x)) (ap (λ (n : ℕ). drop n h) (sym e) ∙ sym (drop-drop (i * 4) 4 h)) ∙ list_snoc i (drop 4 h))

pub ranges_told : (h : List ℕ) (i k : ℕ) → ranges_text h i k ≡ each_after " && " atom_text (range_atoms (list_at update_at 4 i h) (list_at update_at 4 k (drop (i * 4) h)))
unfolding ranges_text range_atoms list_at each_after each
ranges_told h i zero = refl
ranges_told h i (suc k) =
    let u = update_at (drop (i * 4) h) in
    let done = list_at update_at 4 i h in
    let e : i * 4 + 4 ≡ suc i * 4 = omega arith in
    let left : list_at update_at 4 k (drop (suc i * 4) h) ≡ list_at update_at 4 k (drop 4 (drop (i * 4) h)) = ap (list_at update_at 4 k) (ap (λ (n : ℕ). drop n h) (sym e) ∙ sym (drop-drop 4 (i * 4) h)) in
    ap₂ ◌++◌ (here u.adds (stays u.variable (plus (summed u.variable (more (pos 0)) done) u.number)))
    (ranges_told h (suc i) k ∙ ap₂ (λ (d l : List Update). each_after " && " atom_text (range_atoms d l)) (sym (list_snoc i h)) left)
    ∙ sym (after_append " && " atom_text (cond u.adds (stays u.variable (plus (summed u.variable (more (pos 0)) done) u.number)) []) (range_atoms (snoc done u) (list_at update_at 4 k (drop 4 (drop (i * 4) h)))))
  where
    here : (b : Bool) (xs : List Atom) → cond b (each_after " && " atom_text xs) [] ≡ each_after " && " atom_text (cond b xs [])
    here true xs = refl
    here false xs = refl

-- a guard: its first atom, the others behind it
pub guard_told : (x : Atom) (xs ys : List Atom) → guard_text ((x ∷ xs) ++ ys) ≡ ascii " guard " ++ (atom_text x ++ (each_after " && " atom_text xs ++ (each_after " && " atom_text ys ++ ascii ";")))
unfolding guard_text listed
guard_told x xs ys =
    ap (λ (l : List ℕ). ascii " guard " ++ l)
    (append_assoc (atom_text x) (each_after " && " atom_text (xs ++ ys)) (ascii ";")
    ∙ ap (λ (l : List ℕ). atom_text x ++ l) (ap (λ (l : List ℕ). l ++ ascii ";") (after_append " && " atom_text xs ys) ∙ append_assoc (each_after " && " atom_text xs) (each_after " && " atom_text ys) (ascii ";")))

-- ## Assignments

led_after : (ys : List Assignment) → led_text false ys ≡ each_after ", " assignment_text ys
unfolding led_text each_after each
led_after [] = refl
led_after (y ∷ ys) =
    ap (λ (l : List ℕ). ascii ", " ++ (assignment_text y ++ l)) (led_after ys)

pub led_listed : (xs : List Assignment) → led_text true xs ≡ listed " assign " ", " assignment_text xs
unfolding led_text listed
led_listed [] = refl
led_listed (x ∷ xs) = ap (λ (l : List ℕ). ascii " assign " ++ (assignment_text x ++ l)) (led_after xs)

pub updates_told : (f : Bool) (n : ℕ) (h : List ℕ) → updates_text f n h ≡ led_text f (map assignment_of (list_at update_at 4 n h))
unfolding updates_text led_text list_at
updates_told f zero h = refl
updates_told f (suc n) h =
    ap (λ (l : List ℕ). update_text f (update_at h) ++ l) (updates_told false n (drop 4 h))
    ∙ append_assoc (lead f) (assignment_text (assignment_of (update_at h))) (led_text false (map assignment_of (list_at update_at 4 n (drop 4 h))))

pub resets_told : (f : Bool) (mask i k : ℕ) → resets_text f mask i k ≡ led_text f (map resets (only (masked mask) (from i k)))
unfolding resets_text led_text
resets_told f mask i zero = refl
resets_told f mask i (suc k) = go (masked mask i) (λ g. resets_told g mask (suc i) k)
  where
    rest : List ℕ
    rest = only (masked mask) (from (suc i) k)

    go : (b : Bool) → ((g : Bool) → resets_text g mask (suc i) k ≡ led_text g (map resets rest))
        → reset_of f i b ++ resets_text (cond b false f) mask (suc i) k ≡ led_text f (map resets (cond b (i ∷ rest) rest))
    go true ih = ap (λ (l : List ℕ). lead f ++ assignment_text (resets i) ++ l) (ih false) ∙ append_assoc (lead f) (assignment_text (resets i)) (led_text false (map resets rest))
    go false ih = ih f

pub led_append : (f : Bool) (xs ys : List Assignment) → led_text f (xs ++ ys) ≡ led_text f xs ++ led_text (none_of f xs) ys
unfolding led_text
led_append f [] ys = refl
led_append f (x ∷ xs) ys =
    ap (λ (l : List ℕ). lead f ++ (assignment_text x ++ l)) (led_append false xs ys ∙ ap (λ (b : Bool). led_text false xs ++ led_text b ys) (none_false xs))
    ∙ ap (λ (l : List ℕ). lead f ++ l) (sym (append_assoc (assignment_text x) (led_text false xs) (led_text false ys)))
    ∙ sym (append_assoc (lead f) (assignment_text x ++ led_text false xs) (led_text false ys))
  where
    none_false : {A : Type 0} (zs : List A) → none_of false zs ≡ false
    none_false [] = refl
    none_false (z ∷ zs) = refl

pub count_told : (n : ℕ) (h : List ℕ) → highs_count n h ≡ length (highs (list_at clock_guard_at 5 n h))
unfolding highs_count list_at
count_told zero h = refl
count_told (suc n) h = go (eqb (clock_guard_at h).high 65535) (count_told n (drop 5 h))
  where
    g : ClockGuard
    g = clock_guard_at h

    rest : List Upper
    rest = highs (list_at clock_guard_at 5 n (drop 5 h))

    go : (b : Bool) → highs_count n (drop 5 h) ≡ length rest → cond b 0 1 + highs_count n (drop 5 h) ≡ length (cond b rest (record { clock = g.clock; bound = g.high } ∷ rest))
    go true e = omega (arith, e)
    go false e = omega (arith, e)
