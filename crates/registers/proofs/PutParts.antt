-- A clock, a variable, the trial or the edge kept is put in the slices: the node afterwards. Assumes nothing.
use mathlib.Core.Path.{◌≡◌, refl, ap}
use mathlib.Core.Logic.{⊎_elim}
use mathlib.Core.List.{List}
use Prim.Native.Nat.{ℕ, zero, suc, ◌+◌, ◌*◌, ◌%◌, ◌≤◌, ◌<◌}
use native.Mathlib.Omega.{arith}
use lib.Dec.{eqb}
use lib.IntN.{ℤ, pos}
use lib.ListN.{length, get_or, set, length-set}
use lib.Seq.{sets, length-sets, get_or-set_same, get_or-set_other}
use Rattle.node.specs.declared.Trial.{Trial}
use Rattle.node.specs.declared.Kept.{Kept}
use Rattle.node.specs.declared.Node.{Node}
use Rattle.registers.specs.Words.{word_in, value_in, clocks_in, values_in, node_in, trial_words, kept_words, Stored, with_clocks, with_values, with_trial, with_kept}
use Rattle.registers.proofs.Frames.{put_there, put_beside}
use Rattle.registers.proofs.Runs.{before_run, after_run, in_run}
use Rattle.registers.proofs.Written.{flag_is, words_outside}
use Rattle.registers.proofs.Puts.{word_stored}

-- ## A clock

clock_node : (l : List ℕ) (c a x : ℕ) {l' : List ℕ} → l' ≡ set l (c * 32 + (2 + a)) x → 256 ≤ length l → c < 8 → a < 4 → (v : List ℤ)
    → node_in l' v c ≡ with_clocks (node_in l v c) (set (clocks_in l c) a x)
clock_node l c zero x {l'} e g h b v =
    let d : l' ≡ set l (c * 32 + 2) x = e in
    rw (
      put_beside l c 2 x d 0 (λ p. omega arith),
      put_beside l c 2 x d 1 (λ p. omega arith),
      put_there l c 2 x d g h (omega arith),
      put_beside l c 2 x d 3 (λ p. omega arith),
      put_beside l c 2 x d 4 (λ p. omega arith),
      put_beside l c 2 x d 5 (λ p. omega arith),
      put_beside l c 2 x d 6 (λ p. omega arith),
      put_beside l c 2 x d 7 (λ p. omega arith),
      put_beside l c 2 x d 8 (λ p. omega arith),
      put_beside l c 2 x d 9 (λ p. omega arith),
      put_beside l c 2 x d 10 (λ p. omega arith),
      put_beside l c 2 x d 11 (λ p. omega arith),
      put_beside l c 2 x d 12 (λ p. omega arith),
      put_beside l c 2 x d 13 (λ p. omega arith),
      put_beside l c 2 x d 14 (λ p. omega arith),
      put_beside l c 2 x d 15 (λ p. omega arith),
      put_beside l c 2 x d 16 (λ p. omega arith),
      put_beside l c 2 x d 17 (λ p. omega arith),
      put_beside l c 2 x d 18 (λ p. omega arith),
      put_beside l c 2 x d 19 (λ p. omega arith),
      put_beside l c 2 x d 20 (λ p. omega arith),
    )
clock_node l c (suc zero) x {l'} e g h b v =
    let d : l' ≡ set l (c * 32 + 3) x = e in
    rw (
      put_beside l c 3 x d 0 (λ p. omega arith),
      put_beside l c 3 x d 1 (λ p. omega arith),
      put_beside l c 3 x d 2 (λ p. omega arith),
      put_there l c 3 x d g h (omega arith),
      put_beside l c 3 x d 4 (λ p. omega arith),
      put_beside l c 3 x d 5 (λ p. omega arith),
      put_beside l c 3 x d 6 (λ p. omega arith),
      put_beside l c 3 x d 7 (λ p. omega arith),
      put_beside l c 3 x d 8 (λ p. omega arith),
      put_beside l c 3 x d 9 (λ p. omega arith),
      put_beside l c 3 x d 10 (λ p. omega arith),
      put_beside l c 3 x d 11 (λ p. omega arith),
      put_beside l c 3 x d 12 (λ p. omega arith),
      put_beside l c 3 x d 13 (λ p. omega arith),
      put_beside l c 3 x d 14 (λ p. omega arith),
      put_beside l c 3 x d 15 (λ p. omega arith),
      put_beside l c 3 x d 16 (λ p. omega arith),
      put_beside l c 3 x d 17 (λ p. omega arith),
      put_beside l c 3 x d 18 (λ p. omega arith),
      put_beside l c 3 x d 19 (λ p. omega arith),
      put_beside l c 3 x d 20 (λ p. omega arith),
    )
clock_node l c (suc (suc zero)) x {l'} e g h b v =
    let d : l' ≡ set l (c * 32 + 4) x = e in
    rw (
      put_beside l c 4 x d 0 (λ p. omega arith),
      put_beside l c 4 x d 1 (λ p. omega arith),
      put_beside l c 4 x d 2 (λ p. omega arith),
      put_beside l c 4 x d 3 (λ p. omega arith),
      put_there l c 4 x d g h (omega arith),
      put_beside l c 4 x d 5 (λ p. omega arith),
      put_beside l c 4 x d 6 (λ p. omega arith),
      put_beside l c 4 x d 7 (λ p. omega arith),
      put_beside l c 4 x d 8 (λ p. omega arith),
      put_beside l c 4 x d 9 (λ p. omega arith),
      put_beside l c 4 x d 10 (λ p. omega arith),
      put_beside l c 4 x d 11 (λ p. omega arith),
      put_beside l c 4 x d 12 (λ p. omega arith),
      put_beside l c 4 x d 13 (λ p. omega arith),
      put_beside l c 4 x d 14 (λ p. omega arith),
      put_beside l c 4 x d 15 (λ p. omega arith),
      put_beside l c 4 x d 16 (λ p. omega arith),
      put_beside l c 4 x d 17 (λ p. omega arith),
      put_beside l c 4 x d 18 (λ p. omega arith),
      put_beside l c 4 x d 19 (λ p. omega arith),
      put_beside l c 4 x d 20 (λ p. omega arith),
    )
clock_node l c (suc (suc (suc zero))) x {l'} e g h b v =
    let d : l' ≡ set l (c * 32 + 5) x = e in
    rw (
      put_beside l c 5 x d 0 (λ p. omega arith),
      put_beside l c 5 x d 1 (λ p. omega arith),
      put_beside l c 5 x d 2 (λ p. omega arith),
      put_beside l c 5 x d 3 (λ p. omega arith),
      put_beside l c 5 x d 4 (λ p. omega arith),
      put_there l c 5 x d g h (omega arith),
      put_beside l c 5 x d 6 (λ p. omega arith),
      put_beside l c 5 x d 7 (λ p. omega arith),
      put_beside l c 5 x d 8 (λ p. omega arith),
      put_beside l c 5 x d 9 (λ p. omega arith),
      put_beside l c 5 x d 10 (λ p. omega arith),
      put_beside l c 5 x d 11 (λ p. omega arith),
      put_beside l c 5 x d 12 (λ p. omega arith),
      put_beside l c 5 x d 13 (λ p. omega arith),
      put_beside l c 5 x d 14 (λ p. omega arith),
      put_beside l c 5 x d 15 (λ p. omega arith),
      put_beside l c 5 x d 16 (λ p. omega arith),
      put_beside l c 5 x d 17 (λ p. omega arith),
      put_beside l c 5 x d 18 (λ p. omega arith),
      put_beside l c 5 x d 19 (λ p. omega arith),
      put_beside l c 5 x d 20 (λ p. omega arith),
    )
clock_node l c (suc (suc (suc (suc a)))) x e g h b v = absurd (omega arith)

pub clock_stored : (l : List ℕ) (c a x : ℕ) {l' : List ℕ} → l' ≡ set l (c * 32 + (2 + a)) x → 256 ≤ length l → c < 8 → a < 4 → (v : List ℤ)
    → Stored l v c (with_clocks (node_in l v c) (set (clocks_in l c) a x)) l' v
clock_stored l c a x e g h b v = word_stored l c (2 + a) x e g h v (with_clocks (node_in l v c) (set (clocks_in l c) a x)) (omega arith) (clock_node l c a x e g h b v)

-- ## A variable

module _ (v : List ℤ) (c a : ℕ) (x : ℤ) {v' : List ℤ} (e : v' ≡ set v (c * 4 + a) x) where
  value_stays : (j : ℕ) → (j ≡ a → ⊥) → value_in v' c j ≡ value_in v c j
  value_stays j d = rw e (get_or-set_other v (c * 4 + a) (c * 4 + j) x (pos 0) (λ p. d (omega arith)))

  value_there : 32 ≤ length v → c < 8 → a < 4 → value_in v' c a ≡ x
  value_there g h b = rw e (get_or-set_same v (c * 4 + a) x (pos 0) (omega arith))

values_put : (v : List ℤ) (c a : ℕ) (x : ℤ) {v' : List ℤ} → v' ≡ set v (c * 4 + a) x → 32 ≤ length v → c < 8 → a < 4 → values_in v' c ≡ set (values_in v c) a x
values_put v c zero x {v'} e g h b =
    let d : v' ≡ set v (c * 4 + 0) x = e in
    rw (value_there v c 0 x d g h (omega arith), value_stays v c 0 x d 1 (λ p. omega arith), value_stays v c 0 x d 2 (λ p. omega arith), value_stays v c 0 x d 3 (λ p. omega arith))
values_put v c (suc zero) x {v'} e g h b =
    let d : v' ≡ set v (c * 4 + 1) x = e in
    rw (value_stays v c 1 x d 0 (λ p. omega arith), value_there v c 1 x d g h (omega arith), value_stays v c 1 x d 2 (λ p. omega arith), value_stays v c 1 x d 3 (λ p. omega arith))
values_put v c (suc (suc zero)) x {v'} e g h b =
    let d : v' ≡ set v (c * 4 + 2) x = e in
    rw (value_stays v c 2 x d 0 (λ p. omega arith), value_stays v c 2 x d 1 (λ p. omega arith), value_there v c 2 x d g h (omega arith), value_stays v c 2 x d 3 (λ p. omega arith))
values_put v c (suc (suc (suc zero))) x {v'} e g h b =
    let d : v' ≡ set v (c * 4 + 3) x = e in
    rw (value_stays v c 3 x d 0 (λ p. omega arith), value_stays v c 3 x d 1 (λ p. omega arith), value_stays v c 3 x d 2 (λ p. omega arith), value_there v c 3 x d g h (omega arith))
values_put v c (suc (suc (suc (suc a)))) x e g h b = absurd (omega arith)

value_apart : (i c j a : ℕ) → (i ≡ c → ⊥) → j < 4 → a < 4 → i * 4 + j ≡ c * 4 + a → ⊥
value_apart i c j a d m b e = d (omega arith)

pub value_stored : (v : List ℤ) (c a : ℕ) (x : ℤ) {v' : List ℤ} → v' ≡ set v (c * 4 + a) x → 32 ≤ length v → c < 8 → a < 4 → (l : List ℕ)
    → Stored l v c (with_values (node_in l v c) (set (values_in v c) a x)) l v'
value_stored v c a x {v'} e g h b l =
    record {
      node = ap (with_values (node_in l v c)) (values_put v c a x e g h b);
      beside = λ k m n. refl;
      others = λ i d. record { words = λ k m. refl; values = λ j m. rw e (get_or-set_other v (c * 4 + a) (i * 4 + j) x (pos 0) (value_apart i c j a d m b)) };
      length_l = refl;
      length_v = rw e (length-set v (c * 4 + a) x);
    }

-- ## A run of words

module _ (l : List ℕ) (c k : ℕ) (xs : List ℕ) {l' : List ℕ} (e : l' ≡ sets l (c * 32 + k) xs) (g : 256 ≤ length l) (h : c < 8) (b : k + length xs ≤ 21) where
  below_run : (j : ℕ) → j < k → word_in l' c j ≡ word_in l c j
  below_run j m = rw e (before_run 0 xs l (c * 32 + k) (c * 32 + j) (omega arith))

  above_run : (j : ℕ) → k + length xs ≤ j → word_in l' c j ≡ word_in l c j
  above_run j m = rw e (after_run 0 xs l (c * 32 + k) (c * 32 + j) (omega arith))

  here_run : (j i : ℕ) → j ≡ k + i → i < length xs → word_in l' c j ≡ get_or xs i 0
  here_run j i m n =
      let p : c * 32 + j ≡ c * 32 + k + i = omega arith in
      rw (e, p) (in_run 0 xs l (c * 32 + k) i (omega arith) n)

  outside : (i j : ℕ) → (i ≡ c → ⊥) → j < 32 → word_in l' i j ≡ word_in l i j
  outside i j d m =
      rw e
      (⊎_elim (λ p. before_run 0 xs l (c * 32 + k) (i * 32 + j) (omega arith)) (λ p. after_run 0 xs l (c * 32 + k) (i * 32 + j) (omega arith))
      (words_outside i c j 32 d m (omega arith)))

  run_stored : (v : List ℤ) (q : Node) → node_in l' v c ≡ q → Stored l v c q l' v
  run_stored v q n =
      record {
        node = n;
        beside = λ j m o. above_run j (omega arith);
        others = λ i d. record { words = λ j m. outside i j d m; values = λ j m. refl };
        length_l = rw e (length-sets l (c * 32 + k) xs);
        length_v = refl;
      }

-- the trial
pub trial_stored : (l : List ℕ) (c : ℕ) (x : Trial) {l' : List ℕ} → l' ≡ sets l (c * 32 + 12) (trial_words x) → 256 ≤ length l → c < 8 → x.ready < 65536 → x.end < 65536 → (v : List ℤ)
    → Stored l v c (with_trial (node_in l v c) x) l' v
trial_stored l c x {l'} e g h a b v = run_stored l c 12 (trial_words x) e g h (omega arith) v (with_trial (node_in l v c) x) node
  where
    low : (j : ℕ) → j < 12 → word_in l' c j ≡ word_in l c j
    low = below_run l c 12 (trial_words x) e g h (omega arith)

    high : (j : ℕ) → 16 ≤ j → word_in l' c j ≡ word_in l c j
    high j m = above_run l c 12 (trial_words x) e g h (omega arith) j (omega arith)

    here : (j i : ℕ) → j ≡ 12 + i → i < 4 → word_in l' c j ≡ get_or (trial_words x) i 0
    here = here_run l c 12 (trial_words x) e g h (omega arith)

    w₀ : word_in l' c 12 % 65536 ≡ x.ready
    w₀ = rw (here 12 0 (omega arith) (omega arith)) (omega arith)

    w₁ : eqb (word_in l' c 13) 1 ≡ x.ended
    w₁ = rw (here 13 1 (omega arith) (omega arith)) (flag_is x.ended)

    w₂ : word_in l' c 14 % 65536 ≡ x.end
    w₂ = rw (here 14 2 (omega arith) (omega arith)) (omega arith)

    w₃ : eqb (word_in l' c 15) 1 ≡ x.good
    w₃ = rw (here 15 3 (omega arith) (omega arith)) (flag_is x.good)

    node : node_in l' v c ≡ with_trial (node_in l v c) x
    node = rw (
      low 0 (omega arith),
      low 1 (omega arith),
      low 2 (omega arith),
      low 3 (omega arith),
      low 4 (omega arith),
      low 5 (omega arith),
      low 6 (omega arith),
      low 7 (omega arith),
      low 8 (omega arith),
      low 9 (omega arith),
      low 10 (omega arith),
      low 11 (omega arith),
      w₀,
      w₁,
      w₂,
      w₃,
      high 16 (omega arith),
      high 17 (omega arith),
      high 18 (omega arith),
      high 19 (omega arith),
      high 20 (omega arith),
    )

-- the edge kept
pub kept_stored : (l : List ℕ) (c : ℕ) (x : Kept) {l' : List ℕ} → l' ≡ sets l (c * 32 + 16) (kept_words x) → 256 ≤ length l → c < 8 → x.edge < 256 → x.ready < 65536 → x.end < 65536
    → (v : List ℤ) → Stored l v c (with_kept (node_in l v c) x) l' v
kept_stored l c x {l'} e g h f a b v = run_stored l c 16 (kept_words x) e g h (omega arith) v (with_kept (node_in l v c) x) node
  where
    low : (j : ℕ) → j < 16 → word_in l' c j ≡ word_in l c j
    low = below_run l c 16 (kept_words x) e g h (omega arith)

    here : (j i : ℕ) → j ≡ 16 + i → i < 4 → word_in l' c j ≡ get_or (kept_words x) i 0
    here = here_run l c 16 (kept_words x) e g h (omega arith)

    w₀ : eqb (word_in l' c 16) 1 ≡ x.some
    w₀ = rw (here 16 0 (omega arith) (omega arith)) (flag_is x.some)

    w₁ : word_in l' c 17 % 256 ≡ x.edge
    w₁ = rw (here 17 1 (omega arith) (omega arith)) (omega arith)

    w₂ : word_in l' c 18 % 65536 ≡ x.ready
    w₂ = rw (here 18 2 (omega arith) (omega arith)) (omega arith)

    w₃ : word_in l' c 19 % 65536 ≡ x.end
    w₃ = rw (here 19 3 (omega arith) (omega arith)) (omega arith)

    node : node_in l' v c ≡ with_kept (node_in l v c) x
    node = rw (
      low 0 (omega arith),
      low 1 (omega arith),
      low 2 (omega arith),
      low 3 (omega arith),
      low 4 (omega arith),
      low 5 (omega arith),
      low 6 (omega arith),
      low 7 (omega arith),
      low 8 (omega arith),
      low 9 (omega arith),
      low 10 (omega arith),
      low 11 (omega arith),
      low 12 (omega arith),
      low 13 (omega arith),
      low 14 (omega arith),
      low 15 (omega arith),
      w₀,
      w₁,
      w₂,
      w₃,
      above_run l c 16 (kept_words x) e g h (omega arith) 20 (omega arith),
    )
