-- A part of a node's registers put: the node is what it was but for that part. Assumes nothing.
use mathlib.Core.Path.{◌≡◌, refl, ap, ◌∙◌}
use mathlib.Core.List.{List}
use Prim.Native.Nat.{ℕ, ◌+◌, ◌*◌, ◌%◌, ◌≤◌, ◌<◌}
use native.Mathlib.Omega.{arith}
use lib.IntN.{ℤ}
use lib.ListN.{length, set}
use Rattle.node.specs.declared.Node.{Node}
use Rattle.registers.specs.Words.{word_in, node_in, Stored, at_place, entering, with_passage, with_sleeps}
use Rattle.registers.proofs.Frames.{same_trans, put_there, put_beside, put_others, put_length}

-- ## One after the other

pub stored_then : {l l₁ l₂ : List ℕ} {v v₁ v₂ : List ℤ} {c : ℕ} {q q₁ : Node} → Stored l v c q₁ l₁ v₁ → Stored l₁ v₁ c q l₂ v₂ → Stored l v c q l₂ v₂
stored_then s t =
    record {
      node = t.node;
      beside = λ k a b. t.beside k a b ∙ s.beside k a b;
      others = λ i d. same_trans (s.others i d) (t.others i d);
      length_l = t.length_l ∙ s.length_l;
      length_v = t.length_v ∙ s.length_v;
    }

-- the same registers, named otherwise
pub stored_as : {l l' : List ℕ} {v v' : List ℤ} {c : ℕ} {q q' : Node} → Stored l v c q l' v' → node_in l' v' c ≡ q' → Stored l v c q' l' v'
stored_as s e = record { node = e; beside = s.beside; others = s.others; length_l = s.length_l; length_v = s.length_v }

-- nothing is put
pub stored_same : {l : List ℕ} {v : List ℤ} {c : ℕ} → Stored l v c (node_in l v c) l v
stored_same = record { node = refl; beside = λ k a b. refl; others = λ i d. record { words = λ k h. refl; values = λ k h. refl }; length_l = refl; length_v = refl }

-- ## One word

module _ (l : List ℕ) (c k x : ℕ) {l' : List ℕ} (e : l' ≡ set l (c * 32 + k) x) (g : 256 ≤ length l) (h : c < 8) (v : List ℤ) where
  -- another word
  stays : (j : ℕ) → (j ≡ k → ⊥) → word_in l' c j ≡ word_in l c j
  stays = put_beside l c k x e

  there : k < 21 → word_in l' c k ≡ x
  there b = put_there l c k x e g h (omega arith)

  pub word_stored : (q : Node) → k < 21 → node_in l' v c ≡ q → Stored l v c q l' v
  word_stored q b n =
      record {
        node = n;
        beside = λ j a m. stays j (λ p. omega arith);
        others = λ i d. put_others l c k x e v i d (omega arith);
        length_l = put_length l c k x e;
        length_v = refl;
      }

half_there : (l : List ℕ) (c k x : ℕ) {l' : List ℕ} → l' ≡ set l (c * 32 + k) x → 256 ≤ length l → c < 8 → k < 21 → x < 65536 → word_in l' c k % 65536 ≡ x
half_there l c k x e g h b f = rw (put_there l c k x e g h (omega arith)) (omega arith)

byte_there : (l : List ℕ) (c k x : ℕ) {l' : List ℕ} → l' ≡ set l (c * 32 + k) x → 256 ≤ length l → c < 8 → k < 21 → x < 256 → word_in l' c k % 256 ≡ x
byte_there l c k x e g h b f = rw (put_there l c k x e g h (omega arith)) (omega arith)

-- the place of the next statement
pub place_stored : (l : List ℕ) (c x : ℕ) {l' : List ℕ} → l' ≡ set l (c * 32 + 0) x → 256 ≤ length l → c < 8 → (v : List ℤ) → Stored l v c (at_place (node_in l v c) x) l' v
place_stored l c x {l'} e g h v =
    word_stored l c 0 x e g h v (at_place (node_in l v c) x) (omega arith)
    (rw (
      there l c 0 x e g h v (omega arith),
      put_beside l c 0 x e 1 (λ p. omega arith),
      put_beside l c 0 x e 2 (λ p. omega arith),
      put_beside l c 0 x e 3 (λ p. omega arith),
      put_beside l c 0 x e 4 (λ p. omega arith),
      put_beside l c 0 x e 5 (λ p. omega arith),
      put_beside l c 0 x e 6 (λ p. omega arith),
      put_beside l c 0 x e 7 (λ p. omega arith),
      put_beside l c 0 x e 8 (λ p. omega arith),
      put_beside l c 0 x e 9 (λ p. omega arith),
      put_beside l c 0 x e 10 (λ p. omega arith),
      put_beside l c 0 x e 11 (λ p. omega arith),
      put_beside l c 0 x e 12 (λ p. omega arith),
      put_beside l c 0 x e 13 (λ p. omega arith),
      put_beside l c 0 x e 14 (λ p. omega arith),
      put_beside l c 0 x e 15 (λ p. omega arith),
      put_beside l c 0 x e 16 (λ p. omega arith),
      put_beside l c 0 x e 17 (λ p. omega arith),
      put_beside l c 0 x e 18 (λ p. omega arith),
      put_beside l c 0 x e 19 (λ p. omega arith),
      put_beside l c 0 x e 20 (λ p. omega arith),
    ))

-- how many sleeps are finished
pub sleeps_stored : (l : List ℕ) (c x : ℕ) {l' : List ℕ} → l' ≡ set l (c * 32 + 20) x → 256 ≤ length l → c < 8 → (v : List ℤ) → Stored l v c (with_sleeps (node_in l v c) x) l' v
sleeps_stored l c x {l'} e g h v =
    word_stored l c 20 x e g h v (with_sleeps (node_in l v c) x) (omega arith)
    (rw (
      put_beside l c 20 x e 0 (λ p. omega arith),
      put_beside l c 20 x e 1 (λ p. omega arith),
      put_beside l c 20 x e 2 (λ p. omega arith),
      put_beside l c 20 x e 3 (λ p. omega arith),
      put_beside l c 20 x e 4 (λ p. omega arith),
      put_beside l c 20 x e 5 (λ p. omega arith),
      put_beside l c 20 x e 6 (λ p. omega arith),
      put_beside l c 20 x e 7 (λ p. omega arith),
      put_beside l c 20 x e 8 (λ p. omega arith),
      put_beside l c 20 x e 9 (λ p. omega arith),
      put_beside l c 20 x e 10 (λ p. omega arith),
      put_beside l c 20 x e 11 (λ p. omega arith),
      put_beside l c 20 x e 12 (λ p. omega arith),
      put_beside l c 20 x e 13 (λ p. omega arith),
      put_beside l c 20 x e 14 (λ p. omega arith),
      put_beside l c 20 x e 15 (λ p. omega arith),
      put_beside l c 20 x e 16 (λ p. omega arith),
      put_beside l c 20 x e 17 (λ p. omega arith),
      put_beside l c 20 x e 18 (λ p. omega arith),
      put_beside l c 20 x e 19 (λ p. omega arith),
      there l c 20 x e g h v (omega arith),
    ))

-- t
pub time_stored : (l : List ℕ) (c x : ℕ) {l' : List ℕ} → l' ≡ set l (c * 32 + 1) x → 256 ≤ length l → c < 8 → (v : List ℤ) → Stored l v c (with_passage (node_in l v c) (node_in l v c).edge x (node_in l v c).n (node_in l v c).d) l' v
time_stored l c x {l'} e g h v =
    word_stored l c 1 x e g h v (with_passage (node_in l v c) (node_in l v c).edge x (node_in l v c).n (node_in l v c).d) (omega arith)
    (rw (
      put_beside l c 1 x e 0 (λ p. omega arith),
      there l c 1 x e g h v (omega arith),
      put_beside l c 1 x e 2 (λ p. omega arith),
      put_beside l c 1 x e 3 (λ p. omega arith),
      put_beside l c 1 x e 4 (λ p. omega arith),
      put_beside l c 1 x e 5 (λ p. omega arith),
      put_beside l c 1 x e 6 (λ p. omega arith),
      put_beside l c 1 x e 7 (λ p. omega arith),
      put_beside l c 1 x e 8 (λ p. omega arith),
      put_beside l c 1 x e 9 (λ p. omega arith),
      put_beside l c 1 x e 10 (λ p. omega arith),
      put_beside l c 1 x e 11 (λ p. omega arith),
      put_beside l c 1 x e 12 (λ p. omega arith),
      put_beside l c 1 x e 13 (λ p. omega arith),
      put_beside l c 1 x e 14 (λ p. omega arith),
      put_beside l c 1 x e 15 (λ p. omega arith),
      put_beside l c 1 x e 16 (λ p. omega arith),
      put_beside l c 1 x e 17 (λ p. omega arith),
      put_beside l c 1 x e 18 (λ p. omega arith),
      put_beside l c 1 x e 19 (λ p. omega arith),
      put_beside l c 1 x e 20 (λ p. omega arith),
    ))

-- n, d, the edge and the location, which are small
pub n_stored : (l : List ℕ) (c x : ℕ) {l' : List ℕ} → l' ≡ set l (c * 32 + 6) x → 256 ≤ length l → c < 8 → (v : List ℤ) → x < 65536 → Stored l v c (with_passage (node_in l v c) (node_in l v c).edge (node_in l v c).t x (node_in l v c).d) l' v
n_stored l c x {l'} e g h v f =
    word_stored l c 6 x e g h v (with_passage (node_in l v c) (node_in l v c).edge (node_in l v c).t x (node_in l v c).d) (omega arith)
    (rw (
      put_beside l c 6 x e 0 (λ p. omega arith),
      put_beside l c 6 x e 1 (λ p. omega arith),
      put_beside l c 6 x e 2 (λ p. omega arith),
      put_beside l c 6 x e 3 (λ p. omega arith),
      put_beside l c 6 x e 4 (λ p. omega arith),
      put_beside l c 6 x e 5 (λ p. omega arith),
      half_there l c 6 x e g h (omega arith) f,
      put_beside l c 6 x e 7 (λ p. omega arith),
      put_beside l c 6 x e 8 (λ p. omega arith),
      put_beside l c 6 x e 9 (λ p. omega arith),
      put_beside l c 6 x e 10 (λ p. omega arith),
      put_beside l c 6 x e 11 (λ p. omega arith),
      put_beside l c 6 x e 12 (λ p. omega arith),
      put_beside l c 6 x e 13 (λ p. omega arith),
      put_beside l c 6 x e 14 (λ p. omega arith),
      put_beside l c 6 x e 15 (λ p. omega arith),
      put_beside l c 6 x e 16 (λ p. omega arith),
      put_beside l c 6 x e 17 (λ p. omega arith),
      put_beside l c 6 x e 18 (λ p. omega arith),
      put_beside l c 6 x e 19 (λ p. omega arith),
      put_beside l c 6 x e 20 (λ p. omega arith),
    ))

pub d_stored : (l : List ℕ) (c x : ℕ) {l' : List ℕ} → l' ≡ set l (c * 32 + 7) x → 256 ≤ length l → c < 8 → (v : List ℤ) → x < 65536 → Stored l v c (with_passage (node_in l v c) (node_in l v c).edge (node_in l v c).t (node_in l v c).n x) l' v
d_stored l c x {l'} e g h v f =
    word_stored l c 7 x e g h v (with_passage (node_in l v c) (node_in l v c).edge (node_in l v c).t (node_in l v c).n x) (omega arith)
    (rw (
      put_beside l c 7 x e 0 (λ p. omega arith),
      put_beside l c 7 x e 1 (λ p. omega arith),
      put_beside l c 7 x e 2 (λ p. omega arith),
      put_beside l c 7 x e 3 (λ p. omega arith),
      put_beside l c 7 x e 4 (λ p. omega arith),
      put_beside l c 7 x e 5 (λ p. omega arith),
      put_beside l c 7 x e 6 (λ p. omega arith),
      half_there l c 7 x e g h (omega arith) f,
      put_beside l c 7 x e 8 (λ p. omega arith),
      put_beside l c 7 x e 9 (λ p. omega arith),
      put_beside l c 7 x e 10 (λ p. omega arith),
      put_beside l c 7 x e 11 (λ p. omega arith),
      put_beside l c 7 x e 12 (λ p. omega arith),
      put_beside l c 7 x e 13 (λ p. omega arith),
      put_beside l c 7 x e 14 (λ p. omega arith),
      put_beside l c 7 x e 15 (λ p. omega arith),
      put_beside l c 7 x e 16 (λ p. omega arith),
      put_beside l c 7 x e 17 (λ p. omega arith),
      put_beside l c 7 x e 18 (λ p. omega arith),
      put_beside l c 7 x e 19 (λ p. omega arith),
      put_beside l c 7 x e 20 (λ p. omega arith),
    ))

pub edge_stored : (l : List ℕ) (c x : ℕ) {l' : List ℕ} → l' ≡ set l (c * 32 + 9) x → 256 ≤ length l → c < 8 → (v : List ℤ) → x < 256 → Stored l v c (with_passage (node_in l v c) x (node_in l v c).t (node_in l v c).n (node_in l v c).d) l' v
edge_stored l c x {l'} e g h v f =
    word_stored l c 9 x e g h v (with_passage (node_in l v c) x (node_in l v c).t (node_in l v c).n (node_in l v c).d) (omega arith)
    (rw (
      put_beside l c 9 x e 0 (λ p. omega arith),
      put_beside l c 9 x e 1 (λ p. omega arith),
      put_beside l c 9 x e 2 (λ p. omega arith),
      put_beside l c 9 x e 3 (λ p. omega arith),
      put_beside l c 9 x e 4 (λ p. omega arith),
      put_beside l c 9 x e 5 (λ p. omega arith),
      put_beside l c 9 x e 6 (λ p. omega arith),
      put_beside l c 9 x e 7 (λ p. omega arith),
      put_beside l c 9 x e 8 (λ p. omega arith),
      byte_there l c 9 x e g h (omega arith) f,
      put_beside l c 9 x e 10 (λ p. omega arith),
      put_beside l c 9 x e 11 (λ p. omega arith),
      put_beside l c 9 x e 12 (λ p. omega arith),
      put_beside l c 9 x e 13 (λ p. omega arith),
      put_beside l c 9 x e 14 (λ p. omega arith),
      put_beside l c 9 x e 15 (λ p. omega arith),
      put_beside l c 9 x e 16 (λ p. omega arith),
      put_beside l c 9 x e 17 (λ p. omega arith),
      put_beside l c 9 x e 18 (λ p. omega arith),
      put_beside l c 9 x e 19 (λ p. omega arith),
      put_beside l c 9 x e 20 (λ p. omega arith),
    ))

-- the location, and no message taken
pub location_stored : (l : List ℕ) (c x : ℕ) {l₁ l₂ : List ℕ} → l₁ ≡ set l (c * 32 + 8) x → l₂ ≡ set l₁ (c * 32 + 10) 0 → 256 ≤ length l → c < 8 → (v : List ℤ) → x < 256
    → Stored l v c (entering (node_in l v c) x) l₂ v
location_stored l c x {l₁} {l₂} e d g h v f =
    stored_then
    (word_stored l c 8 x e g h v (node_in l₁ v c) (omega arith) refl)
    (word_stored l₁ c 10 0 d g₁ h v (entering (node_in l v c) x) (omega arith) node)
  where
    g₁ : 256 ≤ length l₁
    g₁ = omega (arith, put_length l c 8 x e)

    stay : (j : ℕ) → (j ≡ 8 → ⊥) → (j ≡ 10 → ⊥) → word_in l₂ c j ≡ word_in l c j
    stay j m n = put_beside l₁ c 10 0 d j n ∙ put_beside l c 8 x e j m

    here : word_in l₂ c 8 % 256 ≡ x
    here = rw (put_beside l₁ c 10 0 d 8 (λ p. omega arith)) (byte_there l c 8 x e g h (omega arith) f)

    node : node_in l₂ v c ≡ entering (node_in l v c) x
    node = rw (
      stay 0 (λ p. omega arith) (λ p. omega arith),
      stay 1 (λ p. omega arith) (λ p. omega arith),
      stay 2 (λ p. omega arith) (λ p. omega arith),
      stay 3 (λ p. omega arith) (λ p. omega arith),
      stay 4 (λ p. omega arith) (λ p. omega arith),
      stay 5 (λ p. omega arith) (λ p. omega arith),
      stay 6 (λ p. omega arith) (λ p. omega arith),
      stay 7 (λ p. omega arith) (λ p. omega arith),
      here,
      stay 9 (λ p. omega arith) (λ p. omega arith),
      put_there l₁ c 10 0 d g₁ h (omega arith),
      stay 11 (λ p. omega arith) (λ p. omega arith),
      stay 12 (λ p. omega arith) (λ p. omega arith),
      stay 13 (λ p. omega arith) (λ p. omega arith),
      stay 14 (λ p. omega arith) (λ p. omega arith),
      stay 15 (λ p. omega arith) (λ p. omega arith),
      stay 16 (λ p. omega arith) (λ p. omega arith),
      stay 17 (λ p. omega arith) (λ p. omega arith),
      stay 18 (λ p. omega arith) (λ p. omega arith),
      stay 19 (λ p. omega arith) (λ p. omega arith),
      stay 20 (λ p. omega arith) (λ p. omega arith),
    )

-- ## The passage: t, n, d and the edge

pub passage_stored : (l : List ℕ) (c edge t n d : ℕ) {l₁ l₂ l₃ l₄ : List ℕ} → l₁ ≡ set l (c * 32 + 1) t → l₂ ≡ set l₁ (c * 32 + 6) n → l₃ ≡ set l₂ (c * 32 + 7) d → l₄ ≡ set l₃ (c * 32 + 9) edge
    → 256 ≤ length l → c < 8 → edge < 256 → n < 65536 → d < 65536 → (v : List ℤ) → Stored l v c (with_passage (node_in l v c) edge t n d) l₄ v
passage_stored l c edge t n d {l₁} {l₂} {l₃} {l₄} e₁ e₂ e₃ e₄ g h a b f v =
    let g₁ : 256 ≤ length l₁ = omega (arith, put_length l c 1 t e₁) in
    let g₂ : 256 ≤ length l₂ = omega (arith, put_length l₁ c 6 n e₂) in
    let g₃ : 256 ≤ length l₃ = omega (arith, put_length l₂ c 7 d e₃) in
    let s₁ = time_stored l c t e₁ g h v in
    let s₂ = n_stored l₁ c n e₂ g₁ h v b in
    let s₃ = d_stored l₂ c d e₃ g₂ h v f in
    let s₄ = edge_stored l₃ c edge e₄ g₃ h v a in
    let q = with_passage (node_in l v c) edge t n d in
    let last : node_in l₄ v c ≡ q =
    s₄.node
    ∙ ap (λ (r : Node). with_passage r edge r.t r.n r.d)
    (s₃.node ∙ ap (λ (r : Node). with_passage r r.edge r.t r.n d) (s₂.node ∙ ap (λ (r : Node). with_passage r r.edge r.t n r.d) s₁.node)) in
    stored_as (stored_then s₁ (stored_then s₂ (stored_then s₃ s₄))) last
