-- Runs to two horizons are the same until the nearer one is reached; then the farther run goes on from there. Assumes nothing.
use mathlib.Core.Path.{◌≡◌, refl, sym, ap, subst, ◌∙◌}
use mathlib.Core.Bool.{Bool, true, false, cond, ◌&&◌}
use mathlib.Core.List.{List, [], ◌∷◌, ◌++◌}
use Prim.Native.Nat.{ℕ, zero, suc, ◌+◌, ◌-◌, ◌≤◌, ◌<◌}
use native.Mathlib.Omega.{arith}
use borrow.Author.Tests.{eqb-true, eqb-false, ne_eqb, eq-eqb}
use lib.Dec.{ltb, leb, eqb}
use lib.IntN.{◌+ℤ◌}
use lib.ListN.{length, take}
use Rattle.model.specs.Lists.{is_none}
use Rattle.model.specs.Window.{value_at, in_range}
use Rattle.model.specs.Run.{Setting, Run, Result, Outcome, forbidden, on, over, Stand, sleeping, sending, listening, finishing, adding, working, taking, elsewhere, nowhere, stand_of, node_of, window_end, own_tick, awake, ticked, sent, listeners, finishes, some_due, late_nodes, after_tick, choose1, continue, ends, run_from}

-- the same to another horizon
abbrev pub at_horizon : Setting → ℕ → Setting
at_horizon g H = record { program = g.program; horizon = H; counts = g.counts; ready = g.ready; offsets = g.offsets }

-- what a choice to the nearer horizon and the same to a farther one lead to
data Beside (s : Run) (H : ℕ) : Outcome → Outcome → Type 0 where
  both_forbid : Beside s H forbidden forbidden
  both_go : (t : Run) → t.used ≡ suc s.used → t.tick < H → Beside s H (on t) (on t)
  both-late : (t : Run) (n : ℕ) → Beside s H (over t 2 n) (over t 2 n)
  one_arrives : (t : Run) → t.used ≡ suc s.used → t.tick ≡ H → Beside s H (over t 0 255) (on t)

beside_if : (s : Run) (H : ℕ) (b : Bool) (x y u v : Outcome) → (b ≡ true → Beside s H x u) → (b ≡ false → Beside s H y v) → Beside s H (cond b x y) (cond b u v)
beside_if s H true x y u v p q = p refl
beside_if s H false x y u v p q = q refl

module _ (g : Setting) (H X : ℕ) (nearer : H < X) (s : Run) (h : s.tick < H) where
  sent_beside : (c k : ℕ) (is : List ℕ) → Beside s H (sent (at_horizon g H) s c k is) (sent (at_horizon g X) s c k is)
  sent_beside c k [] = both_forbid
  sent_beside c k (i ∷ is) = both_go _ refl h

  node_beside : (c : ℕ) (w : Stand) → Beside s H (finishes (at_horizon g H) s c w) (finishes (at_horizon g X) s c w)
  node_beside c sleeping = beside_if s H (eqb (own_tick g c s.tick) (node_of s c).t) _ forbidden _ forbidden (λ e. both_go _ refl h) (λ e. both_forbid)
  node_beside c (sending k) = sent_beside c k (listeners g s c k)
  node_beside c (listening qs) = beside_if s H (eqb (own_tick g c s.tick) (window_end (node_of s c))) _ forbidden _ forbidden (λ e. both_go _ refl h) (λ e. both_forbid)
  node_beside c finishing = both_go _ refl h
  node_beside c (adding v z) = beside_if s H (in_range (value_at (node_of s c).values v +ℤ z)) _ forbidden _ forbidden (λ e. both_go _ refl h) (λ e. both_forbid)
  node_beside c working = both_go _ refl h
  node_beside c taking = beside_if s H (is_none (node_of s c).kept) forbidden _ forbidden _ (λ e. both_forbid) (λ e. both_go _ refl h)
  node_beside c elsewhere = both_go _ refl h
  node_beside c nowhere = both_forbid

  tick_beside : (l : List ℕ) → Beside s H (after_tick (at_horizon g H) (ticked s) l) (after_tick (at_horizon g X) (ticked s) l)
  tick_beside (c ∷ l) = both-late (ticked s) c
  tick_beside [] =
      subst (Beside s H (after_tick (at_horizon g H) (ticked s) [])) (sym (ap (λ (b : Bool). cond b (over (ticked s) 0 255) (on (ticked s))) (ne_eqb (suc s.tick) X (λ e. omega arith))))
      (go (eqb (suc s.tick) H) refl)
    where
      go : (b : Bool) → eqb (suc s.tick) H ≡ b → Beside s H (cond b (over (ticked s) 0 255) (on (ticked s))) (on (ticked s))
      go true e = one_arrives (ticked s) refl (eqb-true (suc s.tick) H e)
      go false e = let n = eqb-false (suc s.tick) H e in both_go (ticked s) refl (omega arith)

  choice_beside : (b : ℕ) → Beside s H (choose1 (at_horizon g H) s b) (choose1 (at_horizon g X) s b)
  unfolding choose1
  choice_beside b =
      beside_if s H (eqb b 255) _ _ _ _
      (λ e. beside_if s H (some_due g s.tick 0 s.nodes) forbidden _ forbidden _ (λ x. both_forbid) (λ x. tick_beside (late_nodes g (suc s.tick) 0 s.nodes)))
      (λ e. beside_if s H (ltb b (length s.nodes) && awake g b s.tick) _ forbidden _ forbidden (λ x. node_beside b (stand_of (node_of s b))) (λ x. both_forbid))

-- the run to the nearer horizon has ended, and the one to the farther is the same, or goes on from where it was reached, whatever choices follow
pub data Farther (g : Setting) (H X : ℕ) (cs : List ℕ) (s : Run) (r : Result) : Type 0 where
  same : (r.end ≡ 0 → ⊥) → run_from (at_horizon g X) cs s ≡ r → Farther g H X cs s r
  reached : r.end ≡ 0 → r.state.tick ≡ H → (n : ℕ) → r.state.used ≡ s.used + n → n ≤ length cs
      → ((ys : List ℕ) → run_from (at_horizon g X) (take n cs ++ ys) s ≡ run_from (at_horizon g X) ys r.state) → Farther g H X cs s r

module _ (g : Setting) (H X : ℕ) (nearer : H < X) where
  pub farther : (cs : List ℕ) (s : Run) → s.tick < H → Farther g H X cs s (run_from (at_horizon g H) cs s)
  unfolding run_from
  farther [] s h = same (λ e. omega arith) refl
  farther (b ∷ cs) s h = go (choose1 (at_horizon g H) s b) (choose1 (at_horizon g X) s b) refl (choice_beside g H X nearer s h b) (λ t k. farther cs t k)
    where
      one : (t : Run) (y : Outcome) → choose1 (at_horizon g X) s b ≡ y → t.used ≡ suc s.used → y ≡ on t → Farther g H X cs t (run_from (at_horizon g H) cs t) → Farther g H X (b ∷ cs) s (run_from (at_horizon g H) cs t)
      one t y e u z (same n q) = same n (ap (λ (o : Outcome). continue s o (λ v. run_from (at_horizon g X) cs v)) (e ∙ z) ∙ q)
      one t y e u z (reached a k n f l q) =
          reached a k (suc n) (f ∙ omega (arith, u)) (omega arith) (λ ys. ap (λ (o : Outcome). continue s o (λ v. run_from (at_horizon g X) (take n cs ++ ys) v)) (e ∙ z) ∙ q ys)

      go : (x y : Outcome) → choose1 (at_horizon g X) s b ≡ y → Beside s H x y → ((t : Run) → t.tick < H → Farther g H X cs t (run_from (at_horizon g H) cs t))
          → Farther g H X (b ∷ cs) s (continue s x (λ v. run_from (at_horizon g H) cs v))
      go forbidden forbidden e both_forbid ih = same (λ z. omega arith) (ap (λ (o : Outcome). continue s o (λ v. run_from (at_horizon g X) cs v)) e)
      go (on t) (on t') e (both_go u f k) ih = one t (on t) e f refl (ih t k)
      go (over t a n) (over t' a' n') e (both-late u m) ih = same (λ z. omega arith) (ap (λ (o : Outcome). continue s o (λ v. run_from (at_horizon g X) cs v)) e)
      go (over t a n) (on t') e (one_arrives u f k) ih =
          reached refl k 1 (omega (arith, f)) (omega arith) (λ ys. ap (λ (o : Outcome). continue s o (λ v. run_from (at_horizon g X) ys v)) e)
      go forbidden (on t') e x8 ih = elim x8 [ ]
      go forbidden (over t' a' n') e x9 ih = elim x9 [ ]
      go (on t) forbidden e x7 ih = elim x7 [ ]
      go (on t) (over t' a' n') e x8 ih = elim x8 [ ]
      go (over t a n) forbidden e x8 ih = elim x8 [ ]
