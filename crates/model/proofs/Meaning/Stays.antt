-- A joint step at the end of a path: the passages on it, and when it still passes as the schedule says and misses no window. Assumes nothing.
use mathlib.Core.Path.{◌≡◌, refl, sym, ap, subst, ◌∙◌}
use mathlib.Core.Bool.{Bool, true, false, cond}
use mathlib.Core.List.{List, [], ◌∷◌, ◌++◌}
use mathlib.Core.Option.{Option, none, some}
use Prim.Native.Nat.{ℕ, suc, pred, ◌+◌}
use native.Mathlib.Omega.{arith}
use lib.ListN.{length, length-append}
use Rattle.model.specs.Table.{Table, component_of, arc_of}
use Rattle.model.specs.Window.{channel_of}
use Rattle.model.specs.Schedule.{Passage, own}
use Rattle.model.specs.Checks.{passage_at}
use Rattle.model.specs.Network.{State, PathPassage, Taken, Label, together, passage_in, start, may_join, step, onward, follow, passages_on, waits, with_passage}
use Rattle.model.specs.Demand3.{TakenAs, PassAs, IsStepped, SteppedBefore}
use Rattle.model.specs.Progress.{present_of}
use Rattle.model.proofs.Network.Ways.{left_on, follow_append, passages_append}
use Rattle.model.proofs.Meaning.Pass.{passages_are, Split, split, split_at}

-- ## Lists of passages

-- the last one in another place: it passes as the schedule says if that one does
pub pass_put : (left : List PathPassage) (q p : PathPassage) (vs : List Passage) → PassAs (left ++ (q ∷ [])) vs → p.entry ≡ q.entry
    → TakenAs p.waiting (passage_at vs (pred (length (left ++ (q ∷ []))))) → PassAs (left ++ (p ∷ [])) vs
pass_put [] q p [] h e k = h
pass_put [] q p (v ∷ vs) h e k = (e ∙ h.0, k, h.2)
pass_put (x ∷ left) q p [] h e k = h
pass_put (x ∷ left) q p (v ∷ vs) h e k =
    let n : pred (length (x ∷ (left ++ (q ∷ [])))) ≡ suc (pred (length (left ++ (q ∷ [])))) = omega (arith, length-append left (q ∷ [])) in
    (h.0, h.1, pass_put left q p vs h.2 e (subst (λ (i : ℕ). TakenAs p.waiting (passage_at (v ∷ vs) i)) n k))

-- and it misses no window if that one has stepped in
pub stepped_put : (t : ℕ) (left : List PathPassage) (q p : PathPassage) (vs : List Passage) → SteppedBefore t (left ++ (q ∷ [])) vs → IsStepped p.waiting → SteppedBefore t (left ++ (p ∷ [])) vs
stepped_put t [] q p [] h k = tt
stepped_put t [] q p (v ∷ vs) h k = (λ l. k, h.1)
stepped_put t (x ∷ left) q p [] h k = tt
stepped_put t (x ∷ left) q p (v ∷ vs) h k = (h.0, stepped_put t left q p vs h.1 k)

-- ## A joint step more

module _ (T : Table) (path : List Label) (s : State) (valid : follow T (start T) path ≡ some s) (a e b f : ℕ) (u : State) where
  -- the path leads on to u
  pub leads_on : step T s (together a e b f) ≡ some u → follow T (start T) (path ++ (together a e b f ∷ [])) ≡ some u
  unfolding follow
  leads_on q = follow_append T (start T) path (together a e b f ∷ []) valid ∙ ap (λ (o : Option State). onward o (λ t. some t) none) q

  -- a path that leads on to u makes the step
  pub led_on : follow T (start T) (path ++ (together a e b f ∷ [])) ≡ some u → step T s (together a e b f) ≡ some u
  unfolding follow
  led_on q = go (step T s (together a e b f)) (sym (follow_append T (start T) path (together a e b f ∷ []) valid) ∙ q)
    where
      go : (o : Option State) → onward o (λ t. some t) none ≡ some u → o ≡ some u
      go none h = h
      go (some t) h = h

  -- the passages on it: nobody leaves one
  pub passages-on : step T s (together a e b f) ≡ some u → (c : ℕ) → passages_on T c (start T) (path ++ (together a e b f ∷ [])) ≡ left_on T c (start T) path ++ (passage_in u c ∷ [])
  unfolding passages_on
  passages-on q c =
      passages_append T c (start T) path (together a e b f ∷ []) valid
      ∙ ap (λ (o : Option State). left_on T c (start T) path ++ onward o (λ t. passage_in t c ∷ []) []) q

  -- the step was allowed
  pub joined : step T s (together a e b f) ≡ some u → may_join T s a e b f ≡ true
  unfolding step
  joined q = go (may_join T s a e b f) q
    where
      k : Option ℕ
      k = channel_of (arc_of (component_of T a) e)

      go : (x : Bool) → cond x (some (with_passage (with_passage s a (waits (passage_in s a) e k)) b (waits (passage_in s b) f k))) none ≡ some u → x ≡ true
      go true h = refl
      go false h = let z : ◌≡◌ {A = ℕ} 0 1 = cc in absurd (omega arith)

-- one that is allowed is made
pub joins_to : (T : Table) (s : State) (a e b f : ℕ) → may_join T s a e b f ≡ true
    → step T s (together a e b f) ≡ some (with_passage (with_passage s a (waits (passage_in s a) e (channel_of (arc_of (component_of T a) e)))) b (waits (passage_in s b) f (channel_of (arc_of (component_of T a) e))))
unfolding step
joins_to T s a e b f q =
    ap
    (λ (x : Bool). cond x (some (with_passage (with_passage s a (waits (passage_in s a) e (channel_of (arc_of (component_of T a) e)))) b (waits (passage_in s b) f (channel_of (arc_of (component_of T a) e))))) none)
    q

-- who steps in on a path that still passes as the schedule says takes the schedule's edge
pub scheduled_edge : (T : Table) (S : List Passage) (path : List Label) (s : State) → follow T (start T) path ≡ some s → (c : ℕ) (p : PathPassage) (w : Taken) → p.waiting ≡ some w
    → PassAs (left_on T c (start T) path ++ (p ∷ [])) (own c S) → w.edge ≡ (present_of T S path c).edge
scheduled_edge T S path s valid c p w e h = go (split left p (own c S) h)
  where
    left : List PathPassage
    left = left_on T c (start T) path

    go : Split left p (own c S) → w.edge ≡ (present_of T S path c).edge
    go k =
        let q : TakenAs (some w) k.now = subst (λ (o : Option Taken). TakenAs o k.now) e k.beside.taken in
        let n : pred (length (left ++ (passage_in s c ∷ []))) ≡ pred (length (left ++ (p ∷ []))) = omega (arith, length-append left (passage_in s c ∷ []), length-append left (p ∷ [])) in
        let i : present_of T S path c ≡ k.now =
        ap (λ (ps : List PathPassage). passage_at (own c S) (pred (length ps))) (passages_are T c (start T) path valid) ∙ (ap (passage_at (own c S)) n ∙ split_at k) in
        q.0 ∙ ap (λ (v : Passage). v.edge) (sym i)
