-- Where each component stands on a path that keeps to the schedule: in the present passage, which has begun and has not ended; the passages before
-- it have ended, those after it have yet to begin. Assumes nothing.
use mathlib.Core.Path.{◌≡◌, refl, sym, ap, subst, ◌∙◌}
use mathlib.Core.Logic.{◌⊎◌, inl, inr}
use mathlib.Core.Bool.{Bool, true, false}
use mathlib.Core.List.{List, [], ◌∷◌, ◌++◌}
use mathlib.Core.Option.{Option, none, some}
use Prim.Native.Nat.{ℕ, pred, ◌+◌, ◌≤◌, ◌<◌}
use native.Mathlib.Omega.{arith}
use borrow.Author.Tests.{ltb-true, ltb-false}
use lib.Dec.{ltb}
use lib.ListN.{length}
use Rattle.model.specs.Lists.{◌∈◌, here, there}
use Rattle.model.specs.Table.{Read, Component, size, component_of}
use Rattle.model.specs.Window.{Entry}
use Rattle.model.specs.Schedule.{Passage, own}
use Rattle.model.specs.Checks.{passage_at}
use Rattle.model.specs.Network.{State, PathPassage, Taken, Label, passage_in, start, passages_on}
use Rattle.model.specs.Demand3.{TakenAs, PassAs, IsStepped, SteppedBefore, Demand3}
use Rattle.model.specs.Progress.{present_of, OnSchedule}
use Rattle.model.proofs.Basics.Members.{in_append, alone}
use Rattle.model.proofs.Network.Passage.{Fits}
use Rattle.model.proofs.Network.Links.{Linked, each_fits, schedule_linked}
use Rattle.model.proofs.Network.Ways.{left_on}
use Rattle.model.proofs.Run.Tied.{Given}
use Rattle.model.proofs.Meaning.Path.{Inside, Sound, sound_start, sound_along, Along, along}
use Rattle.model.proofs.Meaning.Pass.{passages_are, Beside, Split, split, split_stepped, split_at, past_before, next_after}

-- where component c stands: v is its present passage
pub record Present (t : Read) (S : List Passage) (path : List Label) (s : State) (c : ℕ) (v : Passage) : Type 0 where
  pub beside : Beside (passage_in s c) v
  pub listed : v ∈ own c S
  pub fits : Fits (component_of t.table c) v
  pub since : v.entry.tick ≤ s.tick
  pub before : s.tick ≤ v.end
  -- every other passage has ended, or has yet to begin
  pub others : (x : Passage) → x ∈ own c S → (x.end ≤ v.entry.tick) ⊎ ((x ≡ v) ⊎ (v.end ≤ x.entry.tick))
  -- every place on the path is the present one, or that of a passage that has ended
  pub passed : (x : PathPassage) → x ∈ passages_on t.table c (start t.table) path → (x ≡ passage_in s c) ⊎ ((y : Passage) × (y ∈ own c S) × Beside x y × (y.end ≤ v.entry.tick))

-- a place that waits on the passage's edge, in its window, is not past its end
inside_before : {C : Component} {v : Passage} (now : ℕ) (p : PathPassage) → Fits C v → p.entry ≡ v.entry → (o : Option Taken) → TakenAs o v → Inside C now p o → p.entry.tick ≤ now
    → (now ≤ v.end) ⊎ (o ≡ none)
inside_before now p f e none k i l = inr refl
inside_before {C} {v} now p f e (some w) k i l =
    let a : Inside C now (record { entry = v.entry; waiting = p.waiting }) (some (record { edge = v.edge; message = w.message })) =
    subst (λ (n : ℕ). Inside C now (record { entry = v.entry; waiting = p.waiting }) (some (record { edge = n; message = w.message }))) k.0
    (subst (λ (x : Entry). Inside C now (record { entry = x; waiting = p.waiting }) (some w)) e i) in
    inl (omega (arith, f.end, a, ap (λ (x : Entry). x.tick) e))

module _ {t : Read} {H : ℕ} {S : List Passage} (G : Given t H S []) {path : List Label} {s : State} (O : OnSchedule t.table S path s) where
  -- the path step by step
  pub steps : Along t.table (start t.table) path s
  steps = along t.table (start t.table) path s O.valid

  -- its last state is sound
  pub sound : Sound t.table s
  sound = (sound_along (omega (arith, G.limits.least_components)) (sound_start t.table) steps).0

  -- where component c stands
  pub present : (c : ℕ) → c < size t.table → Present t S path s c (present_of t.table S path c)
  present c h = subst (Present t S path s c) (sym is) stands
    where
      left : List PathPassage
      left = left_on t.table c (start t.table) path

      are : passages_on t.table c (start t.table) path ≡ left ++ (passage_in s c ∷ [])
      are = passages_are t.table c (start t.table) path O.valid

      k : Split left (passage_in s c) (own c S)
      k = split left (passage_in s c) (own c S) (subst (λ (ps : List PathPassage). PassAs ps (own c S)) are (O.scheduled c h))

      v : Passage
      v = k.now

      is : present_of t.table S path c ≡ v
      is = ap (λ (ps : List PathPassage). passage_at (own c S) (pred (length ps))) are ∙ split_at k

      L : Linked t.table H S c
      L = schedule_linked G.most t.table H S G.sched c h

      line : L.head ∷ L.tail ≡ k.past ++ (v ∷ k.next)
      line = sym L.is ∙ k.is

      mine : v ∈ own c S
      mine = subst (λ (l : List Passage). v ∈ l) (sym k.is) ((in_append k.past (v ∷ k.next)).1 (inr (here refl)))

      fit : Fits (component_of t.table c) v
      fit = each_fits L.linked v (subst (λ (l : List Passage). v ∈ l) L.is mine)

      begun : v.entry.tick ≤ s.tick
      begun = subst (λ (x : Entry). x.tick ≤ s.tick) k.beside.entry (sound.since c h)

      stepped : v.end < s.tick → IsStepped (passage_in s c).waiting
      stepped =
          split_stepped s.tick left (passage_in s c) k.past v k.next k.count
          (subst (λ (l : List Passage). SteppedBefore s.tick (left ++ (passage_in s c ∷ [])) l) k.is
          (subst (λ (ps : List PathPassage). SteppedBefore s.tick ps (own c S)) are (O.kept c h)))

      ends : s.tick ≤ v.end
      ends = go (ltb v.end s.tick) refl (inside_before s.tick (passage_in s c) fit k.beside.entry (passage_in s c).waiting k.beside.taken (sound.inside c h) (sound.since c h))
        where
          go : (x : Bool) → ltb v.end s.tick ≡ x → (s.tick ≤ v.end) ⊎ ((passage_in s c).waiting ≡ none) → s.tick ≤ v.end
          go false q i = ltb-false v.end s.tick q
          go true q (inl i) = i
          go true q (inr i) = absurd (subst IsStepped i (stepped (ltb-true v.end s.tick q)))

      place : (x : Passage) → x ∈ own c S → (x.end ≤ v.entry.tick) ⊎ ((x ≡ v) ⊎ (v.end ≤ x.entry.tick))
      place x m = go ((in_append k.past (v ∷ k.next)).0 (subst (λ (l : List Passage). x ∈ l) k.is m))
        where
          go : (x ∈ k.past) ⊎ (x ∈ (v ∷ k.next)) → (x.end ≤ v.entry.tick) ⊎ ((x ≡ v) ⊎ (v.end ≤ x.entry.tick))
          go (inl i) = inl (past_before k.past v k.next L.head L.tail L.linked line x i)
          go (inr (here e)) = inr (inl e)
          go (inr (there i)) = inr (inr (next_after k.past v k.next L.head L.tail L.linked line x i))

      gone : (x : PathPassage) → x ∈ passages_on t.table c (start t.table) path → (x ≡ passage_in s c) ⊎ ((y : Passage) × (y ∈ own c S) × Beside x y × (y.end ≤ v.entry.tick))
      gone x m = go ((in_append left (passage_in s c ∷ [])).0 (subst (λ (l : List PathPassage). x ∈ l) are m))
        where
          go : (x ∈ left) ⊎ (x ∈ (passage_in s c ∷ [])) → (x ≡ passage_in s c) ⊎ ((y : Passage) × (y ∈ own c S) × Beside x y × (y.end ≤ v.entry.tick))
          go (inl i) =
              let r = k.each x i in
              inr (
                r.0,
                subst (λ (l : List Passage). r.0 ∈ l) (sym k.is) ((in_append k.past (v ∷ k.next)).1 (inl r.1)),
                r.2,
                past_before k.past v k.next L.head L.tail L.linked line r.0 r.1,
              )
          go (inr i) = inl (alone i)

      stands : Present t S path s c v
      stands = record { beside = k.beside; listed = mine; fits = fit; since = begun; before = ends; others = place; passed = gone }

-- the path of every run is one that keeps to the schedule
pub run_keeps : {t : Read} {H : ℕ} {S : List Passage} {cs : List ℕ} → (d : Demand3 t H S cs) → OnSchedule t.table S d.path d.last
run_keeps d = record { valid = d.valid; scheduled = d.scheduled; kept = d.kept }
