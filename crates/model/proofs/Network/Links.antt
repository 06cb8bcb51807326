-- The passages of one component, one after the other, as the network passes them; and that those of a schedule are such. Assumes nothing.
use mathlib.Core.Path.{◌≡◌, refl, sym, ap, subst, ◌∙◌}
use mathlib.Core.Bool.{false}
use mathlib.Core.List.{List, [], ◌∷◌}
use Prim.Native.Nat.{ℕ, ◌≤◌, ◌<◌}
use native.Mathlib.Omega.{arith}
use Rattle.model.specs.Lists.{◌∈◌, here, there}
use Rattle.model.specs.Table.{Component, Table, size, component_of, arc_of}
use Rattle.model.specs.Window.{Entry, channel_of, listens, leaves}
use Rattle.model.specs.Schedule.{Passage, passage_arc, own, message_in, start_entry}
use Rattle.model.specs.Chains.{Chain, last, link, IsSchedule}
use Rattle.model.proofs.Schedule.Own.{all_in, own_in}
use Rattle.model.proofs.Network.Passage.{Fits, from_entry}
use Rattle.model.proofs.Network.Opening.{opens}

-- v and the passages after it: each fits, each entry is what the passage before leaves, and only the last ends at the horizon or later
pub data Links (H : ℕ) (C : Component) : Passage → List Passage → Type 0 where
  final : {v : Passage} → Fits C v → H ≤ v.end → Links H C v []
  leads : {v w : Passage} {ws : List Passage} → Fits C v → v.end < H → w.entry ≡ leaves (arc_of C v.edge) v.message v.end v.entry
      → Links H C w ws → Links H C v (w ∷ ws)

module _ {H : ℕ} {C : Component} where
  -- the first passage fits
  pub first_fits : {v : Passage} {vs : List Passage} → Links H C v vs → Fits C v
  first_fits (final f h) = f
  first_fits (leads f h e k) = f

  -- the next entry is what the passage before leaves
  pub next_is : {v w : Passage} {ws : List Passage} → Links H C v (w ∷ ws) → w.entry ≡ leaves (arc_of C v.edge) v.message v.end v.entry
  next_is (leads f h e k) = e

  -- so the next passage is entered at the end of the one before
  pub next_entry : {v w : Passage} {ws : List Passage} → Links H C v (w ∷ ws) → w.entry.tick ≡ v.end
  unfolding leaves
  next_entry (leads f h e k) = ap (λ (x : Entry). x.tick) e

  -- and it, and those after it, are linked too
  pub next_links : {v w : Passage} {ws : List Passage} → Links H C v (w ∷ ws) → Links H C w ws
  next_links (leads f h e k) = k

  -- a passage that another one follows ends before the horizon
  pub next_below : {v w : Passage} {ws : List Passage} → Links H C v (w ∷ ws) → v.end < H
  next_below (leads f h e k) = h

  -- a passage that none follows ends at the horizon or later
  pub last_beyond : {v : Passage} → Links H C v [] → H ≤ v.end
  last_beyond (final f h) = h

  -- the next passage is ready at the end of the one before or later, and ends later
  pub next_later : {v w : Passage} {ws : List Passage} → Links H C v (w ∷ ws) → (v.end ≤ w.ready) × (v.end < w.end)
  next_later k =
      let f = first_fits (next_links k) in
      let e = next_entry k in
      let r = from_entry f in
      (omega arith, omega (arith, f.window))

  -- each of them fits
  pub each_fits : {v : Passage} {vs : List Passage} → Links H C v vs → (w : Passage) → w ∈ (v ∷ vs) → Fits C w
  each_fits k w m = go k m
    where
      go : {v : Passage} {vs : List Passage} → Links H C v vs → w ∈ (v ∷ vs) → Fits C w
      go k (here e) = subst (Fits C) (sym e) (first_fits k)
      go (leads f h e k) (there m) = go k m
      go (final _ _) (there {y = y} m) = elim m [ ]

  -- each passage after the first is ready at its end or later
  pub later_ready : {v : Passage} {vs : List Passage} → Links H C v vs → (w : Passage) → w ∈ vs → v.end ≤ w.ready
  later_ready k w m = go k m
    where
      go : {v : Passage} {vs : List Passage} → Links H C v vs → w ∈ vs → v.end ≤ w.ready
      go k (here e) = omega (arith, (next_later k).0, ap (λ (x : Passage). x.ready) e)
      go k (there m) = let l = next_later k in omega (arith, go (next_links k) m)

-- ## The passages of a schedule

-- a passage whose edge does not receive has its channel for its message, if it sends
abbrev Said : Component → Passage → Type 0
Said C v = listens (arc_of C v.edge) ≡ false → v.message ≡ channel_of (arc_of C v.edge)

-- a chain that obeys the opening rule is linked
links : {H : ℕ} {c : ℕ} {C : Component} {v : Passage} {vs : List Passage} → ((w : Passage) → w ∈ vs → Said C w) → Fits C v → Chain H c C v vs → Links H C v vs
links s f (last h) = final f h
links {c = c} {C = C} s f (link {v = v} {w = w} h o k) =
    let p = opens c C (leaves (arc_of C v.edge) v.message v.end v.entry) w o (s w (here refl)) in
    leads f h p.1 (links (λ x m. s x (there m)) p.2 k)

-- the passages of one component: the first, entered at the start, and those after it
pub record Linked (T : Table) (H : ℕ) (S : List Passage) (c : ℕ) : Type 0 where
  pub head : Passage
  pub tail : List Passage
  pub is : own c S ≡ head ∷ tail
  pub starts : head.entry ≡ start_entry (component_of T c)
  pub linked : Links H (component_of T c) head tail

module _ (limit : ℕ) (T : Table) (H : ℕ) (S : List Passage) (sched : IsSchedule limit T H S) where
  -- a passage that does not receive has the message that its edge sends
  said : (c : ℕ) (v : Passage) → v ∈ own c S → Said (component_of T c) v
  unfolding message_in
  said c v m n =
      let e : v.message ≡ message_in T H S v = all_in sched.messages (own_in c S m).0 in
      let n' : listens (passage_arc T v) ≡ false = subst (λ (i : ℕ). listens (arc_of (component_of T i) v.edge) ≡ false) (sym (own_in c S m).1) n in
      let g : v.message ≡ channel_of (passage_arc T v) = e ∙ rw n' in
      subst (λ (i : ℕ). v.message ≡ channel_of (arc_of (component_of T i) v.edge)) (own_in c S m).1 g

  -- the passages of each component of a schedule are linked, from the start on
  pub schedule_linked : (c : ℕ) → c < size T → Linked T H S c
  schedule_linked c h =
      let k = sched.chains c h in
      let s : (w : Passage) → w ∈ (k.head ∷ k.tail) → Said (component_of T c) w = λ w m. said c w (subst (λ (l : List Passage). w ∈ l) (sym k.is) m) in
      let o = opens c (component_of T c) (start_entry (component_of T c)) k.head k.starts (s k.head (here refl)) in
      record { head = k.head; tail = k.tail; is = k.is; starts = o.1; linked = links (λ w m. s w (there m)) o.2 k.chain }
