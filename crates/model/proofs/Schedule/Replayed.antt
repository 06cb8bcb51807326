-- Clocks and variables at entry, found again from the passages: along the list, the next passage of a component is entered where the
-- one before leads to. Assumes nothing.
use mathlib.Core.Path.{◌≡◌, refl, sym, ap, subst, subst₂, ◌∙◌}
use mathlib.Core.List.{List, [], ◌∷◌}
use Prim.Native.Nat.{ℕ, suc, ◌≤◌, ◌<◌}
use native.Mathlib.Omega.{arith}
use lib.ListN.{length, drop}
use lib.Seq.{drop-cons, drop-length}
use Rattle.model.specs.Table.{Component, Table, size, component_of, arc_of}
use Rattle.model.specs.Window.{Entry, leaves}
use Rattle.model.specs.Schedule.{Passage, own, start_entry}
use Rattle.model.specs.Checks.{no_passage, passage_at}
use Rattle.model.specs.Chains.{Chain, last, link, Chained, IsSchedule}
use Rattle.model.proofs.Window.Opening.{opened}
use Rattle.model.proofs.Schedule.Own.{own_here, own_other}

-- of the passages from number i on, the first of component c is entered so
pub record Ahead (H c : ℕ) (C : Component) (S : List Passage) (i : ℕ) (at : Entry) : Type 0 where
  pub head : Passage
  pub tail : List Passage
  pub is : own c (drop i S) ≡ head ∷ tail
  pub entry : head.entry ≡ at
  pub chain : Chain H c C head tail

-- a component's first passage is entered as the component starts
pub ahead_start : {limit : ℕ} {T : Table} {H : ℕ} {S : List Passage} → IsSchedule limit T H S → (c : ℕ) → c < size T
    → Ahead H c (component_of T c) S 0 (start_entry (component_of T c))
ahead_start {T = T} s c h =
    let k = s.chains c h in
    record { head = k.head; tail = k.tail; is = k.is; entry = (opened c (component_of T c) _ k.starts).entry; chain = k.chain }

module _ (H c : ℕ) (C : Component) (S : List Passage) (i : ℕ) (at : Entry) (h : i < length S) (a : Ahead H c C S i at) where
  here_on : drop i S ≡ passage_at S i ∷ drop (suc i) S
  here_on = drop-cons S i no_passage h

  -- a passage of another component
  pub ahead_other : ((passage_at S i).component ≡ c → ⊥) → Ahead H c C S (suc i) at
  ahead_other n =
      record {
        head = a.head;
        tail = a.tail;
        is = sym (ap (own c) here_on ∙ own_other c (passage_at S i) (drop (suc i) S) n) ∙ a.is;
        entry = a.entry;
        chain = a.chain;
      }

  module _ (e : (passage_at S i).component ≡ c) where
    both : passage_at S i ∷ own c (drop (suc i) S) ≡ a.head ∷ a.tail
    both = sym (ap (own c) here_on ∙ own_here c (passage_at S i) (drop (suc i) S) e) ∙ a.is

    -- a passage of the component: it is entered so
    pub ahead_here : (passage_at S i).entry ≡ at
    ahead_here = let b = both in let p : passage_at S i ≡ a.head = cc in ap (λ (v : Passage). v.entry) p ∙ a.entry

    -- and the next one where it leads to
    pub ahead_next : (passage_at S i).end < H → Ahead H c C S (suc i) (leaves (arc_of C (passage_at S i).edge) (passage_at S i).message (passage_at S i).end at)
    ahead_next l =
        let b = both in
        let p : a.head ≡ passage_at S i = cc in
        let q : a.tail ≡ own c (drop (suc i) S) = cc in
        go (passage_at S i) (own c (drop (suc i) S)) refl l ahead_here (subst₂ (Chain H c C) p q a.chain)
      where
        go : (v : Passage) (ws : List Passage) → own c (drop (suc i) S) ≡ ws → v.end < H → v.entry ≡ at → Chain H c C v ws
            → Ahead H c C S (suc i) (leaves (arc_of C v.edge) v.message v.end at)
        go v [] r l t (last k) = absurd (omega arith)
        go v (w ∷ ws) r l t (link k o m) =
            record { head = w; tail = ws; is = r; entry = (opened c C _ o).entry ∙ ap (leaves (arc_of C v.edge) v.message v.end) t; chain = m }

-- behind the last passage there is none: a walk that looks for a tick below H ends before
pub ahead_end : (H c : ℕ) (C : Component) (S : List Passage) (at : Entry) → Ahead H c C S (length S) at → ⊥
ahead_end H c C S at a =
    let e : own c [] ≡ a.head ∷ a.tail = sym (ap (own c) (drop-length S)) ∙ a.is in
    let z : ◌≡◌ {A = ℕ} 0 1 = cc in omega arith
