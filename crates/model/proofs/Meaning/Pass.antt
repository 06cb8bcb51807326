-- A component's passages on a path that passes as the schedule says, beside those of the schedule: the present one, and those left. Assumes nothing.
use mathlib.Core.Path.{◌≡◌, refl, sym, ap, subst, ◌∙◌}
use mathlib.Core.Logic.{inr}
use mathlib.Core.List.{List, [], ◌∷◌, ◌++◌, append-nil}
use mathlib.Core.Option.{some}
use Prim.Native.Nat.{ℕ, suc, pred, ◌+◌, ◌≤◌, ◌<◌}
use native.Mathlib.Omega.{arith}
use lib.ListN.{length, length-append}
use lib.Seq.{get_or_at}
use Rattle.model.specs.Lists.{◌∈◌, here, there}
use Rattle.model.specs.Table.{Component, Table}
use Rattle.model.specs.Schedule.{Passage}
use Rattle.model.specs.Checks.{no_passage, passage_at}
use Rattle.model.specs.Network.{State, PathPassage, Label, passage_in, follow, passages_on}
use Rattle.model.specs.Demand3.{TakenAs, PassAs, IsStepped, SteppedBefore}
use Rattle.model.proofs.Basics.Members.{in_append}
use Rattle.model.proofs.Network.Links.{Links, next_entry, next_links, next_later}
use Rattle.model.proofs.Network.Ways.{left_on, passages_append}

-- the passages on a path: those left, then the present one
pub passages_are : (T : Table) (c : ℕ) (s : State) (ls : List Label) {u : State} → follow T s ls ≡ some u → passages_on T c s ls ≡ left_on T c s ls ++ (passage_in u c ∷ [])
unfolding passages_on
passages_are T c s ls {u} e = ap (λ (x : List Label). passages_on T c s x) (sym (append-nil ls)) ∙ passages_append T c s ls [] e

-- a passage of the path beside one of the schedule
pub record Beside (x : PathPassage) (v : Passage) : Type 0 where
  pub entry : x.entry ≡ v.entry
  pub taken : TakenAs x.waiting v

-- Those left, and the present place q, beside the passages vs of the schedule.
pub record Split (left : List PathPassage) (q : PathPassage) (vs : List Passage) : Type 0 where
  pub past : List Passage
  pub now : Passage
  pub next : List Passage
  pub is : vs ≡ past ++ (now ∷ next)
  pub count : length past ≡ length left
  pub beside : Beside q now
  pub each : (x : PathPassage) → x ∈ left → (v : Passage) × (v ∈ past) × Beside x v

-- they pass as the schedule says
pub split : (left : List PathPassage) (q : PathPassage) (vs : List Passage) → PassAs (left ++ (q ∷ [])) vs → Split left q vs
split [] q [] h = absurd h
split [] q (v ∷ vs) h =
    record { past = []; now = v; next = vs; is = refl; count = refl; beside = record { entry = h.0; taken = h.1 }; each = λ x m. elim m [ ] }
split (x ∷ left) q [] h = absurd h
split (x ∷ left) q (v ∷ vs) h = go (split left q vs h.2)
  where
    go : Split left q vs → Split (x ∷ left) q (v ∷ vs)
    go k =
        record {
          past = v ∷ k.past;
          now = k.now;
          next = k.next;
          is = ap (λ (l : List Passage). v ∷ l) k.is;
          count = ap suc k.count;
          beside = k.beside;
          each = each;
        }
      where
        each : (y : PathPassage) → y ∈ (x ∷ left) → (w : Passage) × (w ∈ (v ∷ k.past)) × Beside y w
        each y (here e) = (v, here refl, subst (λ (z : PathPassage). Beside z v) (sym e) (record { entry = h.0; taken = h.1 }))
        each y (there m) = let r = k.each y m in (r.0, there r.1, r.2)

-- the present one has stepped in once its end has passed
pub split_stepped : (t : ℕ) (left : List PathPassage) (q : PathPassage) (past : List Passage) (v : Passage) (next : List Passage) → length past ≡ length left
    → SteppedBefore t (left ++ (q ∷ [])) (past ++ (v ∷ next)) → v.end < t → IsStepped q.waiting
split_stepped t [] q [] v next e h l = h.0 l
split_stepped t [] q (w ∷ past) v next e h l = absurd (omega arith)
split_stepped t (x ∷ left) q [] v next e h l = absurd (omega arith)
split_stepped t (x ∷ left) q (w ∷ past) v next e h l = split_stepped t left q past v next (omega arith) h.1 l

-- the present one by its number
pub split_at : {left : List PathPassage} {q : PathPassage} {vs : List Passage} (k : Split left q vs) → passage_at vs (pred (length (left ++ (q ∷ [])))) ≡ k.now
split_at {left} {q} {vs} k =
    let n : pred (length (left ++ (q ∷ []))) ≡ length left = omega (arith, length-append left (q ∷ [])) in
    ap (passage_at vs) n ∙ (ap (λ (l : List Passage). passage_at l (length left)) k.is ∙ get_or_at k.past k.now k.next no_passage (length left) k.count)

-- ## Order

module _ {H : ℕ} {C : Component} where
  -- each passage after the first is entered at its end or later
  pub later-entry : {v : Passage} {vs : List Passage} → Links H C v vs → (w : Passage) → w ∈ vs → v.end ≤ w.entry.tick
  later-entry k w m = go k m
    where
      go : {v : Passage} {vs : List Passage} → Links H C v vs → w ∈ vs → v.end ≤ w.entry.tick
      go k (here e) = omega (arith, next_entry k, ap (λ (x : Passage). x.entry.tick) e)
      go k (there m) = let l = next_later k in omega (arith, go (next_links k) m)

  -- the passages after the first, where they are those
  further : {v : Passage} (us past : List Passage) (w : Passage) (next : List Passage) → Links H C v us → us ≡ past ++ (w ∷ next)
      → (z : Passage) × (zs : List Passage) × Links H C z zs × (z ∷ zs ≡ past ++ (w ∷ next))
  further [] past w next l e = absurd (omega (arith, ap length e, length-append past (w ∷ next)))
  further (z ∷ zs) past w next l e = (z, zs, next_links l, e)

  -- one of those before ends before this one is entered
  pub past_before : (past : List Passage) (w : Passage) (next : List Passage) (v : Passage) (vs : List Passage) → Links H C v vs → v ∷ vs ≡ past ++ (w ∷ next)
      → (x : Passage) → x ∈ past → x.end ≤ w.entry.tick
  past_before [] w next v vs k e x m = elim m [ ]
  past_before (y ∷ past) w next v vs k e x (here i) =
      let a : v ≡ y = cc in
      let b : vs ≡ past ++ (w ∷ next) = cc in
      let z = later-entry k w (subst (λ (l : List Passage). w ∈ l) (sym b) ((in_append past (w ∷ next)).1 (inr (here refl)))) in
      omega (arith, ap (λ (u : Passage). u.end) (i ∙ sym a))
  past_before (y ∷ past) w next v vs k e x (there m) =
      let b : vs ≡ past ++ (w ∷ next) = cc in
      let f = further vs past w next k b in
      past_before past w next f.0 f.1 f.2 f.3 x m

  -- one of those after is entered after this one ends
  pub next_after : (past : List Passage) (w : Passage) (next : List Passage) (v : Passage) (vs : List Passage) → Links H C v vs → v ∷ vs ≡ past ++ (w ∷ next)
      → (x : Passage) → x ∈ next → w.end ≤ x.entry.tick
  next_after [] w next v vs k e x m =
      let a : v ≡ w = cc in
      let b : vs ≡ next = cc in
      omega (arith, later-entry k x (subst (λ (l : List Passage). x ∈ l) (sym b) m), ap (λ (u : Passage). u.end) a)
  next_after (y ∷ past) w next v vs k e x m =
      let b : vs ≡ past ++ (w ∷ next) = cc in
      let f = further vs past w next k b in
      next_after past w next f.0 f.1 f.2 f.3 x m
