-- The opening that is told is the one that the verdict is about, and the reasons are right. Assumes nothing.
use mathlib.Core.Path.{◌≡◌, refl, sym, ap, ap₂, subst, ◌∙◌}
use mathlib.Core.Bool.{Bool, true, false, cond}
use mathlib.Core.Logic.{◌↔◌}
use mathlib.Core.List.{List, [], ◌∷◌}
use mathlib.Core.Option.{Option, none, some}
use Prim.Native.Nat.{ℕ, zero, suc, ◌+◌, ◌-◌, ◌≤◌}
use native.Mathlib.Omega.{arith}
use borrow.Author.Tests.{eq-eqb, leb-true, leb-false}
use lib.Dec.{leb, ltb}
use lib.IntN.{ℤ}
use lib.ListN.{length, length-append}
use Rattle.model.specs.declared.Verdict.{Verdict}
use Rattle.model.specs.declared.Verdict.TheVariants.{Refused}
use Rattle.model.specs.Lists.{snoc, Answer, accepted, refused, ◌after◌}
use Rattle.model.specs.Table.{Component, Table, Read, size, component_of, arc_of}
use Rattle.model.specs.Reader.{read_table}
use Rattle.model.specs.Window.{Entry, Pick, choice, updated, channel_of}
use Rattle.model.specs.Schedule.{Passage, start_entry, passage_of, ranged, picked, opening, OpenedSoFar, begin, next, closing, opened, schedule}
use Rattle.model.specs.Checks.{limit, checked, accepted_schedule, accepted_schedule_of}
use Rattle.model.specs.Calls.{verdict_of, accepted_schedule_in, check_call}
use Rattle.model.proofs.Reader.Limits.{read_limits}
use Rattle.table.proofs.Answered.{verdict_refused}
use Rattle.refusal_place.proofs.Numbered.{Numbered, opening_numbered, checked_numbered}
use Rattle.refusal_place.proofs.Whole.{told}
use Rattle.opening_place.specs.Opening.{Stop, stops_or, begin_stop, while_below_stop, go_on_stop, first_or, schedule_stop, opening_told, stop_read, table_stop, opening_of}
use Rattle.opening_place.proofs.Stopped.{Stopped, schedule_stops}
use Rattle.opening_place.proofs.Why.{eight, nine}
use Rattle.refused_opening.specs.Promised.{Why, OpeningTold}

-- ## 7: so many passages were opened as there is room for

abbrev Seven : ℕ → Option Stop → Type 0
Seven n none = Unit {0}
Seven n (some s) = s.number ≡ 7 → s.passage ≡ n

one_seven : (before : List Passage) (c : ℕ) (C : Component) (at : Entry) (later : Passage → Option Stop) (n : ℕ) (a : Answer Passage) → Numbered (λ m. (8 ≤ m) × (m ≤ 9)) a
    → ((v : Passage) → Seven n (later v)) → Seven n (stops_or before c C at later a)
one_seven before c C at later n (accepted v) h k = k v
one_seven before c C at later n (refused m d) h k = λ e. absurd (omega (arith, h))

begin_seven : (room c : ℕ) (Cs : List Component) (vs : List Passage) → Seven (room + length vs) (begin_stop room c Cs vs)
unfolding begin_stop
begin_seven room c [] vs = tt
begin_seven zero c (C ∷ Cs) vs = λ e. omega arith
begin_seven (suc room) c (C ∷ Cs) vs =
    one_seven vs c C (start_entry C) (λ v. begin_stop room (suc c) Cs (snoc vs v)) (suc room + length vs) (opening c C (start_entry C)) (opening_numbered c C (start_entry C))
    (λ v. (let n : room + length (snoc vs v) ≡ suc room + length vs = omega (arith, length-append vs (v ∷ [])) in
    rw (← n) (begin_seven room (suc c) Cs (snoc vs v))))

while_seven : (H n : ℕ) (on : Passage → Option Stop) (o : Option Passage) → ((v : Passage) → Seven n (on v)) → Seven n (while_below_stop H on o)
while_seven H n on none h = tt
while_seven H n on (some v) h = go (ltb v.end H)
  where
    go : (b : Bool) → Seven n (cond b (on v) none)
    go true = h v
    go false = tt

on_seven : (T : Table) (H room : ℕ) (p : OpenedSoFar) → Seven (room + length p.listed) (go_on_stop T H room p)
unfolding go_on_stop
on_seven T H zero p = while_seven H (zero + length p.listed) _ (next p.current) (λ v e. omega arith)
on_seven T H (suc room) p =
    while_seven H (suc room + length p.listed) _ (next p.current)
    (λ v. one_seven p.listed v.component (component_of T v.component) (closing T H p.listed v) (λ w. go_on_stop T H room (opened p w)) (suc room + length p.listed) (opening v.component (component_of T v.component) (closing T H p.listed v))
    (opening_numbered v.component (component_of T v.component) (closing T H p.listed v))
    (λ w. (let n : room + length (snoc p.listed w) ≡ suc room + length p.listed = omega (arith, length-append p.listed (w ∷ [])) in
    rw (← n) (on_seven T H room (opened p w)))))

-- all components have opened
begun_length : (room c : ℕ) (Cs : List Component) (vs ws : List Passage) → begin room c Cs vs ≡ accepted ws → length ws ≡ length vs + length Cs
unfolding begin
begun_length room c [] vs ws e = let q : vs ≡ ws = cc in omega (arith, ap length q)
begun_length zero c (C ∷ Cs) vs ws e = let z : ◌≡◌ {A = ℕ} 0 1 = cc in absurd (omega arith)
begun_length (suc room) c (C ∷ Cs) vs ws e = go (opening c C (start_entry C)) (λ v. begun_length room (suc c) Cs (snoc vs v) ws) e
  where
    go : (a : Answer Passage) → ((v : Passage) → begin room (suc c) Cs (snoc vs v) ≡ accepted ws → length ws ≡ length (snoc vs v) + length Cs)
        → (a after λ v. begin room (suc c) Cs (snoc vs v)) ≡ accepted ws → length ws ≡ length vs + suc (length Cs)
    go (accepted v) more q = omega (arith, more v q, length-append vs (v ∷ []))
    go (refused m d) more q = let z : ◌≡◌ {A = ℕ} 0 1 = cc in absurd (omega arith)

schedule_seven : (most : ℕ) (T : Table) (H : ℕ) → size T ≤ most → Seven most (schedule_stop most T H)
unfolding schedule_stop
schedule_seven most T H h = go (begin most 0 T.components []) refl
  where
    go : (a : Answer (List Passage)) → begin most 0 T.components [] ≡ a
        → Seven most (first_or (begin_stop most 0 T.components []) a (λ vs. go_on_stop T H (most - size T) (record { listed = vs; current = vs })))
    go (accepted vs) e =
        let n : most - size T + length vs ≡ most = omega (arith, begun_length most 0 T.components [] vs e) in
        subst (λ k. Seven k (go_on_stop T H (most - size T) (record { listed = vs; current = vs }))) n (on_seven T H (most - size T) (record { listed = vs; current = vs }))
    go (refused m d) e = let n : most + 0 ≡ most = omega arith in subst (λ k. Seven k (begin_stop most 0 T.components [])) n (begin_seven most 0 T.components [])

-- ## 8 and 9

-- with 8 no edge is taken
none_chosen : (c : ℕ) (C : Component) (at : Entry) → opening c C at ≡ refused 8 c → choice C at ≡ none
unfolding opening
none_chosen c C at e = go (choice C at) e
  where
    last : (o : Option (List ℤ)) (v : Passage) → ranged c o v ≡ refused 8 c → ⊥
    last none v q = let z : ◌≡◌ {A = ℕ} 9 8 = cc in omega arith
    last (some vs) v q = let z : ◌≡◌ {A = ℕ} 0 1 = cc in omega arith

    go : (o : Option Pick) → picked c C at o ≡ refused 8 c → o ≡ none
    go none q = refl
    go (some p) q = absurd (last (updated (arc_of C p.edge).updates at.values) (passage_of c at p (channel_of (arc_of C p.edge))) q)

-- why an opening of a schedule is refused
why_stopped : (a : Answer (List Passage)) (s : Stop) → Stopped a (some s) → (s.number ≡ 7 → s.passage ≡ 1024) → Why s (opening_told (some s))
why_stopped (accepted S) s t m = let z : ◌≡◌ {A = ℕ} 0 1 = cc in absurd (omega arith)
why_stopped (refused n c) s t m =
    let o : (s.number ≡ 7 → ⊥) → opening s.component s.automaton s.entry ≡ refused s.number s.component = λ h.
    (t.2 (λ q. h (t.0 ∙ q)) ∙ ap₂ {C = Answer Passage} (λ (k d : ℕ). refused k d) (sym t.0) (sym t.1)) in
    let at : (k : ℕ) → (k ≡ 7 → ⊥) → s.number ≡ k → opening s.component s.automaton s.entry ≡ refused k s.component = λ k h q.
    (o (λ z. h (sym q ∙ z)) ∙ ap {B = Answer Passage} (λ j. refused j s.component) q) in
    record {
      refused = o;
      seven = m;
      eight = λ q. (none_chosen s.component s.automaton s.entry (at 8 (λ z. omega arith) q), rw (eq-eqb s.number 8 q) (eight s.component s.automaton s.entry (at 8 (λ z. omega arith) q)));
      nine = λ q. (let w = nine s.component s.automaton s.entry (at 9 (λ z. omega arith) q) in (w.0, w.2, rw (eq-eqb s.number 9 q, w.3) refl, rw (eq-eqb s.number 9 q, w.3) w.4));
    }

-- ## The verdict

-- the verdict on a table that was read, from where its schedule stops
verdict_read : (t : Read) (n c : ℕ) → 7 ≤ n → n ≤ 9 → (a : Answer (List Passage)) (o : Option Stop) → Stopped a o
    → (verdict_of (a after checked 0 t.table t.horizon) ≡ Refused n c) ↔ ((opening_told o).number ≡ n) × ((opening_told o).component ≡ c)
verdict_read t n c h k (accepted S) o s = (
  λ e. absurd (late (checked 0 t.table t.horizon S) (checked_numbered 0 t.table t.horizon S) (verdict_refused (checked 0 t.table t.horizon S) e)),
  λ (a, b). absurd (omega (arith, ap (λ x. (opening_told x).number) s)),
)
  where
    late : (x : Answer (List Passage)) → Numbered (λ m. 10 ≤ m) x → x ≡ refused n c → ⊥
    late x l r = let m : 10 ≤ n = rw r at l in omega arith
verdict_read t n c h k (refused m d) none s = absurd s
verdict_read t n c h k (refused m d) (some x) s = (λ e. (s.0 ∙ number e, s.1 ∙ component e), λ (a, b). ap₂ {C = Verdict} (λ (i j : ℕ). Refused i j) (sym s.0 ∙ a) (sym s.1 ∙ b))
  where
    number : Refused m d ≡ Refused n c → m ≡ n
    number q = cc

    component : Refused m d ≡ Refused n c → d ≡ c
    component q = cc

module _ (bs : List ℕ) where
  -- the reader refuses with 6 at most
  small : (m d : ℕ) → read_table bs ≡ refused m d → m ≤ 6
  small m d e = go (leb 4 m) refl
    where
      go : (b : Bool) → leb 4 m ≡ b → m ≤ 6
      go true q = let w = (told bs).stops m d (leb-true 4 m q) e in omega (arith, w.0, w.1.number)
      go false q = omega (arith, leb-false 4 m q)

  verdict_told : (n c : ℕ) → 7 ≤ n → n ≤ 9 → (check_call bs ≡ Refused n c) ↔ ((opening_of bs).number ≡ n) × ((opening_of bs).component ≡ c)
  unfolding check_call accepted_schedule_in accepted_schedule opening_of table_stop
  verdict_told n c h k = go (read_table bs) small
    where
      go : (a : Answer Read) → ((m d : ℕ) → a ≡ refused m d → m ≤ 6)
          → (verdict_of (a after accepted_schedule_of) ≡ Refused n c) ↔ ((opening_told (stop_read a)).number ≡ n) × ((opening_told (stop_read a)).component ≡ c)
      go (accepted t) f = verdict_read t n c h k (schedule limit t.table t.horizon) (schedule_stop limit t.table t.horizon) (schedule_stops limit t.table t.horizon)
      go (refused m d) f = (λ e. absurd (let q : m ≡ n = cc in omega (arith, f m d refl)), λ (a, b). absurd (omega arith))

  why_told : (s : Stop) → table_stop bs ≡ some s → Why s (opening_of bs)
  unfolding opening_of table_stop
  why_told s e = subst (Why s) (sym (ap opening_told e)) (go (read_table bs) refl e)
    where
      go : (a : Answer Read) → read_table bs ≡ a → stop_read a ≡ some s → Why s (opening_told (some s))
      go (accepted t) q r =
          why_stopped (schedule limit t.table t.horizon) s (subst (Stopped (schedule limit t.table t.horizon)) r (schedule_stops limit t.table t.horizon))
          (subst (Seven 1024) r (schedule_seven limit t.table t.horizon (omega (arith, (read_limits bs t q).most_components))))
      go (refused m d) q r = let z : ◌≡◌ {A = ℕ} 0 1 = cc in absurd (omega arith)

  pub promised : OpeningTold bs
  promised = record { verdict = verdict_told; why = why_told }
