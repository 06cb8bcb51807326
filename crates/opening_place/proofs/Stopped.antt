-- Where the schedule stops is where it is refused, with its number and component; and the reasons are all there are. Assumes nothing.
use mathlib.Core.Path.{◌≡◌, refl}
use mathlib.Core.Bool.{Bool, true, false, cond}
use mathlib.Core.List.{List, [], ◌∷◌}
use mathlib.Core.Option.{Option, none, some}
use Prim.Native.Nat.{ℕ, zero, suc, ◌-◌}
use native.Mathlib.Omega.{arith}
use lib.Dec.{ltb}
use lib.IntN.{ℤ}
use Rattle.model.specs.Lists.{snoc, Answer, accepted, refused, ◌after◌}
use Rattle.model.specs.Table.{Component, Table, size, component_of, arc_of}
use Rattle.model.specs.Window.{Entry, Pick, choice, updated, channel_of}
use Rattle.model.specs.Schedule.{Passage, start_entry, passage_of, ranged, picked, opening, OpenedSoFar, begin, next, closing, opened, while_below, go_on, finished, schedule}
use Rattle.opening_place.specs.Opening.{Stop, stops_or, begin_stop, while_below_stop, go_on_stop, first_or, schedule_stop}

-- accepted: no stop; refused: a stop with that number and that component, and but for 7 the opening there is refused so
abbrev pub Stopped : {A : Type 0} → Answer A → Option Stop → Type 0
Stopped (accepted a) s = s ≡ none
Stopped (refused n c) none = ⊥
Stopped (refused n c) (some s) =
    (s.number ≡ n) × (s.component ≡ c) × ((n ≡ 7 → ⊥) → opening s.component s.automaton s.entry ≡ refused n c)

-- an opening that is refused names its component
opening_names : (c : ℕ) (C : Component) (at : Entry) (n d : ℕ) → opening c C at ≡ refused n d → c ≡ d
unfolding opening
opening_names c C at n d e = go (choice C at) e
  where
    last : (o : Option (List ℤ)) (v : Passage) → ranged c o v ≡ refused n d → c ≡ d
    last none v q = cc
    last (some vs) v q = let z : ◌≡◌ {A = ℕ} 0 1 = cc in absurd (omega arith)

    go : (o : Option Pick) → picked c C at o ≡ refused n d → c ≡ d
    go none q = cc
    go (some p) q = last (updated (arc_of C p.edge).updates at.values) (passage_of c at p (channel_of (arc_of C p.edge))) q

-- one opening, and what comes after it
one : {A : Type 0} (before : List Passage) (c : ℕ) (C : Component) (at : Entry) (a : Answer Passage) (f : Passage → Answer A) (later : Passage → Option Stop)
    → opening c C at ≡ a → ((v : Passage) → Stopped (f v) (later v)) → Stopped (a after f) (stops_or before c C at later a)
one before c C at (accepted v) f later q each = each v
one before c C at (refused n d) f later q each = (refl, opening_names c C at n d q, λ _. q)

begin_stops : (room c : ℕ) (Cs : List Component) (vs : List Passage) → Stopped (begin room c Cs vs) (begin_stop room c Cs vs)
unfolding begin begin_stop
begin_stops room c [] vs = refl
begin_stops zero c (C ∷ Cs) vs = (refl, refl, λ no. absurd (no refl))
begin_stops (suc room) c (C ∷ Cs) vs =
    one vs c C (start_entry C) (opening c C (start_entry C)) (λ v. begin room (suc c) Cs (snoc vs v)) (λ v. begin_stop room (suc c) Cs (snoc vs v)) refl
    (λ v. begin_stops room (suc c) Cs (snoc vs v))

while_stops : (H : ℕ) (vs : List Passage) (on : Passage → Answer (List Passage)) (stop : Passage → Option Stop) (o : Option Passage)
    → ((v : Passage) → Stopped (on v) (stop v)) → Stopped (while_below H on vs o) (while_below_stop H stop o)
while_stops H vs on stop none each = refl
while_stops H vs on stop (some v) each = go (ltb v.end H) (each v)
  where
    go : (b : Bool) → Stopped (on v) (stop v) → Stopped (cond b (on v) (accepted vs)) (cond b (stop v) none)
    go true t = t
    go false t = refl

go_on_stops : (T : Table) (H room : ℕ) (p : OpenedSoFar) → Stopped (go_on T H room p) (go_on_stop T H room p)
unfolding go_on go_on_stop
go_on_stops T H zero p = while_stops H p.listed _ _ (next p.current) (λ v. (refl, refl, λ no. absurd (no refl)))
go_on_stops T H (suc room) p =
    while_stops H p.listed _ _ (next p.current)
    (λ v. one p.listed v.component (component_of T v.component) (closing T H p.listed v) (opening v.component (component_of T v.component) (closing T H p.listed v)) (λ w. go_on T H room (opened p w)) (λ w. go_on_stop T H room (opened p w)) refl
    (λ w. go_on_stops T H room (opened p w)))

-- the schedule stops exactly if it is refused, with its number and component
pub schedule_stops : (limit : ℕ) (T : Table) (H : ℕ) → Stopped (schedule limit T H) (schedule_stop limit T H)
unfolding schedule schedule_stop
schedule_stops limit T H = go (begin limit 0 T.components []) (begin_stop limit 0 T.components []) (begin_stops limit 0 T.components [])
  where
    last : (a : Answer (List Passage)) (s : Option Stop) → Stopped a s → Stopped (a after λ ws. accepted (finished T H ws)) s
    last (accepted ws) s t = t
    last (refused n c) s t = t

    go : (a : Answer (List Passage)) (s : Option Stop) → Stopped a s
        → Stopped (a after λ vs. go_on T H (limit - size T) (record { listed = vs; current = vs }) after λ ws. accepted (finished T H ws)) (first_or s a (λ vs. go_on_stop T H (limit - size T) (record { listed = vs; current = vs })))
    go (accepted vs) s t =
        last (go_on T H (limit - size T) (record { listed = vs; current = vs })) _ (go_on_stops T H (limit - size T) (record { listed = vs; current = vs }))
    go (refused n c) s t = t
