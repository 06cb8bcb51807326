-- Which numbers refuse: the reader answers 6 at most, the schedule 9 at most. Assumes nothing.
use mathlib.Core.Bool.{Bool, true, false, cond, ◌&&◌}
use mathlib.Core.List.{List, [], ◌∷◌}
use mathlib.Core.Option.{Option, none, some}
use Prim.Native.Nat.{ℕ, zero, suc, pred, ◌-◌, ◌≤◌}
use native.Mathlib.Omega.{arith}
use lib.Dec.{leb, ltb}
use lib.IntN.{ℤ}
use lib.ListN.{length, take, drop}
use Rattle.model.specs.declared.Sizes.{Sizes}
use Rattle.model.specs.declared.Pair.{Pair}
use Rattle.model.specs.Lists.{snoc, Answer, accepted, refused, ◌after◌}
use Rattle.model.specs.Table.{TableHeader, Component, Table, Read, size, component_of, arc_of}
use Rattle.model.specs.Reader.{header_at, budget_fine, read_budget, read_arc_parts, byte, word, Parsed, ok, fault, ◌then◌, part, many, update_fine, update_at, read_update, channel_fine, read_channel, pair_fine, pair_at, read_pair, read_pairs, listed, read_items, clock_guard_fine, clock_guard_at, read_clock_guard, data_guard_fine, data_guard_at, read_data_guard, location_fine, location_at, read_location, read_arc_body, edge_fine, read_arc, head_fine, sizes_at, component_with, finished, read_body, read_component, about, at_end, length_fits, read_components, version_fine, length_fine, count_fine, bands_fine, body_start, read_with, read_table}
use Rattle.model.specs.Window.{Entry, Pick, channel_of, choice, updated}
use Rattle.model.specs.Schedule.{Passage, start_entry, passage_of, ranged, picked, opening, OpenedSoFar, begin, next, closing, opened, while_below, go_on, schedule}
use Rattle.model.specs.Schedule.{finished as with_messages}

-- ## Numbers up to a bound

-- a refusal has that number or a lower one
abbrev pub UpTo : {A : Type 0} → ℕ → Answer A → Type 0
UpTo most (accepted a) = Unit {0}
UpTo most (refused n c) = n ≤ most

up_to_after : {A B : Type 0} (most : ℕ) (a : Answer A) (f : A → Answer B) → UpTo most a → ((x : A) → UpTo most (f x)) → UpTo most (a after f)
up_to_after most (accepted x) f h k = k x
up_to_after most (refused n c) f h k = h

up_to_cond : {A : Type 0} (most : ℕ) (t : Bool) (a b : Answer A) → UpTo most a → UpTo most b → UpTo most (cond t a b)
up_to_cond most true a b h k = h
up_to_cond most false a b h k = k

-- ## The reader

-- a part that fails does so at question 6 or an earlier one
abbrev Fails : {A : Type 0} → Parsed A → Type 0
Fails (ok a r) = Unit {0}
Fails (fault n) = n ≤ 6

fails_then : {A B : Type 0} (p : Parsed A) (f : A → List ℕ → Parsed B) → Fails p → ((a : A) (r : List ℕ) → Fails (f a r)) → Fails (p then f)
fails_then (ok a r) f h k = k a r
fails_then (fault n) f h k = h

fails_cond : {A : Type 0} (t : Bool) (p q : Parsed A) → Fails p → Fails q → Fails (cond t p q)
fails_cond true p q h k = h
fails_cond false p q h k = k

fails_part : {A : Type 0} (n : ℕ) (fine : List ℕ → Bool) (value : List ℕ → A) (bs : List ℕ) → Fails (part n fine value bs)
fails_part n fine value bs =
    fails_cond (leb n (length bs)) _ (fault 4) (fails_cond (fine bs) (ok (value bs) (drop n bs)) (fault 5) tt (omega arith)) (omega arith)

fails_many : {A : Type 0} (p : List ℕ → Parsed A) → ((bs : List ℕ) → Fails (p bs)) → (n : ℕ) (bs : List ℕ) → Fails (many p n bs)
unfolding many
fails_many p h zero bs = tt
fails_many p h (suc n) bs =
    fails_then (p bs) (λ a r. many p n r then λ l q. ok (a ∷ l) q) (h bs)
    (λ a r. fails_then (many p n r) (λ l q. ok (a ∷ l) q) (fails_many p h n r) (λ l q. tt))

fails_pairs : (s : Sizes) (n : ℕ) (seen bs : List ℕ) → Fails (read_pairs s n seen bs)
unfolding read_pairs
fails_pairs s zero seen bs = tt
fails_pairs s (suc n) seen bs =
    fails_then (read_pair s bs) (λ q r. cond (listed q.channel seen) (fault 6) (read_pairs s n (q.channel ∷ seen) r then λ l t. ok (q ∷ l) t)) (fails_part 2 (pair_fine s) pair_at bs)
    (λ q r.
    fails_cond (listed q.channel seen) (fault 6) (read_pairs s n (q.channel ∷ seen) r then λ l t. ok (q ∷ l) t) (omega arith)
    (fails_then (read_pairs s n (q.channel ∷ seen) r) (λ l t. ok (q ∷ l) t) (fails_pairs s n (q.channel ∷ seen) r) (λ l t. tt)))

fails_items : (s : Sizes) (kind n : ℕ) (bs : List ℕ) → Fails (read_items s kind n bs)
unfolding read_items
fails_items s zero n bs = fails_then (many (read_update s) n bs) _ (fails_many (read_update s) (fails_part 4 (update_fine s) update_at) n bs) (λ l r. tt)
fails_items s (suc zero) n bs = fails_then (read_channel s bs) _ (fails_part 1 (channel_fine s) (λ bs. byte bs 0) bs) (λ k r. tt)
fails_items s (suc (suc k)) n bs = fails_then (read_pairs s n [] bs) _ (fails_pairs s n [] bs) (λ l r. tt)

fails_budget : (b : Bool) (bs : List ℕ) → Fails (read_budget b bs)
fails_budget true bs = fails_then (part 2 budget_fine (λ r. word r 0) bs) _ (fails_part 2 budget_fine (λ r. word r 0) bs) (λ k r. tt)
fails_budget false bs = tt

fails_arc : (s : Sizes) (bs : List ℕ) → Fails (read_arc s bs)
unfolding read_arc
fails_arc s bs =
    fails_then (part 7 (edge_fine s) (λ h. h) bs) (read_arc_body s) (fails_part 7 (edge_fine s) (λ h. h) bs)
    (λ h r.
    fails_then (read_budget s.budgets r) (read_arc_parts s h) (fails_budget s.budgets r)
    (λ b r₀.
    fails_then (many (read_clock_guard s) (byte h 4) r₀) _ (fails_many (read_clock_guard s) (fails_part 5 (clock_guard_fine s) clock_guard_at) (byte h 4) r₀)
    (λ cs r₁.
    fails_then (many (read_data_guard s) (byte h 5) r₁) _ (fails_many (read_data_guard s) (fails_part 5 (data_guard_fine s) data_guard_at) (byte h 5) r₁)
    (λ ds r₂.
    fails_then (read_items s (byte h 0) (byte h 6) r₂) _ (fails_items s (byte h 0) (byte h 6) r₂) (λ i r₃. tt)))))

fails_component : (channels : TableHeader) (bs : List ℕ) → Fails (read_component channels bs)
unfolding read_component
fails_component channels bs =
    fails_then (part 7 head_fine (λ h. h) bs) (read_body channels) (fails_part 7 head_fine (λ h. h) bs)
    (λ h r.
    fails_then (many (read_location (sizes_at channels h)) (byte h 2) r) _ (fails_many (read_location (sizes_at channels h)) (fails_part 3 (location_fine (sizes_at channels h)) location_at) (byte h 2) r)
    (λ ls r₁.
    fails_then (many (read_arc (sizes_at channels h)) (byte h 6) r₁) _ (fails_many (read_arc (sizes_at channels h)) (fails_arc (sizes_at channels h)) (byte h 6) r₁)
    (λ as' r₂. left (component_with h ls as') r₂)))
  where
    left : (C : Component) (r : List ℕ) → Fails (finished C r)
    left C [] = tt
    left C (b ∷ r) = omega arith

components_up_to : (channels : TableHeader) (n c : ℕ) (bs : List ℕ) → UpTo 6 (read_components channels n c bs)
unfolding read_components
components_up_to channels zero c bs = left bs
  where
    left : (r : List ℕ) → UpTo 6 (at_end (pred c) r)
    left [] = tt
    left (b ∷ r) = omega arith
components_up_to channels (suc n) c bs =
    up_to_cond 6 (length_fits bs) _ (refused 4 c)
    (up_to_after 6 (about c (read_component channels (take (word bs 0) bs))) _ (told (read_component channels (take (word bs 0) bs)) (fails_component channels (take (word bs 0) bs)))
    (λ C. up_to_after 6 (read_components channels n (suc c) (drop (word bs 0) bs)) (λ l. accepted (C ∷ l)) (components_up_to channels n (suc c) (drop (word bs 0) bs)) (λ l. tt)))
    (omega arith)
  where
    told : (p : Parsed Component) → Fails p → UpTo 6 (about c p)
    told (ok C r) h = tt
    told (fault k) h = h

-- 1 to 6
pub read_up_to : (bs : List ℕ) → UpTo 6 (read_table bs)
unfolding read_table
read_up_to bs =
    up_to_cond 6 (version_fine bs) _ (refused 1 255)
    (up_to_cond 6 (length_fine bs) _ (refused 2 255)
    (up_to_cond 6 (count_fine bs && bands_fine bs) _ (refused 3 255)
    (up_to_after 6 (read_components (header_at bs) (byte bs 3) 0 (drop (body_start bs) bs)) (λ l. accepted (read_with bs l)) (components_up_to (header_at bs) (byte bs 3) 0 (drop (body_start bs) bs)) (λ l. tt))
    (omega arith))
    (omega arith))
    (omega arith)

-- ## The schedule

opening_up_to : (c : ℕ) (C : Component) (at : Entry) → UpTo 9 (opening c C at)
unfolding opening
opening_up_to c C at = by_choice (choice C at)
  where
    by_values : (v : Passage) (o : Option (List ℤ)) → UpTo 9 (ranged c o v)
    by_values v none = omega arith
    by_values v (some vs) = tt

    by_choice : (o : Option Pick) → UpTo 9 (picked c C at o)
    by_choice none = omega arith
    by_choice (some p) = by_values (passage_of c at p (channel_of (arc_of C p.edge))) (updated (arc_of C p.edge).updates at.values)

begin_up_to : (room c : ℕ) (Cs : List Component) (vs : List Passage) → UpTo 9 (begin room c Cs vs)
unfolding begin
begin_up_to room c [] vs = tt
begin_up_to zero c (C ∷ Cs) vs = omega arith
begin_up_to (suc room) c (C ∷ Cs) vs =
    up_to_after 9 (opening c C (start_entry C)) (λ v. begin room (suc c) Cs (snoc vs v)) (opening_up_to c C (start_entry C)) (λ v. begin_up_to room (suc c) Cs (snoc vs v))

while_up_to : (H : ℕ) (on : Passage → Answer (List Passage)) (vs : List Passage) (o : Option Passage) → ((v : Passage) → UpTo 9 (on v)) → UpTo 9 (while_below H on vs o)
while_up_to H on vs none h = tt
while_up_to H on vs (some v) h = up_to_cond 9 (ltb v.end H) (on v) (accepted vs) (h v) tt

on_up_to : (T : Table) (H room : ℕ) (p : OpenedSoFar) → UpTo 9 (go_on T H room p)
unfolding go_on
on_up_to T H zero p = while_up_to H (λ v. refused 7 v.component) p.listed (next p.current) (λ v. omega arith)
on_up_to T H (suc room) p =
    while_up_to H (λ v. opening v.component (component_of T v.component) (closing T H p.listed v) after λ w. go_on T H room (opened p w)) p.listed (next p.current)
    (λ v.
    up_to_after 9 (opening v.component (component_of T v.component) (closing T H p.listed v)) (λ w. go_on T H room (opened p w))
    (opening_up_to v.component (component_of T v.component) (closing T H p.listed v)) (λ w. on_up_to T H room (opened p w)))

-- 7 to 9
pub schedule_up_to : (most : ℕ) (T : Table) (H : ℕ) → UpTo 9 (schedule most T H)
unfolding schedule
schedule_up_to most T H =
    up_to_after 9 (begin most 0 T.components []) _ (begin_up_to most 0 T.components [])
    (λ vs. up_to_after 9 (go_on T H (most - size T) (record { listed = vs; current = vs })) (λ ws. accepted (with_messages T H ws)) (on_up_to T H (most - size T) _) (λ ws. tt))
