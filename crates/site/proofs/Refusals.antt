-- No refusal of a table has the number 0, which is what a call says that was carried out. Assumes nothing.
use mathlib.Core.Bool.{Bool, true, false, cond, ◌&&◌}
use mathlib.Core.List.{List, [], ◌∷◌}
use Prim.Native.Nat.{ℕ, zero, suc, pred, ◌≤◌}
use native.Mathlib.Omega.{arith}
use lib.Dec.{leb}
use lib.ListN.{length, take, drop}
use Rattle.model.specs.declared.Sizes.{Sizes}
use Rattle.model.specs.Lists.{Answer, accepted, refused, ◌after◌}
use Rattle.model.specs.declared.TableHeader.{TableHeader}
use Rattle.model.specs.Table.{Component, Read}
use Rattle.model.specs.Reader.{header_at, budget_fine, read_budget, read_arc_parts, byte, word, Parsed, ok, fault, ◌then◌, part, many, update_fine, update_at, read_update, channel_fine, read_channel, pair_fine, pair_at, read_pair, read_pairs, listed, read_items, clock_guard_fine, clock_guard_at, read_clock_guard, data_guard_fine, data_guard_at, read_data_guard, location_fine, location_at, read_location, read_arc_body, edge_fine, read_arc, head_fine, sizes_at, component_with, finished, read_body, read_component, about, at_end, length_fits, read_components, version_fine, length_fine, count_fine, bands_fine, body_start, read_with, read_table}
use Rattle.model.specs.Schedule.{Passage, schedule}
use Rattle.model.specs.Checks.{limit, checked, accepted_schedule, accepted_schedule_of}
use Rattle.refusal_place.proofs.Numbered.{Numbered, Opening, schedule_numbered, checked_numbered}
use Rattle.site.specs.Airtime.{airtime, load_in}

-- a refusal has the number of a question
abbrev pub Told : {A : Type 0} → Answer A → Type 0
Told = Numbered (λ n. 1 ≤ n)

told_after : {A B : Type 0} (a : Answer A) (f : A → Answer B) → Told a → ((x : A) → Told (f x)) → Told (a after f)
told_after (accepted a) f t g = g a
told_after (refused n c) f t g = t

told_cond : {A : Type 0} (b : Bool) (x y : Answer A) → Told x → Told y → Told (cond b x y)
told_cond true x y t u = t
told_cond false x y t u = u

-- ## The reader

abbrev Fails : {A : Type 0} → Parsed A → Type 0
Fails (ok a r) = Unit {0}
Fails (fault n) = 1 ≤ n

fails_then : {A B : Type 0} (p : Parsed A) (f : A → List ℕ → Parsed B) → Fails p → ((a : A) (r : List ℕ) → Fails (f a r)) → Fails (p then f)
fails_then (ok a r) f h k = k a r
fails_then (fault n) f h k = h

fails_cond : {A : Type 0} (t : Bool) (p q : Parsed A) → Fails p → Fails q → Fails (cond t p q)
fails_cond true p q h k = h
fails_cond false p q h k = k

fails_part : {A : Type 0} (n : ℕ) (fine : List ℕ → Bool) (value : List ℕ → A) (bs : List ℕ) → Fails (part n fine value bs)
fails_part n fine value bs =
    fails_cond (leb n (length bs)) _ (fault 4) (fails_cond (fine bs) (ok (value bs) (drop n bs)) (fault 5) tt (omega arith)) (omega arith)

fails_many : {A : Type 0} (p : List ℕ → Parsed A) → ((bs : List ℕ) → Fails (p bs)) → (n : ℕ) (bs : List ℕ) → Fails (many p n bs)
unfolding many
fails_many p h zero bs = tt
fails_many p h (suc n) bs =
    fails_then (p bs) (λ a r. many p n r then λ l q. ok (a ∷ l) q) (h bs)
    (λ a r. fails_then (many p n r) (λ l q. ok (a ∷ l) q) (fails_many p h n r) (λ l q. tt))

fails_pairs : (s : Sizes) (n : ℕ) (seen bs : List ℕ) → Fails (read_pairs s n seen bs)
unfolding read_pairs
fails_pairs s zero seen bs = tt
fails_pairs s (suc n) seen bs =
    fails_then (read_pair s bs) (λ q r. cond (listed q.channel seen) (fault 6) (read_pairs s n (q.channel ∷ seen) r then λ l t. ok (q ∷ l) t)) (fails_part 2 (pair_fine s) pair_at bs)
    (λ q r.
    fails_cond (listed q.channel seen) (fault 6) (read_pairs s n (q.channel ∷ seen) r then λ l t. ok (q ∷ l) t) (omega arith)
    (fails_then (read_pairs s n (q.channel ∷ seen) r) (λ l t. ok (q ∷ l) t) (fails_pairs s n (q.channel ∷ seen) r) (λ l t. tt)))

fails_items : (s : Sizes) (kind n : ℕ) (bs : List ℕ) → Fails (read_items s kind n bs)
unfolding read_items
fails_items s zero n bs = fails_then (many (read_update s) n bs) _ (fails_many (read_update s) (fails_part 4 (update_fine s) update_at) n bs) (λ l r. tt)
fails_items s (suc zero) n bs = fails_then (read_channel s bs) _ (fails_part 1 (channel_fine s) (λ bs. byte bs 0) bs) (λ k r. tt)
fails_items s (suc (suc k)) n bs = fails_then (read_pairs s n [] bs) _ (fails_pairs s n [] bs) (λ l r. tt)

fails_budget : (b : Bool) (bs : List ℕ) → Fails (read_budget b bs)
fails_budget true bs = fails_then (part 2 budget_fine (λ r. word r 0) bs) _ (fails_part 2 budget_fine (λ r. word r 0) bs) (λ k r. tt)
fails_budget false bs = tt

fails_arc : (s : Sizes) (bs : List ℕ) → Fails (read_arc s bs)
unfolding read_arc
fails_arc s bs =
    fails_then (part 7 (edge_fine s) (λ h. h) bs) (read_arc_body s) (fails_part 7 (edge_fine s) (λ h. h) bs)
    (λ h r.
    fails_then (read_budget s.budgets r) (read_arc_parts s h) (fails_budget s.budgets r)
    (λ b r₀.
    fails_then (many (read_clock_guard s) (byte h 4) r₀) _ (fails_many (read_clock_guard s) (fails_part 5 (clock_guard_fine s) clock_guard_at) (byte h 4) r₀)
    (λ cs r₁.
    fails_then (many (read_data_guard s) (byte h 5) r₁) _ (fails_many (read_data_guard s) (fails_part 5 (data_guard_fine s) data_guard_at) (byte h 5) r₁)
    (λ ds r₂. fails_then (read_items s (byte h 0) (byte h 6) r₂) _ (fails_items s (byte h 0) (byte h 6) r₂) (λ i r₃. tt)))))

fails_component : (d : TableHeader) (bs : List ℕ) → Fails (read_component d bs)
unfolding read_component
fails_component d bs =
    fails_then (part 7 head_fine (λ h. h) bs) (read_body d) (fails_part 7 head_fine (λ h. h) bs)
    (λ h r.
    fails_then (many (read_location (sizes_at d h)) (byte h 2) r) _ (fails_many (read_location (sizes_at d h)) (fails_part 3 (location_fine (sizes_at d h)) location_at) (byte h 2) r)
    (λ ls r₁.
    fails_then (many (read_arc (sizes_at d h)) (byte h 6) r₁) _ (fails_many (read_arc (sizes_at d h)) (fails_arc (sizes_at d h)) (byte h 6) r₁)
    (λ as' r₂. left (component_with h ls as') r₂)))
  where
    left : (C : Component) (r : List ℕ) → Fails (finished C r)
    left C [] = tt
    left C (b ∷ r) = omega arith

told_components : (d : TableHeader) (n c : ℕ) (bs : List ℕ) → Told (read_components d n c bs)
unfolding read_components
told_components d zero c bs = left bs
  where
    left : (r : List ℕ) → Told (at_end (pred c) r)
    left [] = tt
    left (b ∷ r) = omega arith
told_components d (suc n) c bs =
    told_cond (length_fits bs) _ (refused 4 c)
    (told_after (about c (read_component d (take (word bs 0) bs))) _ (told (read_component d (take (word bs 0) bs)) (fails_component d (take (word bs 0) bs)))
    (λ C. told_after (read_components d n (suc c) (drop (word bs 0) bs)) (λ l. accepted (C ∷ l)) (told_components d n (suc c) (drop (word bs 0) bs)) (λ l. tt)))
    (omega arith)
  where
    told : (p : Parsed Component) → Fails p → Told (about c p)
    told (ok C r) h = tt
    told (fault k) h = h

told_table : (bs : List ℕ) → Told (read_table bs)
unfolding read_table
told_table bs =
    told_cond (version_fine bs) _ (refused 1 255)
    (told_cond (length_fine bs) _ (refused 2 255)
    (told_cond (count_fine bs && bands_fine bs) _ (refused 3 255)
    (told_after (read_components (header_at bs) (byte bs 3) 0 (drop (body_start bs) bs)) (λ l. accepted (read_with bs l)) (told_components (header_at bs) (byte bs 3) 0 (drop (body_start bs) bs)) (λ l. tt))
    (omega arith))
    (omega arith))
    (omega arith)

-- ## The schedule and the load

told_planned : (t : Read) → Told (accepted_schedule_of t)
unfolding accepted_schedule
told_planned t =
    told_after (schedule limit t.table t.horizon) (checked 0 t.table t.horizon) (opens (schedule limit t.table t.horizon) (schedule_numbered limit t.table t.horizon))
    (λ S. meets (checked 0 t.table t.horizon S) (checked_numbered 0 t.table t.horizon S))
  where
    opens : (a : Answer (List Passage)) → Numbered Opening a → Told a
    opens (accepted S) h = tt
    opens (refused n c) h = omega (arith, h.0)

    meets : (a : Answer (List Passage)) → Numbered (λ n. 10 ≤ n) a → Told a
    meets (accepted S) h = tt
    meets (refused n c) h = omega (arith, h)

-- what a table is refused with when it is put
pub told_load : (table : List ℕ) → Told (load_in table)
unfolding load_in
told_load table =
    told_after (read_table table) (λ t. accepted_schedule_of t after λ S. accepted (record { horizon = t.horizon; airtime = airtime t.table t.horizon S })) (told_table table)
    (λ t. told_after (accepted_schedule_of t) (λ S. accepted (record { horizon = t.horizon; airtime = airtime t.table t.horizon S })) (told_planned t) (λ S. tt))
