-- Document 01, "Checks, in this order", 1 to 6: from bytes to the table with its horizon, front to back, the first fault counts.
use Rattle.std.specs.Prelude.{Bool, true, false, cond, ◌&&◌, ◌||◌, List, [], ◌∷◌, ℕ, zero, suc, pred, ◌+◌, ◌-◌, ◌*◌, ◌^◌, leb, ltb, eqb, ℤ, pos, negsuc, length, get_or, take, drop, replicate}
use Rattle.std.proofs.Math.Option.{Option, none, some}
use Rattle.model.specs.declared.Action.{Action}
use Rattle.model.specs.declared.Action.TheVariants.{Internal, Send, Receive}
use Rattle.model.specs.declared.Edge.{Edge}
use Rattle.model.specs.declared.Location.{Location}
use Rattle.model.specs.declared.ClockGuard.{ClockGuard}
use Rattle.model.specs.declared.DataGuard.{DataGuard}
use Rattle.model.specs.declared.Update.{Update}
use Rattle.model.specs.declared.Pair.{Pair}
use Rattle.model.specs.declared.Sizes.{Sizes}
use Rattle.model.specs.Lists.{all, any, Answer, accepted, refused, ◌after◌}
use Rattle.model.specs.Table.{Arc, Component, Read, TableHeader}

-- "All fields are unsigned, big-endian": the byte, and the number of two bytes, that stand at i.
abbrev pub byte : List ℕ → ℕ → ℕ
byte bs i = get_or bs i 0

abbrev pub word : List ℕ → ℕ → ℕ
word bs i = byte bs i * 256 + byte bs (suc i)

-- "two's complement"
abbrev pub complement : ℕ → ℤ
complement n = cond (ltb n 32768) (pos n) (negsuc (65535 - n))

-- Reading a part gives what it says and the bytes of the component after it, or the number of the question that it fails.
pub data Parsed (A : Type 0) : Type 0 where
  ok : A → List ℕ → Parsed A
  fault : ℕ → Parsed A

abbrev pub ◌then◌ : {A B : Type 0} → Parsed A → (A → List ℕ → Parsed B) → Parsed B
◌then◌ (ok a r) f = f a r
◌then◌ (fault n) f = fault n

infixl 5 ◌then◌
-- "each part must fit before its contents are tried": a part of n bytes at the front, whose contents must be fine. 4: does it fit? Then 5: "Is every
-- number in its range and every mask bit a clock?"
abbrev pub part : {A : Type 0} → ℕ → (List ℕ → Bool) → (List ℕ → A) → List ℕ → Parsed A
part n fine value bs = let tried = cond (fine bs) (ok (value bs) (drop n bs)) (fault 5) in cond (leb n (length bs)) tried (fault 4)

-- n parts of one kind
unfoldable pub many : {A : Type 0} → (List ℕ → Parsed A) → ℕ → List ℕ → Parsed (List A)
many p zero bs = ok [] bs
many p (suc n) bs = p bs then λ a r. many p n r then λ l q. ok (a ∷ l) q

-- ## Locations and bounds

-- "Location, 3 bytes: clock, and bound q (0 to 60,000)."
abbrev pub location_fine : Sizes → List ℕ → Bool
location_fine s bs = ltb (byte bs 0) s.clocks && leb (word bs 1) 60000

abbrev pub location_at : List ℕ → Location
location_at bs = record { clock = byte bs 0; bound = word bs 1 }

abbrev pub read_location : Sizes → List ℕ → Parsed Location
read_location s = part 3 (location_fine s) location_at

-- "Clock bound, 5 bytes: clock, low (0 to 60,000), high (0 to 60,000, or 65,535 for none)."
abbrev pub clock_guard_fine : Sizes → List ℕ → Bool
clock_guard_fine s bs = ltb (byte bs 0) s.clocks && leb (word bs 1) 60000 && (leb (word bs 3) 60000 || eqb (word bs 3) 65535)

abbrev pub clock_guard_at : List ℕ → ClockGuard
clock_guard_at bs = record { clock = byte bs 0; low = word bs 1; high = word bs 3 }

abbrev pub read_clock_guard : Sizes → List ℕ → Parsed ClockGuard
read_clock_guard s = part 5 (clock_guard_fine s) clock_guard_at

-- "Data bound, 5 bytes: variable, low, high, two's complement."
abbrev pub data_guard_fine : Sizes → List ℕ → Bool
data_guard_fine s bs = ltb (byte bs 0) s.variables

abbrev pub data_guard_at : List ℕ → DataGuard
data_guard_at bs = record { variable = byte bs 0; low = complement (word bs 1); high = complement (word bs 3) }

abbrev pub read_data_guard : Sizes → List ℕ → Parsed DataGuard
read_data_guard s = part 5 (data_guard_fine s) data_guard_at

-- ## Items

-- "updates of 4 bytes: variable, 0 set or 1 add, signed number"
abbrev pub update_fine : Sizes → List ℕ → Bool
update_fine s bs = ltb (byte bs 0) s.variables && leb (byte bs 1) 1

abbrev pub update_at : List ℕ → Update
update_at bs = record { variable = byte bs 0; adds = eqb (byte bs 1) 1; number = complement (word bs 2) }

abbrev pub read_update : Sizes → List ℕ → Parsed Update
read_update s = part 4 (update_fine s) update_at

-- "Send: exactly one item, 1 byte, the channel."
abbrev pub channel_fine : Sizes → List ℕ → Bool
channel_fine s bs = ltb (byte bs 0) s.channels

abbrev pub read_channel : Sizes → List ℕ → Parsed ℕ
read_channel s = part 1 (channel_fine s) (λ bs. byte bs 0)

-- "Receive: 1 to 8 pairs of channel and location."
abbrev pub pair_fine : Sizes → List ℕ → Bool
pair_fine s bs = ltb (byte bs 0) s.channels && ltb (byte bs 1) s.locations

abbrev pub pair_at : List ℕ → Pair
pair_at bs = record { channel = byte bs 0; location = byte bs 1 }

abbrev pub read_pair : Sizes → List ℕ → Parsed Pair
read_pair s = part 2 (pair_fine s) pair_at

-- 6. "Does no receive edge list a channel twice?" The channels listed so far, the latest first.
abbrev pub listed : ℕ → List ℕ → Bool
listed channel seen = any (λ k. eqb k channel) seen

unfoldable pub read_pairs : Sizes → ℕ → List ℕ → List ℕ → Parsed (List Pair)
read_pairs s zero seen bs = ok [] bs
read_pairs s (suc n) seen bs = read_pair s bs then λ q r.
    let rest = (read_pairs s n (q.channel ∷ seen) r then λ l t. ok (q ∷ l) t) in
    cond (listed q.channel seen) (fault 6) rest

-- what an edge does, with its items
pub record Items : Type 0 where
  pub action : Action
  pub updates : List Update
  pub pairs : List Pair

-- "An edge is one of three: internal (0), send (1) or receive (2)." The kind, and the count of items.
unfoldable pub read_items : Sizes → ℕ → ℕ → List ℕ → Parsed Items
unfolding many read_pairs
read_items s zero n bs = many (read_update s) n bs then λ l r. ok (record { action = Internal; updates = l; pairs = [] }) r
read_items s (suc zero) n bs = read_channel s bs then λ k r. ok (record { action = Send k; updates = []; pairs = [] }) r
read_items s (suc (suc k)) n bs = read_pairs s n [] bs then λ l r. ok (record { action = Receive; updates = []; pairs = l }) r

-- ## Edges

-- Data bounds "0 to 4; 0 for receive"; items "Internal: 0 to 4", "Send: exactly one", "Receive: 1 to 8".
abbrev pub counts_fine : ℕ → ℕ → ℕ → Bool
counts_fine zero guards items = leb guards 4 && leb items 4
counts_fine (suc zero) guards items = leb guards 4 && eqb items 1
counts_fine (suc (suc k)) guards items = eqb guards 0 && leb 1 items && leb items 8

-- "7 bytes: kind, source, destination, reset mask (bit i for clock i), counts of clock bounds (0 to 4), data bounds and items."
abbrev pub edge_fine : Sizes → List ℕ → Bool
edge_fine s h =
    leb (byte h 0) 2 && ltb (byte h 1) s.locations && ltb (byte h 2) s.locations && ltb (byte h 3) (2 ^ s.clocks)
    && leb (byte h 4) 4
    && counts_fine (byte h 0) (byte h 5) (byte h 6)

abbrev pub edge_at : List ℕ → Action → Edge
edge_at h a = record { source = byte h 1; destination = byte h 2; mask = byte h 3; action = a }

abbrev pub arc_with : List ℕ → Option ℕ → List ClockGuard → List DataGuard → Items → Arc
arc_with h b cs ds i =
    record { edge = edge_at h i.action; budget = b; clock_guards = cs; data_guards = ds; updates = i.updates; pairs = i.pairs }

-- "a 2-byte budget (0 to 60,000), a part of its own": "a budget above 60,000 is a 5"
abbrev pub budget_fine : List ℕ → Bool
budget_fine bs = leb (word bs 0) 60000

abbrev pub read_budget : Bool → List ℕ → Parsed (Option ℕ)
read_budget true bs = part 2 budget_fine (λ r. word r 0) bs then λ b r. ok (some b) r
read_budget false bs = ok none bs

abbrev pub read_arc_parts : Sizes → List ℕ → Option ℕ → List ℕ → Parsed Arc
read_arc_parts s h b r = many (read_clock_guard s) (byte h 4) r then λ cs r₁.
    many (read_data_guard s) (byte h 5) r₁ then λ ds r₂.
    read_items s (byte h 0) (byte h 6) r₂ then λ i r₃. ok (arc_with h b cs ds i) r₃

abbrev pub read_arc_body : Sizes → List ℕ → List ℕ → Parsed Arc
read_arc_body s h r = read_budget s.budgets r then read_arc_parts s h

-- The 7 bytes, then the budget where edges have one, clock bounds, data bounds, items.
unfoldable pub read_arc : Sizes → List ℕ → Parsed Arc
unfolding many read_items
read_arc s bs = part 7 (edge_fine s) (λ h. h) bs then read_arc_body s

-- ## Components

-- Its first 7 bytes: length; "locations 1 to 16; initial location; clocks 1 to 4; variables 0 to 4; edges 1 to 32".
abbrev pub head_fine : List ℕ → Bool
head_fine h =
    leb 1 (byte h 2) && leb (byte h 2) 16 && ltb (byte h 3) (byte h 2) && leb 1 (byte h 4) && leb (byte h 4) 4
    && leb (byte h 5) 4
    && leb 1 (byte h 6)
    && leb (byte h 6) 32

abbrev pub sizes_at : TableHeader → List ℕ → Sizes
sizes_at d h = record { channels = d.channels; locations = byte h 2; clocks = byte h 4; variables = byte h 5; budgets = d.budgets }

abbrev pub component_with : List ℕ → List Location → List Arc → Component
component_with h ls as' = record { initial = byte h 3; clocks = byte h 4; variables = byte h 5; locations = ls; arcs = as' }

-- 4. "Does each part fit its component, and end exactly there": no byte is left.
abbrev pub finished : {A : Type 0} → A → List ℕ → Parsed A
finished a [] = ok a []
finished a (b ∷ bs) = fault 4

abbrev pub read_body : TableHeader → List ℕ → List ℕ → Parsed Component
read_body d h r = many (read_location (sizes_at d h)) (byte h 2) r then λ ls r₁.
    many (read_arc (sizes_at d h)) (byte h 6) r₁ then λ as' r₂. finished (component_with h ls as') r₂

-- one component from its own bytes: the first 7 bytes, "then locations, then edges"
unfoldable pub read_component : TableHeader → List ℕ → Parsed Component
unfolding many read_arc
read_component d bs = part 7 head_fine (λ h. h) bs then read_body d

-- "A refusal gives its number and a component: .. for 4 to 9 the one read".
abbrev pub about : {A : Type 0} → ℕ → Parsed A → Answer A
about c (ok a r) = accepted a
about c (fault n) = refused n c

-- "and the last component at the table's end"
abbrev pub at_end : ℕ → List ℕ → Answer (List Component)
at_end last [] = accepted []
at_end last (b ∷ bs) = refused 4 last

-- a component's two length bytes, and the length that they state, fit the table
abbrev pub length_fits : List ℕ → Bool
length_fits bs = leb 2 (length bs) && leb (word bs 0) (length bs)

-- n components from number c on
unfoldable pub read_components : TableHeader → ℕ → ℕ → List ℕ → Answer (List Component)
unfolding read_component
read_components d zero c bs = at_end (pred c) bs
read_components d (suc n) c bs =
    let rest = (about c (read_component d (take (word bs 0) bs)) after λ C.
    read_components d n (suc c) (drop (word bs 0) bs) after λ l. accepted (C ∷ l)) in
    cond (length_fits bs) rest (refused 4 c)

-- ## The table

-- 1. "Is the first byte 1? (Empty input: no.)", and in document 02, wish 2: "check 1 takes both versions"; wish 8: "Check 1 takes version 3 too"
abbrev pub version_fine : List ℕ → Bool
version_fine bs = leb 1 (byte bs 0) && leb (byte bs 0) 3

-- 2. "Is the stated length the length handed in, from 7 to 8,192?"
abbrev pub length_fine : List ℕ → Bool
length_fine bs = leb 7 (length bs) && leb (length bs) 8192 && eqb (word bs 1) (length bs)

-- 3. "Are components, channels and H in range?" Components 1 to 8, channels 0 to 16, horizon 1 to 60,000.
abbrev pub count_fine : List ℕ → Bool
count_fine bs = leb 1 (byte bs 3) && leb (byte bs 3) 8 && leb (byte bs 4) 16 && leb 1 (word bs 5) && leb (word bs 5) 60000

-- Document 02, wish 2: "Table version 2 has, after the header, one byte per channel with its band". Where the components start:
abbrev pub body_start : List ℕ → ℕ
body_start bs = 7 + cond (leb 2 (byte bs 0)) (byte bs 4) 0

-- the bands: "Version 1 tables have all channels on band 0"
abbrev pub bands_at : List ℕ → List ℕ
bands_at bs = cond (leb 2 (byte bs 0)) (take (byte bs 4) (drop 7 bs)) (replicate (byte bs 4) 0)

-- 3, once more: "a band above 3, or a table too short for its bands, is answered with 3"
abbrev pub bands_fine : List ℕ → Bool
bands_fine bs = leb (body_start bs) (length bs) && all (λ b. leb b 3) (bands_at bs)

-- what the header tells of the components
abbrev pub header_at : List ℕ → TableHeader
header_at bs = record { channels = byte bs 4; budgets = leb 3 (byte bs 0) }

abbrev pub read_with : List ℕ → List Component → Read
read_with bs l =
    record {
      version = byte bs 0;
      table = record { channels = byte bs 4; bands = bands_at bs; components = l };
      horizon = word bs 5;
    }

-- "Header, 7 bytes: version 1; total length (2 bytes); components (nodes) 1 to 8; channels 0 to 16; horizon H", then the bands of
-- version 2, then the components
unfoldable pub read_table : List ℕ → Answer Read
unfolding read_components
read_table bs =
    let fourth = (read_components (header_at bs) (byte bs 3) 0 (drop (body_start bs) bs) after λ l. accepted (read_with bs l)) in
    let third = cond (count_fine bs && bands_fine bs) fourth (refused 3 255) in
    let second = cond (length_fine bs) third (refused 2 255) in
    cond (version_fine bs) second (refused 1 255)
