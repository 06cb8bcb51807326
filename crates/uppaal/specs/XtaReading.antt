-- What a text says: its names are looked up as they are declared. `read_text` reads bytes.
use Rattle.std.specs.Prelude.{Bool, true, false, cond, ◌&&◌, not, List, [], ◌∷◌, ◌++◌, map, ℕ, zero, suc, ◌+◌, ◌-◌, ◌*◌, eqb, ℤ, pos, negsuc, length}
use Rattle.std.proofs.Math.Option.{Option, none, some}
use Rattle.model.specs.Lists.{all, any, first}
use Rattle.uppaal.specs.Xta.{Name, location, waiting, Upper, Atom, at_most, below, exactly, at_least, value_at_least, value_at_most, sum_at_least, sum_at_most, never, Sync, sends, receives, Assignment, sets_to, adds, resets, Transition, Location, Process, System}
use Rattle.uppaal.specs.XtaText.{name_text}
use Rattle.uppaal.specs.XtaTokens.{Token, same_bytes, is_digit, tokens}
use Rattle.uppaal.specs.XtaTree.{Primary, named, whole, falsity, Sum, Relation, le, lt, eq, ge, Comparison, lone, compared, Assigned, Synced, Edge, Place, Kind, channel, clock, integer, Declaration, Template, Text}
use Rattle.uppaal.specs.XtaGrammar.{grammatical}

abbrev pub onto : {A B : Type 0} → Option A → (A → Option B) → Option B
onto none f = none
onto (some x) f = f x

abbrev pub provided : {A : Type 0} → Bool → Option A → Option A
provided true o = o
provided false o = none

-- each of them, or none where one has none
unfoldable pub each_of : {A B : Type 0} → (A → Option B) → List A → Option (List B)
each_of f [] = some []
each_of f (x ∷ xs) = onto (f x) (λ y. onto (each_of f xs) (λ ys. some (y ∷ ys)))

-- ## Names

-- the number of the first that is written so
unfoldable pub number_of : List ℕ → List (List ℕ) → Option ℕ
number_of w [] = none
number_of w (v ∷ vs) = let r = onto (number_of w vs) (λ n. some (suc n)) in cond (same_bytes w v) (some 0) r

abbrev pub is_one : List ℕ → List (List ℕ) → Bool
is_one w vs = any (same_bytes w) vs

-- none is written as one behind it
abbrev pub apart : List (List ℕ) → Bool
apart [] = true
apart (w ∷ ws) = not (is_one w ws) && apart ws

-- A location's name is free for the tool. Here it is of one of two shapes, and each such name is written in one way.
abbrev pub digits : List ℕ → List ℕ
digits [] = []
digits (b ∷ bs) = cond (is_digit b) (b ∷ digits bs) []

abbrev pub past_digits : List ℕ → List ℕ
past_digits [] = []
past_digits (b ∷ bs) = cond (is_digit b) (past_digits bs) (b ∷ bs)

abbrev pub value : ℕ → List ℕ → ℕ
value n [] = n
value n (b ∷ bs) = value (n * 10 + (b - 48)) bs

abbrev pub channel_in : List ℕ → Option ℕ
channel_in [] = none
channel_in (b ∷ []) = none
channel_in (b ∷ c ∷ bs) = some (value 0 bs)

abbrev pub shape_of : List ℕ → Name
shape_of [] = location 0
shape_of (b ∷ bs) = cond (eqb b 76) (location (value 0 (digits bs))) (waiting (value 0 (digits bs)) (channel_in (past_digits bs)))

unfoldable pub name_of : List ℕ → Option Name
name_of w = cond (same_bytes (name_text (shape_of w)) w) (some (shape_of w)) none

-- ## What a process sees

pub record Scope : Type 0 where
  pub clocks : List (List ℕ)
  pub variables : List (List ℕ)
  pub places : List (List ℕ)
  pub channels : List (List ℕ)

-- a location that is declared
abbrev pub place_named : Scope → List ℕ → Option Name
place_named s w = provided (is_one w s.places) (name_of w)

-- ## Guards and invariants

-- an integer alone
abbrev pub literal_of : Primary → Option ℤ → Option ℤ
literal_of (whole z) none = some z
literal_of (whole z) (some k) = none
literal_of (named w) m = none
literal_of falsity m = none

abbrev pub literal : Sum → Option ℤ
literal s = literal_of s.head s.more

abbrev pub natural : Option ℤ → Option ℕ
natural none = none
natural (some (pos n)) = some n
natural (some (negsuc n)) = none

abbrev pub clock_against : ℕ → Relation → ℕ → Atom
clock_against i le n = at_most (record { clock = i; bound = n })
clock_against i lt n = below (record { clock = i; bound = n })
clock_against i eq n = exactly (record { clock = i; bound = n })
clock_against i ge n = at_least i n

abbrev pub value_against : ℕ → Relation → ℤ → Option Atom
value_against v le z = some (value_at_most v z)
value_against v lt z = none
value_against v eq z = none
value_against v ge z = some (value_at_least v z)

abbrev pub sum_against : ℕ → ℤ → Relation → ℤ → Option Atom
sum_against v k le z = some (sum_at_most v k z)
sum_against v k lt z = none
sum_against v k eq z = none
sum_against v k ge z = some (sum_at_least v k z)

-- a clock against a natural number alone; a variable, or it and an integer, against an integer
abbrev pub atom_at : Option ℕ → Option ℕ → Option ℤ → Relation → Sum → Option Atom
atom_at (some i) v none r b = onto (natural (literal b)) (λ n. some (clock_against i r n))
atom_at (some i) v (some k) r b = none
atom_at none (some v) none r b = onto (literal b) (value_against v r)
atom_at none (some v) (some k) r b = onto (literal b) (sum_against v k r)
atom_at none none m r b = none

abbrev pub atom_from : Scope → Primary → Option ℤ → Relation → Sum → Option Atom
atom_from s (named w) m r b = atom_at (number_of w s.clocks) (number_of w s.variables) m r b
atom_from s (whole z) m r b = none
atom_from s falsity m r b = none

abbrev pub never_from : Primary → Option ℤ → Option Atom
never_from falsity none = some never
never_from falsity (some k) = none
never_from (named w) m = none
never_from (whole z) m = none

unfoldable pub atom_of : Scope → Comparison → Option Atom
unfolding number_of
atom_of s (lone a) = never_from a.head a.more
atom_of s (compared a r b) = atom_from s a.head a.more r b

-- an invariant bounds clocks from above
abbrev pub upper_from : Atom → Option Upper
upper_from (at_most u) = some u
upper_from (below u) = none
upper_from (exactly u) = none
upper_from (at_least i n) = none
upper_from (value_at_least v z) = none
upper_from (value_at_most v z) = none
upper_from (sum_at_least v k z) = none
upper_from (sum_at_most v k z) = none
upper_from never = none

unfoldable pub upper_of : Scope → Comparison → Option Upper
unfolding atom_of
upper_of s c = onto (atom_of s c) upper_from

-- ## Assignments and channels

-- a clock is set to 0 alone
abbrev pub clock_set : ℕ → Option ℤ → Option Assignment
clock_set i none = none
clock_set i (some (pos zero)) = some (resets i)
clock_set i (some (pos (suc n))) = none
clock_set i (some (negsuc n)) = none

-- v := v + k
abbrev pub adds_to : ℕ → Option ℕ → ℤ → Option Assignment
adds_to v none k = none
adds_to v (some u) k = cond (eqb u v) (some (adds v k)) none

abbrev pub variable_set : Scope → ℕ → Primary → Option ℤ → Option Assignment
variable_set s v (whole z) none = some (sets_to v z)
variable_set s v (whole z) (some k) = none
variable_set s v (named w) none = none
variable_set s v (named w) (some k) = adds_to v (number_of w s.variables) k
variable_set s v falsity m = none

abbrev pub assignment_at : Scope → Option ℕ → Option ℕ → Sum → Option Assignment
assignment_at s (some i) v x = clock_set i (literal x)
assignment_at s none (some v) x = variable_set s v x.head x.more
assignment_at s none none x = none

unfoldable pub assignment_of : Scope → Assigned → Option Assignment
unfolding number_of
assignment_of s a = assignment_at s (number_of a.target s.clocks) (number_of a.target s.variables) a.value

abbrev pub side_of : Bool → ℕ → Sync
side_of true k = sends k
side_of false k = receives k

abbrev pub sync_of : Scope → Option Synced → Option (Option Sync)
sync_of s none = some none
sync_of s (some y) = onto (number_of y.channel s.channels) (λ k. some (some (side_of y.sending k)))

-- ## Locations, transitions, processes

unfoldable pub place_of : Scope → Place → Option Location
unfolding name_of each_of upper_of
place_of s l = onto (place_named s l.name) (λ n. onto (each_of (upper_of s) l.invariant) (λ us. some (record { name = n; invariant = us })))

unfoldable pub edge_of : Scope → Edge → Option Transition
unfolding name_of each_of atom_of number_of assignment_of
edge_of s e =
    onto (place_named s e.source) (λ a. onto (place_named s e.target) (λ b.
    onto (each_of (atom_of s) e.guard) (λ g. onto (sync_of s e.sync) (λ y. onto (each_of (assignment_of s) e.assignments) (λ q.
    some (record { source = a; target = b; guard = g; sync = y; assignments = q }))))))

abbrev pub is_channel : Kind → Bool
is_channel channel = true
is_channel clock = false
is_channel (integer a b) = false

abbrev pub is_clock : Kind → Bool
is_clock channel = false
is_clock clock = true
is_clock (integer a b) = false

abbrev pub is_low : ℤ → Bool
is_low (pos n) = false
is_low (negsuc n) = eqb n 32767

abbrev pub is_high : ℤ → Bool
is_high (pos n) = eqb n 32767
is_high (negsuc n) = false

-- int[-32768,32767]
abbrev pub is_int16 : Kind → Bool
is_int16 channel = false
is_int16 clock = false
is_int16 (integer a b) = is_low a && is_high b

abbrev pub declared_as : (Kind → Bool) → List Declaration → List (List ℕ)
declared_as p [] = []
declared_as p (d ∷ ds) = cond (p d.kind) (d.names ++ declared_as p ds) (declared_as p ds)

abbrev pub scope_of : List (List ℕ) → Template → Scope
scope_of channels t =
    record {
      clocks = declared_as is_clock t.declarations;
      variables = declared_as is_int16 t.declarations;
      places = map (λ l. l.name) t.places;
      channels = channels;
    }

-- no two names that a process sees are alike (the tool would let one of its own hide one of all)
abbrev pub all_apart : Scope → Bool
all_apart s = apart (s.clocks ++ (s.variables ++ (s.places ++ s.channels)))

abbrev pub is_local : Kind → Bool
is_local channel = false
is_local clock = true
is_local (integer a b) = is_low a && is_high b

unfoldable pub process_read : List (List ℕ) → Template → Option Process
unfolding place_of edge_of name_of each_of
process_read channels t =
    let s = scope_of channels t in
    provided (all (λ (d : Declaration). is_local d.kind) t.declarations && all_apart s)
    (onto (each_of (place_of s) t.places) (λ ls. onto (place_named s t.initial) (λ i. onto (each_of (edge_of s) t.edges) (λ es.
    some (record { clocks = length s.clocks; variables = length s.variables; locations = ls; initial = i; transitions = es })))))

-- ## The system: the processes of its line, each once, in its order

abbrev pub nth : {A : Type 0} → List A → ℕ → Option A
nth [] n = none
nth (x ∷ xs) zero = some x
nth (x ∷ xs) (suc n) = nth xs n

unfoldable pub system_read : Text → Option System
unfolding process_read each_of number_of
system_read x =
    let channels = declared_as is_channel x.declarations in
    let names = map (λ (t : Template). t.name) x.templates in
    provided (all (λ (d : Declaration). is_channel d.kind) x.declarations && (apart (channels ++ names) && apart x.system))
    (onto (each_of (process_read channels) x.templates) (λ ps. onto (each_of (λ w. onto (number_of w names) (nth ps)) x.system) (λ qs.
    some (record { channels = length channels; processes = qs }))))

unfoldable pub parsed : List Token → Option System
unfolding grammatical system_read
parsed ts = onto (grammatical ts) system_read

unfoldable pub read_text : List ℕ → Option System
unfolding tokens parsed
read_text bytes = onto (tokens bytes) parsed
