-- The names of the text that is written for declared parts are found as declared. Assumes nothing.
use mathlib.Core.Path.{◌≡◌, refl, sym, ap, ap₂, subst, ◌∙◌}
use mathlib.Core.Bool.{Bool, true, false, cond, ◌&&◌, ◌||◌, not}
use mathlib.Core.List.{List, [], ◌∷◌, ◌++◌, map, tail, append-nil, append_assoc}
use mathlib.Core.Option.{Option, none, some}
use Prim.Native.Nat.{ℕ, zero, suc, ◌+◌, ◌-◌, ◌*◌, ◌≤◌, ◌<◌}
use Prim.Native.String.{String}
use native.Mathlib.Omega.{arith}
use borrow.Author.Tests.{eq-eqb, eqb-true}
use lib.Dec.{eqb}
use lib.IntN.{ℤ, pos, negsuc}
use lib.ListN.{length, length-map}
use Rattle.model.specs.Lists.{All, empty, more, ◌∈◌, here, there, all, any, from}
use Rattle.model.proofs.Basics.Bools.{clash}
use Rattle.model.proofs.Schedule.Own.{all_in}
use Rattle.words.specs.Words.{ascii, decimal}
use Rattle.uppaal.specs.Xta.{Name, location, waiting, Upper, Atom, at_most, below, exactly, at_least, value_at_least, value_at_most, sum_at_least, sum_at_most, never, Sync, sends, receives, Assignment, sets_to, adds, resets, Transition, Location, Process, System}
use Rattle.uppaal.specs.XtaText.{field, name_text, system_text}
use Rattle.uppaal.specs.Declared.{names_of, Distinct, none_left, one_more, AtomIn, SyncIn, AssignmentIn, TransitionIn, ProcessIn, Declared}
use Rattle.uppaal.specs.XtaTokens.{Token, same_bytes, is_digit, tokens}
use Rattle.uppaal.specs.XtaTree.{Comparison, Assigned, Synced, Edge, Place, Kind, channel, clock, integer, Declaration, Template, Text}
use Rattle.uppaal.specs.XtaGrammar.{grammatical}
use Rattle.uppaal.specs.XtaReading.{onto, provided, each_of, number_of, is_one, apart, digits, past_digits, value, channel_in, shape_of, name_of, Scope, place_named, atom_of, upper_of, adds_to, assignment_at, assignment_of, sync_of, place_of, edge_of, is_channel, is_clock, is_int16, is_local, declared_as, scope_of, all_apart, process_read, nth, system_read, parsed, read_text}
use Rattle.uppaal.proofs.XtaNumerals.{Digit, Digits, decimal_digits, Nat32, decimal_value, decimal_same, digit_class}
use Rattle.uppaal.proofs.XtaPrinted.{SmallName, SmallProcess, system_t, system_tokens}
use Rattle.uppaal.proofs.XtaParsed.{atom_tree, assignment_tree, sync_tree, edge_tree, place_tree, declaration_tree, int16, declarations_tree, template_tree, templates_from, text_tree, SmallSystem, system-read}

-- ## Bytes alike

same_self : (w : List ℕ) → same_bytes w w ≡ true
same_self [] = refl
same_self (b ∷ bs) = rw (eq-eqb b b refl, same_self bs)

same_is : (v w : List ℕ) → same_bytes v w ≡ true → v ≡ w
same_is [] [] e = refl
same_is [] (c ∷ w) e = clash e
same_is (b ∷ v) [] e = clash e
same_is (b ∷ v) (c ∷ w) e = go (eqb b c) refl e (λ h. same_is v w h)
  where
    go : (t : Bool) → eqb b c ≡ t → (t && same_bytes v w) ≡ true → (same_bytes v w ≡ true → v ≡ w) → b ∷ v ≡ c ∷ w
    go true p h f = ap₂ (λ (x : ℕ) (y : List ℕ). x ∷ y) (eqb-true b c p) (f h)
    go false p h f = clash h

not_same : (v w : List ℕ) → (v ≡ w → ⊥) → same_bytes v w ≡ false
not_same v w n = go (same_bytes v w) refl
  where
    go : (t : Bool) → same_bytes v w ≡ t → t ≡ false
    go true e = absurd (n (same_is v w e))
    go false e = refl

-- ## Numbered names

abbrev Own : String → Type 0
Own letter = (n m : ℕ) → Nat32 n → Nat32 m → field letter n ≡ field letter m → n ≡ m

own_x : Own "x"
own_x n m h k e = decimal_same n m h k (ap tail e)

own_v : Own "v"
own_v n m h k e = decimal_same n m h k (ap tail e)

own_c : Own "c"
own_c n m h k e = decimal_same n m h k (ap tail e)

own_P : Own "P"
own_P n m h k e = decimal_same n m h k (ap tail e)

number_there : (letter : String) → Own letter → (j n i : ℕ) → j + n < 2147483649 → i < n → number_of (field letter (j + i)) (map (field letter) (from j n)) ≡ some i
unfolding number_of
number_there letter own j zero i h k = absurd (omega arith)
number_there letter own j (suc n) zero h k =
    let z : j + 0 ≡ j = omega arith in
    rw (ap (field letter) z, same_self (field letter j))
number_there letter own j (suc n) (suc i) h k =
    let d : same_bytes (field letter (j + suc i)) (field letter j) ≡ false =
    not_same (field letter (j + suc i)) (field letter j) (λ e. let q = own (j + suc i) j (omega arith) (omega arith) e in omega (arith, q)) in
    let z : suc j + i ≡ j + suc i = omega arith in
    let r : number_of (field letter (j + suc i)) (map (field letter) (from (suc j) n)) ≡ some i =
    subst (λ (x : ℕ). number_of (field letter x) (map (field letter) (from (suc j) n)) ≡ some i) z (number_there letter own (suc j) n i (omega arith) (omega arith)) in
    rw (d, r)

number-of : (letter : String) → Own letter → (n i : ℕ) → Nat32 n → i < n → number_of (field letter i) (map (field letter) (from 0 n)) ≡ some i
number-of letter own n i h k =
    let z : 0 + i ≡ i = omega arith in
    subst (λ (x : ℕ). number_of (field letter x) (map (field letter) (from 0 n)) ≡ some i) z (number_there letter own 0 n i (omega arith) k)

-- none of them
none_number : {A : Type 0} (w : List ℕ) (f : A → List ℕ) → ((a : A) → same_bytes w (f a) ≡ false) → (xs : List A) → number_of w (map f xs) ≡ none
unfolding number_of
none_number w f h [] = refl
none_number w f h (x ∷ xs) = rw (h x, none_number w f h xs)

none_one : {A : Type 0} (w : List ℕ) (f : A → List ℕ) → ((a : A) → same_bytes w (f a) ≡ false) → (xs : List A) → is_one w (map f xs) ≡ false
none_one w f h [] = refl
none_one w f h (x ∷ xs) = rw (h x, none_one w f h xs)

neither_one : (w : List ℕ) (a b : List (List ℕ)) → is_one w a ≡ false → is_one w b ≡ false → is_one w (a ++ b) ≡ false
neither_one w [] b p q = q
neither_one w (x ∷ a) b p q = go (same_bytes w x) refl p (λ h. neither_one w a b h q)
  where
    go : (t : Bool) → same_bytes w x ≡ t → (t || is_one w a) ≡ false → (is_one w a ≡ false → is_one w (a ++ b) ≡ false) → (t || is_one w (a ++ b)) ≡ false
    go true e h f = h
    go false e h f = f h

-- ## Apart

apart_append : (a b : List (List ℕ)) → apart a ≡ true → apart b ≡ true → All (λ w. is_one w b ≡ false) a → apart (a ++ b) ≡ true
apart_append [] b p q h = q
apart_append (w ∷ a) b p q (more n h) = go (is_one w a) refl p (λ r. apart_append a b r q h)
  where
    go : (t : Bool) → is_one w a ≡ t → (not t && apart a) ≡ true → (apart a ≡ true → apart (a ++ b) ≡ true) → (not (is_one w (a ++ b)) && apart (a ++ b)) ≡ true
    go true e r f = clash r
    go false e r f = rw (neither_one w a b e n, f r)

all_map : {A B : Type 0} {P : B → Type 0} (f : A → B) → ((x : A) → P (f x)) → (xs : List A) → All P (map f xs)
all_map f h [] = empty
all_map f h (x ∷ xs) = more (h x) (all_map f h xs)

later_apart : (letter : String) → Own letter → (i j n : ℕ) → i < j → j + n < 2147483649 → is_one (field letter i) (map (field letter) (from j n)) ≡ false
later_apart letter own i j zero l h = refl
later_apart letter own i j (suc n) l h =
    let d : same_bytes (field letter i) (field letter j) ≡ false = not_same (field letter i) (field letter j) (λ e. let q = own i j (omega arith) (omega arith) e in omega (arith, q)) in
    rw (d, later_apart letter own i (suc j) n (omega arith) (omega arith))

numbered_apart : (letter : String) → Own letter → (j n : ℕ) → j + n < 2147483649 → apart (map (field letter) (from j n)) ≡ true
numbered_apart letter own j zero h = refl
numbered_apart letter own j (suc n) h = rw (later_apart letter own j (suc j) n (omega arith) (omega arith), numbered_apart letter own (suc j) n (omega arith))

-- ## Names of locations

digits_all : (bs r : List ℕ) → Digits bs → digits r ≡ [] → digits (bs ++ r) ≡ bs
digits_all [] r a e = e
digits_all (b ∷ bs) r (more d a) e =
    let i : is_digit b ≡ true = ap is_digit d.same ∙ (digit_class d.number d.below).1 in
    rw (i, digits_all bs r a e)

past_all : (bs r : List ℕ) → Digits bs → past_digits r ≡ r → past_digits (bs ++ r) ≡ r
past_all [] r a e = e
past_all (b ∷ bs) r (more d a) e =
    let i : is_digit b ≡ true = ap is_digit d.same ∙ (digit_class d.number d.below).1 in
    rw i (past_all bs r a e)

digits_decimal : (n : ℕ) → Nat32 n → value 0 (digits (decimal n)) ≡ n
digits_decimal n h =
    ap (value 0) (ap digits (sym (append-nil (decimal n))) ∙ digits_all (decimal n) [] (decimal_digits n) refl) ∙ decimal_value n h

past_decimal : (n : ℕ) → past_digits (decimal n) ≡ []
past_decimal n = ap past_digits (sym (append-nil (decimal n))) ∙ past_all (decimal n) [] (decimal_digits n) refl

shape-of : (n : Name) → SmallName n → shape_of (name_text n) ≡ n
shape-of (location l) h = ap location (digits_decimal l h)
shape-of (waiting e none) h = ap₂ (λ (x : ℕ) (y : Option ℕ). waiting x y) (digits_decimal e h) (ap channel_in (past_decimal e))
shape-of (waiting e (some k)) h =
    ap₂ (λ (x : ℕ) (y : Option ℕ). waiting x y)
    (ap (value 0) (digits_all (decimal e) (95 ∷ 99 ∷ decimal k) (decimal_digits e) refl) ∙ decimal_value e h.0)
    (ap channel_in (past_all (decimal e) (95 ∷ 99 ∷ decimal k) (decimal_digits e) refl) ∙ ap some (decimal_value k h.1))

pub name_same : (n m : Name) → SmallName n → SmallName m → name_text n ≡ name_text m → n ≡ m
name_same n m h k e = sym (shape-of n h) ∙ ap shape_of e ∙ shape-of m k

name-of : (n : Name) → SmallName n → name_of (name_text n) ≡ some n
unfolding name_of
name-of n h = rw (shape-of n h, same_self (name_text n))

x_no_name : (i : ℕ) (n : Name) → same_bytes (field "x" i) (name_text n) ≡ false
x_no_name i (location l) = refl
x_no_name i (waiting e none) = refl
x_no_name i (waiting e (some k)) = refl

v_no_name : (i : ℕ) (n : Name) → same_bytes (field "v" i) (name_text n) ≡ false
v_no_name i (location l) = refl
v_no_name i (waiting e none) = refl
v_no_name i (waiting e (some k)) = refl

name_no_c : (n : Name) (i : ℕ) → same_bytes (name_text n) (field "c" i) ≡ false
name_no_c (location l) i = refl
name_no_c (waiting e none) i = refl
name_no_c (waiting e (some k)) i = refl

-- ## What a process sees

abbrev clocks_of : Process → List (List ℕ)
clocks_of P = map (field "x") (from 0 P.clocks)

abbrev variables_of : Process → List (List ℕ)
variables_of P = map (field "v") (from 0 P.variables)

abbrev places_of : Process → List (List ℕ)
places_of P = map (λ (l : Location). name_text l.name) P.locations

abbrev channels_of : ℕ → List (List ℕ)
channels_of n = map (field "c") (from 0 n)

abbrev sees : ℕ → Process → Scope
sees n P = record { clocks = clocks_of P; variables = variables_of P; places = places_of P; channels = channels_of n }

x_number : (P : Process) (i : ℕ) → Nat32 P.clocks → i < P.clocks → number_of (field "x" i) (clocks_of P) ≡ some i
x_number P i h k = number-of "x" own_x P.clocks i h k

v_number : (P : Process) (i : ℕ) → Nat32 P.variables → i < P.variables → number_of (field "v" i) (variables_of P) ≡ some i
v_number P i h k = number-of "v" own_v P.variables i h k

v_no_clock : (P : Process) (i : ℕ) → number_of (field "v" i) (clocks_of P) ≡ none
v_no_clock P i = none_number (field "v" i) (field "x") (λ j. refl) (from 0 P.clocks)

-- ## Guards and assignments

module _ (n : ℕ) (P : Process) (hc : Nat32 P.clocks) (hv : Nat32 P.variables) where
  atom_found : (a : Atom) → AtomIn P a → atom_of (sees n P) (atom_tree a) ≡ some a
  unfolding atom_of
  atom_found (at_most u) k = rw (x_number P u.clock hc k)
  atom_found (below u) k = rw (x_number P u.clock hc k)
  atom_found (exactly u) k = rw (x_number P u.clock hc k)
  atom_found (at_least i m) k = rw (x_number P i hc k)
  atom_found (value_at_least v z) k = rw (v_no_clock P v, v_number P v hv k)
  atom_found (value_at_most v z) k = rw (v_no_clock P v, v_number P v hv k)
  atom_found (sum_at_least v y z) k = rw (v_no_clock P v, v_number P v hv k)
  atom_found (sum_at_most v y z) k = rw (v_no_clock P v, v_number P v hv k)
  atom_found never k = refl

  upper_found : (u : Upper) → u.clock < P.clocks → upper_of (sees n P) (atom_tree (at_most u)) ≡ some u
  unfolding upper_of
  upper_found u k = ap (λ (o : Option Atom). onto o Rattle.uppaal.specs.XtaReading.upper_from) (atom_found (at_most u) k)

  assignment_found : (a : Assignment) → AssignmentIn P a → assignment_of (sees n P) (assignment_tree a) ≡ some a
  unfolding assignment_of
  assignment_found (sets_to v z) k = rw (v_no_clock P v, v_number P v hv k)
  assignment_found (adds v z) k =
      ap₂ (λ (a b : Option ℕ). assignment_at (sees n P) a b (assignment_tree (adds v z)).value) (v_no_clock P v) (v_number P v hv k)
      ∙ ap (λ (o : Option ℕ). adds_to v o z) (v_number P v hv k) ∙ ap (λ (b : Bool). cond b (some (adds v z)) none) (eq-eqb v v refl)
  assignment_found (resets i) k = rw (x_number P i hc k)

  sync_found : Nat32 n → (s : Option Sync) → SyncIn n s → sync_of (sees n P) (sync_tree s) ≡ some s
  sync_found h none k = refl
  sync_found h (some (sends j)) k = rw (number-of "c" own_c n j h k)
  sync_found h (some (receives j)) k = rw (number-of "c" own_c n j h k)

-- each of a list
each_found : {A B : Type 0} (f : B → Option A) (g : A → B) {Q : A → Type 0} → ((x : A) → Q x → f (g x) ≡ some x) → {xs : List A} → All Q xs → each_of f (map g xs) ≡ some xs
unfolding each_of
each_found f g h empty = refl
each_found f g h (more {x = x} q a) = rw (h x q, each_found f g h a)

-- ## Locations and transitions

place_in : (ls : List Location) (n : Name) → n ∈ map (λ (l : Location). l.name) ls → is_one (name_text n) (map (λ (l : Location). name_text l.name) ls) ≡ true
place_in [] n k = absurd (Rattle.model.proofs.Basics.Members.not_in k)
place_in (l ∷ ls) n (here e) = let s : same_bytes (name_text n) (name_text l.name) ≡ true = ap (λ (m : Name). same_bytes (name_text n) (name_text m)) (sym e) ∙ same_self (name_text n) in rw s
place_in (l ∷ ls) n (there k) = go (same_bytes (name_text n) (name_text l.name)) (place_in ls n k)
  where
    go : (t : Bool) → is_one (name_text n) (map (λ (q : Location). name_text q.name) ls) ≡ true → (t || is_one (name_text n) (map (λ (q : Location). name_text q.name) ls)) ≡ true
    go true e = refl
    go false e = e

small_in : (ls : List Location) (n : Name) → All (λ (l : Location). SmallName l.name) ls → n ∈ map (λ (l : Location). l.name) ls → SmallName n
small_in [] n a k = absurd (Rattle.model.proofs.Basics.Members.not_in k)
small_in (l ∷ ls) n (more h a) (here e) = subst SmallName (sym e) h
small_in (l ∷ ls) n (more h a) (there k) = small_in ls n a k

place-named : (c : ℕ) (P : Process) → SmallProcess P → (n : Name) → n ∈ names_of P → place_named (sees c P) (name_text n) ≡ some n
place-named c P h n k = rw (place_in P.locations n k, name-of n (small_in P.locations n h.names k))

record Named (P : Process) (l : Location) : Type 0 where
  name : l.name ∈ names_of P
  bounds : All (λ (u : Upper). u.clock < P.clocks) l.invariant

place_found : (c : ℕ) (P : Process) → SmallProcess P → (l : Location) → Named P l → place_of (sees c P) (place_tree l) ≡ some l
unfolding place_of
place_found c P h l k =
    rw (place-named c P h l.name k.name, each_found (upper_of (sees c P)) (λ u. atom_tree (at_most u)) (upper_found c P h.clocks h.variables) k.bounds)

edge_found : (c : ℕ) → Nat32 c → (P : Process) → SmallProcess P → (t : Transition) → TransitionIn c P t → edge_of (sees c P) (edge_tree t) ≡ some t
unfolding edge_of
edge_found c q P h t k =
    rw (
      place-named c P h t.source k.source,
      place-named c P h t.target k.target,
      each_found (atom_of (sees c P)) atom_tree (atom_found c P h.clocks h.variables) k.guard,
      sync_found c P h.clocks h.variables q t.sync k.sync,
      each_found (assignment_of (sees c P)) assignment_tree (assignment_found c P h.clocks h.variables) k.assignments,
    )

-- ## Processes

places_are : (ls : List Location) → map (λ (q : Place). q.name) (map place_tree ls) ≡ map (λ (l : Location). name_text l.name) ls
places_are [] = refl
places_are (l ∷ ls) = ap (λ (r : List (List ℕ)). name_text l.name ∷ r) (places_are ls)

clocks_are : (n m : ℕ) → declared_as is_clock (declaration_tree clock "x" n ++ (declaration_tree int16 "v" m ++ [])) ≡ map (field "x") (from 0 n)
clocks_are zero zero = refl
clocks_are zero (suc m) = refl
clocks_are (suc n) zero = append-nil (map (field "x") (from 0 (suc n)))
clocks_are (suc n) (suc m) = append-nil (map (field "x") (from 0 (suc n)))

variables_are : (n m : ℕ) → declared_as is_int16 (declaration_tree clock "x" n ++ (declaration_tree int16 "v" m ++ [])) ≡ map (field "v") (from 0 m)
variables_are zero zero = refl
variables_are (suc n) zero = refl
variables_are zero (suc m) = append-nil (map (field "v") (from 0 (suc m)))
variables_are (suc n) (suc m) = append-nil (map (field "v") (from 0 (suc m)))

all_local : (n m : ℕ) → all (λ (d : Declaration). is_local d.kind) (declaration_tree clock "x" n ++ (declaration_tree int16 "v" m ++ [])) ≡ true
all_local zero zero = refl
all_local (suc n) zero = refl
all_local zero (suc m) = refl
all_local (suc n) (suc m) = refl

from_length : (i n : ℕ) → length (from i n) ≡ n
from_length i zero = refl
from_length i (suc n) = ap suc (from_length (suc i) n)

numbered_length : (letter : String) (n : ℕ) → length (map (field letter) (from 0 n)) ≡ n
numbered_length letter n = length-map (from 0 n) (field letter) ∙ from_length 0 n

scope_is : (c p : ℕ) (P : Process) → scope_of (channels_of c) (template_tree p P) ≡ sees c P
scope_is c p P =
    ap₂ (λ (a b : List (List ℕ)). record { clocks = a; variables = b; places = map (λ (q : Place). q.name) (map place_tree P.locations); channels = channels_of c }) (clocks_are P.clocks P.variables) (variables_are P.clocks P.variables)
    ∙ ap (λ (a : List (List ℕ)). record { clocks = clocks_of P; variables = variables_of P; places = a; channels = channels_of c }) (places_are P.locations)

-- no two alike
others_apart : (n : Name) (ls : List Location) → SmallName n → All (λ (l : Location). SmallName l.name) ls → All (λ (m : Name). m ≡ n → ⊥) (map (λ (l : Location). l.name) ls)
    → is_one (name_text n) (map (λ (l : Location). name_text l.name) ls) ≡ false
others_apart n [] h a d = refl
others_apart n (l ∷ ls) h (more k a) (more e d) =
    let s : same_bytes (name_text n) (name_text l.name) ≡ false = not_same (name_text n) (name_text l.name) (λ q. e (sym (name_same n l.name h k q))) in
    rw (s, others_apart n ls h a d)

places_apart : (ls : List Location) → All (λ (l : Location). SmallName l.name) ls → Distinct (map (λ (l : Location). l.name) ls) → apart (map (λ (l : Location). name_text l.name) ls) ≡ true
places_apart [] a d = refl
places_apart (l ∷ ls) (more h a) (one_more e d) = rw (others_apart l.name ls h a e, places_apart ls a d)

sees_apart : (c : ℕ) → Nat32 c → (P : Process) → SmallProcess P → Distinct (names_of P) → all_apart (sees c P) ≡ true
sees_apart c h P k d =
    let X = clocks_of P in
    let W = variables_of P in
    let L = places_of P in
    let C = channels_of c in
    let lc : apart (L ++ C) ≡ true =
    apart_append L C (places_apart P.locations k.names d) (numbered_apart "c" own_c 0 c (omega arith))
    (all_map (λ (l : Location). name_text l.name) (λ l. none_one (name_text l.name) (field "c") (name_no_c l.name) (from 0 c)) P.locations) in
    let vlc : apart (W ++ (L ++ C)) ≡ true =
    apart_append W (L ++ C) (numbered_apart "v" own_v 0 P.variables (omega (arith, k.variables))) lc
    (all_map (field "v") (λ i. neither_one (field "v" i) L C (none_one (field "v" i) (λ (l : Location). name_text l.name) (λ l. v_no_name i l.name) P.locations) (none_one (field "v" i) (field "c") (λ j. refl) (from 0 c))) (from 0 P.variables)) in
    apart_append X (W ++ (L ++ C)) (numbered_apart "x" own_x 0 P.clocks (omega (arith, k.clocks))) vlc
    (all_map (field "x") (λ i. neither_one (field "x" i) W (L ++ C) (none_one (field "x" i) (field "v") (λ j. refl) (from 0 P.variables))
    (neither_one (field "x" i) L C (none_one (field "x" i) (λ (l : Location). name_text l.name) (λ l. x_no_name i l.name) P.locations) (none_one (field "x" i) (field "c") (λ j. refl) (from 0 c)))) (from 0 P.clocks))

named_all : (P : Process) (ls : List Location) → ((l : Location) → l ∈ ls → l.name ∈ names_of P) → All (λ (l : Location). All (λ (u : Upper). u.clock < P.clocks) l.invariant) ls → All (Named P) ls
named_all P [] f empty = empty
named_all P (l ∷ ls) f (more h a) = more (record { name = f l (here refl); bounds = h }) (named_all P ls (λ q i. f q (there i)) a)

process_found : (c : ℕ) → Nat32 c → (p : ℕ) (P : Process) → SmallProcess P → ProcessIn c P → process_read (channels_of c) (template_tree p P) ≡ some P
unfolding process_read
process_found c h p P k d =
    ap (λ (s : Scope). provided (all (λ (q : Declaration). is_local q.kind) (declarations_tree P) && all_apart s)
    (onto (each_of (place_of s) (map place_tree P.locations)) (λ ls. onto (place_named s (name_text P.initial)) (λ i. onto (each_of (edge_of s) (map edge_tree P.transitions)) (λ es.
    some (record { clocks = length s.clocks; variables = length s.variables; locations = ls; initial = i; transitions = es })))))) (scope_is c p P)
    ∙ rw (
      all_local P.clocks P.variables,
      sees_apart c h P k d.names,
      each_found (place_of (sees c P)) place_tree (place_found c P k) (named_all P P.locations (λ l i. Rattle.uppaal.proofs.Ends.in_map (λ (q : Location). q.name) i) d.invariants),
      place-named c P k P.initial d.initial,
      each_found (edge_of (sees c P)) edge_tree (edge_found c h P k) d.transitions,
      numbered_length "x" P.clocks,
      numbered_length "v" P.variables,
    )

-- ## The system

processes_found : (c : ℕ) → Nat32 c → (p : ℕ) (Ps : List Process) → All SmallProcess Ps → All (ProcessIn c) Ps → each_of (process_read (channels_of c)) (templates_from p Ps) ≡ some Ps
unfolding each_of
processes_found c h p [] a b = refl
processes_found c h p (P ∷ Ps) (more k a) (more d b) = rw (process_found c h p P k d, processes_found c h (suc p) Ps a b)

names_are : (p : ℕ) (Ps : List Process) → map (λ (t : Template). t.name) (templates_from p Ps) ≡ map (field "P") (from p (length Ps))
names_are p [] = refl
names_are p (P ∷ Ps) = ap (λ (l : List (List ℕ)). field "P" p ∷ l) (names_are (suc p) Ps)

channels_are : (n : ℕ) → declared_as is_channel (declaration_tree channel "c" n ++ []) ≡ channels_of n
channels_are zero = refl
channels_are (suc n) = append-nil (channels_of (suc n))

all_global : (n : ℕ) → all (λ (d : Declaration). is_channel d.kind) (declaration_tree channel "c" n ++ []) ≡ true
all_global zero = refl
all_global (suc n) = refl

-- those of a list of which each is found at its number
line_found : (f : List ℕ → Option Process) (j : ℕ) (qs : List Process) → ((i : ℕ) → i < length qs → f (field "P" (j + i)) ≡ nth qs i) → each_of f (map (field "P") (from j (length qs))) ≡ some qs
unfolding each_of
line_found f j [] h = refl
line_found f j (q ∷ qs) h =
    let z : j + 0 ≡ j = omega arith in
    let a : f (field "P" j) ≡ some q = ap (λ (x : ℕ). f (field "P" x)) (sym z) ∙ h 0 (omega arith) in
    let b : each_of f (map (field "P") (from (suc j) (length qs))) ≡ some qs =
    line_found f (suc j) qs (λ i k. let y : suc j + i ≡ j + suc i = omega arith in ap (λ (x : ℕ). f (field "P" x)) y ∙ h (suc i) (omega arith)) in
    rw (a, b)

system_found : (N : System) → SmallSystem N → Declared N → system_read (text_tree N) ≡ some N
unfolding system_read
system_found N h d =
    let n = length N.processes in
    let C = channels_of N.channels in
    let Q = map (field "P") (from 0 n) in
    let both : apart (C ++ Q) ≡ true =
    apart_append C Q (numbered_apart "c" own_c 0 N.channels (omega (arith, h.channels))) (numbered_apart "P" own_P 0 n (omega (arith, h.most)))
    (all_map (field "c") (λ i. none_one (field "c" i) (field "P") (λ j. refl) (from 0 n)) (from 0 N.channels)) in
    let line : each_of (λ w. onto (number_of w Q) (nth N.processes)) Q ≡ some N.processes =
    line_found (λ w. onto (number_of w Q) (nth N.processes)) 0 N.processes
    (λ i k. let z : 0 + i ≡ i = omega arith in ap (λ (x : ℕ). onto (number_of (field "P" x) Q) (nth N.processes)) z
    ∙ ap (λ (o : Option ℕ). onto o (nth N.processes)) (number-of "P" own_P n i h.most k)) in
    ap₂ (λ (a b : List (List ℕ)). provided (all (λ (q : Declaration). is_channel q.kind) (declaration_tree channel "c" N.channels ++ []) && (apart (a ++ b) && apart Q))
    (onto (each_of (process_read a) (templates_from 0 N.processes)) (λ ps. onto (each_of (λ w. onto (number_of w b) (nth ps)) Q) (λ qs.
    some (record { channels = length a; processes = qs }))))) (channels_are N.channels) (names_are 0 N.processes)
    ∙ rw (
      all_global N.channels,
      both,
      numbered_apart "P" own_P 0 n (omega (arith, h.most)),
      processes_found N.channels h.channels 0 N.processes h.processes d,
      line,
      numbered_length "c" N.channels,
    )

-- ## The law: what is written is read back

pub reads_back : (N : System) → SmallSystem N → Declared N → read_text (system_text N) ≡ some N
unfolding read_text parsed
reads_back N h d =
    ap (λ (o : Option (List Token)). onto o (λ ts. onto (grammatical ts) system_read)) (system_tokens N h.processes)
    ∙ ap (λ (o : Option Text). onto o system_read) (system-read N h)
    ∙ system_found N h d
