-- The words of the text of each part. Assumes nothing.
use mathlib.Core.Path.{◌≡◌, refl, sym, ap, ap₂, subst, ◌∙◌}
use mathlib.Core.Bool.{Bool, true, false, cond, ◌&&◌, ◌||◌, not}
use mathlib.Core.List.{List, [], ◌∷◌, ◌++◌, append-nil, append_assoc}
use mathlib.Core.Option.{Option, none, some}
use Prim.Native.Nat.{ℕ, zero, suc, ◌<◌}
use Prim.Native.String.{String}
use lib.IntN.{ℤ, pos, negsuc}
use lib.ListN.{length}
use Rattle.model.specs.Lists.{All, empty, more, each, from}
use Rattle.words.specs.Words.{ascii, decimal}
use Rattle.uppaal.specs.Xta.{Name, location, waiting, Upper, Atom, at_most, below, exactly, at_least, value_at_least, value_at_most, sum_at_least, sum_at_most, never, Sync, sends, receives, Assignment, sets_to, adds, resets, Transition, Location, Process, System}
use Rattle.uppaal.specs.XtaText.{field, signed, addend, each_after, listed, closed, name_text, against, location_text, atom_text, sync_text, assignment_text, guard_text, assign_text, transition_text, declared, process_text, process_texts, system_text}
use Rattle.uppaal.specs.XtaTokens.{Token, word, number, sign, Stage, between, in_word, in_number, stage_after, words_from, tokens}
use Rattle.uppaal.proofs.XtaNumerals.{Nat32}
use Rattle.uppaal.proofs.XtaLexed.{Lexed, join, Written, Open, a_word, soft, ◌closed-then◌, nothing, then_soft, tokens_of, lit, closed_written, closing, firm, closed_by, number_written, letter_lexed, letter_written, digits_in_word, minus_written, longer_word}

-- ## Numbers of the tool

abbrev pub Int32 : ℤ → Type 0
Int32 (pos n) = Nat32 n
Int32 (negsuc n) = Nat32 (suc n)

pub record SmallUpper (u : Upper) : Type 0 where
  pub clock : Nat32 u.clock
  pub bound : Nat32 u.bound

abbrev pub SmallAtom : Atom → Type 0
SmallAtom (at_most u) = SmallUpper u
SmallAtom (below u) = SmallUpper u
SmallAtom (exactly u) = SmallUpper u
SmallAtom (at_least i n) = Nat32 i × Nat32 n
SmallAtom (value_at_least v z) = Nat32 v × Int32 z
SmallAtom (value_at_most v z) = Nat32 v × Int32 z
SmallAtom (sum_at_least v k z) = Nat32 v × Int32 k × Int32 z
SmallAtom (sum_at_most v k z) = Nat32 v × Int32 k × Int32 z
SmallAtom never = Unit {0}

abbrev pub SmallAssignment : Assignment → Type 0
SmallAssignment (sets_to v z) = Nat32 v × Int32 z
SmallAssignment (adds v z) = Nat32 v × Int32 z
SmallAssignment (resets i) = Nat32 i

-- ## Words

abbrev pub sg : String → Token
sg s = sign (ascii s)

abbrev pub wd : String → Token
wd s = word (ascii s)

abbrev pub numbered : String → ℕ → Token
numbered letter n = word (field letter n)

abbrev pub integer_t : ℤ → List Token
integer_t (pos n) = number n ∷ []
integer_t (negsuc n) = sg "-" ∷ number (suc n) ∷ []

abbrev pub addend_t : ℤ → List Token
addend_t (pos n) = sg "+" ∷ number n ∷ []
addend_t (negsuc n) = sg "-" ∷ number (suc n) ∷ []

abbrev pub against_t : Upper → String → List Token
against_t u s = numbered "x" u.clock ∷ sg s ∷ number u.bound ∷ []

abbrev pub atom_t : Atom → List Token
atom_t (at_most u) = against_t u "<="
atom_t (below u) = against_t u "<"
atom_t (exactly u) = against_t u "=="
atom_t (at_least i n) = numbered "x" i ∷ sg ">=" ∷ number n ∷ []
atom_t (value_at_least v z) = numbered "v" v ∷ sg ">=" ∷ integer_t z
atom_t (value_at_most v z) = numbered "v" v ∷ sg "<=" ∷ integer_t z
atom_t (sum_at_least v k z) = numbered "v" v ∷ (addend_t k ++ (sg ">=" ∷ integer_t z))
atom_t (sum_at_most v k z) = numbered "v" v ∷ (addend_t k ++ (sg "<=" ∷ integer_t z))
atom_t never = wd "false" ∷ []

abbrev pub assignment_t : Assignment → List Token
assignment_t (sets_to v z) = numbered "v" v ∷ sg ":=" ∷ integer_t z
assignment_t (adds v z) = numbered "v" v ∷ sg ":=" ∷ numbered "v" v ∷ addend_t z
assignment_t (resets i) = numbered "x" i ∷ sg ":=" ∷ number 0 ∷ []

abbrev pub name_t : Name → Token
name_t n = word (name_text n)

-- ## Their texts

pub name_written : (n : Name) → Written (name_text n) (name_t n ∷ [])
unfolding stage_after words_from
name_written (location l) = letter_written (ascii "L") l refl refl
name_written (waiting e none) = letter_written (ascii "W") e refl refl
name_written (waiting e (some k)) =
    record {
      before = [];
      stage = in_word (name_text (waiting e (some k)));
      lexed = join (letter_lexed (ascii "W") e refl refl) (longer_word (87 ∷ decimal e) k);
      open' = a_word;
      all = refl;
    }

integer_written : (z : ℤ) → Int32 z → Written (signed z) (integer_t z)
integer_written (pos n) h = number_written n h
integer_written (negsuc n) h = minus_written (suc n) h

addend_written : (z : ℤ) → Int32 z → Written (addend z) (addend_t z)
unfolding stage_after words_from
addend_written (pos n) h = lit (ascii " + ") (sg "+" ∷ []) refl refl closed-then number_written n h
addend_written (negsuc n) h = lit (ascii " - ") (sg "-" ∷ []) refl refl closed-then number_written (suc n) h

addend_soft : (z : ℤ) (r : List ℕ) → soft (addend z ++ r) ≡ true
addend_soft (pos n) r = refl
addend_soft (negsuc n) r = refl

x_written : (i : ℕ) → Written (field "x" i) (numbered "x" i ∷ [])
unfolding stage_after words_from
x_written i = letter_written (ascii "x") i refl refl

v_written : (i : ℕ) → Written (field "v" i) (numbered "v" i ∷ [])
unfolding stage_after words_from
v_written i = letter_written (ascii "v") i refl refl

at_least_written : (z : ℤ) → Int32 z → Written (ascii " >= " ++ signed z) (sg ">=" ∷ integer_t z)
unfolding stage_after words_from
at_least_written z h = lit (ascii " >= ") (sg ">=" ∷ []) refl refl closed-then integer_written z h

at_most_written : (z : ℤ) → Int32 z → Written (ascii " <= " ++ signed z) (sg "<=" ∷ integer_t z)
unfolding stage_after words_from
at_most_written z h = lit (ascii " <= ") (sg "<=" ∷ []) refl refl closed-then integer_written z h

le_written : (u : Upper) → SmallUpper u → Written (against u " <= ") (against_t u "<=")
unfolding stage_after words_from
le_written u h = then_soft (field " <= " u.bound) (x_written u.clock) refl (lit (ascii " <= ") (sg "<=" ∷ []) refl refl closed-then number_written u.bound h.bound)

pub atom_written : (a : Atom) → SmallAtom a → Written (atom_text a) (atom_t a)
unfolding stage_after words_from atom_text
atom_written (at_most u) h = le_written u h
atom_written (below u) h = then_soft (field " < " u.bound) (x_written u.clock) refl (lit (ascii " < ") (sg "<" ∷ []) refl refl closed-then number_written u.bound h.bound)
atom_written (exactly u) h = then_soft (field " == " u.bound) (x_written u.clock) refl (lit (ascii " == ") (sg "==" ∷ []) refl refl closed-then number_written u.bound h.bound)
atom_written (at_least i n) h = then_soft (field " >= " n) (x_written i) refl (lit (ascii " >= ") (sg ">=" ∷ []) refl refl closed-then number_written n h.1)
atom_written (value_at_least v z) h = then_soft (ascii " >= " ++ signed z) (v_written v) refl (at_least_written z h.1)
atom_written (value_at_most v z) h = then_soft (ascii " <= " ++ signed z) (v_written v) refl (at_most_written z h.1)
atom_written (sum_at_least v k z) h =
    then_soft (addend k ++ (ascii " >= " ++ signed z)) (v_written v) (addend_soft k (ascii " >= " ++ signed z))
    (then_soft (ascii " >= " ++ signed z) (addend_written k h.1) refl (at_least_written z h.2))
atom_written (sum_at_most v k z) h =
    then_soft (addend k ++ (ascii " <= " ++ signed z)) (v_written v) (addend_soft k (ascii " <= " ++ signed z))
    (then_soft (ascii " <= " ++ signed z) (addend_written k h.1) refl (at_most_written z h.2))
atom_written never h = record { before = []; stage = in_word (ascii "false"); lexed = record { stage = refl; words = refl }; open' = a_word; all = refl }

pub assignment_written : (a : Assignment) → SmallAssignment a → Written (assignment_text a) (assignment_t a)
unfolding stage_after words_from assignment_text
assignment_written (sets_to v z) h = then_soft (ascii " := " ++ signed z) (v_written v) refl (lit (ascii " := ") (sg ":=" ∷ []) refl refl closed-then integer_written z h.1)
assignment_written (adds v z) h =
    then_soft (field " := v" v ++ addend z) (v_written v) refl
    (then_soft (addend z) second (soft_end z) (addend_written z h.1))
  where
    soft_end : (k : ℤ) → soft (addend k) ≡ true
    soft_end (pos n) = refl
    soft_end (negsuc n) = refl

    second : Written (field " := v" v) (sg ":=" ∷ numbered "v" v ∷ [])
    second = lit (ascii " := ") (sg ":=" ∷ []) refl refl closed-then v_written v
assignment_written (resets i) h =
    then_soft (ascii " := 0") (x_written i) refl
    (record { before = sg ":=" ∷ []; stage = in_number 0; lexed = record { stage = refl; words = refl }; open' = Rattle.uppaal.proofs.XtaLexed.a_number; all = refl })

-- ## Lists

abbrev pub each_t : {A : Type 0} → Token → (A → List Token) → List A → List Token
each_t t g [] = []
each_t t g (x ∷ xs) = t ∷ (g x ++ each_t t g xs)

-- with words before and behind, if there are any
abbrev pub list_t : {A : Type 0} → List Token → Token → (A → List Token) → List Token → List A → List Token
list_t front t g back [] = []
list_t front t g back (x ∷ xs) = front ++ (g x ++ (each_t t g xs ++ back))

module _ {A : Type 0} (sep : String) (t : Token) (l : Lexed between (ascii sep) (t ∷ []) between) (s : (r : List ℕ) → soft (ascii sep ++ r) ≡ true) (f : A → List ℕ) (g : A → List Token) where
  each_soft : (xs : List A) → soft (each_after sep f xs) ≡ true
  unfolding each_after each
  each_soft [] = refl
  each_soft (x ∷ xs) = ap soft (append_assoc (ascii sep) (f x) (each_after sep f xs)) ∙ s (f x ++ each_after sep f xs)

  each_written : {xs : List A} → All (λ x. Written (f x) (g x)) xs → Written (each_after sep f xs) (each_t t g xs)
  unfolding each_after each
  each_written empty = nothing
  each_written (more {x = x} {xs = xs} w a) = then_soft (each_after sep f xs) (l closed-then w) (each_soft xs) (each_written a)

  -- closed by a text
  pub list_lexed : (front : String) (front' : List Token) → Lexed between (ascii front) front' between
      → (b : ℕ) (bs : List ℕ) (back : List Token) → soft (b ∷ bs) ≡ true → Lexed between (b ∷ bs) back between
      → (x : A) (xs : List A) → Written (f x) (g x) → All (λ y. Written (f y) (g y)) xs
      → Lexed between (listed front sep f (x ∷ xs) ++ (b ∷ bs)) (front' ++ (g x ++ (each_t t g xs ++ back))) between
  unfolding listed
  list_lexed front front' lf b bs back e lb x xs w a =
      let body = then_soft (each_after sep f xs) w (each_soft xs) (each_written a) in
      let whole = closing b bs body e lb in
      subst (λ (ts : List Token). Lexed between (listed front sep f (x ∷ xs) ++ (b ∷ bs)) ts between)
      (ap (λ (ts : List Token). front' ++ ts) (append_assoc (g x) (each_t t g xs) back))
      (subst (λ (r : List ℕ). Lexed between r (front' ++ ((g x ++ each_t t g xs) ++ back)) between)
      (sym (append_assoc (ascii front) (f x ++ each_after sep f xs) (b ∷ bs)))
      (join lf whole))

all_of : {A : Type 0} {P Q : A → Type 0} → ((x : A) → P x → Q x) → {xs : List A} → All P xs → All Q xs
all_of f empty = empty
all_of f (more {x = x} p a) = more (f x p) (all_of f a)

all_every : {A : Type 0} {P : A → Type 0} → ((x : A) → P x) → (xs : List A) → All P xs
all_every f [] = empty
all_every f (x ∷ xs) = more (f x) (all_every f xs)

none_lexed : Lexed between [] [] between
unfolding stage_after words_from
none_lexed = record { stage = refl; words = refl }

-- ## Locations and transitions

abbrev pub location_t : Location → List Token
location_t l = name_t l.name ∷ list_t (sg "{" ∷ []) (sg "&&") (λ u. against_t u "<=") (sg "}" ∷ []) l.invariant

abbrev bounds : List Upper → List ℕ
bounds us = listed " { " " && " (λ u. against u " <= ") us ++ closed " }" us

bounds_soft : (us : List Upper) → soft (bounds us) ≡ true
unfolding listed
bounds_soft [] = refl
bounds_soft (u ∷ us) = refl

bounds_lexed : (us : List Upper) → All SmallUpper us → Lexed between (bounds us) (list_t (sg "{" ∷ []) (sg "&&") (λ u. against_t u "<=") (sg "}" ∷ []) us) between
unfolding listed stage_after words_from
bounds_lexed [] a = none_lexed
bounds_lexed (u ∷ us) (more p a) =
    list_lexed " && " (sg "&&") (lit (ascii " && ") (sg "&&" ∷ []) refl refl) (λ r. refl) (λ v. against v " <= ") (λ v. against_t v "<=")
    " { " (sg "{" ∷ []) (lit (ascii " { ") (sg "{" ∷ []) refl refl) 32 (125 ∷ []) (sg "}" ∷ []) refl (lit (ascii " }") (sg "}" ∷ []) refl refl)
    u us (le_written u p) (all_of le_written a)

pub location_written : (l : Location) → All SmallUpper l.invariant → Written (location_text l) (location_t l)
unfolding location_text
location_written l h = then_soft (bounds l.invariant) (name_written l.name) (bounds_soft l.invariant) (closed_written (bounds_lexed l.invariant h))

abbrev pub guard_t : List Atom → List Token
guard_t g = list_t (wd "guard" ∷ []) (sg "&&") atom_t (sg ";" ∷ []) g

guard_lexed : (g : List Atom) → All SmallAtom g → Lexed between (guard_text g) (guard_t g) between
unfolding guard_text listed stage_after words_from
guard_lexed [] a = none_lexed
guard_lexed (x ∷ xs) (more p a) =
    list_lexed " && " (sg "&&") (lit (ascii " && ") (sg "&&" ∷ []) refl refl) (λ r. refl) atom_text atom_t
    " guard " (wd "guard" ∷ []) (lit (ascii " guard ") (wd "guard" ∷ []) refl refl) 59 [] (sg ";" ∷ []) refl (lit (ascii ";") (sg ";" ∷ []) refl refl)
    x xs (atom_written x p) (all_of atom_written a)

abbrev pub sync_t : Option Sync → List Token
sync_t none = []
sync_t (some (sends k)) = wd "sync" ∷ numbered "c" k ∷ sg "!" ∷ sg ";" ∷ []
sync_t (some (receives k)) = wd "sync" ∷ numbered "c" k ∷ sg "?" ∷ sg ";" ∷ []

sync_lexed : (s : Option Sync) → Lexed between (sync_text s) (sync_t s) between
unfolding stage_after words_from
sync_lexed none = none_lexed
sync_lexed (some (sends k)) =
    closed_by (ascii "!;") (lit (ascii " sync ") (wd "sync" ∷ []) refl refl closed-then letter_written (ascii "c") k refl refl) refl (lit (ascii "!;") (sg "!" ∷ sg ";" ∷ []) refl refl)
sync_lexed (some (receives k)) =
    closed_by (ascii "?;") (lit (ascii " sync ") (wd "sync" ∷ []) refl refl closed-then letter_written (ascii "c") k refl refl) refl (lit (ascii "?;") (sg "?" ∷ sg ";" ∷ []) refl refl)

abbrev pub assign_t : List Assignment → List Token
assign_t bs = list_t (wd "assign" ∷ []) (sg ",") assignment_t (sg ";" ∷ []) bs

assign_lexed : (g : List Assignment) → All SmallAssignment g → Lexed between (assign_text g) (assign_t g) between
unfolding assign_text listed stage_after words_from
assign_lexed [] a = none_lexed
assign_lexed (x ∷ xs) (more p a) =
    list_lexed ", " (sg ",") (lit (ascii ", ") (sg "," ∷ []) refl refl) (λ r. refl) assignment_text assignment_t
    " assign " (wd "assign" ∷ []) (lit (ascii " assign ") (wd "assign" ∷ []) refl refl) 59 [] (sg ";" ∷ []) refl (lit (ascii ";") (sg ";" ∷ []) refl refl)
    x xs (assignment_written x p) (all_of assignment_written a)

abbrev pub SmallSync : Option Sync → Type 0
SmallSync none = Unit {0}
SmallSync (some (sends k)) = Nat32 k
SmallSync (some (receives k)) = Nat32 k

pub record SmallTransition (t : Transition) : Type 0 where
  pub sync : SmallSync t.sync
  pub guard : All SmallAtom t.guard
  pub assignments : All SmallAssignment t.assignments

abbrev pub transition_t : Transition → List Token
transition_t t = name_t t.source ∷ sg "->" ∷ name_t t.target ∷ sg "{" ∷ (guard_t t.guard ++ (sync_t t.sync ++ (assign_t t.assignments ++ (sg "}" ∷ []))))

transition_lexed : (t : Transition) → SmallTransition t → Lexed between (transition_text t) (transition_t t) between
unfolding transition_text stage_after words_from
transition_lexed t h =
    let body = guard_text t.guard ++ (sync_text t.sync ++ (assign_text t.assignments ++ ascii " }")) in
    let ended = join (guard_lexed t.guard h.guard) (join (sync_lexed t.sync) (join (assign_lexed t.assignments h.assignments) (lit (ascii " }") (sg "}" ∷ []) refl refl))) in
    closed_by (ascii " -> " ++ (name_text t.target ++ (ascii " {" ++ body))) (name_written t.source) refl
    (join (lit (ascii " -> ") (sg "->" ∷ []) refl refl)
    (closed_by (ascii " {" ++ body) (name_written t.target) refl (join (lit (ascii " {") (sg "{" ∷ []) refl refl) ended)))

-- ## Declarations, processes, the system

abbrev pub declared_t : List Token → String → ℕ → List Token
declared_t front letter n = list_t front (sg ",") (λ i. numbered letter i ∷ []) (sg ";" ∷ []) (Rattle.model.specs.Lists.below n)

declared_lexed : (before : String) (front : List Token) → Lexed between (ascii before) front between → (letter : String) → ((i : ℕ) → Written (field letter i) (numbered letter i ∷ []))
    → (n : ℕ) → Lexed between (declared before letter n) (declared_t front letter n) between
unfolding declared listed stage_after words_from
declared_lexed before front l letter w zero = none_lexed
declared_lexed before front l letter w (suc n) =
    list_lexed ", " (sg ",") (lit (ascii ", ") (sg "," ∷ []) refl refl) (λ r. refl) (field letter) (λ i. numbered letter i ∷ [])
    before front l 59 (10 ∷ []) (sg ";" ∷ []) refl (lit (ascii ";\n") (sg ";" ∷ []) refl refl)
    0 (from 1 n) (w 0) (all_every w (from 1 n))

-- with what follows
abbrev pub states_t : List Location → List Token → List Token
states_t ls r = list_t (wd "state" ∷ []) (sg ",") location_t (sg ";" ∷ r) ls

abbrev pub transitions_t : List Transition → List Token → List Token
transitions_t [] r = r
transitions_t (t ∷ ts) r = list_t (wd "trans" ∷ []) (sg ",") transition_t (sg ";" ∷ r) (t ∷ ts)

abbrev pub SmallName : Name → Type 0
SmallName (location l) = Nat32 l
SmallName (waiting e none) = Nat32 e
SmallName (waiting e (some k)) = Nat32 e × Nat32 k

pub record SmallProcess (P : Process) : Type 0 where
  pub names : All (λ (l : Location). SmallName l.name) P.locations
  pub clocks : Nat32 P.clocks
  pub variables : Nat32 P.variables
  pub least : 0 < length P.locations
  pub locations : All (λ (l : Location). All SmallUpper l.invariant) P.locations
  pub transitions : All SmallTransition P.transitions

abbrev pub int_t : List Token
int_t = wd "int" ∷ sg "[" ∷ sg "-" ∷ number 32768 ∷ sg "," ∷ number 32767 ∷ sg "]" ∷ []

abbrev pub process_t : ℕ → Process → List Token
process_t p P =
    wd "process" ∷ numbered "P" p ∷ sg "(" ∷ sg ")" ∷ sg "{"
    ∷ (declared_t (wd "clock" ∷ []) "x" P.clocks ++ (declared_t int_t "v" P.variables
    ++ states_t P.locations (wd "init" ∷ name_t P.initial ∷ sg ";" ∷ transitions_t P.transitions (sg "}" ∷ []))))

transitions_lexed : (ts : List Transition) → All SmallTransition ts
    → Lexed between (listed "trans\n  " ",\n  " transition_text ts ++ (closed ";\n" ts ++ ascii "}\n")) (transitions_t ts (sg "}" ∷ [])) between
unfolding listed stage_after words_from
transitions_lexed [] a = lit (ascii "}\n") (sg "}" ∷ []) refl refl
transitions_lexed (t ∷ ts) (more p a) =
    list_lexed ",\n  " (sg ",") (lit (ascii ",\n  ") (sg "," ∷ []) refl refl) (λ r. refl) transition_text transition_t
    "trans\n  " (wd "trans" ∷ []) (lit (ascii "trans\n  ") (wd "trans" ∷ []) refl refl) 59 (10 ∷ 125 ∷ 10 ∷ []) (sg ";" ∷ sg "}" ∷ []) refl (lit (ascii ";\n}\n") (sg ";" ∷ sg "}" ∷ []) refl refl)
    t ts (closed_written (transition_lexed t p)) (all_of (λ u q. closed_written (transition_lexed u q)) a)

states_lexed : (ls : List Location) → 0 < length ls → All (λ (l : Location). All SmallUpper l.invariant) ls → (r : List ℕ) (us : List Token) → Lexed between r us between
    → Lexed between (listed "state\n  " ",\n  " location_text ls ++ (ascii ";\n" ++ r)) (states_t ls us) between
unfolding listed stage_after words_from
states_lexed [] h a r us l = absurd (omega native.Mathlib.Omega.arith)
states_lexed (x ∷ xs) h (more p a) r us l =
    list_lexed ",\n  " (sg ",") (lit (ascii ",\n  ") (sg "," ∷ []) refl refl) (λ q. refl) location_text location_t
    "state\n  " (wd "state" ∷ []) (lit (ascii "state\n  ") (wd "state" ∷ []) refl refl) 59 (10 ∷ r) (sg ";" ∷ us) refl (join (lit (ascii ";\n") (sg ";" ∷ []) refl refl) l)
    x xs (location_written x p) (all_of location_written a)

process_lexed : (p : ℕ) (P : Process) → SmallProcess P → Lexed between (process_text p P) (process_t p P) between
unfolding process_text stage_after words_from
process_lexed p P h =
    let trans = transitions_lexed P.transitions h.transitions in
    let begun = join (lit (ascii "init ") (wd "init" ∷ []) refl refl)
    (closed_by (ascii ";\n" ++ _) (name_written P.initial) refl (join (lit (ascii ";\n") (sg ";" ∷ []) refl refl) trans)) in
    let states = states_lexed P.locations h.least h.locations _ _ begun in
    let body = join (declared_lexed "clock " (wd "clock" ∷ []) (lit (ascii "clock ") (wd "clock" ∷ []) refl refl) "x" x_written P.clocks)
    (join (declared_lexed "int[-32768,32767] " int_t (lit (ascii "int[-32768,32767] ") int_t refl refl) "v" v_written P.variables) states) in
    closed_by (ascii "() {\n" ++ _) (lit (ascii "\nprocess ") (wd "process" ∷ []) refl refl closed-then letter_written (ascii "P") p refl refl) refl
    (join (lit (ascii "() {\n") (sg "(" ∷ sg ")" ∷ sg "{" ∷ []) refl refl) body)

abbrev pub processes_t : ℕ → List Process → List Token
processes_t p [] = []
processes_t p (P ∷ Ps) = process_t p P ++ processes_t (suc p) Ps

processes_lexed : (p : ℕ) (Ps : List Process) → All SmallProcess Ps → Lexed between (process_texts p Ps) (processes_t p Ps) between
unfolding process_texts
processes_lexed p [] a = none_lexed
processes_lexed p (P ∷ Ps) (more h a) = join (process_lexed p P h) (processes_lexed (suc p) Ps a)

abbrev pub system_t : System → List Token
system_t N = declared_t (wd "chan" ∷ []) "c" N.channels ++ (processes_t 0 N.processes ++ declared_t (wd "system" ∷ []) "P" (length N.processes))

pub system_tokens : (N : System) → All SmallProcess N.processes → tokens (system_text N) ≡ some (system_t N)
unfolding system_text stage_after words_from
system_tokens N a =
    tokens_of (closed_written
    (join (declared_lexed "chan " (wd "chan" ∷ []) (lit (ascii "chan ") (wd "chan" ∷ []) refl refl) "c" (λ i. letter_written (ascii "c") i refl refl) N.channels)
    (join (processes_lexed 0 N.processes a)
    (declared_lexed "\nsystem " (wd "system" ∷ []) (lit (ascii "\nsystem ") (wd "system" ∷ []) refl refl) "P" (λ i. letter_written (ascii "P") i refl refl) (length N.processes)))))
