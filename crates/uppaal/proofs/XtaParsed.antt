-- The productions read the words of each part. Assumes nothing.
use mathlib.Core.Path.{◌≡◌, refl, sym, ap, ap₂, subst, ◌∙◌}
use mathlib.Core.Bool.{Bool, true, false, cond, ◌&&◌, ◌||◌, not}
use mathlib.Core.List.{List, [], ◌∷◌, ◌++◌, map, append-nil, append_assoc}
use mathlib.Core.Option.{Option, none, some}
use Prim.Native.Nat.{ℕ, zero, suc, ◌+◌, ◌≤◌, ◌<◌}
use Prim.Native.String.{String}
use native.Mathlib.Omega.{arith}
use borrow.Author.Tests.{le-leb}
use lib.Dec.{leb}
use lib.IntN.{ℤ, pos, negsuc}
use lib.ListN.{length, length-append}
use Rattle.model.specs.Lists.{All, empty, more, from}
use Rattle.words.specs.Words.{ascii, decimal}
use Rattle.uppaal.specs.Xta.{Name, location, waiting, Upper, Atom, at_most, below, exactly, at_least, value_at_least, value_at_most, sum_at_least, sum_at_most, never, Sync, sends, receives, Assignment, sets_to, adds, resets, Transition, Location, Process, System}
use Rattle.uppaal.specs.XtaText.{field, name_text}
use Rattle.uppaal.specs.XtaTokens.{Token, word, number, sign, same_bytes}
use Rattle.uppaal.specs.XtaTree.{Primary, named, whole, falsity, Sum, Relation, le, lt, eq, ge, Comparison, lone, compared, Assigned, Synced, Edge, Place, Kind, channel, clock, integer, Declaration, Template, Text}
use Rattle.uppaal.specs.XtaGrammar.{Read, found, refused, ◌then◌, Production, is_word, is_sign, next, taking, the_word, the_sign, is_reserved, a_name, a_nat, as_long, every, separated, optional, an_integer, primary, addend, sum, next_relation, comparison, expression, ends, guard, sync, assignment, assign, transition, transitions, invariant, state_decl, states, initially, is_type, variable_decl, proc_decl, system_line, xta, grammatical}
use Rattle.uppaal.proofs.XtaNumerals.{Nat32, x_free, v_free, c_free}
use Rattle.uppaal.proofs.XtaPrinted.{Int32, SmallUpper, SmallAtom, SmallAssignment, SmallSync, SmallTransition, SmallProcess, sg, wd, numbered, integer_t, addend_t, against_t, atom_t, assignment_t, name_t, each_t, list_t, location_t, guard_t, sync_t, assign_t, transition_t, declared_t, states_t, transitions_t, int_t, process_t, processes_t, system_t}

-- one production behind another
step : {A B : Type 0} {r : Read A} {x : A} {ts : List Token} {y : Read B} (f : A → List Token → Read B) → r ≡ found x ts → f x ts ≡ y → (r then f) ≡ y
step f e k = ap (λ q. q then f) e ∙ k

-- ## Expressions

pub record Free (w : List ℕ) : Type 0 where
  pub name : is_reserved w ≡ false
  pub some : same_bytes (ascii "false") w ≡ false

name_read : {w : List ℕ} → Free w → (r : List Token) → a_name (word w ∷ r) ≡ found w r
name_read f r = rw f.name

in_32 : (n : ℕ) → Nat32 n → leb n 2147483647 ≡ true
in_32 n h = le-leb n 2147483647 (omega arith)

nat_read : (n : ℕ) → Nat32 n → (r : List Token) → a_nat (number n ∷ r) ≡ found n r
nat_read n h r = rw (in_32 n h)

integer_read : (z : ℤ) → Int32 z → (r : List Token) → an_integer (integer_t z ++ r) ≡ found z r
integer_read (pos n) h r = rw (in_32 n h)
integer_read (negsuc n) h r = rw (in_32 (suc n) h)

abbrev sum_named : List ℕ → Sum
sum_named w = record { head = named w; more = none }

abbrev sum_more : List ℕ → ℤ → Sum
sum_more w z = record { head = named w; more = some z }

abbrev sum_integer : ℤ → Sum
sum_integer z = record { head = whole z; more = none }

-- nothing follows that goes on
pub record Closes (r : List Token) : Type 0 where
  pub plus : next (is_sign "+") r ≡ false
  pub minus : next (is_sign "-") r ≡ false
  pub relation : next_relation r ≡ none

sum_name : {w : List ℕ} → Free w → (r : List Token) → next (is_sign "+") r ≡ false → next (is_sign "-") r ≡ false → sum (word w ∷ r) ≡ found (sum_named w) r
unfolding sum primary
sum_name f r p q = rw (f.some, f.name, p, q)

sum_more_is : {w : List ℕ} → Free w → (z : ℤ) → Int32 z → (r : List Token) → sum (word w ∷ (addend_t z ++ r)) ≡ found (sum_more w z) r
unfolding sum primary
sum_more_is f (pos n) h r = rw (f.some, f.name, in_32 n h)
sum_more_is f (negsuc n) h r = rw (f.some, f.name, in_32 (suc n) h)

sum-integer : (z : ℤ) → Int32 z → (r : List Token) → next (is_sign "+") r ≡ false → next (is_sign "-") r ≡ false → sum (integer_t z ++ r) ≡ found (sum_integer z) r
unfolding sum primary
sum-integer (pos n) h r p q = rw (in_32 n h, p, q)
sum-integer (negsuc n) h r p q = rw (in_32 (suc n) h, p, q)

free_x : (i : ℕ) → Nat32 i → Free (field "x" i)
free_x i h = record { name = x_free i h; some = refl }

free_v : (i : ℕ) → Nat32 i → Free (field "v" i)
free_v i h = record { name = v_free i h; some = refl }

free_c : (i : ℕ) → Nat32 i → Free (field "c" i)
free_c i h = record { name = c_free i h; some = refl }

free_P : (i : ℕ) → Free (field "P" i)
unfolding is_reserved
free_P i = record { name = refl; some = refl }

free_name : (n : Name) → Free (name_text n)
unfolding is_reserved
free_name (location l) = record { name = refl; some = refl }
free_name (waiting e none) = record { name = refl; some = refl }
free_name (waiting e (some k)) = record { name = refl; some = refl }

abbrev pub atom_tree : Atom → Comparison
atom_tree (at_most u) = compared (sum_named (field "x" u.clock)) le (sum_integer (pos u.bound))
atom_tree (below u) = compared (sum_named (field "x" u.clock)) lt (sum_integer (pos u.bound))
atom_tree (exactly u) = compared (sum_named (field "x" u.clock)) eq (sum_integer (pos u.bound))
atom_tree (at_least i n) = compared (sum_named (field "x" i)) ge (sum_integer (pos n))
atom_tree (value_at_least v z) = compared (sum_named (field "v" v)) ge (sum_integer z)
atom_tree (value_at_most v z) = compared (sum_named (field "v" v)) le (sum_integer z)
atom_tree (sum_at_least v k z) = compared (sum_more (field "v" v) k) ge (sum_integer z)
atom_tree (sum_at_most v k z) = compared (sum_more (field "v" v) k) le (sum_integer z)
atom_tree never = lone (record { head = falsity; more = none })

atom_read : (a : Atom) → SmallAtom a → (r : List Token) → Closes r → comparison (atom_t a ++ r) ≡ found (atom_tree a) r
unfolding comparison
atom_read (at_most u) h r c = step _ (sum_name (free_x u.clock h.clock) (sg "<=" ∷ number u.bound ∷ r) refl refl) (step _ (sum-integer (pos u.bound) h.bound r c.plus c.minus) refl)
atom_read (below u) h r c = step _ (sum_name (free_x u.clock h.clock) (sg "<" ∷ number u.bound ∷ r) refl refl) (step _ (sum-integer (pos u.bound) h.bound r c.plus c.minus) refl)
atom_read (exactly u) h r c = step _ (sum_name (free_x u.clock h.clock) (sg "==" ∷ number u.bound ∷ r) refl refl) (step _ (sum-integer (pos u.bound) h.bound r c.plus c.minus) refl)
atom_read (at_least i n) h r c = step _ (sum_name (free_x i h.0) (sg ">=" ∷ number n ∷ r) refl refl) (step _ (sum-integer (pos n) h.1 r c.plus c.minus) refl)
atom_read (value_at_least v z) h r c = step _ (sum_name (free_v v h.0) (sg ">=" ∷ (integer_t z ++ r)) refl refl) (step _ (sum-integer z h.1 r c.plus c.minus) refl)
atom_read (value_at_most v z) h r c = step _ (sum_name (free_v v h.0) (sg "<=" ∷ (integer_t z ++ r)) refl refl) (step _ (sum-integer z h.1 r c.plus c.minus) refl)
atom_read (sum_at_least v k z) h r c =
    ap (λ (l : List Token). comparison (numbered "v" v ∷ l)) (append_assoc (addend_t k) (sg ">=" ∷ integer_t z) r)
    ∙ step _ (sum_more_is (free_v v h.0) k h.1 (sg ">=" ∷ (integer_t z ++ r))) (step _ (sum-integer z h.2 r c.plus c.minus) refl)
atom_read (sum_at_most v k z) h r c =
    ap (λ (l : List Token). comparison (numbered "v" v ∷ l)) (append_assoc (addend_t k) (sg "<=" ∷ integer_t z) r)
    ∙ step _ (sum_more_is (free_v v h.0) k h.1 (sg "<=" ∷ (integer_t z ++ r))) (step _ (sum-integer z h.2 r c.plus c.minus) refl)
atom_read never h r c = step _ (truth r c.plus c.minus) (rw c.relation)
  where
    truth : (q : List Token) → next (is_sign "+") q ≡ false → next (is_sign "-") q ≡ false → sum (wd "false" ∷ q) ≡ found (record { head = falsity; more = none }) q
    truth q p m = rw (p, m)

abbrev pub assignment_tree : Assignment → Assigned
assignment_tree (sets_to v z) = record { target = field "v" v; value = sum_integer z }
assignment_tree (adds v z) = record { target = field "v" v; value = sum_more (field "v" v) z }
assignment_tree (resets i) = record { target = field "x" i; value = sum_integer (pos 0) }

assignment_read : (a : Assignment) → SmallAssignment a → (r : List Token) → Closes r → assignment (assignment_t a ++ r) ≡ found (assignment_tree a) r
unfolding assignment
assignment_read (sets_to v z) h r c = step _ (name_read (free_v v h.0) (sg ":=" ∷ (integer_t z ++ r))) (step _ (sum-integer z h.1 r c.plus c.minus) refl)
assignment_read (adds v z) h r c = step _ (name_read (free_v v h.0) (sg ":=" ∷ numbered "v" v ∷ (addend_t z ++ r))) (step _ (sum_more_is (free_v v h.0) z h.1 r) refl)
assignment_read (resets i) h r c = step _ (name_read (free_x i h) (sg ":=" ∷ number 0 ∷ r)) (step _ (sum-integer (pos 0) (omega arith) r c.plus c.minus) refl)

-- ## One behind another

-- with m or more left
abbrev Long : {A : Type 0} → (Token → Bool) → Production A → ℕ → List Token → List A → List Token → Type 0
Long begins one m ts xs r = (k : ℕ) → m ≤ k → as_long begins one k ts ≡ found xs r

long_end : {A : Type 0} (begins : Token → Bool) (one : Production A) (ts : List Token) → next begins ts ≡ false → Long begins one 0 ts [] ts
unfolding as_long
long_end begins one ts e zero h = refl
long_end begins one ts e (suc k) h = rw e

long_more : {A : Type 0} (begins : Token → Bool) (one : Production A) (m : ℕ) (ts us : List Token) (x : A) (xs : List A) (r : List Token)
    → next begins ts ≡ true → one ts ≡ found x us → Long begins one m us xs r → Long begins one (suc m) ts (x ∷ xs) r
unfolding as_long
long_more begins one m ts us x xs r e f l zero h = absurd (omega arith)
long_more {A} begins one m ts us x xs r e f l (suc k) h =
    let a : as_long begins one k us ≡ found xs r = l k (omega arith) in
    let b : (one ts then (λ y vs. as_long begins one k vs then (λ ys ws. found (y ∷ ys) ws))) ≡ found (x ∷ xs) r =
    step (λ y vs. as_long begins one k vs then (λ ys ws. found (y ∷ ys) ws)) f (step (λ ys ws. found (x ∷ ys) ws) a refl) in
    ap (λ (t : Bool). cond t (one ts then (λ y vs. as_long begins one k vs then (λ ys ws. found (y ∷ ys) ws))) (found [] ts)) e ∙ b

each_long : {A : Type 0} (t : Token) (g : A → List Token) (xs : List A) (r : List Token) → length xs ≤ length (each_t t g xs ++ r)
each_long t g [] r = omega arith
each_long t g (x ∷ xs) r =
    let e = length-append (g x) (each_t t g xs) in
    let f = length-append (g x ++ each_t t g xs) r in
    let d = length-append (each_t t g xs) r in
    omega (arith, e, f, d, each_long t g xs r)

module _ {A B : Type 0} (sep : String) (s : is_sign sep (sg sep) ≡ true) (one : Production B) (g : A → List Token) (tree : A → B) (P : A → Type 0) (C : List Token → Type 0)
    (reads : (x : A) → P x → (r : List Token) → C r → one (g x ++ r) ≡ found (tree x) r) (between : (r : List Token) → C (sg sep ∷ r)) where
  goes_on : (xs : List A) (r : List Token) → C r → C (each_t (sg sep) g xs ++ r)
  goes_on [] r c = c
  goes_on (x ∷ xs) r c = between ((g x ++ each_t (sg sep) g xs) ++ r)

  each_read : {xs : List A} → All P xs → (r : List Token) → C r → next (is_sign sep) r ≡ false
      → Long (is_sign sep) (λ vs. the_sign sep vs then (λ t ws. one ws)) (length xs) (each_t (sg sep) g xs ++ r) (map tree xs) r
  each_read empty r c e = long_end (is_sign sep) (λ vs. the_sign sep vs then (λ t ws. one ws)) r e
  each_read (more {x = x} {xs = xs} p a) r c e =
      long_more (is_sign sep) (λ vs. the_sign sep vs then (λ t ws. one ws)) (length xs) (sg sep ∷ ((g x ++ each_t (sg sep) g xs) ++ r)) (each_t (sg sep) g xs ++ r) (tree x) (map tree xs) r
      s
      (ap (λ (b : Bool). (cond b (found (sg sep) ((g x ++ each_t (sg sep) g xs) ++ r)) refused) then (λ t ws. one ws)) s
      ∙ ap one (append_assoc (g x) (each_t (sg sep) g xs) r) ∙ reads x p (each_t (sg sep) g xs ++ r) (goes_on xs r c))
      (each_read a r c e)

  separated_read : (x : A) (xs : List A) → P x → All P xs → (r : List Token) → C r → next (is_sign sep) r ≡ false
      → separated sep one (g x ++ (each_t (sg sep) g xs ++ r)) ≡ found (map tree (x ∷ xs)) r
  separated_read x xs p a r c e =
      step (λ y us. every (is_sign sep) (λ vs. the_sign sep vs then (λ t ws. one ws)) us then (λ ys vs. found (y ∷ ys) vs)) (reads x p (each_t (sg sep) g xs ++ r) (goes_on xs r c))
      (step (λ ys vs. found (tree x ∷ ys) vs) (each_read a r c e (length (each_t (sg sep) g xs ++ r)) (each_long (sg sep) g xs r)) refl)

  -- and what ends it
  pub enclosed_read : (back : String) → is_sign back (sg back) ≡ true → ((r : List Token) → C (sg back ∷ r)) → is_sign sep (sg back) ≡ false
      → (x : A) (xs : List A) → P x → All P xs → (r : List Token)
      → ends back (separated sep one (g x ++ (each_t (sg sep) g xs ++ (sg back ∷ r)))) ≡ found (map tree (x ∷ xs)) r
  enclosed_read back i cs e x xs p a r =
      step (λ ys us. the_sign back us then (λ t vs. found ys vs)) (separated_read x xs p a (sg back ∷ r) (cs r) e)
      (ap (λ (b : Bool). (cond b (found (sg back) r) refused) then (λ t vs. found (map tree (x ∷ xs)) vs)) i)

-- ## Guards, channels, assignments

assoc3 : (a b c r : List Token) → (a ++ (b ++ c)) ++ r ≡ a ++ (b ++ (c ++ r))
assoc3 a b c r = append_assoc a (b ++ c) r ∙ ap (λ (l : List Token). a ++ l) (append_assoc b c r)

and_closes : (r : List Token) → Closes (sg "&&" ∷ r)
and_closes r = record { plus = refl; minus = refl; relation = refl }

end_closes : (r : List Token) → Closes (sg ";" ∷ r)
end_closes r = record { plus = refl; minus = refl; relation = refl }

comma_closes : (r : List Token) → Closes (sg "," ∷ r)
comma_closes r = record { plus = refl; minus = refl; relation = refl }

brace_closes : (r : List Token) → Closes (sg "}" ∷ r)
brace_closes r = record { plus = refl; minus = refl; relation = refl }

guard_read : (g : List Atom) → All SmallAtom g → (r : List Token) → next (is_word "guard") r ≡ false → optional (is_word "guard") [] guard (guard_t g ++ r) ≡ found (map atom_tree g) r
unfolding guard expression
guard_read [] a r e = rw e
guard_read (x ∷ xs) (more p a) r e =
    ap (λ (l : List Token). optional (is_word "guard") [] guard (wd "guard" ∷ l)) (assoc3 (atom_t x) (each_t (sg "&&") atom_t xs) (sg ";" ∷ []) r)
    ∙ enclosed_read "&&" refl comparison atom_t atom_tree SmallAtom Closes atom_read and_closes ";" refl end_closes refl x xs p a r

abbrev pub sync_tree : Option Sync → Option Synced
sync_tree none = none
sync_tree (some (sends k)) = some (record { channel = field "c" k; sending = true })
sync_tree (some (receives k)) = some (record { channel = field "c" k; sending = false })

sync_read : (s : Option Sync) → SmallSync s → (r : List Token) → next (is_word "sync") r ≡ false → optional (is_word "sync") none sync (sync_t s ++ r) ≡ found (sync_tree s) r
unfolding sync
sync_read none h r e = rw e
sync_read (some (sends k)) h r e = rw (c_free k h)
sync_read (some (receives k)) h r e = rw (c_free k h)

assign_read : (g : List Assignment) → All SmallAssignment g → (r : List Token) → next (is_word "assign") r ≡ false → optional (is_word "assign") [] assign (assign_t g ++ r) ≡ found (map assignment_tree g) r
unfolding assign
assign_read [] a r e = rw e
assign_read (x ∷ xs) (more p a) r e =
    ap (λ (l : List Token). optional (is_word "assign") [] assign (wd "assign" ∷ l)) (assoc3 (assignment_t x) (each_t (sg ",") assignment_t xs) (sg ";" ∷ []) r)
    ∙ enclosed_read "," refl assignment assignment_t assignment_tree SmallAssignment Closes assignment_read comma_closes ";" refl end_closes refl x xs p a r

-- ## Transitions and locations

abbrev pub edge_tree : Transition → Edge
edge_tree t =
    record { source = name_text t.source; target = name_text t.target; guard = map atom_tree t.guard; sync = sync_tree t.sync; assignments = map assignment_tree t.assignments }

no_sync : (bs : List Assignment) (r : List Token) → next (is_word "sync") (assign_t bs ++ (sg "}" ∷ r)) ≡ false
no_sync [] r = refl
no_sync (b ∷ bs) r = refl

no_guard : (s : Option Sync) (bs : List Assignment) (r : List Token) → next (is_word "guard") (sync_t s ++ (assign_t bs ++ (sg "}" ∷ r))) ≡ false
no_guard none [] r = refl
no_guard none (b ∷ bs) r = refl
no_guard (some (sends k)) bs r = refl
no_guard (some (receives k)) bs r = refl

assoc4 : (a b c d r : List Token) → (a ++ (b ++ (c ++ d))) ++ r ≡ a ++ (b ++ (c ++ (d ++ r)))
assoc4 a b c d r = append_assoc a (b ++ (c ++ d)) r ∙ ap (λ (l : List Token). a ++ l) (assoc3 b c d r)

transition_read : (t : Transition) → SmallTransition t → (r : List Token) → transition (transition_t t ++ r) ≡ found (edge_tree t) r
unfolding transition
transition_read t h r =
    let body = guard_t t.guard ++ (sync_t t.sync ++ (assign_t t.assignments ++ (sg "}" ∷ r))) in
    let e : transition_t t ++ r ≡ name_t t.source ∷ sg "->" ∷ name_t t.target ∷ sg "{" ∷ body =
    ap (λ (l : List Token). name_t t.source ∷ sg "->" ∷ name_t t.target ∷ sg "{" ∷ l) (assoc4 (guard_t t.guard) (sync_t t.sync) (assign_t t.assignments) (sg "}" ∷ []) r) in
    ap transition e
    ∙ step _ (name_read (free_name t.source) (sg "->" ∷ name_t t.target ∷ sg "{" ∷ body))
    (step _ (name_read (free_name t.target) (sg "{" ∷ body))
    (step (λ x us. the_sign "}" us then (λ q vs. found x vs))
    (step _ (guard_read t.guard h.guard (sync_t t.sync ++ (assign_t t.assignments ++ (sg "}" ∷ r))) (no_guard t.sync t.assignments r))
    (step _ (sync_read t.sync h.sync (assign_t t.assignments ++ (sg "}" ∷ r)) (no_sync t.assignments r))
    (step _ (assign_read t.assignments h.assignments (sg "}" ∷ r) refl) refl)))
    refl))

abbrev pub place_tree : Location → Place
place_tree l = record { name = name_text l.name; invariant = map (λ u. atom_tree (at_most u)) l.invariant }

abbrev NoBrace : List Token → Type 0
NoBrace r = next (is_sign "{") r ≡ false

bounds_read : (us : List Upper) → All SmallUpper us → (r : List Token) → NoBrace r
    → optional (is_sign "{") [] invariant (list_t (sg "{" ∷ []) (sg "&&") (λ u. against_t u "<=") (sg "}" ∷ []) us ++ r) ≡ found (map (λ u. atom_tree (at_most u)) us) r
unfolding invariant expression
bounds_read [] a r e = rw e
bounds_read (x ∷ xs) (more p a) r e =
    ap (λ (l : List Token). optional (is_sign "{") [] invariant (sg "{" ∷ l)) (assoc3 (against_t x "<=") (each_t (sg "&&") (λ u. against_t u "<=") xs) (sg "}" ∷ []) r)
    ∙ enclosed_read "&&" refl comparison (λ u. against_t u "<=") (λ u. atom_tree (at_most u)) SmallUpper Closes (λ u. atom_read (at_most u)) and_closes "}" refl brace_closes refl x xs p a r

location_read : (l : Location) → All SmallUpper l.invariant → (r : List Token) → NoBrace r → state_decl (location_t l ++ r) ≡ found (place_tree l) r
unfolding state_decl
location_read l h r e = step _ (name_read (free_name l.name) _) (step _ (bounds_read l.invariant h r e) refl)

states_read : (ls : List Location) → 0 < length ls → All (λ (l : Location). All SmallUpper l.invariant) ls → (r : List Token) → states (states_t ls r) ≡ found (map place_tree ls) r
unfolding states
states_read [] h a r = absurd (omega arith)
states_read (x ∷ xs) h (more p a) r =
    enclosed_read "," refl state_decl location_t place_tree (λ (l : Location). All SmallUpper l.invariant) NoBrace location_read (λ q. refl) ";" refl (λ q. refl) refl x xs p a r

transitions_read : (ts : List Transition) → All SmallTransition ts → (r : List Token) → next (is_word "trans") r ≡ false
    → optional (is_word "trans") [] transitions (transitions_t ts r) ≡ found (map edge_tree ts) r
unfolding transitions
transitions_read [] a r e = rw e
transitions_read (x ∷ xs) (more p a) r e =
    enclosed_read "," refl transition transition_t edge_tree SmallTransition (λ q. Unit {0}) (λ t h q c. transition_read t h q) (λ q. tt) ";" refl (λ q. tt) refl x xs p a r

-- ## Declarations

abbrev pub declaration_tree : Kind → String → ℕ → List Declaration
declaration_tree k letter zero = []
declaration_tree k letter (suc n) = record { kind = k; names = map (field letter) (Rattle.model.specs.Lists.below (suc n)) } ∷ []

small_from : (i n : ℕ) → i + n < 2147483649 → All Nat32 (from i n)
small_from i zero h = empty
small_from i (suc n) h = let k : Nat32 i = omega arith in more k (small_from (suc i) n (omega arith))

names_read : (letter : String) → ((i : ℕ) → Nat32 i → Free (field letter i)) → (n : ℕ) → Nat32 (suc n) → (r : List Token)
    → ends ";" (separated "," a_name (numbered letter 0 ∷ (each_t (sg ",") (λ i. numbered letter i ∷ []) (from 1 n) ++ (sg ";" ∷ r)))) ≡ found (map (field letter) (from 0 (suc n))) r
names_read letter free n h r =
    enclosed_read "," refl a_name (λ i. numbered letter i ∷ []) (field letter) Nat32 (λ q. Unit {0}) (λ i k q c. name_read (free i k) q) (λ q. tt) ";" refl (λ q. tt) refl
    0 (from 1 n) (omega arith) (small_from 1 n (omega arith)) r

module _ (front : List Token) (k : Kind) (letter : String) (kind : (us : List Token) → Rattle.uppaal.specs.XtaGrammar.type (front ++ us) ≡ found k us)
    (first : (us : List Token) → next is_type (front ++ us) ≡ true) (free : (i : ℕ) → Nat32 i → Free (field letter i)) where
  declaration_read : (n : ℕ) → Nat32 (suc n) → (r : List Token)
      → variable_decl (declared_t front letter (suc n) ++ r) ≡ found (record { kind = k; names = map (field letter) (from 0 (suc n)) }) r
  unfolding variable_decl
  declaration_read n h r =
      let rest = numbered letter 0 ∷ (each_t (sg ",") (λ i. numbered letter i ∷ []) (from 1 n) ++ (sg ";" ∷ r)) in
      let e : declared_t front letter (suc n) ++ r ≡ front ++ rest =
      append_assoc front (numbered letter 0 ∷ (each_t (sg ",") (λ i. numbered letter i ∷ []) (from 1 n) ++ (sg ";" ∷ []))) r
      ∙ ap (λ (l : List Token). front ++ (numbered letter 0 ∷ l)) (append_assoc (each_t (sg ",") (λ i. numbered letter i ∷ []) (from 1 n)) (sg ";" ∷ []) r) in
      ap variable_decl e ∙ step _ (kind rest) (step _ (names_read letter free n h r) refl)

  pub declared_long : (n : ℕ) → Nat32 n → (m : ℕ) (rest : List Token) (ds : List Declaration) (r : List Token) → Long is_type variable_decl m rest ds r
      → Long is_type variable_decl (length (declaration_tree k letter n) + m) (declared_t front letter n ++ rest) (declaration_tree k letter n ++ ds) r
  declared_long zero h m rest ds r l j b = l j (omega (arith, b))
  declared_long (suc n) h m rest ds r l j b =
      long_more is_type variable_decl m (declared_t front letter (suc n) ++ rest) rest (record { kind = k; names = map (field letter) (from 0 (suc n)) }) ds r
      (ap (next is_type) (append_assoc front (numbered letter 0 ∷ (each_t (sg ",") (λ i. numbered letter i ∷ []) (from 1 n) ++ (sg ";" ∷ []))) rest) ∙ first _)
      (declaration_read n h rest) l j (omega (arith, b))

  pub declared_length : (n : ℕ) → length (declaration_tree k letter n) ≤ length (declared_t front letter n)
  declared_length zero = omega arith
  declared_length (suc n) = omega (arith, length-append front (numbered letter 0 ∷ (each_t (sg ",") (λ i. numbered letter i ∷ []) (from 1 n) ++ (sg ";" ∷ []))))

-- ## Processes and the system

transitions_append : (ts : List Transition) (us r : List Token) → transitions_t ts us ++ r ≡ transitions_t ts (us ++ r)
transitions_append [] us r = refl
transitions_append (t ∷ ts) us r = ap (λ (l : List Token). wd "trans" ∷ l) (assoc3 (transition_t t) (each_t (sg ",") transition_t ts) (sg ";" ∷ us) r)

states_append : (ls : List Location) → 0 < length ls → (us r : List Token) → states_t ls us ++ r ≡ states_t ls (us ++ r)
states_append [] h us r = absurd (omega arith)
states_append (l ∷ ls) h us r = ap (λ (q : List Token). wd "state" ∷ q) (assoc3 (location_t l) (each_t (sg ",") location_t ls) (sg ";" ∷ us) r)

abbrev pub int16 : Kind
int16 = integer (negsuc 32767) (pos 32767)

abbrev pub declarations_tree : Process → List Declaration
declarations_tree P = declaration_tree clock "x" P.clocks ++ (declaration_tree int16 "v" P.variables ++ [])

abbrev pub template_tree : ℕ → Process → Template
template_tree p P =
    record { name = field "P" p; declarations = declarations_tree P; places = map place_tree P.locations; initial = name_text P.initial; edges = map edge_tree P.transitions }

no_type : (ls : List Location) → 0 < length ls → (r : List Token) → next is_type (states_t ls r) ≡ false
no_type [] h r = absurd (omega arith)
no_type (l ∷ ls) h r = refl

locals_read : (P : Process) → SmallProcess P → (r : List Token)
    → every is_type variable_decl (declared_t (wd "clock" ∷ []) "x" P.clocks ++ (declared_t int_t "v" P.variables ++ states_t P.locations r)) ≡ found (declarations_tree P) (states_t P.locations r)
locals_read P h r =
    let S = states_t P.locations r in
    let D = declared_t (wd "clock" ∷ []) "x" P.clocks in
    let E = declared_t int_t "v" P.variables in
    let l0 = long_end is_type variable_decl S (no_type P.locations h.least r) in
    let l1 = declared_long int_t int16 "v" (λ us. refl) (λ us. refl) free_v P.variables h.variables 0 S [] S l0 in
    let l2 = declared_long (wd "clock" ∷ []) clock "x" (λ us. refl) (λ us. refl) free_x P.clocks h.clocks (length (declaration_tree int16 "v" P.variables) + 0) (E ++ S) (declaration_tree int16 "v" P.variables ++ []) S l1 in
    l2 (length (D ++ (E ++ S)))
    (omega (arith, length-append D (E ++ S), length-append E S, declared_length (wd "clock" ∷ []) clock "x" (λ us. refl) (λ us. refl) free_x P.clocks, declared_length int_t int16 "v" (λ us. refl) (λ us. refl) free_v P.variables))

process-read : (p : ℕ) (P : Process) → SmallProcess P → (r : List Token) → proc_decl (process_t p P ++ r) ≡ found (template_tree p P) r
unfolding proc_decl
process-read p P h r =
    let D = declared_t (wd "clock" ∷ []) "x" P.clocks in
    let E = declared_t int_t "v" P.variables in
    let back = transitions_t P.transitions (sg "}" ∷ r) in
    let body = wd "init" ∷ name_t P.initial ∷ sg ";" ∷ back in
    let e : (D ++ (E ++ states_t P.locations (wd "init" ∷ name_t P.initial ∷ sg ";" ∷ transitions_t P.transitions (sg "}" ∷ [])))) ++ r ≡ D ++ (E ++ states_t P.locations body) =
    assoc3 D E (states_t P.locations (wd "init" ∷ name_t P.initial ∷ sg ";" ∷ transitions_t P.transitions (sg "}" ∷ []))) r
    ∙ ap (λ (l : List Token). D ++ (E ++ l)) (states_append P.locations h.least (wd "init" ∷ name_t P.initial ∷ sg ";" ∷ transitions_t P.transitions (sg "}" ∷ [])) r)
    ∙ ap (λ (l : List Token). D ++ (E ++ states_t P.locations (wd "init" ∷ name_t P.initial ∷ sg ";" ∷ l))) (transitions_append P.transitions (sg "}" ∷ []) r) in
    ap (λ (l : List Token). proc_decl (wd "process" ∷ numbered "P" p ∷ sg "(" ∷ sg ")" ∷ sg "{" ∷ l)) e
    ∙ step _ (name_read (free_P p) (sg "(" ∷ sg ")" ∷ sg "{" ∷ (D ++ (E ++ states_t P.locations body))))
    (step (λ x us. the_sign "}" us then (λ q vs. found x vs))
    (step _ (locals_read P h body)
    (step _ (states_read P.locations h.least h.locations body)
    (step _ (step (λ x us. the_sign ";" us then (λ q vs. found x vs)) (name_read (free_name P.initial) (sg ";" ∷ back)) refl)
    (step _ (transitions_read P.transitions h.transitions (sg "}" ∷ r) refl) refl))))
    refl)

abbrev pub templates_from : ℕ → List Process → List Template
templates_from p [] = []
templates_from p (P ∷ Ps) = template_tree p P ∷ templates_from (suc p) Ps

processes_read : (p : ℕ) {Ps : List Process} → All SmallProcess Ps → (r : List Token) → next (is_word "process") r ≡ false
    → Long (is_word "process") proc_decl (length Ps) (processes_t p Ps ++ r) (templates_from p Ps) r
processes_read p empty r e = long_end (is_word "process") proc_decl r e
processes_read p (more {x = P} {xs = Ps} h a) r e =
    long_more (is_word "process") proc_decl (length Ps) (processes_t p (P ∷ Ps) ++ r) (processes_t (suc p) Ps ++ r) (template_tree p P) (templates_from (suc p) Ps) r
    refl (ap proc_decl (append_assoc (process_t p P) (processes_t (suc p) Ps) r) ∙ process-read p P h (processes_t (suc p) Ps ++ r)) (processes_read (suc p) a r e)

processes_length : (p : ℕ) (Ps : List Process) → length Ps ≤ length (processes_t p Ps)
processes_length p [] = omega arith
processes_length p (P ∷ Ps) = omega (arith, length-append (process_t p P) (processes_t (suc p) Ps), processes_length (suc p) Ps)

abbrev pub text_tree : System → Text
text_tree N =
    record { declarations = declaration_tree channel "c" N.channels ++ []; templates = templates_from 0 N.processes; system = map (field "P") (Rattle.model.specs.Lists.below (length N.processes)) }

pub record SmallSystem (N : System) : Type 0 where
  pub channels : Nat32 N.channels
  pub least : 0 < length N.processes
  pub most : Nat32 (length N.processes)
  pub processes : All SmallProcess N.processes

line_read : (n : ℕ) → 0 < n → Nat32 n → system_line (declared_t (wd "system" ∷ []) "P" n) ≡ found (map (field "P") (Rattle.model.specs.Lists.below n)) []
line_read zero h k = absurd (omega arith)
line_read (suc n) h k = names_read "P" (λ i q. free_P i) n k []

no-process : (n : ℕ) → 0 < n → next (is_word "process") (declared_t (wd "system" ∷ []) "P" n) ≡ false
no-process zero h = absurd (omega arith)
no-process (suc n) h = refl

no_more_types : (Ps : List Process) → 0 < length Ps → (r : List Token) → next is_type (processes_t 0 Ps ++ r) ≡ false
no_more_types [] h r = absurd (omega arith)
no_more_types (P ∷ Ps) h r = refl

pub system-read : (N : System) → SmallSystem N → grammatical (system_t N) ≡ some (text_tree N)
unfolding grammatical xta
system-read N h =
    let L = declared_t (wd "system" ∷ []) "P" (length N.processes) in
    let Q = processes_t 0 N.processes in
    let D = declared_t (wd "chan" ∷ []) "c" N.channels in
    let l0 = long_end is_type variable_decl (Q ++ L) (no_more_types N.processes h.least L) in
    let l1 = declared_long (wd "chan" ∷ []) channel "c" (λ us. refl) (λ us. refl) free_c N.channels h.channels 0 (Q ++ L) [] (Q ++ L) l0 in
    let a : every is_type variable_decl (D ++ (Q ++ L)) ≡ found (declaration_tree channel "c" N.channels ++ []) (Q ++ L) =
    l1 (length (D ++ (Q ++ L))) (omega (arith, length-append D (Q ++ L), declared_length (wd "chan" ∷ []) channel "c" (λ us. refl) (λ us. refl) free_c N.channels)) in
    let b : every (is_word "process") proc_decl (Q ++ L) ≡ found (templates_from 0 N.processes) L =
    processes_read 0 h.processes L (no-process (length N.processes) h.least) (length (Q ++ L)) (omega (arith, length-append Q L, processes_length 0 N.processes)) in
    let c : xta (system_t N) ≡ found (text_tree N) [] = step _ a (step _ b (step _ (line_read (length N.processes) h.least h.most) refl)) in
    ap Rattle.uppaal.specs.XtaGrammar.wholly c
