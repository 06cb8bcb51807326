-- UPPAAL's published grammar of the textual form, the part that is used: one function a production, each of the words that are left.
--
--   XTA          ::= VariableDecl* ProcDecl* System
--   VariableDecl ::= Type ID (',' ID)* ';'
--   Type         ::= 'chan' | 'clock' | 'int' '[' Integer ',' Integer ']'
--   ProcDecl     ::= 'process' ID '(' ')' '{' VariableDecl* States Init [Transitions] '}'
--   States       ::= 'state' StateDecl (',' StateDecl)* ';'
--   StateDecl    ::= ID [ '{' Expression '}' ]
--   Init         ::= 'init' ID ';'
--   Transitions  ::= 'trans' Transition (',' Transition)* ';'
--   Transition   ::= ID '->' ID '{' ['guard' Expression ';'] ['sync' ID ('!' | '?') ';'] ['assign' Assignment (',' Assignment)* ';'] '}'
--   Assignment   ::= ID ':=' Sum
--   Expression   ::= Comparison ('&&' Comparison)*
--   Comparison   ::= Sum [('<=' | '<' | '==' | '>=') Sum]
--   Sum          ::= Primary [('+' | '-') NAT]
--   Primary      ::= ID | Integer | 'false'
--   Integer      ::= ['-'] NAT
--   System       ::= 'system' ID (',' ID)* ';'
use Rattle.std.specs.Prelude.{Bool, true, false, cond, ◌&&◌, ◌||◌, List, [], ◌∷◌, ◌++◌, ℕ, zero, suc, leb, eqb, ℤ, pos, negsuc, length}
use Rattle.std.proofs.Math.Option.{Option, none, some}
use Prim.Native.String.{String}
use Rattle.model.specs.Lists.{any}
use Rattle.words.specs.Words.{ascii}
use Rattle.uppaal.specs.XtaTokens.{Token, word, number, sign, same_bytes}
use Rattle.uppaal.specs.XtaTree.{Primary, named, whole, falsity, Sum, Relation, le, lt, eq, ge, Comparison, lone, compared, Assigned, Synced, Edge, Place, Kind, channel, clock, integer, Declaration, Template, Text}

-- ## What a production leaves

pub data Read (A : Type 0) : Type 0 where
  found : A → List Token → Read A
  refused : Read A

infixl 5 ◌then◌
abbrev pub ◌then◌ : {A B : Type 0} → Read A → (A → List Token → Read B) → Read B
◌then◌ (found x ts) f = f x ts
◌then◌ refused f = refused

abbrev pub Production : Type 0 → Type 0
Production A = List Token → Read A

-- ## Words and signs

abbrev pub is_word : String → Token → Bool
is_word s (word w) = same_bytes (ascii s) w
is_word s (number n) = false
is_word s (sign w) = false

abbrev pub is_sign : String → Token → Bool
is_sign s (word w) = false
is_sign s (number n) = false
is_sign s (sign w) = same_bytes (ascii s) w

-- the next word is such a one
abbrev pub next : (Token → Bool) → List Token → Bool
next p [] = false
next p (t ∷ ts) = p t

-- it is taken, or the text is refused
abbrev pub taking : (Token → Bool) → Production Token
taking p [] = refused
taking p (t ∷ ts) = cond (p t) (found t ts) refused

abbrev pub the_word : String → Production Token
the_word s = taking (is_word s)

abbrev pub the_sign : String → Production Token
the_sign s = taking (is_sign s)

-- words of the tool, which are no names
abbrev pub reserved : List (List ℕ)
reserved =
    ascii "chan" ∷ ascii "clock" ∷ ascii "bool" ∷ ascii "int" ∷ ascii "double" ∷ ascii "string" ∷ ascii "commit" ∷ ascii "const" ∷ ascii "urgent" ∷ ascii "broadcast" ∷ ascii "init" ∷ ascii "process"
    ∷ ascii "state" ∷ ascii "guard" ∷ ascii "sync" ∷ ascii "assign" ∷ ascii "select" ∷ ascii "system" ∷ ascii "trans" ∷ ascii "deadlock" ∷ ascii "and" ∷ ascii "or"
    ∷ ascii "not" ∷ ascii "xor" ∷ ascii "imply" ∷ ascii "true" ∷ ascii "false" ∷ ascii "for" ∷ ascii "forall" ∷ ascii "exists" ∷ ascii "sum" ∷ ascii "while" ∷ ascii "do" ∷ ascii "if"
    ∷ ascii "else" ∷ ascii "return" ∷ ascii "typedef" ∷ ascii "enum" ∷ ascii "struct" ∷ ascii "rate" ∷ ascii "before_update" ∷ ascii "after_update" ∷ ascii "meta" ∷ ascii "hybrid" ∷ ascii "priority" ∷ ascii "progress"
    ∷ ascii "scalar" ∷ ascii "void" ∷ ascii "default" ∷ ascii "switch" ∷ ascii "case" ∷ ascii "continue" ∷ ascii "break" ∷ ascii "branchpoint" ∷ ascii "dynamic" ∷ ascii "import" ∷ ascii "inf" ∷ ascii "sup" ∷ []

unfoldable pub is_reserved : List ℕ → Bool
is_reserved w = any (λ r. same_bytes r w) reserved

-- ID
abbrev pub name_from : Token → List Token → Read (List ℕ)
name_from (word w) ts = cond (is_reserved w) refused (found w ts)
name_from (number n) ts = refused
name_from (sign w) ts = refused

abbrev pub a_name : Production (List ℕ)
a_name [] = refused
a_name (t ∷ ts) = name_from t ts

-- NAT: the tool's numbers have 32 bits
abbrev pub nat_from : Token → List Token → Read ℕ
nat_from (word w) ts = refused
nat_from (number n) ts = cond (leb n 2147483647) (found n ts) refused
nat_from (sign w) ts = refused

abbrev pub a_nat : Production ℕ
a_nat [] = refused
a_nat (t ∷ ts) = nat_from t ts

-- ## One behind another

-- as long as the next word begins one; no more than there are words
unfoldable pub as_long : {A : Type 0} → (Token → Bool) → Production A → ℕ → Production (List A)
as_long begins one zero ts = found [] ts
as_long begins one (suc most) ts =
    let r = one ts then (λ x us. as_long begins one most us then (λ xs vs. found (x ∷ xs) vs)) in
    cond (next begins ts) r (found [] ts)

abbrev pub every : {A : Type 0} → (Token → Bool) → Production A → Production (List A)
every begins one ts = as_long begins one (length ts) ts

-- One (sign One)*
abbrev pub separated : {A : Type 0} → String → Production A → Production (List A)
separated between one ts =
    one ts then (λ x us. every (is_sign between) (λ vs. the_sign between vs then (λ t ws. one ws)) us then (λ xs vs. found (x ∷ xs) vs))

-- [One], where the next word begins one
abbrev pub optional : {A : Type 0} → (Token → Bool) → A → Production A → Production A
optional begins absent one ts = let r = one ts in cond (next begins ts) r (found absent ts)

-- ## Expressions

abbrev pub minus : ℕ → ℤ
minus zero = pos 0
minus (suc n) = negsuc n

abbrev pub a_negative : Production ℤ
a_negative ts = the_sign "-" ts then (λ t us. a_nat us then (λ n vs. found (minus n) vs))

abbrev pub an_integer : Production ℤ
an_integer ts =
    let negative = a_negative ts in
    let positive = a_nat ts then (λ n us. found (pos n) us) in
    cond (next (is_sign "-") ts) negative positive

abbrev pub is_name : Token → Bool
is_name (word w) = true
is_name (number n) = false
is_name (sign w) = false

unfoldable pub primary : Production Primary
primary ts =
    let nothing = the_word "false" ts then (λ t us. found falsity us) in
    let name = a_name ts then (λ w us. found (named w) us) in
    let integer = an_integer ts then (λ z us. found (whole z) us) in
    cond (next (is_word "false") ts) nothing (cond (next is_name ts) name integer)

abbrev pub a_positive : Production ℤ
a_positive ts = the_sign "+" ts then (λ t us. a_nat us then (λ n vs. found (pos n) vs))

abbrev pub some_more : Production ℤ → Production (Option ℤ)
some_more p ts = p ts then (λ z us. found (some z) us)

abbrev pub addend : Production (Option ℤ)
addend ts =
    let plus = some_more a_positive ts in
    let less = some_more a_negative ts in
    cond (next (is_sign "+") ts) plus (cond (next (is_sign "-") ts) less (found none ts))

unfoldable pub sum : Production Sum
unfolding primary
sum ts = primary ts then (λ x us. addend us then (λ m vs. found (record { head = x; more = m }) vs))

abbrev pub relation_of : Token → Option Relation
relation_of t =
    cond (is_sign "<=" t) (some le) (cond (is_sign "<" t) (some lt) (cond (is_sign "==" t) (some eq) (cond (is_sign ">=" t) (some ge) none)))

abbrev pub next_relation : List Token → Option Relation
next_relation [] = none
next_relation (t ∷ ts) = relation_of t

-- the words behind the next one
abbrev pub onward : List Token → List Token
onward [] = []
onward (t ∷ ts) = ts

abbrev pub compared_with : Sum → Option Relation → List Token → Read Comparison
compared_with a none ts = found (lone a) ts
compared_with a (some r) ts = sum (onward ts) then (λ b us. found (compared a r b) us)

unfoldable pub comparison : Production Comparison
unfolding sum
comparison ts = sum ts then (λ a us. compared_with a (next_relation us) us)

unfoldable pub expression : Production (List Comparison)
unfolding comparison as_long
expression ts = separated "&&" comparison ts

-- ## Transitions

abbrev pub ends : {A : Type 0} → String → Read A → Read A
ends s r = r then (λ x us. the_sign s us then (λ t vs. found x vs))

unfoldable pub guard : Production (List Comparison)
unfolding expression
guard ts = the_word "guard" ts then (λ t us. ends ";" (expression us))

abbrev pub side : Production Bool
side ts =
    let sends = the_sign "!" ts then (λ t us. found true us) in
    let receives = the_sign "?" ts then (λ t us. found false us) in
    cond (next (is_sign "!") ts) sends receives

unfoldable pub sync : Production (Option Synced)
sync ts =
    the_word "sync" ts then (λ t us. ends ";" (a_name us then (λ w vs. side vs then (λ b ws. found (some (record { channel = w; sending = b })) ws))))

unfoldable pub assignment : Production Assigned
unfolding sum
assignment ts = a_name ts then (λ w us. the_sign ":=" us then (λ t vs. sum vs then (λ x ws. found (record { target = w; value = x }) ws)))

unfoldable pub assign : Production (List Assigned)
unfolding assignment as_long
assign ts = the_word "assign" ts then (λ t us. ends ";" (separated "," assignment us))

unfoldable pub transition : Production Edge
unfolding guard sync assign
transition ts =
    a_name ts then (λ a us. the_sign "->" us then (λ t vs. a_name vs then (λ b ws. the_sign "{" ws then (λ o xs.
    ends "}" (optional (is_word "guard") [] guard xs then (λ g ys. optional (is_word "sync") none sync ys then (λ s zs. optional (is_word "assign") [] assign zs then (λ q rs.
    found (record { source = a; target = b; guard = g; sync = s; assignments = q }) rs))))))))

unfoldable pub transitions : Production (List Edge)
unfolding transition as_long
transitions ts = the_word "trans" ts then (λ t us. ends ";" (separated "," transition us))

-- ## Locations

unfoldable pub invariant : Production (List Comparison)
unfolding expression
invariant ts = the_sign "{" ts then (λ t us. ends "}" (expression us))

unfoldable pub state_decl : Production Place
unfolding invariant
state_decl ts = a_name ts then (λ w us. optional (is_sign "{") [] invariant us then (λ g vs. found (record { name = w; invariant = g }) vs))

unfoldable pub states : Production (List Place)
unfolding state_decl as_long
states ts = the_word "state" ts then (λ t us. ends ";" (separated "," state_decl us))

abbrev pub initially : Production (List ℕ)
initially ts = the_word "init" ts then (λ t us. ends ";" (a_name us))

-- ## Declarations

abbrev pub is_type : Token → Bool
is_type t = is_word "chan" t || (is_word "clock" t || is_word "int" t)

abbrev pub range : Production Kind
range ts =
    the_word "int" ts then (λ t us. the_sign "[" us then (λ o vs. an_integer vs then (λ a ws. the_sign "," ws then (λ m xs. an_integer xs then (λ b ys. the_sign "]" ys then (λ c zs.
    found (integer a b) zs))))))

abbrev pub type : Production Kind
type ts =
    let channels = the_word "chan" ts then (λ t us. found channel us) in
    let clocks = the_word "clock" ts then (λ t us. found clock us) in
    let integers = range ts in
    cond (next (is_word "chan") ts) channels (cond (next (is_word "clock") ts) clocks integers)

unfoldable pub variable_decl : Production Declaration
unfolding as_long
variable_decl ts = type ts then (λ k us. ends ";" (separated "," a_name us) then (λ ws vs. found (record { kind = k; names = ws }) vs))

-- ## Processes and the system

unfoldable pub proc_decl : Production Template
unfolding variable_decl as_long states transitions
proc_decl ts =
    the_word "process" ts then (λ t1 us. a_name us then (λ w vs. the_sign "(" vs then (λ t2 ws. the_sign ")" ws then (λ t3 xs. the_sign "{" xs then (λ t4 ys.
    ends "}" (every is_type variable_decl ys then (λ ds zs. states zs then (λ ls as1. initially as1 then (λ i bs. optional (is_word "trans") [] transitions bs then (λ es cs.
    found (record { name = w; declarations = ds; places = ls; initial = i; edges = es }) cs))))))))))

abbrev pub system_line : Production (List (List ℕ))
system_line ts = the_word "system" ts then (λ t us. ends ";" (separated "," a_name us))

unfoldable pub xta : Production Text
unfolding variable_decl as_long proc_decl
xta ts =
    every is_type variable_decl ts then (λ ds us. every (is_word "process") proc_decl us then (λ ps vs. system_line vs then (λ l ws.
    found (record { declarations = ds; templates = ps; system = l }) ws)))

-- nothing is left behind it
abbrev pub wholly : {A : Type 0} → Read A → Option A
wholly (found x []) = some x
wholly (found x (t ∷ ts)) = none
wholly refused = none

unfoldable pub grammatical : List Token → Option Text
unfolding xta
grammatical ts = wholly (xta ts)
