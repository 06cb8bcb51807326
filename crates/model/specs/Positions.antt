-- Document 02, wish 11, "A batch of where-was-it": for each pair of component and tick the passage, and whether the tick lies before its ready.
use Rattle.std.specs.Prelude.{◌≡◌, Bool, cond, ◌&&◌, List, [], ◌∷◌, ◌++◌, ◌↔◌, ◌⊎◌, ℕ, zero, suc, ◌+◌, ◌*◌, ◌≤◌, ◌<◌, leb, ltb, eqb, length, get_or, drop}
use Rattle.model.specs.declared.Verdict.{Verdict}
use Rattle.model.specs.declared.Verdict.TheVariants.{Accepted, Refused}
use Rattle.model.specs.Lists.{only, be16, each, Answer, accepted, refused}
use Rattle.model.specs.Table.{Read, size}
use Rattle.model.specs.Reader.{byte, word, read_table}
use Rattle.model.specs.Schedule.{Passage}
use Rattle.model.specs.Checks.{passage_at, InWindow, accepted_schedule, accepted_schedule_of}
use Rattle.model.specs.Reasons.{askable, passage_number, reasons_call}

-- ## The questions

-- a pair
pub record Asked : Type 0 where
  pub component : ℕ
  pub tick : ℕ

-- the pairs in a list of numbers, component before tick; a number left over at the end is none
abbrev pub asked : List ℕ → List Asked
asked [] = []
asked (c ∷ []) = []
asked (c ∷ t ∷ rest) = record { component = c; tick = t } ∷ asked rest

-- "The first bad pair decides: 21 as in Wish 7 comes first, then 24 for a tick below its predecessor's": 0 where none is bad
abbrev pub bad_pair : Read → ℕ → List Asked → ℕ
bad_pair t before [] = 0
bad_pair t before (q ∷ qs) =
    let rest : ℕ = bad_pair t q.tick qs in
    let order : ℕ = cond (ltb q.tick before) 24 rest in
    cond (askable t q.component q.tick) order 21

-- ## The answers

-- "then 0 before ready or 1 in the window": of a tick before the end
abbrev pub window_byte : ℕ → ℕ → ℕ
window_byte tick ready = cond (ltb tick ready) 0 1

-- "3 bytes each: passage number (2)", then that; "the passages are those that Wish 7 names"
abbrev pub position_bytes : List Passage → Asked → List ℕ
position_bytes S q =
    let i = passage_number S q.component q.tick in
    be16 i ++ (window_byte q.tick (passage_at S i).ready ∷ [])

-- the passages whose entry is at or before the tick
abbrev pub entered_by : ℕ → List Passage → List Passage
entered_by t S = only (λ v. leb v.entry.tick t) S

-- "the passages whose entry is at or before the last tick asked, 0 for no questions"
abbrev pub passages_read : List Passage → List Asked → ℕ
passages_read S [] = 0
passages_read S (q ∷ []) = length (entered_by q.tick S)
passages_read S (q ∷ r ∷ qs) = passages_read S (r ∷ qs)

-- ## The call

-- the verdict, the passages read (0 after a refusal), and the lent bytes afterwards
pub record PositionsCall : Type 0 where
  pub verdict : Verdict
  pub read : ℕ
  pub lent : List ℕ

abbrev pub not_answered : ℕ → ℕ → List ℕ → PositionsCall
not_answered n c lent = record { verdict = Refused n c; read = 0; lent = lent }

-- "After them, 13 counts 3 bytes a pair."
abbrev pub answered : List Passage → List Asked → List ℕ → PositionsCall
answered S qs lent =
    let bytes = each (position_bytes S) qs in
    cond (leb (length qs * 3) (length lent))
    (record { verdict = Accepted; read = passages_read S qs; lent = bytes ++ drop (length bytes) lent })
    (not_answered 13 255 lent)

abbrev pub positions_tried : List Passage → List Asked → List ℕ → ℕ → PositionsCall
positions_tried S qs lent bad = cond (eqb bad 0) (answered S qs lent) (not_answered bad 255 lent)

abbrev pub positions_planned : Read → Answer (List Passage) → List Asked → List ℕ → PositionsCall
positions_planned t (accepted S) qs lent = positions_tried S qs lent (bad_pair t 0 qs)
positions_planned t (refused n c) qs lent = not_answered n c lent

abbrev pub positions_read : Answer Read → List Asked → List ℕ → PositionsCall
positions_read (accepted t) qs lent = positions_planned t (accepted_schedule_of t) qs lent
positions_read (refused n c) qs lent = not_answered n c lent

-- the call `positions`: table, pairs as numbers, and the bytes lent
unfoldable pub positions_call : List ℕ → List ℕ → List ℕ → PositionsCall
unfolding read_table accepted_schedule each
positions_call table pairs lent = positions_read (read_table table) (asked pairs) lent

-- ## What a call means, without its walk

abbrev pub pair_at : List Asked → ℕ → Asked
pair_at qs k = get_or qs k (record { component = 0; tick = 0 })

-- the tick of the predecessor of pair k; in the place of the first one's, which has none, a tick is handed in
abbrev pub tick_before : ℕ → List Asked → ℕ → ℕ
tick_before before qs zero = before
tick_before before qs (suc k) = (pair_at qs k).tick

-- "21 as in Wish 7": the component is there, and the tick lies below H
abbrev pub CanBeAsked : Read → Asked → Type 0
CanBeAsked t q = (q.component < size t.table) × (q.tick < t.horizon)

-- pair k can be asked, and its tick is not below its predecessor's
pub record Fine (t : Read) (before : ℕ) (qs : List Asked) (k : ℕ) : Type 0 where
  pub allowed : CanBeAsked t (pair_at qs k)
  pub sorted : tick_before before qs k ≤ (pair_at qs k).tick

-- a pair is bad, for the reason that has that number, and those before it are fine
pub record FirstBad (t : Read) (before : ℕ) (qs : List Asked) (number : ℕ) : Type 0 where
  pub place : ℕ
  pub there : place < length qs
  pub fine : (k : ℕ) → k < place → Fine t before qs k
  pub bad : ((number ≡ 21) × (CanBeAsked t (pair_at qs place) → ⊥))
      ⊎ ((number ≡ 24) × CanBeAsked t (pair_at qs place) × ((pair_at qs place).tick < tick_before before qs place))

-- An answer to pair q, of the schedule S of a table's bytes: the number of a passage, and a byte.
pub record AnswerTrue (bs : List ℕ) (S : List Passage) (q : Asked) (number window : ℕ) : Type 0 where
  -- it is the passage of the component "whose entry is at or before the tick and whose end lies after it"; there is no other
  pub there : number < length S
  pub own : (passage_at S number).component ≡ q.component
  pub entered : (passage_at S number).entry.tick ≤ q.tick
  pub before : q.tick < (passage_at S number).end
  pub alone : (j : ℕ) → j < length S → (passage_at S j).component ≡ q.component → (passage_at S j).entry.tick ≤ q.tick → q.tick < (passage_at S j).end → j ≡ number
  -- "0 before ready or 1 in the window"
  pub early : (window ≡ 0) ↔ (q.tick < (passage_at S number).ready)
  pub inside : (window ≡ 1) ↔ InWindow q.tick (passage_at S number)
  -- "the passages are those that Wish 7 names"
  pub reasons : (lent : List ℕ) → (reasons_call bs q.component q.tick lent).verdict ≡ Accepted → (reasons_call bs q.component q.tick lent).passage ≡ number

-- The pairs are answered.
pub record Answers (bs : List ℕ) (t : Read) (S : List Passage) (qs : List Asked) (lent : List ℕ) (r : PositionsCall) : Type 0 where
  pub verdict : r.verdict ≡ Accepted
  pub fine : (k : ℕ) → k < length qs → Fine t 0 qs k
  -- "in the order asked, 3 bytes each: passage number (2)", highest byte first, "then" the third
  pub answer : (k : ℕ) → k < length qs → AnswerTrue bs S (pair_at qs k) (word r.lent (k * 3)) (byte r.lent (k * 3 + 2))
  -- one walk: the passages read are the first of the schedule, and of all passages those "whose entry is at or before the last tick asked"
  pub none : length qs ≡ 0 → r.read ≡ 0
  pub few : r.read ≤ length S
  pub read : (last i : ℕ) → suc last ≡ length qs → i < length S → (i < r.read) ↔ ((passage_at S i).entry.tick ≤ (pair_at qs last).tick)
  -- the answers fit, and what lies past them stays
  pub fits : length qs * 3 ≤ length lent
  pub long : length r.lent ≡ length lent
  pub rest : drop (length qs * 3) r.lent ≡ drop (length qs * 3) lent

-- They are not: a pair is bad, or else the bytes are too few; "and nothing is written".
pub record NotAnswered (t : Read) (qs : List Asked) (lent : List ℕ) (r : PositionsCall) : Type 0 where
  pub number : ℕ
  pub verdict : r.verdict ≡ Refused number 255
  pub why : FirstBad t 0 qs number ⊎ ((number ≡ 13) × ((k : ℕ) → k < length qs → Fine t 0 qs k) × (length lent < length qs * 3))
  pub read : r.read ≡ 0
  pub kept : r.lent ≡ lent

-- whatever is answered of an accepted table has that meaning
abbrev pub PositionsTrue : List ℕ → List ℕ → List ℕ → Type 0
PositionsTrue bs ps lent =
    (t : Read) (S : List Passage) → read_table bs ≡ accepted t → accepted_schedule_of t ≡ accepted S
    → Answers bs t S (asked ps) lent (positions_call bs ps lent) ⊎ NotAnswered t (asked ps) lent (positions_call bs ps lent)
