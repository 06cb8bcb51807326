-- Document 01, "Passage and schedule", last paragraph: the list of passages with their messages, and refusals 7 to 9.
use Rattle.std.specs.Prelude.{Bool, true, false, cond, ◌&&◌, ◌||◌, not, List, [], ◌∷◌, map, ℕ, zero, suc, ◌+◌, ◌-◌, ltb, eqb, ℤ, pos, set, replicate}
use Rattle.std.proofs.Math.Option.{Option, none, some}
use Rattle.model.specs.Lists.{any, only, snoc, or_else, Answer, accepted, refused, ◌after◌}
use Rattle.model.specs.Table.{Arc, Component, Table, size, component_of, arc_of}
use Rattle.model.specs.Window.{Entry, Pick, choice, updated, channel_of, listens, leaves}

-- A passage: one stay in a location, with the window of the edge taken. Ready and end are ticks. Clocks and variables at entry are
-- kept with it; the seven fields are a projection (`seven_of` below).
pub record Passage : Type 0 where
  pub component : ℕ
  pub edge : ℕ
  pub entry : Entry
  pub ready : ℕ
  pub end : ℕ
  pub message : Option ℕ

abbrev pub passage_arc : Table → Passage → Arc
passage_arc T v = arc_of (component_of T v.component) v.edge

-- the passages of component c
abbrev pub own : ℕ → List Passage → List Passage
own c vs = only (λ v. eqb v.component c) vs

-- ## Messages

-- the channel is one that the edge lists
abbrev pub names : Arc → Option ℕ → Bool
names a none = false
names a (some k) = any (λ q. eqb q.channel k) a.pairs

-- passages of different components
abbrev pub others : Passage → Passage → Bool
others v w = not (eqb v.component w.component)

-- "a send window of another component on a listed channel, starting after its ready and before H, and ending before its end"
abbrev pub heard_by : Table → ℕ → Passage → Passage → Bool
heard_by T H v s =
    names (passage_arc T v) (channel_of (passage_arc T s)) && others v s
    && (ltb v.ready s.ready && ltb s.ready H && ltb s.end v.end)

-- "the one ending first, ties to the lowest component"
abbrev pub ends_sooner : Passage → Passage → Bool
ends_sooner s b = ltb s.end b.end || (eqb s.end b.end && ltb s.component b.component)

abbrev pub sooner : Option Passage → Passage → Option Passage
sooner none s = some s
sooner (some b) s = cond (ends_sooner s b) (some s) (some b)

abbrev pub earliest : (Passage → Bool) → List Passage → Option Passage → Option Passage
earliest p [] b = b
earliest p (s ∷ ss) b = earliest p ss (cond (p s) (sooner b s) b)

abbrev pub carried : Table → Option Passage → Option ℕ
carried T none = none
carried T (some s) = channel_of (passage_arc T s)

-- "A receive passage's message is the channel of .. ; else none." "A send's message is its channel."
unfoldable pub message_in : Table → ℕ → List Passage → Passage → Option ℕ
message_in T H vs v = cond (listens (passage_arc T v)) (carried T (earliest (heard_by T H v) vs none)) (channel_of (passage_arc T v))

abbrev pub with_message : Passage → Option ℕ → Passage
with_message v m =
    record { component = v.component; edge = v.edge; entry = v.entry; ready = v.ready; end = v.end; message = m }

-- ## Openings

-- "Clocks and variables start at 0", each component at its initial location, at tick 0
abbrev pub start_entry : Component → Entry
start_entry C = record { location = C.initial; tick = 0; clocks = replicate C.clocks 0; values = replicate C.variables (pos 0) }

abbrev pub passage_of : ℕ → Entry → Pick → Option ℕ → Passage
passage_of c at p m =
    record { component = c; edge = p.edge; entry = at; ready = at.tick + p.ready; end = at.tick + p.end; message = m }

-- 9. "Does each update of the taken edge stay in range?"
abbrev pub ranged : ℕ → Option (List ℤ) → Passage → Answer Passage
ranged c none v = refused 9 c
ranged c (some vs) v = accepted v

-- "Then at each opening:" 8. "Is there a candidate? Else 8."
abbrev pub picked : ℕ → Component → Entry → Option Pick → Answer Passage
picked c C at none = refused 8 c
picked c C at (some p) = ranged c (updated (arc_of C p.edge).updates at.values) (passage_of c at p (channel_of (arc_of C p.edge)))

unfoldable pub opening : ℕ → Component → Entry → Answer Passage
unfolding choice updated
opening c C at = picked c C at (choice C at)

-- the passages opened so far, in the order of opening; and the open one of each component
pub record OpenedSoFar : Type 0 where
  pub listed : List Passage
  pub current : List Passage

-- "Components 0 upward open at tick 0." 7: the room is how many passages may still be opened.
unfoldable pub begin : ℕ → ℕ → List Component → List Passage → Answer (List Passage)
unfolding opening
begin room c [] vs = accepted vs
begin zero c (C ∷ Cs) vs = refused 7 c
begin (suc room) c (C ∷ Cs) vs = opening c C (start_entry C) after λ v. begin room (suc c) Cs (snoc vs v)

-- the open passage that closes next: the least end, "ties: lowest component"
abbrev pub next : List Passage → Option Passage
next vs = earliest (λ v. true) vs none

-- what the closing passage leads to; its message is sought among the passages opened so far (the law `same_message`: no later one changes it)
abbrev pub closing : Table → ℕ → List Passage → Passage → Entry
closing T H vs v = leaves (passage_arc T v) (message_in T H vs v) v.end v.entry

abbrev pub opened : OpenedSoFar → Passage → OpenedSoFar
opened p v = record { listed = snoc p.listed v; current = set p.current v.component v }

-- "while the least end of an open passage is below H, that passage closes"
abbrev pub while_below : ℕ → (Passage → Answer (List Passage)) → List Passage → Option Passage → Answer (List Passage)
while_below H on vs none = accepted vs
while_below H on vs (some v) = let more = on v in cond (ltb v.end H) more (accepted vs)

-- ".. and its component's next opens." 7: "Are fewer than 1,024 passages open or closed?"
unfoldable pub go_on : Table → ℕ → ℕ → OpenedSoFar → Answer (List Passage)
unfolding opening message_in leaves
go_on T H zero p = while_below H (λ v. refused 7 v.component) p.listed (next p.current)
go_on T H (suc room) p =
    while_below H
    (λ v. opening v.component (component_of T v.component) (closing T H p.listed v) after λ w. go_on T H room (opened p w))
    p.listed
    (next p.current)

-- "It is sought in the finished schedule, for passages still open too."
unfoldable pub finished : Table → ℕ → List Passage → List Passage
unfolding message_in
finished T H vs = map (λ v. with_message v (message_in T H vs v)) vs

-- The schedule up to a horizon, of at most so many passages. Both are parameters; document 01's limit is 1,024.
unfoldable pub schedule : ℕ → Table → ℕ → Answer (List Passage)
unfolding begin go_on finished
schedule limit T H = begin limit 0 T.components [] after λ vs.
    go_on T H (limit - size T) (record { listed = vs; current = vs }) after λ ws. accepted (finished T H ws)

-- "each with seven fields: component, edge, location, entry, ready, end, message": as numbers, 255 for no message
abbrev pub seven_of : Passage → List ℕ
seven_of v =
    v.component ∷ v.edge ∷ v.entry.location ∷ v.entry.tick ∷ v.ready ∷ v.end ∷ or_else v.message 255 ∷ []

-- what the seven fields tell of a passage: all but the clocks and variables at entry
abbrev pub light : Passage → Passage
light v =
    record {
      component = v.component;
      edge = v.edge;
      entry = record { location = v.entry.location; tick = v.entry.tick; clocks = []; values = [] };
      ready = v.ready;
      end = v.end;
      message = v.message;
    }

-- the same without its message
abbrev pub bare : Passage → Passage
bare v = with_message (light v) none
