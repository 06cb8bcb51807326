-- Document 02, wish 7, "Why this edge", in words: the passage, then a line an edge from its location with its reason and the numbers that make it so.
use Rattle.std.specs.Prelude.{Bool, true, false, cond, not, List, [], ◌∷◌, ◌++◌, ℕ, suc, pred, ◌+◌, ltb, ℤ, pos, negsuc, get_or}
use Rattle.model.specs.declared.ClockGuard.{ClockGuard}
use Rattle.model.specs.declared.DataGuard.{DataGuard}
use Rattle.model.specs.declared.Location.{Location}
use Rattle.model.specs.declared.Reason.{Reason}
use Rattle.model.specs.declared.Reason.TheVariants.{Taken, DataBound, NoWindow, ReadyLater, HigherNumber}
use Rattle.model.specs.Lists.{Answer, accepted, refused, place_of, or_else, each}
use Rattle.model.specs.Table.{Arc, Component, location_of, arc_of}
use Rattle.model.specs.Window.{Entry, value_at, ready_of, past_of}
use Rattle.model.specs.Schedule.{Passage}
use Rattle.model.specs.Reasons.{reason_by, edges_from, no_bound, Asked, asked}
use Rattle.text.specs.Words.{ascii, decimal, field}
use Rattle.refusal_text.specs.RefusalText.{refusal_text}
use Rattle.schedule_text.specs.ScheduleText.{passage_line}

abbrev pub signed : ℤ → List ℕ
signed (pos n) = decimal n
signed (negsuc n) = field "-" (suc n)

-- data bound j fails: the value of its variable at the entry, and what it allows
abbrev pub allowed_words : DataGuard → List ℕ
allowed_words g = ascii ", allowed " ++ signed g.low ++ ascii " to " ++ signed g.high

abbrev pub bound_words : ℕ → DataGuard → ℤ → List ℕ
bound_words j g value = field "data bound " j ++ field " fails: v" g.variable ++ ascii " is " ++ signed value ++ allowed_words g

-- with clock bounds hs in the place of gs the edge would be over later, or ready sooner
abbrev pub wider : Bool → Location → List ClockGuard → List ℕ → List ClockGuard → Bool
wider over l gs xs hs = cond over (ltb (past_of l gs xs) (past_of l hs xs)) (ltb (ready_of hs xs) (ready_of gs xs))

-- the first clock bound that decides when the edge is over, or ready; other words where none does
abbrev pub by_words : List ℕ → Bool → Location → List ClockGuard → List ℕ → List ℕ
by_words otherwise over l gs xs =
    cond (wider over l gs xs []) (field " by clock bound " (place_of (λ g. not (wider over l gs xs (g ∷ []))) gs)) otherwise

-- the first tick that all lows allow
abbrev pub ready_words : Location → Entry → List ClockGuard → List ℕ
ready_words l at gs = field ": ready at tick " (at.tick + ready_of gs at.clocks) ++ by_words [] false l gs at.clocks

-- no window of at least one tick's length: that tick, and the first that invariant and highs do not allow
abbrev pub no_window_words : Location → Entry → List ClockGuard → List ℕ
no_window_words l at gs =
    ascii "no window of at least one tick" ++ ready_words l at gs ++ field ", over from tick " (at.tick + past_of l gs at.clocks) ++ ascii " on"
    ++ by_words (ascii " by the invariant") true l gs at.clocks

-- a window, and a budget that it is too short for (document 02, wish 8): "its window length, end − ready", as the two ticks
abbrev pub short_window_words : ℕ → Location → Entry → List ClockGuard → List ℕ
short_window_words budget l at gs =
    field "window shorter than its budget of " budget ++ ready_words l at gs ++ field ", end at tick " (at.tick + pred (past_of l gs at.clocks))
    ++ by_words (ascii " by the invariant") true l gs at.clocks

-- of an edge that the window keeps from being a candidate; the law `budget_missed` in proofs/Wording: with a tick's length it is the budget
-- that is missed
abbrev pub window_words : Location → Entry → Arc → List ℕ
window_words l at a =
    cond (ltb (suc (ready_of a.clock_guards at.clocks)) (past_of l a.clock_guards at.clocks))
    (short_window_words (or_else a.budget 0) l at a.clock_guards)
    (no_window_words l at a.clock_guards)

-- of an edge, which is a, where edge `taken` was taken, with its window
abbrev pub reason_words : Location → Entry → ℕ → ℕ → ℕ → Arc → Reason → List ℕ
reason_words l at taken ready end a Taken = field "taken, ticks " ready ++ field " to " end
reason_words l at taken ready end a (DataBound j) = let g = get_or a.data_guards j no_bound in bound_words j g (value_at at.values g.variable)
reason_words l at taken ready end a NoWindow = window_words l at a
reason_words l at taken ready end a ReadyLater = field "ready later, at tick " (at.tick + ready_of a.clock_guards at.clocks)
reason_words l at taken ready end a HigherNumber = field "ready together with edge " taken ++ ascii ", numbered higher"

abbrev pub line_at : Location → Entry → ℕ → ℕ → ℕ → ℕ → Arc → List ℕ
line_at l at taken ready end e a = field "edge " e ++ ascii ": " ++ reason_words l at taken ready end a (reason_by l at taken ready e a) ++ ascii "\n"

-- edge e of component C in passage v
abbrev pub edge_line : Component → Passage → ℕ → List ℕ
edge_line C v e = line_at (location_of C v.entry.location) v.entry v.edge v.ready v.end e (arc_of C e)

-- the passage's number, its line in the schedule, and the edges
abbrev pub passage_head : ℕ → Passage → List ℕ
passage_head number v = field "passage " number ++ ascii "\nc e l entry ready end msg\n" ++ passage_line v

abbrev pub reasons_text : Answer Asked → List ℕ
reasons_text (accepted a) = passage_head a.number a.passage ++ each (edge_line a.component a.passage) (edges_from a.component a.passage.entry.location)
reasons_text (refused number component) = refusal_text number component

-- what the reason printer prints of a table's bytes, a component and a tick
unfoldable pub printed_reasons : List ℕ → ℕ → ℕ → List ℕ
unfolding decimal each passage_line refusal_text asked
printed_reasons table c k = reasons_text (asked table c k)
