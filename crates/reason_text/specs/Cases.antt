-- Reasons in words, computed from a table's bytes, against texts that were written down by hand.
use Rattle.std.specs.Prelude.{◌≡◌, refl, List, [], ◌∷◌, ℕ, ℤ, pos, negsuc}
use Rattle.model.specs.declared.Action.TheVariants.{Internal}
use Rattle.model.specs.declared.ClockGuard.{ClockGuard}
use Rattle.model.specs.declared.DataGuard.{DataGuard}
use Rattle.model.specs.Table.{Arc}
use Rattle.model.specs.Bytes.{table_bytes}
use Rattle.model.specs.Build.{location, clock_guard, arc, component, network, budgeted, with_budgets}
use Rattle.model.specs.Cases.{worked_bytes}
use Rattle.text.specs.Words.{ascii}
use Rattle.reason_text.specs.ReasonText.{printed_reasons}

-- "component 1, tick 6": the hub took edge 1, since a message led it to location 1
pub hub_text : printed_reasons worked_bytes 1 6 ≡ ascii "passage 3\nc e l entry ready end msg\n1 1 1 6 9 10 -\nedge 1: taken, ticks 9 to 10\n"
unfolding printed_reasons
hub_text = refl

-- an absent component, a tick from H on, and the empty table
pub no-component : printed_reasons worked_bytes 2 0 ≡ ascii "refused 21 255\nThe answer is no: Is the component there and the tick below the horizon?\nNo single component is concerned.\n"
unfolding printed_reasons
no-component = refl

pub no_tick : printed_reasons worked_bytes 0 20 ≡ ascii "refused 21 255\nThe answer is no: Is the component there and the tick below the horizon?\nNo single component is concerned.\n"
unfolding printed_reasons
no_tick = refl

pub no_table : printed_reasons [] 0 0 ≡ ascii "refused 1 255\nThe answer is no: Is the first byte 1, 2 or 3?\nNo single component is concerned.\n"
unfolding printed_reasons
no_table = refl

-- ## Every reason

abbrev bound : ℕ → ℤ → ℤ → DataGuard
bound v low high = record { variable = v; low = low; high = high }

abbrev leaving : List ClockGuard → List DataGuard → Arc
leaving clocks bounds = arc 0 0 1 Internal clocks bounds [] []

-- Entered at 0 with x0 ≤ 10 and x1 = 0; x0 is reset by each passage, x1 never.
abbrev every_reason : List ℕ
every_reason =
    table_bytes
    (network 0 8
    (component 0 2 2 (location 0 10 ∷ [])
    (leaving (clock_guard 0 3 7 ∷ []) []
    ∷ leaving (clock_guard 0 9 65535 ∷ []) []
    ∷ leaving (clock_guard 0 3 65535 ∷ []) []
    ∷ leaving [] (bound 0 (pos 0) (pos 2) ∷ bound 1 (negsuc 4) (negsuc 0) ∷ [])
    ∷ leaving (clock_guard 0 2 65535 ∷ clock_guard 1 10 65535 ∷ []) []
    ∷ leaving (clock_guard 0 6 65535 ∷ clock_guard 1 0 4 ∷ []) []
    ∷ leaving (clock_guard 1 0 0 ∷ []) []
    ∷ []) ∷ []))

pub every-reason : printed_reasons every_reason 0 5
    ≡ ascii "passage 0\nc e l entry ready end msg\n0 0 0 0 3 7 -\nedge 0: taken, ticks 3 to 7\nedge 1: ready later, at tick 9\nedge 2: ready together with edge 0, numbered higher\nedge 3: data bound 1 fails: v1 is 0, allowed -5 to -1\nedge 4: no window of at least one tick: ready at tick 10 by clock bound 1, over from tick 11 on by the invariant\nedge 5: no window of at least one tick: ready at tick 6 by clock bound 0, over from tick 5 on by clock bound 1\nedge 6: no window of at least one tick: ready at tick 0, over from tick 1 on by clock bound 0\n"
unfolding printed_reasons table_bytes
every-reason = refl

-- a passage later x0 is 0 again and x1 is 7
pub later_on : printed_reasons every_reason 0 7
    ≡ ascii "passage 1\nc e l entry ready end msg\n0 0 0 7 10 14 -\nedge 0: taken, ticks 10 to 14\nedge 1: ready later, at tick 16\nedge 2: ready together with edge 0, numbered higher\nedge 3: data bound 1 fails: v1 is 0, allowed -5 to -1\nedge 4: ready together with edge 0, numbered higher\nedge 5: no window of at least one tick: ready at tick 13 by clock bound 0, over from tick 7 on by clock bound 1\nedge 6: no window of at least one tick: ready at tick 7, over from tick 7 on by clock bound 0\n"
unfolding printed_reasons table_bytes
later_on = refl

-- ## Budgets

-- Each passage enters with x0 = 0 and x0 ≤ 10: a window from 4 to 10 for a budget of 5; 3 to 5 for 3; 0 to 10 for 11; 10 to 10 for 4;
-- 9 to 10 for 1.
abbrev with_budget : List ℕ
with_budget =
    table_bytes
    (with_budgets [] 12
    (component 0 1 0 (location 0 10 ∷ [])
    (budgeted 5 (leaving (clock_guard 0 4 65535 ∷ []) [])
    ∷ budgeted 3 (leaving (clock_guard 0 3 5 ∷ []) [])
    ∷ budgeted 11 (leaving [] [])
    ∷ budgeted 4 (leaving (clock_guard 0 10 65535 ∷ []) [])
    ∷ budgeted 1 (leaving (clock_guard 0 9 65535 ∷ []) [])
    ∷ []) ∷ []))

pub short_windows : printed_reasons with_budget 0 11
    ≡ ascii "passage 1\nc e l entry ready end msg\n0 0 0 10 14 20 -\nedge 0: taken, ticks 14 to 20\nedge 1: window shorter than its budget of 3: ready at tick 13 by clock bound 0, end at tick 15 by clock bound 0\nedge 2: window shorter than its budget of 11: ready at tick 10, end at tick 20 by the invariant\nedge 3: no window of at least one tick: ready at tick 20 by clock bound 0, over from tick 21 on by the invariant\nedge 4: ready later, at tick 19\n"
unfolding printed_reasons table_bytes
short_windows = refl
