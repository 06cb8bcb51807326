-- Refused openings in words, computed, against texts that were written down by hand.
use Rattle.std.specs.Prelude.{◌≡◌, refl, List, [], ◌∷◌, ℕ, pos, negsuc}
use Rattle.model.specs.declared.Action.TheVariants.{Internal}
use Rattle.model.specs.Bytes.{table_bytes}
use Rattle.model.specs.Build.{location, clock_guard, arc, component, budgeted, with_budgets}
use Rattle.model.specs.Schedule.{begin}
use Rattle.text.specs.Words.{ascii}
use Rattle.opening_place.specs.declared.RefusedOpening.{RefusedOpening}
use Rattle.opening_place.specs.Opening.{begin_stop, go_on_stop, opening_of}
use Rattle.opening_text.specs.OpeningText.{opening_text}

-- component 1 enters location 2 at tick 340, with clocks 3 and 0 and variables 5 and -1; it would be passage 17
abbrev refused_with : ℕ → ℕ → ℕ → ℕ → ℕ → ℕ → RefusedOpening
refused_with number leaving blocked windowless edge update =
    record {
      number = number;
      component = 1;
      passage = 17;
      location = 2;
      tick = 340;
      clocks = 3 ∷ 0 ∷ 0 ∷ 0 ∷ [];
      values = pos 5 ∷ negsuc 0 ∷ pos 0 ∷ pos 0 ∷ [];
      leaving = leaving;
      blocked = blocked;
      windowless = windowless;
      edge = edge;
      update = update;
    }

pub no_room : opening_text (refused_with 7 0 0 0 255 255) ≡ ascii "Component 1, passage 17: it would enter location 2 at tick 340.\n"
unfolding opening_text
no_room = refl

pub no_edge : opening_text (refused_with 8 0 0 0 255 255) ≡ ascii "Component 1, passage 17: it enters location 2 at tick 340, which no edge leaves.\n"
unfolding opening_text
no_edge = refl

pub no_candidate : opening_text (refused_with 8 3 1 2 255 255)
    ≡ ascii "Component 1, passage 17: it enters location 2 at tick 340. Edges that leave it: 3; with a data bound that fails: 1; of the others without a window of one tick's length, or of their budget: 2.\n"
unfolding opening_text
no_candidate = refl

pub out_of_range : opening_text (refused_with 9 0 0 0 4 0)
    ≡ ascii "Component 1, passage 17: it enters location 2 at tick 340 and takes edge 4, whose update 0 leaves -32768 to 32767.\n"
unfolding opening_text
out_of_range = refl

-- with x0 ≤ 5: a window from 3 to 5 for a budget of 3, and one from 5 to 5 for none
abbrev too_short : List ℕ
too_short =
    table_bytes
    (with_budgets [] 20
    (component 0 1 0 (location 0 5 ∷ [])
    (budgeted 3 (arc 0 0 1 Internal (clock_guard 0 3 65535 ∷ []) [] [] [])
    ∷ budgeted 0 (arc 0 0 1 Internal (clock_guard 0 5 65535 ∷ []) [] [] [])
    ∷ []) ∷ []))

pub too_short_is : opening_text (opening_of too_short)
    ≡ ascii "Component 0, passage 0: it enters location 0 at tick 0. Edges that leave it: 2; with a data bound that fails: 0; of the others without a window of one tick's length, or of their budget: 2.\n"
unfolding opening_text opening_of table_bytes begin_stop begin go_on_stop
too_short_is = refl
