-- Which windows met, computed, against texts that were written down by hand. The send is that of component 0, in ticks 10 to 14.
use Rattle.std.specs.Prelude.{◌≡◌, refl, [], ◌∷◌, ℕ}
use Rattle.text.specs.Words.{ascii}
use Rattle.verdict_text.specs.VerdictText.{Met, meetings_text}

abbrev window : ℕ → ℕ → ℕ → ℕ → Met
window component channel ready end = record { component = component; edge = 2; ready = ready; end = end; channel = channel }

abbrev sent : Met
sent = window 0 3 10 14

-- ## Without a spread

pub no_listener : meetings_text 0 11 (sent ∷ [])
    ≡ ascii "The send window of component 0, edge 2, channel 3, ticks 10 to 14.\nReceive windows of other components on its channel that share a tick with it:\n  none\nRemedy: another component must listen on channel 3, from before tick 10 until after tick 14.\n"
unfolding meetings_text
no_listener = refl

pub two_sends : meetings_text 0 10 (sent ∷ window 1 4 14 18 ∷ [])
    ≡ ascii "The send window of component 0, edge 2, channel 3, ticks 10 to 14, shares a tick with these send windows:\n  component 1, edge 2, a send window, channel 4, ticks 14 to 18\n"
unfolding meetings_text
two_sends = refl

-- ## At a spread

-- 14 + 1 + 1 - 15 = 1
pub one_tick_apart : meetings_text 1 10 (sent ∷ window 1 4 15 18 ∷ [])
    ≡ ascii "The send window of component 0, edge 2, channel 3, ticks 10 to 14, is within 1 tick of these send windows:\n  component 1, edge 2, a send window, channel 4, ticks 15 to 18: 1 tick too close\n"
unfolding meetings_text
one_tick_apart = refl

-- the one that is ready first ends at 7: 7 + 5 + 1 - 10 = 3
pub ready_later : meetings_text 5 10 (sent ∷ window 1 4 6 7 ∷ [])
    ≡ ascii "The send window of component 0, edge 2, channel 3, ticks 10 to 14, is within 5 ticks of these send windows:\n  component 1, edge 2, a send window, channel 4, ticks 6 to 7: 3 ticks too close\n"
unfolding meetings_text
ready_later = refl

-- 7 + 3 + 1 - 10 = 1, 14 + 3 + 1 - 16 = 2
pub starts_late : meetings_text 3 16 (sent ∷ window 1 255 7 16 ∷ [])
    ≡ ascii "The send window of component 0, edge 2, channel 3, ticks 10 to 14.\nReceive windows of other components on its channel within 3 ticks of it:\n  component 1, edge 2, a receive window, ticks 7 to 16: starts 1 tick too late, ends 2 ticks too soon\nRemedy: component 1, edge 2, must listen earlier: from more than 3 ticks before tick 10 until more than 3 ticks after tick 14.\n"
unfolding meetings_text
starts_late = refl

-- 7 + 2 < 10, 14 + 2 + 1 - 16 = 1
pub ends_soon : meetings_text 2 17 (sent ∷ window 1 255 7 16 ∷ [])
    ≡ ascii "The send window of component 0, edge 2, channel 3, ticks 10 to 14.\nReceive windows of other components on its channel within 2 ticks of it:\n  component 1, edge 2, a receive window, ticks 7 to 16: starts early enough, ends 1 tick too soon\nRemedy: component 1, edge 2, must listen longer: until more than 2 ticks after tick 14.\n"
unfolding meetings_text
ends_soon = refl

-- 7 + 2 < 10, 14 + 2 < 17; 16 + 2 + 1 - 10 = 9
pub two_listeners : meetings_text 2 15 (sent ∷ window 1 255 7 17 ∷ window 2 255 16 20 ∷ [])
    ≡ ascii "The send window of component 0, edge 2, channel 3, ticks 10 to 14.\nReceive windows of other components on its channel within 2 ticks of it:\n  component 1, edge 2, a receive window, ticks 7 to 17: starts early enough, ends late enough\n  component 2, edge 2, a receive window, ticks 16 to 20: starts 9 ticks too late, ends late enough\nRemedy: all of them but one must not listen on channel 3 from 2 ticks before tick 10 to 2 ticks after tick 14.\n"
unfolding meetings_text
two_listeners = refl
