-- Pairs and calls computed from the definitions.
use Rattle.std.specs.Prelude.{◌≡◌, refl, true, false, List, [], ◌∷◌, replicate, ℕ}
use Rattle.model.specs.declared.Verdict.TheVariants.{Accepted, Refused}
use Rattle.recurrence.specs.Recurrence.{recurrence_call, run_to_call}

-- probe and hub
abbrev counting : List ℕ
counting = 1 ∷ 0 ∷ 103 ∷ 2 ∷ 1 ∷ 0 ∷ 20 ∷ 0 ∷ 38 ∷ 2 ∷ 0 ∷ 1 ∷ 0 ∷ 2 ∷ 0 ∷ 0 ∷ 5 ∷ 0 ∷ 0 ∷ 10 ∷ 1 ∷ 0 ∷ 1 ∷ 0 ∷ 1 ∷ 0 ∷ 1 ∷ 0 ∷ 0 ∷ 3 ∷ 255 ∷ 255 ∷ 0 ∷ 0 ∷ 1 ∷ 0 ∷ 1 ∷ 1 ∷ 0 ∷ 0 ∷ 0 ∷ 0 ∷ 8 ∷ 255 ∷ 255 ∷ 0 ∷ 58 ∷ 3 ∷ 0 ∷ 1 ∷ 1 ∷ 3 ∷ 0 ∷ 0 ∷ 6 ∷ 0 ∷ 0 ∷ 10 ∷ 0 ∷ 0 ∷ 10 ∷ 2 ∷ 0 ∷ 2 ∷ 0 ∷ 1 ∷ 0 ∷ 1 ∷ 0 ∷ 0 ∷ 2 ∷ 255 ∷ 255 ∷ 0 ∷ 1 ∷ 0 ∷ 1 ∷ 0 ∷ 1 ∷ 1 ∷ 0 ∷ 1 ∷ 0 ∷ 0 ∷ 9 ∷ 255 ∷ 255 ∷ 0 ∷ 1 ∷ 0 ∷ 1 ∷ 0 ∷ 2 ∷ 0 ∷ 1 ∷ 1 ∷ 0 ∷ 0 ∷ 0 ∷ 0 ∷ 9 ∷ 255 ∷ 255 ∷ []

-- the same without the hub's update
abbrev plain : List ℕ
plain = 1 ∷ 0 ∷ 99 ∷ 2 ∷ 1 ∷ 0 ∷ 20 ∷ 0 ∷ 38 ∷ 2 ∷ 0 ∷ 1 ∷ 0 ∷ 2 ∷ 0 ∷ 0 ∷ 5 ∷ 0 ∷ 0 ∷ 10 ∷ 1 ∷ 0 ∷ 1 ∷ 0 ∷ 1 ∷ 0 ∷ 1 ∷ 0 ∷ 0 ∷ 3 ∷ 255 ∷ 255 ∷ 0 ∷ 0 ∷ 1 ∷ 0 ∷ 1 ∷ 1 ∷ 0 ∷ 0 ∷ 0 ∷ 0 ∷ 8 ∷ 255 ∷ 255 ∷ 0 ∷ 54 ∷ 3 ∷ 0 ∷ 1 ∷ 1 ∷ 3 ∷ 0 ∷ 0 ∷ 6 ∷ 0 ∷ 0 ∷ 10 ∷ 0 ∷ 0 ∷ 10 ∷ 2 ∷ 0 ∷ 2 ∷ 0 ∷ 1 ∷ 0 ∷ 1 ∷ 0 ∷ 0 ∷ 2 ∷ 255 ∷ 255 ∷ 0 ∷ 1 ∷ 0 ∷ 1 ∷ 0 ∷ 1 ∷ 1 ∷ 0 ∷ 0 ∷ 0 ∷ 0 ∷ 9 ∷ 255 ∷ 255 ∷ 0 ∷ 2 ∷ 0 ∷ 1 ∷ 1 ∷ 0 ∷ 0 ∷ 0 ∷ 0 ∷ 9 ∷ 255 ∷ 255 ∷ []

-- with set 7 in the place of add 1, H = 21
abbrev setting : List ℕ
setting = 1 ∷ 0 ∷ 103 ∷ 2 ∷ 1 ∷ 0 ∷ 21 ∷ 0 ∷ 38 ∷ 2 ∷ 0 ∷ 1 ∷ 0 ∷ 2 ∷ 0 ∷ 0 ∷ 5 ∷ 0 ∷ 0 ∷ 10 ∷ 1 ∷ 0 ∷ 1 ∷ 0 ∷ 1 ∷ 0 ∷ 1 ∷ 0 ∷ 0 ∷ 3 ∷ 255 ∷ 255 ∷ 0 ∷ 0 ∷ 1 ∷ 0 ∷ 1 ∷ 1 ∷ 0 ∷ 0 ∷ 0 ∷ 0 ∷ 8 ∷ 255 ∷ 255 ∷ 0 ∷ 58 ∷ 3 ∷ 0 ∷ 1 ∷ 1 ∷ 3 ∷ 0 ∷ 0 ∷ 6 ∷ 0 ∷ 0 ∷ 10 ∷ 0 ∷ 0 ∷ 10 ∷ 2 ∷ 0 ∷ 2 ∷ 0 ∷ 1 ∷ 0 ∷ 1 ∷ 0 ∷ 0 ∷ 2 ∷ 255 ∷ 255 ∷ 0 ∷ 1 ∷ 0 ∷ 1 ∷ 0 ∷ 1 ∷ 1 ∷ 0 ∷ 1 ∷ 0 ∷ 0 ∷ 9 ∷ 255 ∷ 255 ∷ 0 ∷ 0 ∷ 0 ∷ 7 ∷ 0 ∷ 2 ∷ 0 ∷ 1 ∷ 1 ∷ 0 ∷ 0 ∷ 0 ∷ 0 ∷ 9 ∷ 255 ∷ 255 ∷ []

-- the hub's counter differs at 10
pub none_there : recurrence_call counting ≡ record { verdict = Accepted; found = false; from = 0; to = 0 }
unfolding recurrence_call
none_there = refl

pub every_ten : recurrence_call plain ≡ record { verdict = Accepted; found = true; from = 0; to = 10 }
unfolding recurrence_call
every_ten = refl

-- the values differ at 0 and 10
pub from_ten : recurrence_call setting ≡ record { verdict = Accepted; found = true; from = 10; to = 20 }
unfolding recurrence_call
from_ten = refl

-- 29: a horizon of 0, one above H without a pair; H itself needs none; with a pair any
pub zero_refused : (run_to_call counting 0 [] []).verdict ≡ Refused 29 255
unfolding run_to_call
zero_refused = refl

pub above_refused : (run_to_call counting 21 [] (replicate 2000 0)).verdict ≡ Refused 29 255
unfolding run_to_call
above_refused = refl

pub own_horizon : (run_to_call counting 20 [] (replicate 288 0)).verdict ≡ Accepted
unfolding run_to_call
own_horizon = refl

-- 13 counts the passages of the horizon handed: 4 to tick 7, 12 to tick 30
pub short : (run_to_call counting 7 [] (replicate 143 0)).verdict ≡ Refused 13 255
unfolding run_to_call
short = refl

pub enough : (run_to_call counting 7 [] (replicate 144 0)).verdict ≡ Accepted
unfolding run_to_call
enough = refl

pub short_later : (run_to_call plain 30 [] (replicate 431 0)).verdict ≡ Refused 13 255
unfolding run_to_call
short_later = refl

pub enough_later : (run_to_call plain 30 [] (replicate 432 0)).verdict ≡ Accepted
unfolding run_to_call
enough_later = refl
