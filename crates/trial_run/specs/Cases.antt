-- Words read as offsets, computed.
use Rattle.std.specs.Prelude.{◌≡◌, refl, List, [], ◌∷◌, ◌++◌, map, ℕ, replicate, None, Some}
use Rattle.model.specs.Lists.{each, below}
use Rattle.text.specs.Words.{ascii}
use Rattle.trial_run.specs.OffsetList.{offsets_in}

pub words_read : map offsets_in (ascii "0,3,1" ∷ ascii "4294967295" ∷ ascii "-" ∷ [])
    ≡ (Some (0 ∷ 3 ∷ 1 ∷ []) ∷ Some (4294967295 ∷ []) ∷ Some [] ∷ [])
unfolding offsets_in
words_read = refl

-- an empty part is no number, and a dash among numbers is none
pub words_not_read : map offsets_in (ascii "" ∷ ascii "," ∷ ascii "1," ∷ ascii "1,,2" ∷ ascii "1, 2" ∷ ascii "1,-" ∷ ascii "4294967296" ∷ [])
    ≡ (None ∷ None ∷ None ∷ None ∷ None ∷ None ∷ None ∷ [])
unfolding offsets_in
words_not_read = refl

-- 64 numbers are read, 65 are not
abbrev pub sevens : ℕ → List ℕ
sevens n = each (λ (i : ℕ). ascii "7,") (below n) ++ ascii "7"

pub sixty_four : offsets_in (sevens 63) ≡ Some (replicate 64 7)
unfolding offsets_in each
sixty_four = refl

pub sixty_five : offsets_in (sevens 64) ≡ None
unfolding offsets_in each
sixty_five = refl
