-- The line with the offsets, computed.
use Rattle.std.specs.Prelude.{◌≡◌, refl, [], ◌∷◌, ◌++◌}
use Rattle.text.specs.Words.{ascii}
use Rattle.run_text.specs.RunText.{offsets_text}

-- of three nodes; one that is missing is 0
pub three_told : offsets_text 3 (0 ∷ 3 ∷ 1 ∷ []) ++ offsets_text 3 (0 ∷ 1000 ∷ [])
    ≡ ascii "offsets: 0, 3, 1 (a node's tick is by its own clock, which starts at its offset)\n"
    ++ ascii "offsets: 0, 1000, 0 (a node's tick is by its own clock, which starts at its offset)\n"
unfolding offsets_text
three_told = refl

-- none where all of the nodes are 0, whatever stands past the last
pub none_told : offsets_text 2 (0 ∷ 0 ∷ 5 ∷ []) ++ offsets_text 8 [] ≡ []
unfolding offsets_text
none_told = refl
