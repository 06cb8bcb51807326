-- Works in the order of their ticks.
use Rattle.std.specs.Prelude.{cond, List, [], ◌∷◌, ℕ, ltb}
use Rattle.model.specs.Network.{Work, one, two}

abbrev pub work_tick : Work → ℕ
work_tick (one c k) = k
work_tick (two a b k t) = t

-- a work put among works in the order of their ticks, behind those of its own tick
unfoldable pub placed : Work → List Work → List Work
placed w [] = w ∷ []
placed w (x ∷ xs) = cond (ltb (work_tick w) (work_tick x)) (w ∷ x ∷ xs) (x ∷ placed w xs)

unfoldable pub placed_all : List Work → List Work → List Work
unfolding placed
placed_all done [] = done
placed_all done (w ∷ ws) = placed_all (placed w done) ws

abbrev pub by_tick : List Work → List Work
by_tick ws = placed_all [] ws
