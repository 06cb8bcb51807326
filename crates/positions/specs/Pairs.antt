-- The numbers of what is wrong with a pair.
use Rattle.std.specs.Prelude.{ℕ, Result, Ok, Err}
use Rattle.positions.specs.declared.BadPair.{BadPair}
use Rattle.positions.specs.declared.BadPair.TheVariants.{NotThere, Earlier}

abbrev pub number_of : BadPair → ℕ
number_of NotThere = 21
number_of Earlier = 24

-- 0 where no pair is bad
abbrev pub number_tried : {A : Type 0} → Result A BadPair → ℕ
number_tried (Ok done) = 0
number_tried (Err why) = number_of why
