-- The answer of an exported call that writes a text, and every lent byte afterwards.
use Rattle.std.specs.Prelude.{◌≡◌, cond, List, ◌++◌, ℕ, leb, length, drop}
use Rattle.spread_words.specs.SpreadText.{Printed}
use Rattle.timed_network_words.specs.declared.WordsNumbers.{WordsNumbers}

-- The text is laid over the front of what was lent, and the bytes past it stay; 13 where the bytes lent do not hold it, and all of them stay. How
-- many bytes the text has is told in both cases.
pub record WordsOf (text before : List ℕ) (r : WordsNumbers) (later : List ℕ) : Type 0 where
  pub number : r.number ≡ cond (leb (length text) (length before)) 0 13
  pub size : r.size ≡ length text
  pub lent : later ≡ cond (leb (length text) (length before)) (text ++ drop (length text) before) before

-- The same of the largest spread's text: the one that `Printed` holds of (the law `one_text` in spread_words' proofs/Determined.antt).
abbrev pub SpreadWordsOf : List ℕ → List ℕ → WordsNumbers → List ℕ → Type 0
SpreadWordsOf table before r later = (text : List ℕ) × Printed table text × WordsOf text before r later
