-- What the answers of the exported calls that write a text are, spelt out without the names of `Laid`: a hypothesis more, a field less, or a field of the
-- struct that no contract names is refused.
use Rattle.std.specs.Prelude.{◌≡◌, cond, List, ◌++◌, ℕ, leb, length, drop}
use Rattle.model.specs.declared.Verdict.TheVariants.{Accepted, Refused}
use Rattle.model.specs.Calls.{check_call, LargestSpread}
use Rattle.refusal_text.specs.RefusalText.{refusal_text}
use Rattle.spread_words.specs.SpreadText.{spread_text}
use Rattle.timed_network_words.specs.declared.WordsNumbers.{WordsNumbers}
use Rattle.timed_network_words.specs.Laid.{WordsOf, SpreadWordsOf}

pub words_say : (text before : List ℕ) (r : WordsNumbers) (later : List ℕ) → WordsOf text before r later
    → (r ≡ record { number = cond (leb (length text) (length before)) 0 13; size = length text })
    × (later ≡ cond (leb (length text) (length before)) (text ++ drop (length text) before) before)
words_say text before r later d = (λ i. record { number = d.number i; size = d.size i }, d.lent)

pub spread_words_say : (table before : List ℕ) (r : WordsNumbers) (later : List ℕ) → SpreadWordsOf table before r later
    → (text : List ℕ) × (check_call table ≡ Accepted → (G : ℕ) × LargestSpread table G × (text ≡ spread_text G))
    × ((number component : ℕ) → check_call table ≡ Refused number component → text ≡ refusal_text number component)
    × WordsOf text before r later
spread_words_say table before r later d = (d.0, d.1.accepted, d.1.refused, d.2)
