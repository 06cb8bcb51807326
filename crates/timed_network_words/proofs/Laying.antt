-- A text laid over the front of what was lent, or refused with 13. Assumes nothing.
use mathlib.Core.Path.{◌≡◌, refl, sym, ap, subst, ◌∙◌}
use mathlib.Core.List.{List, [], ◌++◌}
use Prim.Native.Nat.{ℕ, zero, ◌+◌, ◌≤◌, ◌<◌}
use native.Mathlib.Nat.{zero-add}
use borrow.Author.Tests.{le-leb, lt-leb}
use lib.ListN.{length, take, drop}
use lib.Seq.{sets, sets-eq}
use Rattle.blocks.specs.Put.{Put}
use Rattle.timed_network_words.specs.declared.WordsNumbers.{WordsNumbers}
use Rattle.timed_network_words.specs.Laid.{WordsOf}

module _ (text before : List ℕ) (r : WordsNumbers) (long : r.size ≡ length text) where
  pub too_long : length before < length text → r.number ≡ 13 → WordsOf text before r before
  too_long h e = record { number = rw (lt-leb (length text) (length before) h) e; size = long; lent = rw (lt-leb (length text) (length before) h) refl }

  pub fits : {later : List ℕ} {n : ℕ} → length text ≤ length before → r.number ≡ 0 → Put before 0 text n later → WordsOf text before r later
  fits h e p =
      record {
        number = rw (le-leb (length text) (length before) h) e;
        size = long;
        lent =
            rw (le-leb (length text) (length before) h)
            (p.same ∙ sets-eq text before 0 (subst (λ (k : ℕ). k ≤ length before) (sym (zero-add (length text))) h)
            ∙ ap (λ (k : ℕ). text ++ drop k before) (zero-add (length text)));
      }

-- the same of a text that is equal
pub worded : {words text before later : List ℕ} {r : WordsNumbers} → words ≡ text → WordsOf words before r later → WordsOf text before r later
worded {before = before} {later} {r} e w = subst (λ (t : List ℕ). WordsOf t before r later) e w
