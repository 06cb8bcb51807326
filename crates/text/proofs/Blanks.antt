-- Blanks, and columns that they fill. Assumes nothing.
use mathlib.Core.Path.{◌≡◌, sym, ap}
use mathlib.Core.List.{List, ◌++◌}
use Prim.Native.Nat.{ℕ, ◌-◌}
use lib.ListN.{length, replicate}
use Rattle.text.specs.Words.{decimal, Added}
use Rattle.text.specs.Columns.{column, signed_text}
use Rattle.text.proofs.Appended.{same_words}

-- blanks for so many bytes, then a text of so many, are a column
pub in_column : (width used : ℕ) (words : List ℕ) → length words ≡ used → replicate (width - used) 32 ++ words ≡ column width words
in_column width used words e = ap (λ (k : ℕ). replicate (width - k) 32 ++ words) (sym e)

-- a number that is another
pub number_is : {before after : List ℕ} {at end : ℕ} (width n m : ℕ) → n ≡ m → Added before at (column width (decimal n)) after end
    → Added before at (column width (decimal m)) after end
number_is width n m e a = same_words (column width (decimal m)) a (ap (λ (k : ℕ). column width (decimal k)) e)

pub signed_is : {before after : List ℕ} {at end : ℕ} (width n m : ℕ) → n ≡ m → Added before at (column width (signed_text n)) after end
    → Added before at (column width (signed_text m)) after end
signed_is width n m e a = same_words (column width (signed_text m)) a (ap (λ (k : ℕ). column width (signed_text k)) e)
