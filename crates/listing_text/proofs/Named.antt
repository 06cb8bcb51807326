-- The names of statements by their op. Assumes nothing.
use mathlib.Core.Path.{◌≡◌, sym, ap, ap₂}
use mathlib.Core.List.{List, [], ◌∷◌}
use Prim.Native.Nat.{ℕ, ◌/◌, ◌%◌, ◌≤◌}
use lib.ListN.{get_or-eq_default}
use Rattle.text.specs.Words.{Added}
use Rattle.text.proofs.Appended.{same_words}
use Rattle.listing_text.specs.StatementText.{hex_digit, hex_byte, named, no_statement, statement_words}

-- the words of an op that is known
pub known_op : (op known a k : ℕ) {before after : List ℕ} {at end : ℕ} → op ≡ known → Added before at (statement_words known a k) after end
    → Added before at (statement_words op a k) after end
known_op op known a k e added = same_words (statement_words op a k) added (ap (λ (n : ℕ). statement_words n a k) (sym e))

-- past the last
pub no_op : (op a k : ℕ) {before after : List ℕ} {at end : ℕ} → 19 ≤ op → Added before at no_statement after end → Added before at (statement_words op a k) after end
unfolding statement_words
no_op op a k h added = same_words (statement_words op a k) added (sym (get_or-eq_default (named a k) no_statement h))

-- other fields that are the same
pub same_fields : (op a k : ℕ) {a' k' : ℕ} {before after : List ℕ} {at end : ℕ} → a' ≡ a → k' ≡ k → Added before at (statement_words op a' k') after end
    → Added before at (statement_words op a k) after end
same_fields op a k e f added = same_words (statement_words op a k) added (ap₂ (statement_words op) e f)

-- two digits are a byte
pub two_digits : (n : ℕ) {high low : ℕ} {before after : List ℕ} {at end : ℕ} → high ≡ hex_digit (n / 16) → low ≡ hex_digit (n % 16)
    → Added before at (high ∷ low ∷ []) after end
    → Added before at (hex_byte n) after end
two_digits n e f added = same_words (hex_byte n) added (ap₂ (λ (x y : ℕ). x ∷ y ∷ []) e f)
