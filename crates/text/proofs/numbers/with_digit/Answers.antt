-- `text::numbers::with_digit` meets its contract. Assumes nothing.
use Rattle.std.proofs.Common.{◌≡◌, ◌∙◌, List, ◌∷◌, ℕ, ◌+◌, ◌*◌, ◌-◌, ◌<◌, true, sym, ap, Option, None, Some, SomeIff, MatchOption, arith}
use Rattle.std.specs.Char.{is_ascii_digit}
use Rattle.text.specs.Numbers.{read_on}
use Rattle.text.proofs.Reading.{no_digit, by_digit, past_all}
use Rattle.text.proofs.numbers.with_digit.Goals as goal

pub returns-then-not-is_ascii_digit : goal.returns-then-not-is_ascii_digit
returns-then-not-is_ascii_digit c rest =
    no_digit c.args.value c.args.byte rest (sym c.if-not-is_ascii_digit.ensures.value)

pub returns-in_err-checked_mul : goal.returns-in_err-checked_mul
returns-in_err-checked_mul c rest =
    let over : c.args.value * 10 < 4294967296 → ⊥ = c.in_err-checked_mul.ensures in
    rw c.from_residual.ensures (past_all c.args.value c.args.byte rest (sym c.if-not-is_ascii_digit.ensures.value) (omega arith))

-- what the sum is told to be, of the digits that it continues
told : (value byte : ℕ) (rest : List ℕ) (sum : ℕ) (result : Option ℕ) → is_ascii_digit byte ≡ true → sum ≡ value * 10 + (byte - 48) → SomeIff result (sum < 4294967296) sum
    → MatchOption result (read_on value (byte ∷ rest) ≡ None) (λ n. read_on value (byte ∷ rest) ≡ read_on n rest)
told value byte rest sum None digit e over = past_all value byte rest digit (omega arith)
told value byte rest sum (Some n) digit e (fits, is) = by_digit value byte rest digit ∙ ap (λ (m : ℕ). read_on m rest) (sym (is ∙ e))

pub returns : goal.returns
returns c rest =
    let ten = c.in_ok-checked_mul.ensures.1 in
    told c.args.value c.args.byte rest _ c.checked_add.result (sym c.if-not-is_ascii_digit.ensures.value) (omega (arith, ten, c.from.ensures)) c.checked_add.ensures
