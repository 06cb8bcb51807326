-- Columns of a table.
use Rattle.std.specs.Prelude.{cond, List, ◌++◌, ℕ, ◌-◌, ltb, length, replicate}
use Rattle.text.specs.Words.{ascii, decimal}

-- a text at the right of a column
abbrev pub column : ℕ → List ℕ → List ℕ
column width words = replicate (width - length words) 32 ++ words

-- sixteen bits, "two's complement"
abbrev pub signed_text : ℕ → List ℕ
signed_text bits = cond (ltb bits 32768) (decimal bits) (ascii "-" ++ decimal (65536 - bits))
