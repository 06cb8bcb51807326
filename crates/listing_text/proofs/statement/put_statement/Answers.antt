-- `listing_text::statement::put_statement` meets its contract. Assumes nothing.
use Prim.Native.Nat.{◌+◌}
use native.Mathlib.Omega.{arith}
use lib.ListN.{get_or}
use Rattle.model.specs.Reader.{word}
use Rattle.text.proofs.Appended.{next}
use Rattle.listing_text.specs.StatementText.{statement_line}
use Rattle.listing_text.proofs.Named.{same_fields}
use Rattle.listing_text.proofs.statement.put_statement.Goals as goal

pub put-requires : goal.put-requires
put-requires c = omega (arith, c.put_column-first.ensures.1, c.put_column-first.auto.out, c.put-four.ensures.1, c.put-four.auto.out, c.put_four_bytes-behind.ensures.1, c.put_four_bytes-behind.auto.out, c.put-words.ensures.1, c.put-words.auto.out, c.put_words-last.ensures.1, c.put_words-last.auto.out, c.requires)

pub returns : goal.returns
unfolding statement_line
returns c = let s = c.args in let bytes = s.bytes.now in (next (next (next (next (next c.put_column-first.ensures.0 c.put-four.ensures.0) c.put_four_bytes-behind.ensures.0) c.put-words.ensures.0) (same_fields (get_or bytes s.from 0) (get_or bytes (s.from + 1) 0) (word bytes (s.from + 2)) c.from-a.ensures c.word_at-k.ensures c.put_words-last.ensures.0)) c.put.ensures.0, omega (arith, c.put_column-first.ensures.1, c.put-four.ensures.1, c.put_four_bytes-behind.ensures.1, c.put-words.ensures.1, c.put_words-last.ensures.1, c.put.ensures.1))
