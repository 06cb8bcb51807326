-- `listing_text::lines::put_counts` meets its contract. Assumes nothing.
use native.Mathlib.Omega.{arith}
use lib.ListN.{get_or}
use Rattle.text.specs.Words.{ascii}
use Rattle.text.proofs.Appended.{next}
use Rattle.listing_text.proofs.Heads.{same_field}
use Rattle.listing_text.proofs.lines.put_counts.Goals as goal

pub put-requires : goal.put-requires
put-requires c = omega (arith, c.put_field-locations.ensures.1, c.put_field-locations.auto.out, c.put_field-edges.ensures.1, c.put_field-edges.auto.out, c.put_field-initial.ensures.1, c.put_field-initial.auto.out, c.put_field-last.ensures.1, c.put_field-last.auto.out, c.requires)

pub returns : goal.returns
returns c = let part = c.args.part.now in (next (next (next (next c.put_field-locations.ensures.0 (same_field (ascii ", locations ") (get_or part 2 0) c.from.ensures c.put_field-edges.ensures.0)) (same_field (ascii ", edges ") (get_or part 3 0) c.from-2.ensures c.put_field-initial.ensures.0)) (same_field (ascii ", initial location ") (get_or part 4 0) c.from-3.ensures c.put_field-last.ensures.0)) c.put.ensures.0, omega (arith, c.put_field-locations.ensures.1, c.put_field-edges.ensures.1, c.put_field-initial.ensures.1, c.put_field-last.ensures.1, c.put.ensures.1))
