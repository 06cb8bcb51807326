-- `positions::answer` meets its contract. Assumes nothing.
use mathlib.Core.Path.{sym, ◌∙◌}
use Prim.Native.Nat.{◌*◌, ◌≤◌}
use native.Mathlib.Omega.{arith}
use lib.ListN.{length}
use Rattle.model.specs.Positions.{asked}
use Rattle.model.proofs.Schedule.Positioned.{read_few}
use Rattle.rows.specs.Rows.{rows_of}
use Rattle.schedule.proofs.Grown.{length_rows}
use Rattle.schedule.proofs.Tables.{few_components}
use Rattle.positions.proofs.Asking.{asked_length}
use Rattle.positions.specs.Pairs.{number_tried}
use Rattle.positions.proofs.Asking.{refuses, tried_fine}
use Rattle.positions.proofs.Calling.{bad-pair, too_few, laid}
use borrow.Author.Rules.{rules}
use Rattle.positions.proofs.answer.Goals as goal

pub returns-in-Err : goal.returns-in-Err
returns-in-Err c =
    let s = c in
    let a = s.args in
    (bad-pair a.table.now a.pairs.now a.answers.now a.rows.now a.count s.requires c.number.result (c.number.ensures ∙ c.in-Err.ensures) c.refused.result (λ z. refuses c.in-Err.bad (sym c.number.ensures ∙ z)) c.refused.ensures, omega (arith, c.refused.ensures.1))

pub returns-then-answers-pairs : goal.returns-then-answers-pairs
returns-then-answers-pairs c =
    let s = c in
    let a = s.args in
    (too_few a.table.now a.pairs.now a.answers.now a.rows.now a.count s.requires (number_tried c.try_pairs.result) c.try_pairs.ensures (tried_fine c.try_pairs.result c.in_default.not-Err) c.refused-then-answers-pairs.result (omega (arith, c.if-answers-pairs.true, asked_length a.pairs.now)) c.refused-then-answers-pairs.ensures, omega (arith, c.refused-then-answers-pairs.ensures.1))

pub put_answers-read-requires : goal.put_answers-read-requires
put_answers-read-requires c =
    let s = c in
    let a = s.args in (
      record {
        table = a.table.now;
        rows = s.requires;
        components = few_components a.table.now c.type_inv.table s.requires.placed.valid;
        fine = sym c.try_pairs.ensures ∙ tried_fine c.try_pairs.result c.in_default.not-Err;
      },
      search rules,
      omega (arith, c.if-answers-pairs.false, asked_length a.pairs.now),
    )

pub returns : goal.returns
returns c =
    let s = c in
    let a = s.args in
    let room : length (asked a.pairs.now) * 3 ≤ length a.answers.now = omega (arith, c.if-answers-pairs.false, asked_length a.pairs.now) in (
      laid a.table.now a.pairs.now a.answers.now a.rows.now a.count s.requires (number_tried c.try_pairs.result) c.try_pairs.ensures (tried_fine c.try_pairs.result c.in_default.not-Err) c.put_answers-read.result _ room c.put_answers-read.ensures.reads c.put_answers-read.ensures.puts,
      omega (arith, c.put_answers-read.ensures.reads, read_few (rows_of a.rows.now a.count) (asked a.pairs.now), length_rows a.rows.now 0 a.count, s.requires.placed.few),
    )
