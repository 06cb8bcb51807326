-- What is printed, from what the call answers: 552 bytes are never too few. Assumes nothing.
use mathlib.Core.Path.{◌≡◌, refl, ap}
use mathlib.Core.Bool.{Bool, true, false, cond}
use mathlib.Core.List.{List, ◌++◌}
use Prim.Native.Nat.{ℕ, ◌≤◌}
use native.Mathlib.Omega.{arith}
use borrow.Author.Tests.{leb-false}
use lib.Dec.{leb}
use lib.ListN.{length, take, drop}
use lib.Seq.{take-append_seam}
use Rattle.model.specs.declared.Verdict.TheVariants.{Accepted, Refused}
use Rattle.model.specs.Lists.{Bytes, Answer, accepted, refused, ◌after◌}
use Rattle.model.specs.Table.{Read}
use Rattle.model.specs.Reader.{read_table}
use Rattle.model.specs.Schedule.{Passage}
use Rattle.model.specs.Checks.{accepted_schedule_of}
use Rattle.model.specs.Calls.{refusing, bytes_with}
use Rattle.model.specs.Chart.{chart, chart_in, chart_call}
use Rattle.model.proofs.Reader.RoundTrip.{written_read}
use Rattle.model.proofs.Schedule.Charted.{chart_length}
use Rattle.text.specs.Words.{refusal_line}
use Rattle.chart_words.specs.ChartText.{rows_or, printed_chart}

-- a chart has at most eight rows
few_rows : (bs rows : List ℕ) → Bytes bs → chart_in bs ≡ accepted rows → length rows ≤ 552
few_rows bs rows b e = go (read_table bs) refl e
  where
    drawn : (t : Read) → read_table bs ≡ accepted t → (a : Answer (List Passage)) → (a after λ S. accepted (chart t.table t.horizon S)) ≡ accepted rows → length rows ≤ 552
    drawn t q (accepted S) f =
        let is : chart t.table t.horizon S ≡ rows = cc in
        omega (arith, ap length is, chart_length t.table t.horizon S, (written_read bs t b q).0.most_components)
    drawn t q (refused n c) f = let z : ◌≡◌ {A = ℕ} 0 1 = cc in absurd (omega arith)

    go : (a : Answer Read) → read_table bs ≡ a → (a after λ t. accepted_schedule_of t after λ S. accepted (chart t.table t.horizon S)) ≡ accepted rows → length rows ≤ 552
    go (accepted t) q f = drawn t q (accepted_schedule_of t) f
    go (refused n c) q f = let z : ◌≡◌ {A = ℕ} 0 1 = cc in absurd (omega arith)

module _ (bs lent : List ℕ) (b : Bytes bs) (room : 552 ≤ length lent) where
  -- accepted: what was written is what is printed
  pub printed_rows : (chart_call bs lent).verdict ≡ Accepted → take (chart_call bs lent).size (chart_call bs lent).lent ≡ printed_chart bs
  unfolding chart_call printed_chart
  printed_rows = go (chart_in bs)
    where
      fitting : (rows : List ℕ) (t : Bool) → (cond t (record { verdict = Accepted; size = length rows; lent = rows ++ drop (length rows) lent }) (refusing 13 255 lent)).verdict ≡ Accepted
          → take (cond t (record { verdict = Accepted; size = length rows; lent = rows ++ drop (length rows) lent }) (refusing 13 255 lent)).size (cond t (record { verdict = Accepted; size = length rows; lent = rows ++ drop (length rows) lent }) (refusing 13 255 lent)).lent
          ≡ rows
      fitting rows true e = take-append_seam rows (drop (length rows) lent)
      fitting rows false e = let z : ◌≡◌ {A = ℕ} 0 1 = cc in absurd (omega arith)

      go : (a : Answer (List ℕ)) → (bytes_with lent a).verdict ≡ Accepted → take (bytes_with lent a).size (bytes_with lent a).lent ≡ rows_or a
      go (accepted rows) e = fitting rows (leb (length rows) (length lent)) e
      go (refused n c) e = let z : ◌≡◌ {A = ℕ} 0 1 = cc in absurd (omega arith)

  -- refused: by the table's checks
  pub printed_refusal : (n c : ℕ) → (chart_call bs lent).verdict ≡ Refused n c → refusal_line n c ≡ printed_chart bs
  unfolding chart_call printed_chart
  printed_refusal n c = go (chart_in bs) refl
    where
      fitting : (rows : List ℕ) → length rows ≤ 552 → (t : Bool) → leb (length rows) (length lent) ≡ t → (cond t (record { verdict = Accepted; size = length rows; lent = rows ++ drop (length rows) lent }) (refusing 13 255 lent)).verdict ≡ Refused n c → refusal_line n c ≡ rows
      fitting rows few true q e = let z : ◌≡◌ {A = ℕ} 0 1 = cc in absurd (omega arith)
      fitting rows few false q e = absurd (omega (arith, leb-false (length rows) (length lent) q))

      go : (a : Answer (List ℕ)) → chart_in bs ≡ a → (bytes_with lent a).verdict ≡ Refused n c → refusal_line n c ≡ rows_or a
      go (accepted rows) q e = fitting rows (few_rows bs rows b q) (leb (length rows) (length lent)) refl e
      go (refused m d) q e = let x : m ≡ n = cc in let y : d ≡ c = cc in rw (x, y)
