-- `verdict_words::put_refused` meets its contract. Assumes nothing.
use native.Mathlib.Omega.{arith}
use Rattle.text.proofs.Appended.{next, counts}
use Rattle.verdict_words.proofs.StopSaid.{has_place}
use Rattle.verdict_words.proofs.put_refused.Goals as goal

pub put_stop-band-requires : goal.put_stop-band-requires
put_stop-band-requires c =
    let s = c in
    (omega (arith, c.put_refusal_text-nodes.ensures.1, c.put_spread-stop.ensures.1, c.put_refusal_text-nodes.auto.out, c.put_spread-stop.auto.out, s.requires.0), has_place s.args.table.now s.args.number s.args.spread s.args.component s.requires.3)

pub returns : goal.returns
returns c =
    let s = c in record { prefix_len = counts c.put_meetings.result c.put_meetings.new.out (omega (arith, s.requires.1, c.put_refusal_text-nodes.ensures.1, c.put_spread-stop.ensures.1, c.put_stop-band.ensures.1, c.put_band-lines.ensures.1, c.put_meetings.ensures.1, c.put_refusal_text-nodes.auto.out, c.put_spread-stop.auto.out, c.put_stop-band.auto.out, c.put_band-lines.auto.out, c.put_meetings.auto.out, s.requires.0)); out_after = (next (next (next (next c.put_refusal_text-nodes.ensures.0 c.put_spread-stop.ensures.0) c.put_stop-band.ensures.0) c.put_band-lines.ensures.0) c.put_meetings.ensures.0).text }
