-- `registers::store` meets its contract. Assumes nothing.
use native.Mathlib.Omega.{arith}
use borrow.Author.Rules.{rules}
use Rattle.registers.proofs.Written.{Sized, written, still_long}
use Rattle.registers.proofs.store.Goals as goal

pub bounds-words-at : goal.bounds-words-at
bounds-words-at c =
    let k = c in
    let t = k in
    let p = t in
    let q = p in
    let s = q in
    omega (
      arith,
      k.store_kept.auto.words,
      t.store_trial.auto.words,
      p.store_place.auto.words,
      q.store_times.auto.words,
      s.requires.0.words,
      s.requires.1,
    )

pub shape_of-words : goal.shape_of-words
shape_of-words c =
    let k = c in
    let t = k in
    let p = t in
    let q = p in
    let s = q in
    still_long s.args.words.now q.store_times.new.words p.store_place.new.words t.store_trial.new.words k.store_kept.new.words _ _
    q.store_times.auto.words p.store_place.auto.words t.store_trial.auto.words k.store_kept.auto.words

pub shape_of-values : goal.shape_of-values
shape_of-values c = c.store_values.auto.values

pub returns : goal.returns
returns c =
    let sized : Sized c.args.registers =
    (record {
      location = search rules;
      n = search rules;
      d = search rules;
      edge = search rules;
      goes = search rules;
      tried_ready = search rules;
      tried_end = search rules;
      kept_edge = search rules;
      kept_ready = search rules;
      kept_end = search rules;
      clocks = search rules;
      values = search rules;
    }) in
    let k = c in
    let t = k in
    let p = t in
    let q = p in
    let s = q in
    written s.args.words.now s.args.values.now s.args.c s.args.registers q.store_times.new.words p.store_place.new.words t.store_trial.new.words k.store_kept.new.words
    c.store_values.new.values s.requires.0 s.requires.1 sized
    q.store_times.ensures p.store_place.ensures t.store_trial.ensures k.store_kept.ensures c.store_values.ensures
