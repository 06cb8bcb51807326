-- `machine::go_alone` meets its contract. Assumes nothing.
use Rattle.machine.proofs.Alone.{refused, woken, done, observed_now}
use Rattle.machine.proofs.Loads.{Loaded, held_fine, within, view_of, stands_there, all_inside}
use Rattle.machine.proofs.Ops.{addable, trial_may}
use Rattle.registers.specs.Words.{word_in, node_in, held_in, part_in, wake_tick_in, finish_tick_in}
use Rattle.machine.specs.Running.{view_in, finishes_work}
use Rattle.stand.specs.Stands.{may_finish}
use Rattle.stand.proofs.ByOp.{sort_is}
use Rattle.model.specs.Run.{stand_of, observes, observation_width, written_bytes}
use Rattle.model.specs.Machine
use lib.Seq.{sets}
use borrow.Author.Tests.{not-true, not-false, le-leb, lt-leb}
use Prim.Native.Nat.{ℕ, ◌*◌, ◌-◌, ◌≤◌}
use lib.IntN.{ℤ}
use mathlib.Core.Bool.{Bool, true, false, cond}
use mathlib.Core.List.{List}
use native.Mathlib.Omega.{arith}
use mathlib.Core.Path.{◌≡◌, refl, sym, ap, ap₂, subst, ◌∙◌}
use Rattle.machine.proofs.go_alone.Goals as goal

-- a test at the tick of its own clock
at-common : (program l : List ℕ) (v : List ℤ) (c : ℕ) {tick own : ℕ} {x : Bool} → tick ≡ own
    → may_finish tick (view_in program l v c) (stand_of (view_in program l v c)) ≡ x → may_finish own (view_in program l v c) (stand_of (view_in program l v c)) ≡ x
at-common program l v c {x = x} e = subst (λ (k : ℕ). may_finish k (view_in program l v c) (stand_of (view_in program l v c)) ≡ x) e

-- a statement of a trial finishes no work
works-not : (op : ℕ) → 10 ≤ op → finishes_work op ≡ false
works-not op h = rw (le-leb 3 op (omega (arith, h)), lt-leb op 5 (omega (arith, h))) refl

-- a statement of a trial
pub try_node-requires : goal.try_node-requires
try_node-requires c =
    let s = c in
    let a = s.args in
    let trial = c.is_trial.ensures c.if-is_trial.true in (
      s.requires.0.eight,
      s.requires.0.listed,
      (omega (arith, s.requires.0.most, s.requires.1)),
      stands_there s.requires.0 a.c s.requires.1,
      s.requires.2,
      trial.0,
      trial.1,
    )

pub returns-then-is_trial : goal.returns-then-is_trial
returns-then-is_trial c H common up clock =
    let s = c in
    let a = s.args in
    let trial = c.is_trial.ensures c.if-is_trial.true in
    done a.program.now a.rows.now a.passages H a.count common a.c a.words.now a.values.now a.out.now a.written s.requires.0.most s.requires.1 up
    c.try_node.ensures.0
    a.op
    s.requires.2
    (c.try_node.ensures.1 ∙ rw (works-not a.op trial.0) refl)
    s.requires.3
    (trial_may (common - wake_tick_in a.words.now a.c) (view_in a.program.now a.words.now a.values.now a.c) (sort_is (part_in a.program.now a.words.now a.c) (word_in a.words.now a.c 0) a.op s.requires.2) trial.0 trial.1)
    (λ z. omega (arith, s.requires.2, z, trial.0))

pub may_finish-requires : goal.may_finish-requires
may_finish-requires c =
    let s = c in
    let a = s.args in
    let st = s.requires.0.each a.c s.requires.1 in (
      s.requires.0.eight,
      (omega (arith, s.requires.0.most, s.requires.1)),
      all_inside s.requires.0 a.c s.requires.1,
      st.held,
      (omega (arith, st.within.t)),
      s.requires.2,
    )

pub returns-then-not-may_finish : goal.returns-then-not-may_finish
returns-then-not-may_finish c H common up clock =
    let s = c in
    let a = s.args in
    refused a.program.now a.rows.now a.passages H a.count common a.c a.words.now a.values.now a.out.now a.written s.requires.0.most s.requires.1 up (λ z. s.requires.3 z) (at-common a.program.now a.words.now a.values.now a.c clock (sym c.may_finish.ensures ∙ not-true c.may_finish.result c.if-not-may_finish.true-raw))

pub word-previous-requires : goal.word-previous-requires
word-previous-requires c =
    let s = c in
    (s.requires.0.eight.words, omega (arith, s.requires.0.most, s.requires.1), omega arith)

pub overflow_cast-c : goal.overflow_cast-c
overflow_cast-c c =
    let s = c in
    let a = s.args in
    omega (arith, s.requires.0.most, s.requires.1)

pub overflow_mul-written : goal.overflow_mul-written
overflow_mul-written c =
    let s = c in
    omega (arith, s.requires.5)

pub put_written-requires : goal.put_written-requires
put_written-requires c =
    let allowed : let a = c.args in
    may_finish a.tick (view_in a.program.now a.words.now a.values.now a.c) (stand_of (view_in a.program.now a.words.now a.values.now a.c)) ≡ true =
    (sym c.may_finish.ensures ∙ not-false c.may_finish.result c.if-not-may_finish.false-raw) in
    let loaded : let a = c.args in
    Loaded a.program.now a.rows.now a.passages a.words.now a.values.now a.c (word_in a.words.now a.c 21) (word_in a.words.now a.c 22) c.counts-held.result c.load-before.result =
    (let s = c in
    record { begins = refl; spans = refl; counts = c.counts-held.ensures; node = c.load-before.ensures; stands = s.requires.0.each s.args.c s.requires.1 }) in
    let s = c in
    let a = s.args in
    let d = c in (
      s.requires.4 (observed_now a.program.now a.words.now a.values.now a.c a.tick (sym s.requires.2 ∙ c.if-op-eq-SLEEP.true) allowed),
      held_fine loaded,
      within loaded,
    )

pub finish_node-requires : goal.finish_node-requires
finish_node-requires c =
    let allowed : let a = c.args in
    may_finish a.tick (view_in a.program.now a.words.now a.values.now a.c) (stand_of (view_in a.program.now a.words.now a.values.now a.c)) ≡ true =
    (sym c.may_finish.ensures ∙ not-false c.may_finish.result c.if-not-may_finish.false-raw) in
    let s = c in
    let a = s.args in (
      s.requires.0.eight,
      s.requires.0.listed,
      (omega (arith, s.requires.0.most, s.requires.1)),
      stands_there s.requires.0 a.c s.requires.1,
      sym c.if-op-eq-SLEEP.true ∙ s.requires.2,
      addable (part_in a.program.now a.words.now a.c) (held_in a.words.now a.c) (node_in a.words.now a.values.now a.c) a.tick allowed,
    )

pub overflow_add-result : goal.overflow_add-result
overflow_add-result c =
    let s = c in
    let a = s.args in
    omega (arith, s.requires.5)

pub returns-then-op-eq-SLEEP : goal.returns-then-op-eq-SLEEP
returns-then-op-eq-SLEEP c H common up clock =
    let allowed : let a = c.args in
    may_finish a.tick (view_in a.program.now a.words.now a.values.now a.c) (stand_of (view_in a.program.now a.words.now a.values.now a.c)) ≡ true =
    (sym c.may_finish.ensures ∙ not-false c.may_finish.result c.if-not-may_finish.false-raw) in
    let loaded : let a = c.args in
    Loaded a.program.now a.rows.now a.passages a.words.now a.values.now a.c (word_in a.words.now a.c 21) (word_in a.words.now a.c 22) c.counts-held.result c.load-before.result =
    (let s = c in
    record { begins = refl; spans = refl; counts = c.counts-held.ensures; node = c.load-before.ensures; stands = s.requires.0.each s.args.c s.requires.1 }) in
    let s = c in
    let a = s.args in
    let d = c in
    woken a.program.now a.rows.now a.passages H a.count common a.c a.words.now a.values.now a.out.now a.written s.requires.0.most s.requires.1 up
    c.finish_node.ensures.0
    0
    (sym c.if-op-eq-SLEEP.true ∙ s.requires.2)
    c.finish_node.ensures.1
    s.requires.3
    (at-common a.program.now a.words.now a.values.now a.c clock
    allowed)
    (sym s.requires.2 ∙ c.if-op-eq-SLEEP.true)
    _
    (c.put_written.ensures (part_in a.program.now a.words.now a.c)
    ∙ (ap₂ (λ (k : ℕ) (q : Rattle.model.specs.Machine.Node). sets a.out.now (a.written * observation_width) (written_bytes (record { observation = observes a.c k q; previous = c.word-previous.result }))) clock (view_of loaded)
    ∙ ap (λ (p : ℕ). sets a.out.now (a.written * observation_width) (written_bytes (record { observation = observes a.c (common - wake_tick_in a.words.now a.c) (view_in a.program.now a.words.now a.values.now a.c); previous = p }))) c.word-previous.ensures))

pub finish_node-requires-2 : goal.finish_node-requires-2
finish_node-requires-2 c =
    let allowed : let a = c.args in
    may_finish a.tick (view_in a.program.now a.words.now a.values.now a.c) (stand_of (view_in a.program.now a.words.now a.values.now a.c)) ≡ true =
    (sym c.may_finish.ensures ∙ not-false c.may_finish.result c.if-not-may_finish.false-raw) in
    let s = c in
    let a = s.args in (
      s.requires.0.eight,
      s.requires.0.listed,
      (omega (arith, s.requires.0.most, s.requires.1)),
      stands_there s.requires.0 a.c s.requires.1,
      s.requires.2,
      addable (part_in a.program.now a.words.now a.c) (held_in a.words.now a.c) (node_in a.words.now a.values.now a.c) a.tick allowed,
    )

pub returns : goal.returns
returns c H common up clock =
    let allowed : let a = c.args in
    may_finish a.tick (view_in a.program.now a.words.now a.values.now a.c) (stand_of (view_in a.program.now a.words.now a.values.now a.c)) ≡ true =
    (sym c.may_finish.ensures ∙ not-false c.may_finish.result c.if-not-may_finish.false-raw) in
    let s = c in
    let a = s.args in
    done a.program.now a.rows.now a.passages H a.count common a.c a.words.now a.values.now a.out.now a.written s.requires.0.most s.requires.1 up
    c.finish_node-2.ensures.0
    a.op
    s.requires.2
    (c.finish_node-2.ensures.1 ∙ ap (λ (k : ℕ). cond (finishes_work a.op) k (finish_tick_in a.words.now a.c)) clock)
    s.requires.3
    (at-common a.program.now a.words.now a.values.now a.c clock allowed)
    (λ z. c.if-op-eq-SLEEP.false (s.requires.2 ∙ z))
