-- `statement::finish` meets its contract. Assumes nothing.
use Rattle.statement.specs.Done.{Finished}
use Rattle.statement.proofs.Carries.{four_bytes}
use Rattle.statement.proofs.Chain.{finished_none, eight_still, held_still, within_still, addable_still, finished_on}
use Rattle.registers.specs.Words.{word_in, node_in, held_in}
use Rattle.node.specs.Views.{Addable}
use Rattle.node.proofs.Moves.{inside, below_ends}
use Rattle.node.proofs.Ops.{Opens, opens}
use Rattle.parts.proofs.Skim.{tail}
use lib.ListN.{length, take, drop}
use mathlib.Core.List.{List}
use Prim.Native.Nat.{ℕ, ◌+◌, ◌-◌, ◌≤◌}
use native.Mathlib.Omega.{arith}
use mathlib.Core.Path.{◌≡◌, sym, ap, subst, ◌∙◌}
use borrow.Author.Rules.{rules}
use Rattle.statement.proofs.finish.Goals as goal

pub returns-then-op-eq-NOWHERE : goal.returns-then-op-eq-NOWHERE
returns-then-op-eq-NOWHERE c =
    let s = c in
    let a = s.args in
    subst (λ (i : ℕ). Finished a.part.now a.words.now a.values.now a.c i a.words.now a.values.now) (sym c.word-at.ensures)
    (finished_none a.part.now a.words.now a.values.now a.c (sym s.requires.6 ∙ c.if-op-eq-NOWHERE.true))

pub returns-then-op-eq-TAKE : goal.returns-then-op-eq-TAKE
returns-then-op-eq-TAKE c = c.take_edge.ensures c.args.values.now

pub returns-then-op-eq-CHOOSE : goal.returns-then-op-eq-CHOOSE
returns-then-op-eq-CHOOSE c = c.choose_block.ensures c.args.values.now

pub slice_bounds-statement-count : goal.slice_bounds-statement-count
slice_bounds-statement-count c =
    let opened : let a = c.args in Opens (drop (word_in a.words.now a.c 0) a.part.now) a.op =
    (opens _ _ (sym c.requires.6) c.if-op-eq-NOWHERE.false) in
    let placed : c.word-at.result + 4 ≤ length c.args.part.now =
    (let a = c.args in
    omega (arith, c.word-at.ensures, inside a.part.now (word_in a.words.now a.c 0) a.op opened)) in
    omega (arith, placed)

pub slice_bounds-statement-start : goal.slice_bounds-statement-start
slice_bounds-statement-start c =
    let w : c.word-at.result ≤ length c.args.part.now = slice_bounds-statement-count c in
    search rules

pub statement_length-requires : goal.statement_length-requires
statement_length-requires c =
    let opened : let a = c.args in Opens (drop (word_in a.words.now a.c 0) a.part.now) a.op =
    (opens _ _ (sym c.requires.6) c.if-op-eq-NOWHERE.false) in
    let there : let a = c.args in take (length a.part.now - c.word-at.result) (drop c.word-at.result a.part.now) ≡ drop (word_in a.words.now a.c 0) a.part.now =
    (let a = c.args in tail a.part.now c.word-at.result ∙ ap (λ (i : ℕ). drop i a.part.now) c.word-at.ensures) in
    let front : let a = c.args in Opens (take (length a.part.now - c.word-at.result) (drop c.word-at.result a.part.now)) a.op =
    (subst (λ (x : List ℕ). Opens x c.args.op) (sym there) opened) in
    front.fits

pub overflow_add-to : goal.overflow_add-to
overflow_add-to c =
    let opened : let a = c.args in Opens (drop (word_in a.words.now a.c 0) a.part.now) a.op =
    (opens _ _ (sym c.requires.6) c.if-op-eq-NOWHERE.false) in
    let placed : c.word-at.result + 4 ≤ length c.args.part.now =
    (let a = c.args in
    omega (arith, c.word-at.ensures, inside a.part.now (word_in a.words.now a.c 0) a.op opened)) in
    omega (arith, placed, c.statement_length.ensures.1)

pub work_statement-requires : goal.work_statement-requires
work_statement-requires c =
    let there : let a = c.args in take (length a.part.now - c.word-at.result) (drop c.word-at.result a.part.now) ≡ drop (word_in a.words.now a.c 0) a.part.now =
    (let a = c.args in tail a.part.now c.word-at.result ∙ ap (λ (i : ℕ). drop i a.part.now) c.word-at.ensures) in
    let opened : let a = c.args in Opens (drop (word_in a.words.now a.c 0) a.part.now) a.op =
    (opens _ _ (sym c.requires.6) c.if-op-eq-NOWHERE.false) in
    let front : let a = c.args in Opens (take (length a.part.now - c.word-at.result) (drop c.word-at.result a.part.now)) a.op =
    (subst (λ (x : List ℕ). Opens x c.args.op) (sym there) opened) in
    let e = c in
    let s = c in
    let a = s.args in
    let o = front in
    let st = c.put_place.ensures a.values.now in
    let to = c.word-at.result + c.statement_length.result in (
      o.fits,
      omega (arith, o.first, c.if-op-lt-TRIAL.true),
      eight_still a.words.now a.values.now a.c to c.put_place.new.words st s.requires.1,
      s.requires.2,
      held_still a.words.now a.values.now a.c to c.put_place.new.words st s.requires.3,
      within_still a.words.now a.values.now a.c to c.put_place.new.words st 4000000000000000000 s.requires.4,
      addable_still a.words.now a.values.now a.c to c.put_place.new.words st _ (subst (λ (x : List ℕ). Addable x (held_in a.words.now a.c) (node_in a.words.now a.values.now a.c)) (sym there) s.requires.5),
    )

pub returns-then-op-lt-TRIAL : goal.returns-then-op-lt-TRIAL
returns-then-op-lt-TRIAL c =
    let there : let a = c.args in take (length a.part.now - c.word-at.result) (drop c.word-at.result a.part.now) ≡ drop (word_in a.words.now a.c 0) a.part.now =
    (let a = c.args in tail a.part.now c.word-at.result ∙ ap (λ (i : ℕ). drop i a.part.now) c.word-at.ensures) in
    let opened : let a = c.args in Opens (drop (word_in a.words.now a.c 0) a.part.now) a.op =
    (opens _ _ (sym c.requires.6) c.if-op-eq-NOWHERE.false) in
    let front : let a = c.args in Opens (take (length a.part.now - c.word-at.result) (drop c.word-at.result a.part.now)) a.op =
    (subst (λ (x : List ℕ). Opens x c.args.op) (sym there) opened) in
    let e = c in
    let s = c in
    let a = s.args in
    let o = front in
    let st = c.put_place.ensures a.values.now in
    let to = c.word-at.result + c.statement_length.result in
    finished_on a.words.now a.values.now a.c to c.put_place.new.words st a.part.now _ there a.op (sym s.requires.6)
    (omega (arith, c.if-op-lt-TRIAL.true)) (λ q. omega (arith, q, c.if-op-lt-TRIAL.true)) (λ q. omega (arith, q, c.if-op-lt-TRIAL.true)) c.statement_length.result c.statement_length.ensures.0
    (ap (λ (i : ℕ). i + c.statement_length.result) c.word-at.ensures)
    c.work_statement.ensures

pub overflow_add-to-2 : goal.overflow_add-to-2
overflow_add-to-2 c =
    let opened : let a = c.args in Opens (drop (word_in a.words.now a.c 0) a.part.now) a.op =
    (opens _ _ (sym c.requires.6) c.if-op-eq-NOWHERE.false) in
    let placed : c.word-at.result + 4 ≤ length c.args.part.now =
    (let a = c.args in
    omega (arith, c.word-at.ensures, inside a.part.now (word_in a.words.now a.c 0) a.op opened)) in
    omega (arith, placed)

pub try_statement-requires : goal.try_statement-requires
try_statement-requires c =
    let opened : let a = c.args in Opens (drop (word_in a.words.now a.c 0) a.part.now) a.op =
    (opens _ _ (sym c.requires.6) c.if-op-eq-NOWHERE.false) in
    let there : let a = c.args in take (length a.part.now - c.word-at.result) (drop c.word-at.result a.part.now) ≡ drop (word_in a.words.now a.c 0) a.part.now =
    (let a = c.args in tail a.part.now c.word-at.result ∙ ap (λ (i : ℕ). drop i a.part.now) c.word-at.ensures) in
    let front : let a = c.args in Opens (take (length a.part.now - c.word-at.result) (drop c.word-at.result a.part.now)) a.op =
    (subst (λ (x : List ℕ). Opens x c.args.op) (sym there) opened) in
    let e = c in
    let s = c in
    let a = s.args in
    let o = front in
    let st = c.put_place-2.ensures a.values.now in
    let to = c.word-at.result + 4 in (
      o.fits,
      omega (arith, o.first, c.if-op-lt-TRIAL.false),
      below_ends _ _ o c.if-op-eq-TAKE.false c.if-op-eq-CHOOSE.false,
      eight_still a.words.now a.values.now a.c to c.put_place-2.new.words st s.requires.1,
      s.requires.2,
      held_still a.words.now a.values.now a.c to c.put_place-2.new.words st s.requires.3,
    )

pub returns : goal.returns
returns c =
    let there : let a = c.args in take (length a.part.now - c.word-at.result) (drop c.word-at.result a.part.now) ≡ drop (word_in a.words.now a.c 0) a.part.now =
    (let a = c.args in tail a.part.now c.word-at.result ∙ ap (λ (i : ℕ). drop i a.part.now) c.word-at.ensures) in
    let bytes : List ℕ =
    (let a = c.args in take (length a.part.now - c.word-at.result) (drop c.word-at.result a.part.now)) in
    let opened : let a = c.args in Opens (drop (word_in a.words.now a.c 0) a.part.now) a.op =
    (opens _ _ (sym c.requires.6) c.if-op-eq-NOWHERE.false) in
    let front : let a = c.args in Opens (take (length a.part.now - c.word-at.result) (drop c.word-at.result a.part.now)) a.op =
    (subst (λ (x : List ℕ). Opens x c.args.op) (sym there) opened) in
    let e = c in
    let s = c in
    let a = s.args in
    let o = front in
    let st = c.put_place-2.ensures a.values.now in
    let to = c.word-at.result + 4 in
    finished_on a.words.now a.values.now a.c to c.put_place-2.new.words st a.part.now _ there a.op (sym s.requires.6)
    o.low c.if-op-eq-TAKE.false c.if-op-eq-CHOOSE.false 4 (four_bytes bytes (omega (arith, o.first, c.if-op-lt-TRIAL.false)))
    (ap (λ (i : ℕ). i + 4) c.word-at.ensures)
    c.try_statement.ensures
