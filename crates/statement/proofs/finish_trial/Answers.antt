-- `statement::finish_trial` meets its contract. Assumes nothing.
use Rattle.statement.proofs.Carries.{four_bytes}
use Rattle.statement.proofs.Chain.{eight_still, held_still, finished_on}
use Rattle.registers.specs.Words.{word_in}
use Rattle.node.proofs.Moves.{inside}
use Rattle.node.proofs.Ops.{Opens, opens}
use Rattle.parts.proofs.Skim.{tail}
use lib.ListN.{length, take, drop}
use mathlib.Core.List.{List}
use Prim.Native.Nat.{ℕ, ◌+◌, ◌-◌, ◌≤◌, ◌<◌}
use native.Mathlib.Omega.{arith}
use mathlib.Core.Path.{◌≡◌, sym, ap, subst, ◌∙◌}
use borrow.Author.Rules.{rules}
use Rattle.statement.proofs.finish_trial.Goals as goal

-- the op is none of those that stand beyond
not-above : (op k : ℕ) → (15 < op → op ≡ 18) → 15 < k → (k ≡ 18 → ⊥) → op ≡ k → ⊥
not-above op k h l n q = n (sym q ∙ h (omega (arith, q, l)))

pub slice_bounds-statement-count : goal.slice_bounds-statement-count
slice_bounds-statement-count c =
    let opened : let a = c.args in Opens (drop (word_in a.words.now a.c 0) a.part.now) a.op =
    (let s = c in opens _ _ (sym s.requires.4) (not-above s.args.op 255 s.requires.6 (omega arith) (λ q. absurd (omega (arith, q))))) in
    let placed : c.word-at.result + 4 ≤ length c.args.part.now =
    (let a = c.args in
    omega (arith, c.word-at.ensures, inside a.part.now (word_in a.words.now a.c 0) a.op opened)) in
    omega (arith, placed)

pub slice_bounds-statement-start : goal.slice_bounds-statement-start
slice_bounds-statement-start c =
    let w : c.word-at.result ≤ length c.args.part.now = slice_bounds-statement-count c in
    search rules

pub overflow_add-to : goal.overflow_add-to
overflow_add-to c =
    let opened : let a = c.args in Opens (drop (word_in a.words.now a.c 0) a.part.now) a.op =
    (let s = c in opens _ _ (sym s.requires.4) (not-above s.args.op 255 s.requires.6 (omega arith) (λ q. absurd (omega (arith, q))))) in
    let placed : c.word-at.result + 4 ≤ length c.args.part.now =
    (let a = c.args in
    omega (arith, c.word-at.ensures, inside a.part.now (word_in a.words.now a.c 0) a.op opened)) in
    omega (arith, placed)

pub try_statement-requires : goal.try_statement-requires
try_statement-requires c =
    let opened : let a = c.args in Opens (drop (word_in a.words.now a.c 0) a.part.now) a.op =
    (let s = c in opens _ _ (sym s.requires.4) (not-above s.args.op 255 s.requires.6 (omega arith) (λ q. absurd (omega (arith, q))))) in
    let there : let a = c.args in take (length a.part.now - c.word-at.result) (drop c.word-at.result a.part.now) ≡ drop (word_in a.words.now a.c 0) a.part.now =
    (let a = c.args in tail a.part.now c.word-at.result ∙ ap (λ (i : ℕ). drop i a.part.now) c.word-at.ensures) in
    let bytes : List ℕ =
    (let a = c.args in take (length a.part.now - c.word-at.result) (drop c.word-at.result a.part.now)) in
    let front : Opens bytes c.args.op =
    (subst (λ (x : List ℕ). Opens x c.args.op) (sym there) opened) in
    let e = c in
    let s = e in
    let a = s.args in
    let o = front in
    let st = c.put_place.ensures a.values.now in
    let to = e.word-at.result + 4 in (
      o.fits,
      omega (arith, o.first, s.requires.5),
      (λ h. o.first ∙ s.requires.6 (omega (arith, o.first, h))),
      eight_still a.words.now a.values.now a.c to c.put_place.new.words st s.requires.1,
      s.requires.2,
      held_still a.words.now a.values.now a.c to c.put_place.new.words st s.requires.3,
    )

pub returns : goal.returns
returns c =
    let there : let a = c.args in take (length a.part.now - c.word-at.result) (drop c.word-at.result a.part.now) ≡ drop (word_in a.words.now a.c 0) a.part.now =
    (let a = c.args in tail a.part.now c.word-at.result ∙ ap (λ (i : ℕ). drop i a.part.now) c.word-at.ensures) in
    let bytes : List ℕ =
    (let a = c.args in take (length a.part.now - c.word-at.result) (drop c.word-at.result a.part.now)) in
    let opened : let a = c.args in Opens (drop (word_in a.words.now a.c 0) a.part.now) a.op =
    (let s = c in opens _ _ (sym s.requires.4) (not-above s.args.op 255 s.requires.6 (omega arith) (λ q. absurd (omega (arith, q))))) in
    let front : Opens bytes c.args.op =
    (subst (λ (x : List ℕ). Opens x c.args.op) (sym there) opened) in
    let e = c in
    let s = e in
    let a = s.args in
    let o = front in
    let st = c.put_place.ensures a.values.now in
    let to = e.word-at.result + 4 in
    finished_on a.words.now a.values.now a.c to c.put_place.new.words st a.part.now _ there a.op (sym s.requires.4)
    o.low (not-above a.op 16 s.requires.6 (omega arith) (λ q. absurd (omega (arith, q)))) (not-above a.op 17 s.requires.6 (omega arith) (λ q. absurd (omega (arith, q)))) 4 (four_bytes bytes (omega (arith, o.first, s.requires.5)))
    (ap (λ (i : ℕ). i + 4) e.word-at.ensures)
    c.try_statement.ensures
