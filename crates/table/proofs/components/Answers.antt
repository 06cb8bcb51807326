-- `table::components` meets its contract. Assumes nothing.
use borrow.Author.Rules.{rules}
use mathlib.Core.Path.{◌≡◌, refl, sym, ap, ◌∙◌}
use mathlib.Core.Option.{none, some}
use Prim.Native.Nat.{ℕ, ◌+◌, ◌-◌}
use native.Mathlib.Omega.{arith}
use lib.ListN.{take, drop}
use Rattle.model.specs.Reader.{word, read_component, read_components, body_start}
use Rattle.model.specs.Places.{start_of}
use Rattle.model.specs.Calls.{verdict_of}
use Rattle.table.specs.Directory.{fault_in, starts_of}
use Rattle.table.proofs.Whole.{says_refused, says_accepted, no_length, too_long, fails_there, fine_there, bytes_over, at_the_end, start_on, starts_on}
use Rattle.table.proofs.components.Goals as goal

pub loop-c-init : goal.loop-c-init
unfolding start_of starts_of
loop-c-init c =
    let z : c.args.count - 0 ≡ c.args.count = omega arith in (search rules, c.requires.4, refl, rw (z, c.requires.4))

pub returns-then-table-at-lt2 : goal.returns-then-table-at-lt2
returns-then-table-at-lt2 c =
    let a = c.args in
    let s = a.table.now in
    let l = c.loop-c in
    let all = read_components a.heading a.count 0 (drop (body_start s) s) in
    let e = no_length a.heading l.c s l.at 0 (verdict_of all) (a.count - l.c) (a.count - (l.c + 1)) (omega arith) l.invariant.3 c.if-table-at-lt2.true in
    c.refused.ensures ∙ says_refused s a.count all e

pub returns-then-table-at : goal.returns-then-table-at
returns-then-table-at c =
    let a = c.args in
    let s = a.table.now in
    let l = c.loop-c in
    let all = read_components a.heading a.count 0 (drop (body_start s) s) in
    let n : c.from-n.result ≡ word s l.at = c.from-n.ensures ∙ c.word_at.ensures in
    let e = too_long a.heading l.c s l.at c.from-n.result (verdict_of all) (a.count - l.c) (a.count - (l.c + 1)) (omega arith) l.invariant.3 (omega arith) n c.if-table-at.true in
    c.refused-then-table-at.ensures ∙ says_refused s a.count all e

pub returns-in-Err : goal.returns-in-Err
returns-in-Err c =
    let a = c.args in
    let s = a.table.now in
    let l = c.loop-c in
    let all = read_components a.heading a.count 0 (drop (body_start s) s) in
    let n = c.from-n.result in
    let stated : n ≡ word s l.at = c.from-n.ensures ∙ c.word_at.ensures in
    let z : l.at + n - l.at ≡ n = omega arith in
    let t : some c.from.result ≡ fault_in (read_component a.heading (take n (drop l.at s))) =
    ap some c.from.ensures ∙ c.in-Err.ensures ∙ ap (λ (i : ℕ). fault_in (read_component a.heading (take i (drop l.at s)))) z in
    let e = fails_there a.heading l.c s l.at n (verdict_of all) (a.count - l.c) (a.count - (l.c + 1)) (omega arith) l.invariant.3 (omega arith) stated (omega arith) (sym t) in
    c.refused-in-Err.ensures ∙ says_refused s a.count all e

pub loop-c-preserved : goal.loop-c-preserved
loop-c-preserved c =
    let a = c.args in
    let s = a.table.now in
    let l = c.loop-c in
    let all = read_components a.heading a.count 0 (drop (body_start s) s) in
    let n = c.from-n.result in
    let stated : n ≡ word s l.at = c.from-n.ensures ∙ c.word_at.ensures in
    let z : l.at + n - l.at ≡ n = omega arith in
    let t : none ≡ fault_in (read_component a.heading (take n (drop l.at s))) =
    c.in_default.ensures ∙ ap (λ (i : ℕ). fault_in (read_component a.heading (take i (drop l.at s)))) z in
    let e = fine_there a.heading l.c s l.at n (verdict_of all) (a.count - l.c) (a.count - (l.c + 1)) (omega arith) l.invariant.3 (omega arith) stated (omega arith) (sym t) in
    let c' : c.from-in-loop-c.result ≡ l.c = c.from-in-loop-c.ensures in
    (omega arith, start_on s l.c l.at n l.invariant.1 stated, rw c' (starts_on s l.starts l.c l.at l.invariant.2 l.invariant.1), e)

pub returns-then-at-table : goal.returns-then-at-table
returns-then-at-table c =
    let a = c.args in
    let s = a.table.now in
    let l = c.loop-c in
    let all = read_components a.heading a.count 0 (drop (body_start s) s) in
    let d : a.count - 1 + 1 ≡ l.c = omega arith in
    let e = bytes_over a.heading l.c s l.at (verdict_of all) (a.count - l.c) (omega arith) l.invariant.3 (a.count - 1) d c.if-at-table.true in
    c.refused-then-at-table.ensures ∙ says_refused s a.count all e

pub returns : goal.returns
returns c =
    let a = c.args in
    let s = a.table.now in
    let l = c.loop-c in
    let all = read_components a.heading a.count 0 (drop (body_start s) s) in
    let d : l.c ≡ a.count = omega arith in
    let e = at_the_end a.heading l.c s l.at (verdict_of all) (a.count - l.c) (omega arith) l.invariant.3 c.if-at-table.false in
    says_accepted s a.count all l.starts e (l.invariant.2 ∙ ap (starts_of s) d)
