-- `text::put` meets its contract. Assumes nothing.
use mathlib.Core.Path.{◌≡◌, sym, ap, ◌∙◌}
use mathlib.Core.List.{List, ◌++◌, append-nil}
use Prim.Native.Nat.{ℕ, ◌+◌}
use native.Mathlib.Omega.{arith}
use native.Mathlib.Nat.{add-zero}
use lib.ListN.{length, get_or, take, length-set}
use lib.Seq.{take-length}
use Rattle.text.proofs.Appended.{put_turn}
use Rattle.text.proofs.put.Goals as goal

pub loop-i-init : goal.loop-i-init
loop-i-init c =
    let a = c.args in
    let start : take (a.at + 0) a.out.now ≡ take a.at a.out.now ++ take 0 a.words.now =
    ap (λ (k : ℕ). take k a.out.now) (add-zero a.at) ∙ sym (append-nil (take a.at a.out.now)) in
    record { long = omega arith; text = start }

pub bounds-out-at : goal.bounds-out-at
bounds-out-at c = omega (arith, c.loop-i.invariant.long)

pub loop-i-preserved : goal.loop-i-preserved
loop-i-preserved c =
    let a = c.args in
    let l = c.loop-i in
    record {
      long = length-set l.out (a.at + l.i) (get_or a.words.now l.i 0) ∙ l.invariant.long;
      text = put_turn a.out.now l.out a.words.now a.at l.i (omega (arith, l.invariant.long)) (omega arith) l.invariant.text;
    }

pub shape_of-out : goal.shape_of-out
shape_of-out c = c.loop-i.invariant.long

pub returns : goal.returns
returns c =
    let a = c.args in
    let l = c.loop-i in
    let all : l.i ≡ length a.words.now = omega arith in
    (record { text = ap (λ (k : ℕ). take (a.at + k) l.out) (sym all) ∙ l.invariant.text ∙ ap (λ (w : List ℕ). take a.at a.out.now ++ w) (ap (λ (k : ℕ). take k a.words.now) all ∙ take-length a.words.now) }, omega arith)
