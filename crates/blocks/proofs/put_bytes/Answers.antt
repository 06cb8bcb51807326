-- `blocks::put_bytes` meets its contract. Assumes nothing.
use mathlib.Core.Path.{◌≡◌, sym, ap, ap₂, ◌∙◌}
use mathlib.Core.List.{List, ◌++◌, append_assoc}
use Prim.Native.Nat.{ℕ, ◌+◌, ◌-◌}
use native.Mathlib.Omega.{arith}
use borrow.Author.Rules.{rules}
use lib.ListN.{length, take, drop}
use lib.Seq.{sets-eq, drop-drop}
use Rattle.blocks.proofs.put_bytes.Goals as goal

pub returns : goal.returns
returns g c =
    let a = c.args in
    let long : length a.bytes ≡ g.row.N = search rules in
    let wide : a.at + g.row.N - a.at ≡ length a.bytes = omega (arith, long) in
    let behind : drop (a.at + g.row.N - a.at) (drop a.at a.out.now) ≡ drop (a.at + length a.bytes) a.out.now =
    ap (λ (n : ℕ). drop n (drop a.at a.out.now)) wide ∙ drop-drop (length a.bytes) a.at a.out.now in
    record {
      next = omega (arith, long);
      same = ap₂ (λ (x y : List ℕ). take a.at a.out.now ++ (x ++ y)) c.copy_from_slice.ensures.after behind
          ∙ sym (append_assoc (take a.at a.out.now) a.bytes (drop (a.at + length a.bytes) a.out.now)) ∙ sym (sets-eq a.bytes a.out.now a.at c.requires);
    }
