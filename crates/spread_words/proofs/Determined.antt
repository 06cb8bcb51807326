-- What is printed of a table: it follows from the table alone, and from what the call `largest_spread` answers. Assumes nothing.
use mathlib.Core.Path.{◌≡◌, refl, sym, ap, ◌∙◌}
use mathlib.Core.List.{List}
use Prim.Native.Nat.{ℕ, ◌≤◌}
use native.Mathlib.Nat.{le_refl}
use native.Mathlib.Omega.{arith}
use Rattle.model.specs.declared.Verdict.{Verdict}
use Rattle.model.specs.declared.Verdict.TheVariants.{Accepted, Refused}
use Rattle.model.specs.Calls.{check_call, LargestSpread}
use Rattle.refusal_text.specs.RefusalText.{refusal_text}
use Rattle.spread_words.specs.SpreadText.{spread_text, Printed}

-- there is one largest spread
one_largest : (table : List ℕ) (G K : ℕ) → LargestSpread table G → LargestSpread table K → G ≡ K
one_largest table G K g k =
    let up : G ≤ K = (k G).0 ((g G).1 (le_refl G)) in
    let down : K ≤ G = (g K).0 ((k K).1 (le_refl K)) in
    omega arith

-- and one text
pub one_text : (table first second : List ℕ) → Printed table first → Printed table second → first ≡ second
one_text table first second p q = go (check_call table) refl
  where
    go : (v : Verdict) → check_call table ≡ v → first ≡ second
    go Accepted e =
        let a = p.accepted e in
        let b = q.accepted e in
        a.2 ∙ ap spread_text (one_largest table a.0 b.0 a.1 b.1) ∙ sym b.2
    go (Refused n c) e = p.refused n c e ∙ sym (q.refused n c e)

-- ## From the answer

module _ (table text : List ℕ) where
  pub printed_accepted : (G : ℕ) → check_call table ≡ Accepted → LargestSpread table G → text ≡ spread_text G → Printed table text
  printed_accepted G v l e =
      record {
        accepted = λ q. (G, l, e);
        refused = λ n c q. absurd (let y : Refused n c ≡ Accepted = sym q ∙ v in let z : ◌≡◌ {A = ℕ} 0 1 = cc in omega arith);
      }

  pub printed_refused : (n c : ℕ) → check_call table ≡ Refused n c → text ≡ refusal_text n c → Printed table text
  printed_refused n c v e =
      record {
        accepted = λ q. absurd (let y : Refused n c ≡ Accepted = sym v ∙ q in let z : ◌≡◌ {A = ℕ} 0 1 = cc in omega arith);
        refused = λ m d q. e ∙ same m d (sym v ∙ q);
      }
    where
      same : (m d : ℕ) → Refused n c ≡ Refused m d → refusal_text n c ≡ refusal_text m d
      same m d y = let number : n ≡ m = cc in let component : c ≡ d = cc in cc
