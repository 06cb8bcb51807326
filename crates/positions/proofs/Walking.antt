-- One row more is read. Assumes nothing.
use mathlib.Core.Path.{◌≡◌, sym, ap, ◌∙◌}
use mathlib.Core.Logic.{by_cases}
use mathlib.Core.List.{List}
use Prim.Native.Nat.{ℕ, ◌+◌, ◌≤◌, ◌<◌}
use native.Mathlib.Omega.{arith}
use native.Mathlib.Decide.{ℕ_discrete}
use lib.ListN.{length, get_or, set}
use lib.Seq.{get_or-set_same, get_or-set_other}
use Rattle.rows.specs.Rows.{num}
use Rattle.positions.specs.Walks.{Last, ReadUpTo}

pub read_more : (l latest : List ℕ) (n i tick c : ℕ) → ReadUpTo l n latest i tick → length latest ≡ 8 → i < n → num l i 3 ≤ tick → c ≡ num l i 0
    → ReadUpTo l n (set latest c i) (i + 1) tick
read_more l latest n i tick c r e h t is =
    record {
      few = r.few;
      fits = r.fits;
      within = omega arith;
      small = r.small;
      entered = λ j k. by_cases (ℕ_discrete j i) (λ q. rw q t) (λ q. r.entered j (omega arith));
      last = λ j k. by_cases (ℕ_discrete (num l j 0) c) (λ q. rw q now) (λ q. other j k q);
    }
  where
    now : Last l (i + 1) c (get_or (set latest c i) c 0)
    now = rw (get_or-set_same latest c i 0 (omega (arith, r.small i h))) (record { there = omega arith; component = sym is; after = λ j a b d. omega arith })

    other : (j : ℕ) → j < i + 1 → (num l j 0 ≡ c → ⊥) → Last l (i + 1) (num l j 0) (get_or (set latest c i) (num l j 0) 0)
    other j k d =
        let less : j < i = by_cases (ℕ_discrete j i) (λ q. absurd (d (ap (λ x. num l x 0) q ∙ sym is))) (λ q. omega arith) in
        let x = r.last j less in
        rw (get_or-set_other latest c (num l j 0) i 0 d) (record {
          there = omega (arith, x.there);
          component = x.component;
          after = λ m a b f. by_cases (ℕ_discrete m i) (λ q. d (sym f ∙ ap (λ y. num l y 0) q ∙ sym is)) (λ q. x.after m a (omega arith) f);
        })
