-- The distances by which `Hearings` tells the faults of a send apart at a spread, in the words of `IndependentWithin`: what two windows do under
-- some offsets up to the spread, or under all. Assumes nothing.
use mathlib.Core.Path.{◌≡◌, refl, sym}
use mathlib.Core.Logic.{◌↔◌}
use mathlib.Core.Bool.{Bool, true, false, cond}
use Prim.Native.Nat.{ℕ, ◌+◌, ◌-◌, ◌≤◌, ◌<◌, max}
use native.Mathlib.Omega.{arith}
use borrow.Author.Tests.{eq-eqb, ne_eqb}
use lib.Dec.{eqb}
use Rattle.model.specs.Table.{Table}
use Rattle.model.specs.Schedule.{Passage, others}
use Rattle.model.specs.Checks.{Hears}
use Rattle.model.specs.Hearings.{HearsWithin}
use Rattle.model.proofs.Checks.Heard.{others_is}

-- component a wakes at m, b at n, the others at 0
abbrev waking : ℕ → ℕ → ℕ → ℕ → ℕ → ℕ
waking a m b n c = cond (eqb c a) m (cond (eqb c b) n 0)

waking_first : (a m b n : ℕ) → waking a m b n a ≡ m
waking_first a m b n = rw (eq-eqb a a refl)

waking_second : (a m b n : ℕ) → (a ≡ b → ⊥) → waking a m b n b ≡ n
waking_second a m b n ne = rw (ne_eqb b a (λ e. ne (sym e)), eq-eqb b b refl)

waking_most : (G a m b n : ℕ) → m ≤ G → n ≤ G → (c : ℕ) → waking a m b n c ≤ G
waking_most G a m b n h k c = go (eqb c a) (eqb c b)
  where
    go : (x y : Bool) → cond x m (cond y n 0) ≤ G
    go true y = h
    go false true = k
    go false false = omega arith

-- offsets, none above G
abbrev pub Within : ℕ → (ℕ → ℕ) → Type 0
Within G o = (c : ℕ) → o c ≤ G

module _ (G : ℕ) (T : Table) (r s : Passage) where
  -- ticks of the two windows lie at most G apart exactly if some offsets up to G give the windows a common tick
  pub hears_apart : HearsWithin G T r s ↔ ((o : ℕ → ℕ) × Within G o × Hears o T r s)
  hears_apart = (to, from)
    where
      to : HearsWithin G T r s → (o : ℕ → ℕ) × Within G o × Hears o T r s
      to h =
          let m = h.sent_at - h.heard_at in
          let n = h.heard_at - h.sent_at in
          let a = waking_first r.component m s.component n in
          let b = waking_second r.component m s.component n ((others_is r s).0 h.other) in (
            waking r.component m s.component n,
            waking_most G r.component m s.component n (omega (arith, h.close)) (omega (arith, h.close)),
            record {
              receive = h.receive;
              other = h.other;
              named = h.named;
              tick = max h.heard_at h.sent_at;
              in_receive = record { from = omega (arith, a, h.in_receive.from); to = omega (arith, a, h.in_receive.to) };
              in_send = record { from = omega (arith, b, h.in_send.from); to = omega (arith, b, h.in_send.to) };
            },
          )

      from : (o : ℕ → ℕ) × Within G o × Hears o T r s → HearsWithin G T r s
      from (o, h, x) =
          let p = h r.component in
          let q = h s.component in
          let i = x.in_receive.from in
          let j = x.in_send.from in
          record {
            receive = x.receive;
            other = x.other;
            named = x.named;
            heard_at = x.tick - o r.component;
            sent_at = x.tick - o s.component;
            in_receive = record { from = omega (arith, i); to = omega (arith, x.in_receive.to) };
            in_send = record { from = omega (arith, j); to = omega (arith, x.in_send.to) };
            close = (omega (arith, p, q, i, j), omega (arith, p, q, i, j));
          }

  -- it starts more than G earlier exactly if it starts earlier under all offsets up to G
  pub starts_apart : others r s ≡ true
      → (r.ready + G < s.ready) ↔ ((o : ℕ → ℕ) → Within G o → r.ready + o r.component < s.ready + o s.component)
  starts_apart e = (
    λ h o w. omega (arith, h, w r.component),
    λ h.
        let a = waking_first r.component G s.component 0 in
        let b = waking_second r.component G s.component 0 ((others_is r s).0 e) in
        omega (arith, a, b, h (waking r.component G s.component 0) (waking_most G r.component G s.component 0 (omega arith) (omega arith))),
  )

  -- it ends more than G later exactly if it ends later under all offsets up to G
  pub ends_apart : others r s ≡ true → (s.end + G < r.end) ↔ ((o : ℕ → ℕ) → Within G o → s.end + o s.component < r.end + o r.component)
  ends_apart e = (
    λ h o w. omega (arith, h, w s.component),
    λ h.
        let a = waking_first r.component 0 s.component G in
        let b = waking_second r.component 0 s.component G ((others_is r s).0 e) in
        omega (arith, a, b, h (waking r.component 0 s.component G) (waking_most G r.component 0 s.component G (omega arith) (omega arith))),
  )
