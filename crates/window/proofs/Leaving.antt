-- What a passage leads to: clocks grown or reset, the location, and the entry. Assumes nothing.
use mathlib.Core.Path.{◌≡◌, refl}
use mathlib.Core.Bool.{Bool, true, false, cond}
use mathlib.Core.List.{List, [], ◌∷◌}
use mathlib.Core.Option.{Option}
use Prim.Native.Nat.{ℕ, suc, ◌+◌, ◌-◌, ◌/◌, ◌%◌, ◌≤◌, ◌<◌}
use native.Mathlib.Nat.{div-one}
use native.Mathlib.Omega.{arith}
use borrow.Author.Tests.{eq-eqb, ne_eqb}
use lib.Dec.{eqb}
use lib.IntN.{ℤ}
use lib.ListN.{length, drop, get_or}
use Rattle.model.specs.Lists.{All, empty, more, or_else}
use Rattle.model.specs.Table.{Arc}
use Rattle.model.specs.Reader.{pair_at}
use Rattle.model.specs.Places.{list_at}
use Rattle.model.specs.Window.{Entry, masked, aged, updated, leads_to, leaves, listens, paired}
use Rattle.std.specs.Prelude.{Option as Found}
use Rattle.std.specs.Prelude.{Some, None}
use Rattle.std.specs.Option.{unwrap_or}
use Rattle.window.specs.Views.{message_of, option_of}
use Rattle.window.proofs.Rests.{next, no_more, all_as}

-- ## Clocks

abbrev clock_for : ℕ → ℕ → ℕ → ℕ
clock_for bit grown x = cond (eqb bit 1) 0 (x + grown)

-- four clocks, each by its bit
pub aged_four : (mask grown : ℕ) (xs : List ℕ) → length xs ≡ 4
    → aged mask grown 0 xs ≡ clock_for (mask % 2) grown (get_or xs 0 0) ∷ clock_for (mask / 2 % 2) grown (get_or xs 1 0)
    ∷ clock_for (mask / 4 % 2) grown (get_or xs 2 0) ∷ clock_for (mask / 8 % 2) grown (get_or xs 3 0) ∷ []
unfolding aged
aged_four mask grown [] e = absurd (omega arith)
aged_four mask grown (a ∷ []) e = absurd (omega arith)
aged_four mask grown (a ∷ b ∷ []) e = absurd (omega arith)
aged_four mask grown (a ∷ b ∷ c ∷ []) e = absurd (omega arith)
aged_four mask grown (a ∷ b ∷ c ∷ d ∷ []) e = rw (div-one mask)
aged_four mask grown (a ∷ b ∷ c ∷ d ∷ f ∷ xs) e = absurd (omega arith)

-- a clock is no older than the table
older : (b : Bool) (x tick end : ℕ) → x ≤ tick → tick ≤ end → cond b 0 (x + (end - tick)) ≤ end
older true x tick end p q = omega arith
older false x tick end p q = omega arith

pub aged_young : (mask i tick end : ℕ) {xs : List ℕ} → tick ≤ end → All (λ x. x ≤ tick) xs → All (λ x. x ≤ end) (aged mask (end - tick) i xs)
unfolding aged
aged_young mask i tick end h a = go i a
  where
    go : {xs : List ℕ} (i : ℕ) → All (λ x. x ≤ tick) xs → All (λ x. x ≤ end) (aged mask (end - tick) i xs)
    go i empty = empty
    go i (more {x = x} p a) = more (older (masked mask i) x tick end p h) (go (suc i) a)

pub all_up : (m n : ℕ) {xs : List ℕ} → m ≤ n → All (λ x. x ≤ m) xs → All (λ x. x ≤ n) xs
all_up m n h a = all_as (λ x q. omega arith) a

-- ## The location that pairs have for a channel

module _ (h : List ℕ) (at k channel other x : ℕ) (i : paired (list_at pair_at 2 k (drop at h)) channel other ≡ x) where
  pub pair_found : 0 < k → (pair_at (drop at h)).channel ≡ channel → (pair_at (drop at h)).location ≡ x
  pair_found e f = rw (next pair_at 2 h at k e, eq-eqb (pair_at (drop at h)).channel channel f) at i

  pub pair_passed : 0 < k → ((pair_at (drop at h)).channel ≡ channel → ⊥) → paired (list_at pair_at 2 (k - 1) (drop (at + 2) h)) channel other ≡ x
  pair_passed e f = rw (next pair_at 2 h at k e, ne_eqb (pair_at (drop at h)).channel channel f) at i

  pub pair_none : k ≤ 0 → other ≡ x
  pair_none e = rw (no_more pair_at 2 (drop at h) k e) at i

-- ## The entry

pub kept_else : (found : Found (List ℤ)) (vs : List ℤ) → unwrap_or found vs ≡ or_else (option_of found) vs
kept_else None vs = refl
kept_else (Some us) vs = refl

pub leaves_to : (a : Arc) (m : Option ℕ) (end : ℕ) (at : Entry) {l : ℕ} {xs : List ℕ} {vs : List ℤ} → l ≡ leads_to a m
    → xs ≡ aged a.edge.mask (end - at.tick) 0 at.clocks
    → vs ≡ or_else (updated a.updates at.values) at.values
    → ◌≡◌ {A = Entry} (record { location = l; tick = end; clocks = xs; values = vs }) (leaves a m end at)
unfolding leaves
leaves_to a m end at p q r = rw (p, q, r)

-- ## Where an edge leads

module _ (a : Arc) (message : ℕ) where
  pub leads_without : message ≡ 255 → a.edge.destination ≡ leads_to a (message_of message)
  leads_without e = rw (eq-eqb message 255 e)

  -- an edge that does not receive
  pub leads_plain : (message ≡ 255 → ⊥) → false ≡ listens a → a.edge.destination ≡ leads_to a (message_of message)
  leads_plain n l = rw (ne_eqb message 255 n, ← l)

  pub leads_paired : (message ≡ 255 → ⊥) → true ≡ listens a → paired a.pairs message a.edge.destination ≡ leads_to a (message_of message)
  leads_paired n l = rw (ne_eqb message 255 n, ← l)
