-- The channel of a send, and the channels that a receive lists, by what an edge does. Assumes nothing.
use mathlib.Core.Path.{◌≡◌, refl, sym, ap, subst, ◌∙◌}
use mathlib.Core.Bool.{Bool, true, false, ◌||◌}
use mathlib.Core.List.{List, []}
use mathlib.Core.Option.{Option, none, some}
use Rattle.std.specs.Prelude.{IfSome}
use Rattle.std.specs.declared.option.Option.{Option as Found}
use Rattle.std.specs.declared.option.Option.TheVariants.{Some, None}
use Prim.Native.Nat.{ℕ, zero, suc, ◌+◌, ◌-◌, ◌*◌, ◌≤◌, ◌<◌}
use native.Mathlib.Omega.{arith}
use borrow.Author.Tests.{eq-eqb, ne_eqb}
use lib.Dec.{eqb}
use lib.ListN.{length, drop, get_or}
use lib.Seq.{drop-drop}
use Rattle.model.specs.declared.Action.{Action}
use Rattle.model.specs.declared.Action.TheVariants.{Internal, Send, Receive}
use Rattle.model.specs.declared.Pair.{Pair}
use Rattle.model.specs.Lists.{any}
use Rattle.model.specs.Window.{sends, channel_of}
use Rattle.model.specs.Reader.{byte, pair_at}
use Rattle.model.specs.Places.{list_at, items_place, arc_at}
use Rattle.model.specs.Schedule.{names}
use Rattle.decoder.proofs.ByAction.{internal_pairs, send_pairs, receive_length, receive_pairs}
use Rattle.parts.proofs.Skim.{first_of}
use Rattle.rows.specs.Rows.{EdgeStands, message_of, option_of}
use Rattle.std.specs.Option.{unwrap_or}

-- ## What the decoded action tells of the channel

module _ (b : Bool) (h : List ℕ) (d : EdgeStands b h) where
  -- a send's channel is not the number that stands for none
  pub sent_small : (o : Found ℕ) → option_of o ≡ channel_of (arc_at b h) → IfSome o (λ k. k < 255)
  sent_small None q = tt
  sent_small (Some k) q = go (arc_at b h).edge.action refl
    where
      go : (a : Action) → a ≡ (arc_at b h).edge.action → k < 255
      go Internal e = let f : some k ≡ none = q ∙ ap sends (sym e) in absurd (cc)
      go (Send j) e = let f : some k ≡ some j = q ∙ ap sends (sym e) in let same : k ≡ j = cc in d.channel k (rw same e)
      go Receive e = let f : some k ≡ none = q ∙ ap sends (sym e) in absurd (cc)

  -- the pairs of a receive stand whole
  pub lists_within : Receive ≡ (arc_at b h).edge.action → items_place b h + byte h 6 * 2 ≤ length h
  lists_within e = omega (arith, d.whole, receive_length b h e)

-- a channel below that number, as a row holds it
pub row_holds : (o : Found ℕ) → IfSome o (λ k. k < 255) → message_of (unwrap_or o 255) ≡ option_of o
row_holds None h = refl
row_holds (Some k) h = rw (ne_eqb k 255 (λ e. omega (arith, e, h)))

-- ## A receive

-- one of the pairs has the channel
abbrev pub has : ℕ → List Pair → Bool
has channel ps = any (λ q. eqb q.channel channel) ps

-- an edge without pairs lists nothing
pub lists_nothing : (m : Option ℕ) (b : Bool) (h : List ℕ) → (arc_at b h).pairs ≡ [] → false ≡ names (arc_at b h) m
lists_nothing none b h e = refl
lists_nothing (some k) b h e = rw e

-- nor does one that does not receive
pub lists_only : (m : Option ℕ) (b : Bool) (h : List ℕ) → (Receive ≡ (arc_at b h).edge.action → ⊥) → false ≡ names (arc_at b h) m
lists_only m b h other = go (arc_at b h).edge.action refl
  where
    go : (a : Action) → a ≡ (arc_at b h).edge.action → false ≡ names (arc_at b h) m
    go Internal e = lists_nothing m b h (internal_pairs b h e)
    go (Send k) e = lists_nothing m b h (send_pairs b h k e)
    go Receive e = absurd (other e)

module _ (h : List ℕ) (channel : ℕ) where
  -- the channels from a place on, so many
  abbrev pub has_from : ℕ → ℕ → Bool
  has_from at k = has channel (list_at pair_at 2 k (drop at h))

  pub lists_start : (b : Bool) (at k : ℕ) → Receive ≡ (arc_at b h).edge.action → at ≡ items_place b h → k ≡ byte h 6 → has_from at k ≡ names (arc_at b h) (some channel)
  lists_start b at k e p q = rw (p, q) (ap (has channel) (sym (receive_pairs b h e)))

  -- one more than the rest
  counted : (at k : ℕ) (x : Bool) → 0 < k → has_from at k ≡ x → has_from at (suc (k - 1)) ≡ x
  counted at k x p q = let e : k ≡ suc (k - 1) = omega arith in subst (λ (m : ℕ). has_from at m ≡ x) e q

  at_first : (at k : ℕ) → has_from at (suc k) ≡ eqb (get_or h at 0) channel || has_from (at + 2) k
  unfolding list_at
  at_first at k = rw (first_of h at, drop-drop 2 at h)

  pub lists_found : (at k : ℕ) (x : Bool) → 0 < k → get_or h at 0 ≡ channel → has_from at k ≡ x → true ≡ x
  lists_found at k x p e q =
      let f : has_from at (suc (k - 1)) ≡ true = at_first at (k - 1) ∙ rw (eq-eqb (get_or h at 0) channel e) in
      sym f ∙ counted at k x p q

  pub lists_turn : (at k : ℕ) (x : Bool) → 0 < k → (get_or h at 0 ≡ channel → ⊥) → has_from at k ≡ x → (at' k' : ℕ) → at' ≡ at + 2 → k' ≡ k - 1 → has_from at' k' ≡ x
  lists_turn at k x p e q at' k' y z =
      let f : has_from at (suc (k - 1)) ≡ has_from (at + 2) (k - 1) = at_first at (k - 1) ∙ rw (ne_eqb (get_or h at 0) channel e) in
      rw (y, z) (sym f ∙ counted at k x p q)

  pub lists_done : (at k : ℕ) (x : Bool) → k ≤ 0 → has_from at k ≡ x → false ≡ x
  unfolding list_at
  lists_done at zero x p q = q
  lists_done at (suc k) x p q = absurd (omega arith)
