-- What hangs on an edge's action, for who has decoded the action at the front of bytes h. Assumes nothing.
use mathlib.Core.Path.{◌≡◌, refl, ap}
use mathlib.Core.Bool.{Bool}
use mathlib.Core.List.{List, []}
use Prim.Native.Nat.{ℕ, zero, suc, ◌-◌, ◌*◌}
use native.Mathlib.Omega.{arith}
use lib.ListN.{drop}
use Rattle.model.specs.declared.Action.TheVariants.{Internal, Send, Receive}
use Rattle.model.specs.Reader.{byte, update_at, pair_at}
use Rattle.model.specs.Places.{list_at, items_place, items_length, action_at, updates_at, pairs_at, arc_at}

-- ## By kind

internal_kind : (kind k : ℕ) → Internal ≡ action_at kind k → kind ≡ 0
internal_kind zero k e = refl
internal_kind (suc zero) k e = let n : ◌≡◌ {A = ℕ} 0 1 = cc in absurd (omega arith)
internal_kind (suc (suc m)) k e = let n : ◌≡◌ {A = ℕ} 0 1 = cc in absurd (omega arith)

send_kind : (kind k channel : ℕ) → Send channel ≡ action_at kind k → (kind ≡ 1) × (channel ≡ k)
send_kind zero k channel e = let n : ◌≡◌ {A = ℕ} 0 1 = cc in absurd (omega arith)
send_kind (suc zero) k channel e = (refl, cc)
send_kind (suc (suc m)) k channel e = let n : ◌≡◌ {A = ℕ} 0 1 = cc in absurd (omega arith)

receive_kind : (kind k : ℕ) → Receive ≡ action_at kind k → kind ≡ suc (suc (kind - 2))
receive_kind zero k e = let n : ◌≡◌ {A = ℕ} 0 1 = cc in absurd (omega arith)
receive_kind (suc zero) k e = let n : ◌≡◌ {A = ℕ} 0 1 = cc in absurd (omega arith)
receive_kind (suc (suc m)) k e = omega arith

-- ## The items of the edge at the front

module _ (b : Bool) (h : List ℕ) where
  -- an internal edge has updates alone
  module _ (e : Internal ≡ (arc_at b h).edge.action) where
    pub internal_length : items_length (byte h 0) (byte h 6) ≡ byte h 6 * 4
    unfolding arc_at
    internal_length = rw (internal_kind (byte h 0) (byte h (items_place b h)) e)

    pub internal_updates : (arc_at b h).updates ≡ list_at update_at 4 (byte h 6) (drop (items_place b h) h)
    unfolding arc_at updates_at
    internal_updates = rw (internal_kind (byte h 0) (byte h (items_place b h)) e)

    pub internal_pairs : (arc_at b h).pairs ≡ []
    unfolding arc_at pairs_at
    internal_pairs = rw (internal_kind (byte h 0) (byte h (items_place b h)) e)

  -- a send its channel alone
  module _ (channel : ℕ) (e : Send channel ≡ (arc_at b h).edge.action) where
    pub send_channel : (byte h 0 ≡ 1) × (channel ≡ byte h (items_place b h))
    unfolding arc_at
    send_channel = send_kind (byte h 0) (byte h (items_place b h)) channel e

    pub send_updates : (arc_at b h).updates ≡ []
    unfolding arc_at updates_at
    send_updates = rw send_channel.0

    pub send_pairs : (arc_at b h).pairs ≡ []
    unfolding arc_at pairs_at
    send_pairs = rw send_channel.0

  -- a receive pairs alone
  module _ (e : Receive ≡ (arc_at b h).edge.action) where
    receive_from : byte h 0 ≡ suc (suc (byte h 0 - 2))
    unfolding arc_at
    receive_from = receive_kind (byte h 0) (byte h (items_place b h)) e

    pub receive_length : items_length (byte h 0) (byte h 6) ≡ byte h 6 * 2
    receive_length = ap (λ (k : ℕ). items_length k (byte h 6)) receive_from

    pub receive_updates : (arc_at b h).updates ≡ []
    unfolding arc_at updates_at
    receive_updates = ap (λ (k : ℕ). updates_at k (byte h 6) (drop (items_place b h) h)) receive_from

    pub receive_pairs : (arc_at b h).pairs ≡ list_at pair_at 2 (byte h 6) (drop (items_place b h) h)
    unfolding arc_at pairs_at
    receive_pairs = ap (λ (k : ℕ). pairs_at k (byte h 6) (drop (items_place b h) h)) receive_from
