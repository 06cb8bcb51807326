-- A listener after a message. Assumes nothing.
use mathlib.Core.Path.{◌≡◌, refl, sym, ap, ◌∙◌}
use mathlib.Core.Option.{some}
use mathlib.Core.List.{List}
use Prim.Native.Nat.{ℕ, ◌+◌}
use native.Mathlib.Omega.{arith}
use lib.ListN.{drop}
use Rattle.model.specs.Reader.{byte}
use Rattle.model.specs.Places.{list_at}
use Rattle.model.specs.Window.{paired}
use Rattle.model.specs.Machine.{pair_at, statement_length, finish, with_place}
use Rattle.model.specs.Run.{pairs_at, stand_at, takes_message}
use Rattle.node.specs.declared.Counts.{Counts}
use Rattle.node.specs.declared.Node.{Node}
use Rattle.node.specs.Views.{rest_at, node_of, op_in, Grown}
use Rattle.node.specs.After.{told, moved, onward, listened, after}
use Rattle.node.proofs.Ops.{opens}
use Rattle.node.proofs.Held.{still}
use Rattle.node.proofs.Effects.{effect_at, after_on, after_is}
use Rattle.stand.proofs.ByOp.{listens_at}

module _ (p : List ℕ) (k : ℕ) (r : Node) (o : op_in (drop r.pc p) ≡ 5) where
  -- behind the listen, the location noted; h are the bytes from the program counter on
  pub listened_is : (h : List ℕ) (long location : ℕ) → h ≡ drop r.pc p → long ≡ statement_length h → location ≡ paired (list_at pair_at 4 (byte p (r.pc + 1)) (drop (r.pc + 4) p)) k 0
      → told (moved r (r.pc + long)) location ≡ listened p k r
  listened_is h long location there e f =
      let g : location ≡ paired (pairs_at (stand_at (rest_at p r.pc))) k 0 = f ∙ sym (ap (λ s. paired (pairs_at s) k 0) (listens_at p r.pc (sym o) refl)) in
      ap (told (moved r (r.pc + long))) g
      ∙ ap (λ (n : ℕ). told (moved r (r.pc + n)) (paired (pairs_at (stand_at (rest_at p r.pc))) k 0)) (e ∙ ap statement_length there)

  -- a listen that is finished changes no register
  after_listen : (held : Counts) → after p held r ≡ onward p r
  after_listen held =
      after_on p held r (omega (arith, o)) (λ q. omega (arith, o)) (λ q. omega (arith, o)) ∙ effect_at (drop r.pc p) held (onward p r) 5 (opens (drop r.pc p) 5 o (λ e. omega arith)).first

  -- in the words of the definitions
  pub message_is : (held : Counts) → node_of p held (listened p k r) ≡ takes_message p k (node_of p held r)
  message_is held =
      let e : node_of p held (onward p r) ≡ finish p (node_of p held r) (rest_at p r.pc) = sym (ap (node_of p held) (after_listen held)) ∙ after_is p held r (λ t. absurd (omega (arith, o, t))) in
      ap (λ x. with_place x x.location (some (paired (pairs_at (stand_at (rest_at p r.pc))) k 0))) e

  pub takes-message : (held : Counts) (q : Node) → q ≡ listened p k r → node_of p held q ≡ takes_message p k (node_of p held r)
  takes-message held q e = ap (node_of p held) e ∙ message_is held

-- no register that grows is touched
pub message_grows : (p : List ℕ) (k : ℕ) (r q : Node) → q ≡ listened p k r → Grown r q
message_grows p k r q e = still r q (ap (λ (x : Node). x.t) e) (ap (λ (x : Node). x.clocks) e) (ap (λ (x : Node). x.sleeps) e)
