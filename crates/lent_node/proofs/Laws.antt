-- The registers after a step and after a message, in the words of the definitions. Assumes nothing.
use mathlib.Core.Path.{◌≡◌, refl, sym, ap, ap₂, ◌∙◌}
use mathlib.Core.Bool.{Bool, true, false, cond, ◌&&◌, not}
use mathlib.Core.List.{List}
use Prim.Native.Nat.{ℕ, ◌≤◌, ◌<◌}
use native.Mathlib.Omega.{arith}
use borrow.Author.Tests.{le-leb, lt-leb, eqb-true, ne_eqb, eq-eqb}
use lib.Dec.{leb, eqb}
use lib.ListN.{length, drop}
use Rattle.model.specs.Machine.{finish}
use Rattle.model.specs.Run.{Stand, names, stand_at, takes_message}
use Rattle.model.proofs.Basics.Bools.{clash}
use Rattle.node.specs.declared.Counts.{Counts}
use Rattle.node.specs.declared.Node.{Node}
use Rattle.node.specs.Views.{rest_at, node_of, op_in, Grown}
use Rattle.node.specs.After.{edge_taken, after, listened, after_message}
use Rattle.node.proofs.Held.{still}
use Rattle.node.proofs.Effects.{after_take, taken_none, after_is, after_grows}
use Rattle.stand.proofs.ByOp.{sort_is, named}
use Rattle.stand.proofs.Message.{message_is, message_grows}
use Rattle.lent_node.specs.Step.{may_step, stepped_of, message_of, take_fits, step_of, may_take}

-- ## A step

module _ (p : List ℕ) (k : Counts) (r : Node) where
  -- a take with nothing kept changes nothing
  pub take_nothing : op_in (drop r.pc p) ≡ 16 → r.kept.some ≡ false → after p k r ≡ r
  take_nothing o e = after_take p k r o ∙ taken_none p r e

  -- the statement is finished, or nothing has changed
  pub step_is : node_of p k (stepped_of p k r) ≡ step_of p k r
  step_is = go (may_step p k r) (eqb (op_in (drop r.pc p)) 16) refl r.kept.some refl
    where
      go : (m t : Bool) → eqb (op_in (drop r.pc p)) 16 ≡ t → (s : Bool) → r.kept.some ≡ s
          → node_of p k (cond m (after p k r) r) ≡ cond (m && cond t s true) (finish p (node_of p k r) (node_of p k r).rest) (node_of p k r)
      go false t e s f = refl
      go true false e s f = after_is p k r (λ o. clash (sym e ∙ eq-eqb (op_in (drop r.pc p)) 16 o))
      go true true e true f = after_is p k r (λ o. f)
      go true true e false f = ap (node_of p k) (take_nothing (eqb-true (op_in (drop r.pc p)) 16 e) f)

  -- the registers that grow have grown by one passage's length at most
  pub step_grows : r.n ≤ 65535 → r.d ≤ 65535 → r.kept.ready ≤ 65535 → Grown r (stepped_of p k r)
  step_grows n d e = go (may_step p k r)
    where
      go : (m : Bool) → Grown r (cond m (after p k r) r)
      go true = after_grows p k r n d e
      go false = still r r refl refl refl

-- ## A message

module _ (p : List ℕ) (k : ℕ) (r : Node) where
  -- the tests, one after the other
  pub too_long : 65535 < length p → r ≡ message_of p k r
  too_long h = rw (lt-leb (length p) 65535 h)

  module _ (l : length p ≤ 65535) where
    pub has_taken : r.taken ≡ true → r ≡ message_of p k r
    has_taken e =
        sym
        (ap (λ (b : Bool). cond b (after_message p k r) r) (le-leb (length p) 65535 l)
        ∙ (ap (λ (t : Bool). cond (names k (stand_at (rest_at p r.pc)) && not t) (listened p k r) r) e ∙ never (names k (stand_at (rest_at p r.pc)))))
      where
        never : (b : Bool) → cond (b && false) (listened p k r) r ≡ r
        never true = refl
        never false = refl

    pub not_named : names k (stand_at (rest_at p r.pc)) ≡ false → r ≡ message_of p k r
    not_named e = rw (le-leb (length p) 65535 l, e)

    pub takes_it : names k (stand_at (rest_at p r.pc)) ≡ true → r.taken ≡ false → (q : Node) → q ≡ listened p k r → q ≡ message_of p k r
    takes_it e f q g =
        g
        ∙ sym
        (ap (λ (b : Bool). cond b (after_message p k r) r) (le-leb (length p) 65535 l)
        ∙ ap₂ (λ (n t : Bool). cond (n && not t) (listened p k r) r) e f)

  -- a listener that names the channel stands at a listen
  pub listens : names k (stand_at (rest_at p r.pc)) ≡ true → op_in (drop r.pc p) ≡ 5
  listens e = named k (sort_is p r.pc (op_in (drop r.pc p)) refl) e

  -- the listener takes the message, or nothing has changed
  pub message_view : (held : Counts) → node_of p held (message_of p k r) ≡ cond (may_take p k r) (takes_message p k (node_of p held r)) (node_of p held r)
  message_view held = go (leb (length p) 65535) (names k (stand_at (rest_at p r.pc))) refl (not r.taken)
    where
      go : (l n : Bool) → names k (stand_at (rest_at p r.pc)) ≡ n → (t : Bool)
          → node_of p held (cond l (cond (n && t) (listened p k r) r) r) ≡ cond (l && (n && t)) (takes_message p k (node_of p held r)) (node_of p held r)
      go false n e t = refl
      go true false e t = refl
      go true true e false = refl
      go true true e true = message_is p k r (listens e) held

  -- no register that grows has grown
  pub message_still : Grown r (message_of p k r)
  message_still = go (leb (length p) 65535) (names k (stand_at (rest_at p r.pc)) && not r.taken)
    where
      go : (l n : Bool) → Grown r (cond l (cond n (listened p k r) r) r)
      go false n = still r r refl refl refl
      go true false = still r r refl refl refl
      go true true = message_grows p k r (listened p k r) refl
