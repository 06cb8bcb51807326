-- From the op at a place to what the node stands at there. Assumes nothing.
use mathlib.Core.Path.{◌≡◌, refl, sym, ap, ◌∙◌}
use mathlib.Core.Bool.{Bool, true, false}
use mathlib.Core.List.{List}
use Prim.Native.Nat.{ℕ, ◌≤◌, ◌<◌}
use native.Mathlib.Omega.{arith}
use borrow.Author.Tests.{eqb-true, eqb-false, le-leb, lt-leb}
use lib.Dec.{eqb}
use lib.ListN.{drop}
use Rattle.model.specs.Reader.{byte}
use Rattle.model.specs.Machine
use Rattle.model.specs.Run.{Stand, sleeping, sending, listening, finishing, adding, working, taking, elsewhere, nowhere, stand_at, stand_of, window_end, names}
use Rattle.model.proofs.Basics.Bools.{clash}
use Rattle.node.specs.declared.Counts.{Counts}
use Rattle.node.specs.declared.Node.{Node}
use Rattle.node.specs.Views.{rest_at, op_in, node_of, Addable}
use Rattle.node.proofs.Ops.{stand_op}
use Rattle.stand.specs.Stands.{may_finish, never, due_tick, last_tick}
use Rattle.machine.specs.Running.{finishes_work}
use Rattle.stand.proofs.ByOp.{Sort, sleeps, works, adds, ends, sends, listens, takes, between, lost, sort_is, unnamed}

-- it neither sleeps nor sends
abbrev pub plain : Stand → Bool
plain sleeping = false
plain (sending k) = false
plain (listening qs) = true
plain finishing = true
plain (adding v z) = true
plain working = true
plain taking = true
plain elsewhere = true
plain nowhere = true

-- op by op
plain_at : {bs : List ℕ} {k : ℕ} {s : Stand} → Sort bs k s → (k ≡ 0 → ⊥) → (k ≡ 4 → ⊥) → plain s ≡ true
plain_at (sleeps a e) z f = absurd (z a)
plain_at (works a e) z f = rw e
plain_at (adds a e) z f = rw e
plain_at (ends a e) z f = rw e
plain_at (sends a e) z f = absurd (f a)
plain_at (listens a e) z f = rw e
plain_at (takes a e) z f = rw e
plain_at (between a b c e) z f = rw e
plain_at (lost a e) z f = rw e

-- it finishes its node's work
abbrev pub last_stand : Stand → Bool
last_stand sleeping = false
last_stand (sending k) = true
last_stand (listening qs) = true
last_stand finishing = true
last_stand (adding v z) = false
last_stand working = false
last_stand taking = false
last_stand elsewhere = false
last_stand nowhere = false

last_at : {bs : List ℕ} {k : ℕ} {s : Stand} → Sort bs k s → finishes_work k ≡ last_stand s
last_at (sleeps a e) = rw (a, e) refl
last_at (works a e) = rw (a, e) refl
last_at (adds a e) = rw (a, e) refl
last_at (ends a e) = rw (a, e) refl
last_at (sends a e) = rw (a, e) refl
last_at (listens a e) = rw (a, e) refl
last_at (takes a e) = rw (a, e) refl
last_at {k = k} (between a b c e) = rw (e, le-leb 3 k (omega arith), lt-leb k 5 (omega arith)) refl
last_at (lost a e) = rw (a, e) refl

module _ (p : List ℕ) (at : ℕ) where
  -- the ops that finish a work
  pub stands_last : finishes_work (op_in (drop at p)) ≡ last_stand (stand_at (rest_at p at))
  stands_last = last_at (sort_is p at (op_in (drop at p)) refl)

  -- neither a sleep nor a send
  pub stands_plain : (op_in (drop at p) ≡ 0 → ⊥) → (op_in (drop at p) ≡ 4 → ⊥) → plain (stand_at (rest_at p at)) ≡ true
  stands_plain = plain_at (sort_is p at (op_in (drop at p)) refl)

  -- what names a channel is a listen
  pub stands_listening : (c : ℕ) → names c (stand_at (rest_at p at)) ≡ true → op_in (drop at p) ≡ 5
  stands_listening c e = go (eqb (op_in (drop at p)) 5) refl
    where
      go : (t : Bool) → eqb (op_in (drop at p)) 5 ≡ t → op_in (drop at p) ≡ 5
      go true q = eqb-true (op_in (drop at p)) 5 q
      go false q = clash (unnamed c (sort_is p at (op_in (drop at p)) refl) (eqb-false (op_in (drop at p)) 5 q) ∙ e)

  -- a sleep
  pub stands_sleeping : op_in (drop at p) ≡ 0 → stand_at (rest_at p at) ≡ sleeping
  stands_sleeping e = stand_op p at 0 e

  -- a send, on the channel of its second byte
  pub stands_sending : op_in (drop at p) ≡ 4 → stand_at (rest_at p at) ≡ sending (byte (drop at p) 1)
  stands_sending e = stand_op p at 4 e

-- a statement of a trial may always be finished
pub trial_may : (tick : ℕ) (r : Rattle.model.specs.Machine.Node) {bs : List ℕ} {k : ℕ} {s : Stand} → Sort bs k s → 10 ≤ k → (15 < k → k ≡ 18) → may_finish tick r s ≡ true
trial_may tick r (sleeps a e) h f = absurd (omega (arith, a, h))
trial_may tick r (works a e) h f = absurd (omega (arith, a, h))
trial_may tick r (adds a e) h f = absurd (omega (arith, a, h))
trial_may tick r (ends a e) h f = absurd (omega (arith, a, h))
trial_may tick r (sends a e) h f = absurd (omega (arith, a, h))
trial_may tick r (listens a e) h f = absurd (omega (arith, a, h))
trial_may tick r (takes a e) h f = absurd (omega (arith, a, f (omega (arith, a))))
trial_may tick r (between a b c e) h f = rw e
trial_may tick r (lost a e) h f = absurd (omega (arith, a, f (omega (arith, a))))

-- an addition that may be finished stays in range
pub addable : (p : List ℕ) (held : Counts) (r : Node) (tick : ℕ) → may_finish tick (node_of p held r) (stand_of (node_of p held r)) ≡ true → Addable (drop r.pc p) held r
addable p held r tick e =
    record { fits = λ o. sym (ap (may_finish tick (node_of p held r)) (stand_op p r.pc 2 o)) ∙ e }

-- ## Ticks

-- when a node is due, and when it is late, is no later than never
pub due_most : (r : Rattle.model.specs.Machine.Node) (x : Stand) → window_end r ≤ never → due_tick r x ≤ never
due_most r sleeping h = omega arith
due_most r (sending k) h = omega arith
due_most r (listening qs) h = h
due_most r finishing h = omega arith
due_most r (adding v z) h = omega arith
due_most r working h = omega arith
due_most r taking h = omega arith
due_most r elsewhere h = omega arith
due_most r nowhere h = omega arith

pub last_most : (r : Rattle.model.specs.Machine.Node) (next : ℕ) (x : Stand) → window_end r ≤ never → next ≤ never → last_tick r next x ≤ never
last_most r next sleeping h k = omega arith
last_most r next (sending a) h k = h
last_most r next (listening qs) h k = h
last_most r next finishing h k = h
last_most r next (adding v z) h k = h
last_most r next working h k = h
last_most r next taking h k = k
last_most r next elsewhere h k = k
last_most r next nowhere h k = k
