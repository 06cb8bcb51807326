-- What a node stands at, by the op, as a simulated run asks it. Assumes nothing.
use mathlib.Core.Path.{◌≡◌, refl}
use mathlib.Core.List.{List}
use Prim.Native.Nat.{ℕ}
use native.Mathlib.Omega.{arith}
use borrow.Author.Tests.{le-leb, lt-leb, ne_eqb}
use lib.Dec.{eqb}
use lib.ListN.{drop}
use Rattle.model.specs.Run.{Stand, stand_at}
use Rattle.node.specs.Views.{rest_at, op_in}
use Rattle.stand.proofs.ByOp.{Sort, sleeps, works, adds, ends, sends, listens, takes, between, lost, sort_is}
use Rattle.simulation.specs.Simulated.{waits, is_sleep, is_listen}
use Rattle.simulator.specs.Tries.{waits_by}

waits-by : {bs : List ℕ} {k : ℕ} {s : Stand} (now until : ℕ) → Sort bs k s → waits now until s ≡ waits_by k now until
waits-by now until (sleeps a e) = rw (a, e) refl
waits-by now until (works a e) = rw (a, e) refl
waits-by now until (adds a e) = rw (a, e) refl
waits-by now until (ends a e) = rw (a, e) refl
waits-by now until (sends a e) = rw (a, e) refl
waits-by now until (listens a e) = rw (a, e) refl
waits-by now until (takes a e) = rw (a, e) refl
waits-by {k = k} now until (between a b c e) = rw (e, le-leb 3 k (omega arith), lt-leb k 4 (omega arith)) refl
waits-by now until (lost a e) = rw (a, e) refl

sleep_by : {bs : List ℕ} {k : ℕ} {s : Stand} → Sort bs k s → is_sleep s ≡ eqb k 0
sleep_by (sleeps a e) = rw (a, e) refl
sleep_by (works a e) = rw (a, e) refl
sleep_by (adds a e) = rw (a, e) refl
sleep_by (ends a e) = rw (a, e) refl
sleep_by (sends a e) = rw (a, e) refl
sleep_by (listens a e) = rw (a, e) refl
sleep_by (takes a e) = rw (a, e) refl
sleep_by {k = k} (between a b c e) = rw (e, ne_eqb k 0 (λ z. omega arith)) refl
sleep_by (lost a e) = rw (a, e) refl

listen_by : {bs : List ℕ} {k : ℕ} {s : Stand} → Sort bs k s → is_listen s ≡ eqb k 5
listen_by (sleeps a e) = rw (a, e) refl
listen_by (works a e) = rw (a, e) refl
listen_by (adds a e) = rw (a, e) refl
listen_by (ends a e) = rw (a, e) refl
listen_by (sends a e) = rw (a, e) refl
listen_by (listens a e) = rw (a, e) refl
listen_by (takes a e) = rw (a, e) refl
listen_by {k = k} (between a b c e) = rw (e, ne_eqb k 5 (λ z. omega arith)) refl
listen_by (lost a e) = rw (a, e) refl

module _ (p : List ℕ) (at : ℕ) where
  -- it waits at a done or a send
  pub waits_at : (now until : ℕ) → waits now until (stand_at (rest_at p at)) ≡ waits_by (op_in (drop at p)) now until
  waits_at now until = waits-by now until (sort_is p at (op_in (drop at p)) refl)

  pub sleep_at : is_sleep (stand_at (rest_at p at)) ≡ eqb (op_in (drop at p)) 0
  sleep_at = sleep_by (sort_is p at (op_in (drop at p)) refl)

  pub listen_at : is_listen (stand_at (rest_at p at)) ≡ eqb (op_in (drop at p)) 5
  listen_at = listen_by (sort_is p at (op_in (drop at p)) refl)
