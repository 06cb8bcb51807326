-- What a node stands at, by the op at its place, and what the code asks of it there. Assumes nothing.
use mathlib.Core.Path.{◌≡◌, refl, sym, ap, subst, ◌∙◌}
use mathlib.Core.Bool.{Bool, true, false, cond, not}
use mathlib.Core.List.{List}
use mathlib.Core.Option.{none, some}
use Prim.Native.Nat.{ℕ, zero, suc, ◌+◌, ◌≤◌, ◌<◌}
use native.Mathlib.Omega.{arith}
use borrow.Author.Tests.{eqb-true, eqb-false, ne_eqb}
use lib.Dec.{eqb}
use lib.ListN.{length, drop, get_or, length-drop}
use lib.Seq.{get_or-drop, drop-drop}
use Rattle.model.specs.Lists.{is_none}
use Rattle.model.specs.Reader.{byte, word, complement}
use Rattle.model.specs.Places.{list_at}
use Rattle.model.specs.Window.{Pick}
use Rattle.model.specs.Machine.{Node, decodings, pair_at}
use Rattle.model.specs.Run.{Stand, sleeping, sending, listening, finishing, adding, working, taking, elsewhere, nowhere, names, stand_at, window_end}
use Rattle.model.proofs.Basics.Bools.{clash}
use Rattle.node.specs.declared.Kept.{Kept}
use Rattle.node.specs.Views.{rest_at, op_in, kept_of}
use Rattle.node.proofs.Ops.{Op, absent, present, op_is, opens, stood, stand_any, stand_op}
use Rattle.stand.specs.Stands.{may_finish, never, due_tick, last_tick}

-- ## The case split

-- op k at the front of the bytes, and what a node stands at there
pub data Sort (bs : List ℕ) (k : ℕ) (s : Stand) : Type 0 where
  sleeps : k ≡ 0 → s ≡ sleeping → Sort bs k s
  works : k ≡ 1 → s ≡ working → Sort bs k s
  adds : k ≡ 2 → s ≡ adding (byte bs 1) (complement (word bs 2)) → Sort bs k s
  ends : k ≡ 3 → s ≡ finishing → Sort bs k s
  sends : k ≡ 4 → s ≡ sending (byte bs 1) → Sort bs k s
  listens : k ≡ 5 → s ≡ listening (list_at pair_at 4 (byte bs 1) (drop 4 bs)) → Sort bs k s
  takes : k ≡ 16 → s ≡ taking → Sort bs k s
  between : 6 < k → k < 19 → (k ≡ 16 → ⊥) → s ≡ elsewhere → Sort bs k s
  lost : k ≡ 255 → s ≡ nowhere → Sort bs k s

-- an op from 7 on, by its distance from 7
abbrev later : ℕ → ℕ
later k = suc (suc (suc (suc (suc (suc (suc k))))))

known_later : (bs : List ℕ) (k : ℕ) → k < 12 → Sort bs (later k) (stood (get_or (decodings bs) (later k) none))
known_later bs zero l = between (omega arith) (omega arith) (λ e. omega arith) refl
known_later bs (suc zero) l = between (omega arith) (omega arith) (λ e. omega arith) refl
known_later bs (suc (suc zero)) l = between (omega arith) (omega arith) (λ e. omega arith) refl
known_later bs (suc (suc (suc zero))) l = between (omega arith) (omega arith) (λ e. omega arith) refl
known_later bs (suc (suc (suc (suc zero)))) l = between (omega arith) (omega arith) (λ e. omega arith) refl
known_later bs (suc (suc (suc (suc (suc zero))))) l = between (omega arith) (omega arith) (λ e. omega arith) refl
known_later bs (suc (suc (suc (suc (suc (suc zero)))))) l = between (omega arith) (omega arith) (λ e. omega arith) refl
known_later bs (suc (suc (suc (suc (suc (suc (suc zero))))))) l = between (omega arith) (omega arith) (λ e. omega arith) refl
known_later bs (suc (suc (suc (suc (suc (suc (suc (suc zero)))))))) l = between (omega arith) (omega arith) (λ e. omega arith) refl
known_later bs (suc (suc (suc (suc (suc (suc (suc (suc (suc zero))))))))) l = takes refl refl
known_later bs (suc (suc (suc (suc (suc (suc (suc (suc (suc (suc zero)))))))))) l = between (omega arith) (omega arith) (λ e. omega arith) refl
known_later bs (suc (suc (suc (suc (suc (suc (suc (suc (suc (suc (suc zero))))))))))) l = between (omega arith) (omega arith) (λ e. omega arith) refl
known_later bs (suc (suc (suc (suc (suc (suc (suc (suc (suc (suc (suc (suc k)))))))))))) l = absurd (omega arith)

-- an op below 19 that is no pair
known : (bs : List ℕ) (k : ℕ) → k < 19 → (k ≡ 6 → ⊥) → Sort bs k (stood (get_or (decodings bs) k none))
known bs zero l n = sleeps refl refl
known bs (suc zero) l n = works refl refl
known bs (suc (suc zero)) l n = adds refl refl
known bs (suc (suc (suc zero))) l n = ends refl refl
known bs (suc (suc (suc (suc zero)))) l n = sends refl refl
known bs (suc (suc (suc (suc (suc zero))))) l n = listens refl refl
known bs (suc (suc (suc (suc (suc (suc zero)))))) l n = absurd (n refl)
known bs (suc (suc (suc (suc (suc (suc (suc k))))))) l n = known_later bs k (omega arith)

sorted : (bs : List ℕ) → Sort bs (op_in bs) (stood (get_or (decodings bs) (op_in bs) none))
sorted bs = go (op_is bs)
  where
    go : Op bs → Sort bs (op_in bs) (stood (get_or (decodings bs) (op_in bs) none))
    go (absent a s) = lost a (ap (λ (n : ℕ). stood (get_or (decodings bs) n none)) a)
    go (present o f) = subst (λ (n : ℕ). Sort bs n (stood (get_or (decodings bs) n none))) (sym f) (known bs (byte bs 0) o.low o.pairless)

-- of any place
pub sort_is : (p : List ℕ) (at k : ℕ) → k ≡ op_in (drop at p) → Sort (drop at p) k (stand_at (rest_at p at))
sort_is p at k e = rw (e, stand_any p at) (sorted (drop at p))

-- ## What the code asks, by the case

module _ {bs : List ℕ} {op : ℕ} {s : Stand} where
  -- at no listen, no channel is named
  pub unnamed : (k : ℕ) → Sort bs op s → (op ≡ 5 → ⊥) → false ≡ names k s
  unnamed k (sleeps a e) n = rw e
  unnamed k (works a e) n = rw e
  unnamed k (adds a e) n = rw e
  unnamed k (ends a e) n = rw e
  unnamed k (sends a e) n = rw e
  unnamed k (listens a e) n = absurd (n a)
  unnamed k (takes a e) n = rw e
  unnamed k (between a b c e) n = rw e
  unnamed k (lost a e) n = rw e

  -- a channel is named at a listen alone
  pub named : (k : ℕ) → Sort bs op s → names k s ≡ true → op ≡ 5
  named k o n = go (eqb op 5) refl
    where
      go : (t : Bool) → eqb op 5 ≡ t → op ≡ 5
      go true e = eqb-true op 5 e
      go false e = clash (unnamed k o (eqb-false op 5 e) ∙ n)

  -- at neither a sleep nor a listen, no tick is due
  pub undue : (r : Node) → Sort bs op s → (op ≡ 0 → ⊥) → (op ≡ 5 → ⊥) → never ≡ due_tick r s
  undue r (sleeps a e) n m = absurd (n a)
  undue r (works a e) n m = rw e
  undue r (adds a e) n m = rw e
  undue r (ends a e) n m = rw e
  undue r (sends a e) n m = rw e
  undue r (listens a e) n m = absurd (m a)
  undue r (takes a e) n m = rw e
  undue r (between a b c e) n m = rw e
  undue r (lost a e) n m = rw e

  -- at work, the window's end is the last tick
  pub by_window : (r : Node) (next : ℕ) → Sort bs op s → (op ≡ 0 → ⊥) → op < 6 → window_end r ≡ last_tick r next s
  by_window r next (sleeps a e) n l = absurd (n a)
  by_window r next (works a e) n l = rw e
  by_window r next (adds a e) n l = rw e
  by_window r next (ends a e) n l = rw e
  by_window r next (sends a e) n l = rw e
  by_window r next (listens a e) n l = rw e
  by_window r next (takes a e) n l = absurd (omega arith)
  by_window r next (between a b c e) n l = absurd (omega arith)
  by_window r next (lost a e) n l = absurd (omega arith)

  -- between work and sleep, the next passage's ready
  pub by_ready : (r : Node) (next : ℕ) → Sort bs op s → 6 ≤ op → next ≡ last_tick r next s
  by_ready r next (sleeps a e) l = absurd (omega arith)
  by_ready r next (works a e) l = absurd (omega arith)
  by_ready r next (adds a e) l = absurd (omega arith)
  by_ready r next (ends a e) l = absurd (omega arith)
  by_ready r next (sends a e) l = absurd (omega arith)
  by_ready r next (listens a e) l = absurd (omega arith)
  by_ready r next (takes a e) l = rw e
  by_ready r next (between a b c e) l = rw e
  by_ready r next (lost a e) l = rw e

  -- what needs neither a tick nor another node nor a register may be finished if it is there
  pub unbound : (tick : ℕ) (r : Node) → Sort bs op s → (op ≡ 0 → ⊥) → (op ≡ 5 → ⊥) → (op ≡ 2 → ⊥) → (op ≡ 16 → ⊥) → (op ≡ 4 → ⊥)
      → not (eqb op 255) ≡ may_finish tick r s
  unbound tick r (sleeps a e) n m i j k = absurd (n a)
  unbound tick r (works a e) n m i j k = rw (a, e)
  unbound tick r (adds a e) n m i j k = absurd (i a)
  unbound tick r (ends a e) n m i j k = rw (a, e)
  unbound tick r (sends a e) n m i j k = absurd (k a)
  unbound tick r (listens a e) n m i j k = absurd (m a)
  unbound tick r (takes a e) n m i j k = absurd (j a)
  unbound tick r (between a b c e) n m i j k = rw (ne_eqb op 255 (λ h. omega arith), e)
  unbound tick r (lost a e) n m i j k = rw (a, e)

-- ## The statements that are tested one by one

-- whether an edge is kept
pub kept_some : (k : Kept) → k.some ≡ not (is_none (kept_of k))
kept_some k = go k.some
  where
    go : (t : Bool) → t ≡ not (is_none {A = Pick} (cond t (some (record { edge = k.edge; ready = k.ready; end = k.end })) none))
    go true = refl
    go false = refl

module _ (p : List ℕ) (at : ℕ) {op : ℕ} (e : op ≡ op_in (drop at p)) where
  -- the op that the code found
  pub stand-at : (k : ℕ) → op ≡ k → stand_at (rest_at p at) ≡ stood (get_or (decodings (drop at p)) k none)
  stand-at k h = stand_op p at k (sym e ∙ h)

  -- a statement of four bytes stands there
  pub stands_whole : (k : ℕ) → op ≡ k → k < 19 → at + 4 ≤ length p
  stands_whole k h l =
      let o = opens (drop at p) k (sym e ∙ h) (λ q. omega arith) in
      omega (arith, simp length-drop at o.fits)

  -- at a listen, the pairs behind it
  pub listens_at : op ≡ 5 → stand_at (rest_at p at) ≡ listening (list_at pair_at 4 (byte p (at + 1)) (drop (at + 4) p))
  listens_at h = stand-at 5 h ∙ ap listening (rw (get_or-drop at p 1 0, drop-drop 4 at p))
