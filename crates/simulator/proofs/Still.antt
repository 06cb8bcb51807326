-- A node that does not move, from its op and its words. Assumes nothing.
use mathlib.Core.Path.{◌≡◌, refl, ap, ◌∙◌}
use mathlib.Core.Logic.{inl, inr, by_cases}
use mathlib.Core.Bool.{Bool, true, false, cond, ◌&&◌, not}
use mathlib.Core.List.{List}
use Prim.Native.Nat.{ℕ, ◌+◌, ◌≤◌, ◌<◌}
use native.Mathlib.Omega.{arith}
use native.Mathlib.Decide.{ℕ_discrete, dec_le}
use borrow.Author.Tests.{lt-ltb, ltb-true, leb-true, ne_eqb}
use lib.Dec.{leb, ltb}
use lib.IntN.{ℤ}
use lib.ListN.{length, get_or, drop}
use Rattle.model.specs.Lists.{is_none}
use Rattle.model.specs.Reader.{byte}
use Rattle.model.specs.Places.{list_at}
use Rattle.model.specs.Machine.{Node, pair_at}
use Rattle.model.specs.Run.{Setting, Run, Stand, listening, taking, stand_of, node_of, offset_of, own_tick, window_end, forbidden, finishes, choose1}
use Rattle.model.proofs.Basics.Bools.{clash, and_is}
use Rattle.node.specs.Views.{op_in}
use Rattle.node.proofs.Ops.{stand_op}
use Rattle.registers.specs.Words.{place_in, due_in, kept_in, part_in, wake_tick_in}
use Rattle.stand.specs.Stands.{due_tick}
use Rattle.stand.proofs.ByOp.{sort_is, undue}
use Rattle.machine.specs.Running.{setting_in, view_in, NodeStands}
use Rattle.machine.proofs.Alone.{offset_at}
use Rattle.machine.proofs.Choices.{chosen_node, asleep_node, refused_sleep, refused_alone}
use Rattle.machine.proofs.Hearing.{node_at, all_nodes}
use Rattle.simulation.specs.Simulated.{Span, waits, Trying, until_of, Stuck}
use Rattle.simulator.specs.Tries.{Holds, waits_by, EarlyAt, Placed, StillBy, StillAt, early, works, unkept}
use Rattle.simulator.proofs.Waiting.{waits_at}

module _ (program rows : List ℕ) (n H count tick c lo hi state : ℕ) (l : List ℕ) (v : List ℤ) (until : List ℕ) {y : Trying} (h : Holds program rows n count tick c state l v until y) (i : ℕ) (there : i < count) where
  abbrev g : Setting
  g = setting_in program H rows n l count

  abbrev w : Span
  w = record { lo = lo; hi = hi }

  abbrev s : Run
  s = y.state

  -- the bytes of its statement
  abbrev bytes : List ℕ
  bytes = drop (place_in l i) (part_in program l i)

  nodes : length s.nodes ≡ count
  nodes = all_nodes program l v count s h.running.nodes

  here : node_of s i ≡ view_in program l v i
  here = node_at program l v count s h.running.nodes i there

  offset_is : offset_of g i ≡ wake_tick_in l i
  offset_is = offset_at program H rows n l count i there

  -- its statement may not be finished, if it is awake
  forbids : (offset_of g i ≤ s.tick → finishes g s i (stand_of (node_of s i)) ≡ forbidden) → choose1 g s i ≡ forbidden
  forbids f =
      by_cases (dec_le (offset_of g i) s.tick)
      (λ a. chosen_node g s i (omega (arith, h.running.most)) (omega (arith, nodes)) a ∙ f a)
      (λ a. asleep_node g s i (omega (arith, h.running.most)) (omega (arith, nodes)) (omega (arith, a)))

  due_is : {x : Stand} → stand_of (view_in program l v i) ≡ x → due_in l i ≡ due_tick (view_in program l v i) x + wake_tick_in l i
  due_is e = (h.running.each i there).due ∙ ap (λ (x : Stand). due_tick (view_in program l v i) x + wake_tick_in l i) e

  early-sleep : op_in bytes ≡ 0 → (tick ≡ due_in l i → ⊥) → choose1 g s i ≡ forbidden
  early-sleep o d =
      let e = stand_op (part_in program l i) (place_in l i) 0 o in
      let t : (node_of s i).t ≡ (view_in program l v i).t = ap (λ (r : Node). r.t) here in
      forbids (λ a. ap (λ (r : Node). finishes g s i (stand_of r)) here ∙ (ap (finishes g s i) e
      ∙ refused_sleep g s i (ne_eqb (own_tick g i s.tick) (node_of s i).t (λ q. d (omega (arith, a, due_is e, offset_is, t, q, h.at))))))

  early-listen : op_in bytes ≡ 5 → (tick ≡ due_in l i → ⊥) → choose1 g s i ≡ forbidden
  early-listen o d =
      let e = stand_op (part_in program l i) (place_in l i) 5 o in
      let t : window_end (node_of s i) ≡ window_end (view_in program l v i) = ap window_end here in
      forbids (λ a. ap (λ (r : Node). finishes g s i (stand_of r)) here ∙ (ap (finishes g s i) e
      ∙ refused_alone g s i (listening (list_at pair_at 4 (byte bytes 1) (drop 4 bytes))) refl
      (ne_eqb (own_tick g i s.tick) (window_end (node_of s i)) (λ q. d (omega (arith, a, due_is e, offset_is, t, q, h.at))))))

  empty_take : op_in bytes ≡ 16 → (kept_in l i).some ≡ false → choose1 g s i ≡ forbidden
  empty_take o k =
      let e = stand_op (part_in program l i) (place_in l i) 16 o in
      let none : not (is_none (node_of s i).kept) ≡ false = ap (λ (r : Node). not (is_none r.kept)) here ∙ rw k in
      forbids (λ a. ap (λ (r : Node). finishes g s i (stand_of r)) here ∙ (ap (finishes g s i) e ∙ refused_alone g s i taking refl none))

  works-on : (leb 3 (op_in bytes) && leb (op_in bytes) 4) ≡ true → tick < get_or until i 0 → waits s.tick (until_of y i) (stand_of (node_of s i)) ≡ true
  works-on o d =
      ap (λ (r : Node). waits s.tick (until_of y i) (stand_of r)) here
      ∙ (waits_at (part_in program l i) (place_in l i) s.tick (until_of y i)
      ∙ (ap (λ (b : Bool). cond b (ltb s.tick (until_of y i)) false) o ∙ lt-ltb s.tick (until_of y i) (omega (arith, d, h.works i there, h.at))))

  pub still_stuck : StillAt program l until i tick → Stuck g w y i
  still_stuck (early (inl o) d) = inr (early-sleep o d)
  still_stuck (early (inr o) d) = inr (early-listen o d)
  still_stuck (works (inl o) d) = inl (works-on (ap (λ (k : ℕ). leb 3 k && leb k 4) o) d)
  still_stuck (works (inr o) d) = inl (works-on (ap (λ (k : ℕ). leb 3 k && leb k 4) o) d)
  still_stuck (unkept o k) = inr (empty_take o k)

-- ## As the functions have it

module _ (op : ℕ) (l until : List ℕ) (c tick : ℕ) where
  -- it works
  pub told_working : waits_by op tick (get_or until c 0) ≡ true → StillBy op l until c tick
  told_working e = go (leb 3 op && leb op 4) refl e
    where
      go : (b : Bool) → (leb 3 op && leb op 4) ≡ b → cond b (ltb tick (get_or until c 0)) false ≡ true → StillBy op l until c tick
      go true q t =
          let both = (and_is (leb 3 op) (leb op 4)).0 q in
          let low = leb-true 3 op both.0 in
          let high = leb-true op 4 both.1 in
          works (by_cases (ℕ_discrete op 3) (λ z. inl z) (λ z. inr (omega (arith, low, high, z)))) (ltb-true tick (get_or until c 0) t)
      go false q t = clash t

-- ## The tick that is noted for it

-- it is none at another statement than a sleep or a listen
pub placed : {program rows : List ℕ} {n c m : ℕ} {l : List ℕ} {v : List ℤ} → NodeStands program rows n l v c m → Placed program l c
placed {program} {c = c} {l = l} {v = v} stands =
    record {
      inside = record { inside = stands.inside; short = stands.short };
      noted =
          λ below.
          by_cases (ℕ_discrete op 0) (λ a. inl a)
          (λ a.
          by_cases (ℕ_discrete op 5) (λ b. inr b)
          (λ b. absurd (omega (arith, below, stands.due, undue (view_in program l v c) (sort_is (part_in program l c) (place_in l c) op refl) a b))));
    }
  where
    op : ℕ
    op = op_in (drop (place_in l c) (part_in program l c))

pub told_early : {program l : List ℕ} {c : ℕ} → Placed program l c → (until : List ℕ) (tick : ℕ) → EarlyAt l c tick → StillAt program l until c tick
told_early P until tick e = early (P.noted e.0) e.1
