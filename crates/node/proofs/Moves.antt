-- The registers after the statement at the program counter: on to the next statement, to the edge's block, or to the location's. Assumes nothing.
use mathlib.Core.Path.{◌≡◌, refl, ap, ◌∙◌}
use mathlib.Core.Bool.{Bool, true, false}
use borrow.Author.Tests.{ltb-true, ltb-false}
use lib.Dec.{ltb}
use mathlib.Core.List.{List, [], ◌∷◌}
use mathlib.Core.Option.{Option, none, some}
use Prim.Native.Nat.{ℕ, zero, suc, ◌+◌, ◌-◌, ◌≤◌, ◌<◌}
use native.Mathlib.Omega.{arith}
use lib.ListN.{length, drop, get_or, length-drop}
use Rattle.model.specs.Reader.{byte}
use Rattle.model.specs.Program.{Statement, take_edge, choose}
use Rattle.model.specs.Machine.{decodings, statement_at, statement_length, block_place, exec, finish}
use Rattle.node.specs.declared.Counts.{Counts}
use Rattle.node.specs.declared.Node.{Node}
use Rattle.node.specs.After.{moved, passing}
use Rattle.node.specs.Views.{rest_at, node_of, op_in, Within, Grown, Executed}
use Rattle.node.proofs.Rest.{rest_past, rest_block}
use Rattle.node.proofs.Ops.{Opens, opens, statement_op, rest_none, rest_some, rest_on}
use Rattle.node.proofs.Held.{raise}

-- an op that is known stands inside the part
pub inside : (p : List ℕ) (at k : ℕ) → Opens (drop at p) k → at + 4 ≤ length p
inside p at k o = omega (arith, o.fits, length-drop at p)

-- an op that does not end its block is 15 at most, or 18
pub below_ends : (bs : List ℕ) (k : ℕ) → Opens bs k → (k ≡ 16 → ⊥) → (k ≡ 17 → ⊥) → 15 < byte bs 0 → byte bs 0 ≡ 18
below_ends bs k o a b h = omega (arith, o.first, o.low)

-- one that is neither keep nor budget is 14 at most
pub below_keep : (k : ℕ) → (15 < k → k ≡ 18) → (k ≡ 15 → ⊥) → (k ≡ 18 → ⊥) → k ≤ 14
below_keep k f a b = go (ltb 15 k) refl
  where
    go : (t : Bool) → ltb 15 k ≡ t → k ≤ 14
    go true e = absurd (b (f (ltb-true 15 k e)))
    go false e = omega (arith, ltb-false 15 k e)

-- the list of decodings has a statement for each op but 6
data Filled : ℕ → List (Option Statement) → Type 0 where
  over : {i : ℕ} → Filled i []
  next : {i : ℕ} {s : Statement} {l : List (Option Statement)} → Filled (suc i) l → Filled i (some s ∷ l)
  gap : {l : List (Option Statement)} → Filled 7 l → Filled 6 (none ∷ l)

filled : {i : ℕ} {l : List (Option Statement)} → Filled i l → (k : ℕ) → k < length l → (i + k ≡ 6 → ⊥) → (s : Statement) × (get_or l k none ≡ some s)
filled over k h n = absurd (omega arith)
filled (next {s = s} f) zero h n = (s, refl)
filled (next f) (suc k) h n = filled f k (omega arith) (λ e. n (omega arith))
filled (gap f) zero h n = absurd (n (omega arith))
filled (gap f) (suc k) h n = filled f k (omega arith) (λ e. n (omega arith))

pub known : (bs : List ℕ) (k : ℕ) → op_in bs ≡ k → (k ≡ 255 → ⊥) → (s : Statement) × (statement_at bs ≡ some s)
known bs k o n =
    let w = opens bs k o n in
    let twelve : Filled 7 (drop 7 (decodings bs)) = next (next (next (next (next (next (next (next (next (next (next (next over))))))))))) in
    let all : Filled 0 (decodings bs) = next (next (next (next (next (next (gap twelve)))))) in
    let (s, e) = filled all k w.low (λ q. w.pairless (omega arith)) in
    (s, statement_op bs k o ∙ e)

module _ (p : List ℕ) (held : Counts) (r : Node) where
  -- no statement
  pub finish_none : op_in (drop r.pc p) ≡ 255 → node_of p held r ≡ finish p (node_of p held r) (rest_at p r.pc)
  finish_none o = rw (rest_none p r.pc (statement_op (drop r.pc p) 255 o))

  -- on to the next statement; h are the bytes from the program counter on
  module _ (h : List ℕ) (there : h ≡ drop r.pc p) (k : ℕ) (o : op_in (drop r.pc p) ≡ k) (low : k < 19) (not_take : k ≡ 16 → ⊥) (not_choose : k ≡ 17 → ⊥) (long : ℕ) (e : long ≡ statement_length h) where
    pub finish_on : (q : Node) → Executed h held (moved r (r.pc + long)) q → node_of p held q ≡ finish p (node_of p held r) (rest_at p r.pc)
    finish_on q f =
        let (s, g) = known (drop r.pc p) k o (λ z. omega arith) in
        let n : long ≡ statement_length (drop r.pc p) = e ∙ ap statement_length there in
        f p s (ap statement_at there ∙ g) ∙ rw (rest_on p r.pc k o low not_take not_choose g, n)

  -- take and choose end their block
  pub rest_take : op_in (drop r.pc p) ≡ 16 → rest_at p r.pc ≡ take_edge ∷ []
  rest_take o =
      let bs = drop r.pc p in
      let f = (opens bs 16 o (λ q. omega arith)).first in
      rest_some p r.pc (statement_op bs 16 o) ∙ rw f

  pub rest_choose : op_in (drop r.pc p) ≡ 17 → rest_at p r.pc ≡ choose ∷ []
  rest_choose o =
      let bs = drop r.pc p in
      let f = (opens bs 17 o (λ q. omega arith)).first in
      rest_some p r.pc (statement_op bs 17 o) ∙ rw f

  -- with nothing kept a take leaves no statement
  pub take_none : op_in (drop r.pc p) ≡ 16 → r.kept.some ≡ false → node_of p held (moved r (length p)) ≡ finish p (node_of p held r) (rest_at p r.pc)
  unfolding exec
  take_none o k = rw (rest_take o, k, rest_past p (length p) (omega arith))

  -- else it goes to the edge's block
  module _ (pc t d : ℕ) where
    pub take_some : op_in (drop r.pc p) ≡ 16 → r.kept.some ≡ true → pc ≡ block_place p (byte p 2 + r.kept.edge) → t ≡ r.t + r.d + r.kept.ready
        → d ≡ r.kept.end - r.kept.ready → node_of p held (passing r pc t d) ≡ finish p (node_of p held r) (rest_at p r.pc)
    unfolding exec
    take_some o k e f g = rw (rest_take o, k, e, f, g, rest_block p (byte p 2 + r.kept.edge))

  pub choose_goes : (pc : ℕ) → op_in (drop r.pc p) ≡ 17 → pc ≡ block_place p r.location → node_of p held (moved r pc) ≡ finish p (node_of p held r) (rest_at p r.pc)
  unfolding exec
  choose_goes pc o e = rw (rest_choose o, e, rest_block p r.location)

-- the program counter bounds nothing
pub moved_within : (m pc : ℕ) (r : Node) → Within m r → Within m (moved r pc)
moved_within m pc r w = record { t = w.t; clocks = w.clocks; sleeps = w.sleeps }

pub moved_grown : (pc : ℕ) (r q : Node) → Grown (moved r pc) q → Grown r q
moved_grown pc r q g m w = g m (moved_within m pc r w)

-- a take moves t by the old d and the new ready delay
pub take_grown : (r q : Node) → r.d ≤ 65535 → r.kept.ready ≤ 65535 → q.t ≡ r.t + r.d + r.kept.ready → q.clocks ≡ r.clocks → q.sleeps ≡ r.sleeps
    → Grown r q
take_grown r q d k t x s m w =
    record { t = omega (arith, w.t); clocks = rw x (raise m (m + 131070) (omega arith) w.clocks); sleeps = omega (arith, w.sleeps) }
