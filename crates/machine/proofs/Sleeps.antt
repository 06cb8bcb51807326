-- A node that finishes its statement has finished one sleep more exactly if it stood at a sleep. Assumes nothing.
use mathlib.Core.Path.{◌≡◌, refl, ap, ◌∙◌}
use mathlib.Core.Bool.{cond}
use mathlib.Core.List.{List, []}
use mathlib.Core.Option.{Option, none, some}
use Prim.Native.Nat.{ℕ, zero, suc, ◌+◌}
use native.Mathlib.Omega.{arith}
use lib.ListN.{drop, get_or}
use Rattle.model.specs.Lists.{All, empty, more}
use Rattle.model.specs.Program.{Statement}
use Rattle.model.specs.Machine.{Node, decodings, statement_at, statement_length, ends_block, followed, to, finish}
use Rattle.model.specs.Run.{takes_message}
use Rattle.model.proofs.Node.Facts.{sleeps_after, exec_sleeps}
use Rattle.node.specs.declared.Counts.{Counts}
use Rattle.node.specs.Views.{rest_at, op_in, node_of}
use Rattle.node.proofs.Rest.{rest_is}
use Rattle.node.proofs.Ops.{statement_is}

-- how many sleeps are finished after a statement, if there is one
abbrev after : Option Statement → ℕ → ℕ
after none n = n
after (some s) n = sleeps_after s n

first_finished : (p : List ℕ) (r : Node) (m : Option Statement) (ss : List Statement) → (finish p r (followed m ss)).sleeps ≡ after m r.sleeps
first_finished p r none ss = refl
first_finished p r (some s) ss = exec_sleeps p (to r ss) s

-- what holds of each, and where there is none
each_at : {A : Type 0} (P : A → Type 0) (d : A) {xs : List A} → P d → All P xs → (i : ℕ) → P (get_or xs i d)
each_at P d e empty i = e
each_at P d e (more p a) zero = p
each_at P d e (more p a) (suc i) = each_at P d e a i

-- no op but 0 is a sleep
awake : (bs : List ℕ) (n k : ℕ) → (k ≡ 0 → ⊥) → after (get_or (decodings bs) k none) n ≡ n
awake bs n zero d = absurd (d refl)
awake bs n (suc k) d = each_at (λ m. after m n ≡ n) none refl rest k
  where
    rest : All (λ m. after m n ≡ n) (drop 1 (decodings bs))
    rest =
        more refl (more refl (more refl (more refl (more refl (more refl (more refl (more refl (more refl (more refl (more refl (more refl (more refl (more refl (more refl (more refl (more refl (more refl empty)))))))))))))))))

at_op : (p : List ℕ) (r : Node) (at : ℕ) → (finish p r (rest_at p at)).sleeps ≡ after (get_or (decodings (drop at p)) (op_in (drop at p)) none) r.sleeps
at_op p r at =
    let bs = drop at p in
    ap (λ (ss : List Statement). (finish p r ss).sleeps) (rest_is p at)
    ∙ first_finished p r (statement_at bs) (cond (ends_block bs) [] (rest_at p (at + statement_length bs)))
    ∙ ap (λ (m : Option Statement). after m r.sleeps) (statement_is bs)

module _ (p : List ℕ) (held : Counts) (r q : Rattle.node.specs.declared.Node.Node) where
  -- a sleep is finished
  pub sleep_finished : node_of p held q ≡ finish p (node_of p held r) (rest_at p r.pc) → op_in (drop r.pc p) ≡ 0 → q.sleeps ≡ suc r.sleeps
  sleep_finished e o =
      ap (λ (x : Node). x.sleeps) e ∙ at_op p (node_of p held r) r.pc
      ∙ ap (λ (k : ℕ). after (get_or (decodings (drop r.pc p)) k none) r.sleeps) o

  -- another statement is finished
  pub work_finished : node_of p held q ≡ finish p (node_of p held r) (rest_at p r.pc) → (op_in (drop r.pc p) ≡ 0 → ⊥) → q.sleeps ≡ r.sleeps
  work_finished e o =
      ap (λ (x : Node). x.sleeps) e ∙ at_op p (node_of p held r) r.pc ∙ awake (drop r.pc p) r.sleeps (op_in (drop r.pc p)) o

  -- a message is taken
  pub message_taken : (k : ℕ) → node_of p held q ≡ takes_message p k (node_of p held r) → op_in (drop r.pc p) ≡ 5 → q.sleeps ≡ r.sleeps
  message_taken k e o =
      ap (λ (x : Node). x.sleeps) e ∙ at_op p (node_of p held r) r.pc
      ∙ awake (drop r.pc p) r.sleeps (op_in (drop r.pc p)) (λ z. omega arith)
