-- The registers after a statement, in the words of the definitions, and how far those that grow have grown. Assumes nothing.
use mathlib.Core.Path.{◌≡◌, refl, sym, ap, subst, ◌∙◌}
use mathlib.Core.Bool.{Bool, true, false, cond}
use mathlib.Core.Logic.{◌⊎◌, inl, inr}
use mathlib.Core.List.{List}
use Prim.Native.Nat.{ℕ, zero, suc, ◌+◌, ◌-◌, ◌≤◌, ◌<◌}
use native.Mathlib.Omega.{arith}
use native.Mathlib.Decide.{ℕ_discrete}
use borrow.Author.Tests.{eq-eqb, ne_eqb, lt-ltb, le-ltb, ltb-true, ltb-false}
use lib.Dec.{ltb}
use lib.IntN.{ℤ, pos, ◌+ℤ◌}
use lib.Signed.{le_z}
use lib.ListN.{length, take, drop, get_or, set}
use Rattle.model.specs.Reader.{byte, word, complement}
use Rattle.model.specs.Window.{clock_at, value_at}
use Rattle.model.specs.Machine.{statement_length, block_place, finish}
use Rattle.node.specs.declared.Counts.{Counts}
use Rattle.node.specs.declared.Trial.{Trial}
use Rattle.node.specs.declared.Kept.{Kept}
use Rattle.node.specs.declared.Node.{Node}
use Rattle.node.specs.Views.{rest_at, node_of, op_in, Executed, Tried, Grown}
use Rattle.node.specs.After.{new_trial, raised_to, lowered_to, met_by, spans_by, kept_by, clocked, valued, entered, trying, keeping, sleeping, moved, passing, clock_tried, value_tried, clock_set, value_set, effects, effect, edge_taken, block_chosen, onward, after}
use Rattle.node.proofs.Ops.{Op, absent, present, Opens, op_is}
use Rattle.node.proofs.Held.{still, sleep_grown, clock_grown}
use Rattle.node.proofs.Trials.{spanned_is, lowered_is, kept_is}
use Rattle.node.proofs.Steps.{trial_budget, from, slept, idle, values_past, value_set_is, value_added, clocks_past, clock_ages, clock_zero, enters_paired, enters, trial_new, trial_low, trial_high, trial_data_low, trial_data_high, trial_kept}
use Rattle.node.proofs.Moves.{finish_none, finish_on, take_some, take_grown, choose_goes, moved_grown}

-- the op k places behind 0A
abbrev ten : ℕ → ℕ
ten k = suc (suc (suc (suc (suc (suc (suc (suc (suc (suc k)))))))))

-- ## A statement that leads to no other place

module _ (h : List ℕ) (held : Counts) (r : Node) where
  -- the op that is known says what it does
  pub effect_at : (k : ℕ) → byte h 0 ≡ k → effect h held r ≡ get_or (effects h held r) k r
  effect_at k e = ap (λ (n : ℕ). get_or (effects h held r) n r) e

  -- a clock or variable that the node has, or one that it does not have
  pub clock_there : (x : ℕ) → byte h 1 < held.clocks → clock_set h held r x ≡ clocked r (set r.clocks (byte h 1) x)
  clock_there x l = rw (lt-ltb (byte h 1) held.clocks l)

  pub clock_past : (x : ℕ) → held.clocks ≤ byte h 1 → clock_set h held r x ≡ r
  clock_past x l = rw (le-ltb (byte h 1) held.clocks l)

  pub value_there : (x : ℤ) → byte h 1 < held.variables → value_set h held r x ≡ valued r (set r.values (byte h 1) x)
  value_there x l = rw (lt-ltb (byte h 1) held.variables l)

  pub value_past : (x : ℤ) → held.variables ≤ byte h 1 → value_set h held r x ≡ r
  value_past x l = rw (le-ltb (byte h 1) held.variables l)

  -- ## By the tests of the code

  pub sleep_is : byte h 0 ≡ 0 → sleeping r ≡ effect h held r
  sleep_is e = sym (effect_at 0 e)

  pub idle_is : 3 ≤ byte h 0 → byte h 0 ≤ 6 → r ≡ effect h held r
  idle_is a b = three (from 3 (byte h 0) a)
    where
      five : (byte h 0 ≡ 5) ⊎ (6 ≤ byte h 0) → r ≡ effect h held r
      five (inl e) = sym (effect_at 5 e)
      five (inr l) = sym (effect_at 6 (omega arith))

      four : (byte h 0 ≡ 4) ⊎ (5 ≤ byte h 0) → r ≡ effect h held r
      four (inl e) = sym (effect_at 4 e)
      four (inr l) = five (from 5 (byte h 0) l)

      three : (byte h 0 ≡ 3) ⊎ (4 ≤ byte h 0) → r ≡ effect h held r
      three (inl e) = sym (effect_at 3 e)
      three (inr l) = four (from 4 (byte h 0) l)

  pub no_value_is : 1 ≤ byte h 0 → byte h 0 ≤ 2 → held.variables ≤ byte h 1 → r ≡ effect h held r
  no_value_is a b l = one (from 1 (byte h 0) a)
    where
      one : (byte h 0 ≡ 1) ⊎ (2 ≤ byte h 0) → r ≡ effect h held r
      one (inl e) = sym (effect_at 1 e ∙ value_past (complement (word h 2)) l)
      one (inr c) = sym (effect_at 2 (omega arith) ∙ value_past (get_or r.values (byte h 1) (pos 0) +ℤ complement (word h 2)) l)

  pub set_is : (l : List ℤ) → byte h 1 < held.variables → byte h 0 ≡ 1 → l ≡ set r.values (byte h 1) (complement (word h 2)) → valued r l ≡ effect h held r
  set_is l there e k = ap (valued r) k ∙ sym (effect_at 1 e ∙ value_there (complement (word h 2)) there)

  pub added_is : (l : List ℤ) → byte h 1 < held.variables → byte h 0 ≡ 2 → l ≡ set r.values (byte h 1) (get_or r.values (byte h 1) (pos 0) +ℤ complement (word h 2))
      → valued r l ≡ effect h held r
  added_is l there e k = ap (valued r) k ∙ sym (effect_at 2 e ∙ value_there (get_or r.values (byte h 1) (pos 0) +ℤ complement (word h 2)) there)

  pub no_clock_is : 7 ≤ byte h 0 → byte h 0 ≤ 8 → held.clocks ≤ byte h 1 → r ≡ effect h held r
  no_clock_is a b l = seven (from 7 (byte h 0) a)
    where
      seven : (byte h 0 ≡ 7) ⊎ (8 ≤ byte h 0) → r ≡ effect h held r
      seven (inl e) = sym (effect_at 7 e ∙ clock_past (get_or r.clocks (byte h 1) 0 + (r.n + r.d)) l)
      seven (inr c) = sym (effect_at 8 (omega arith) ∙ clock_past 0 l)

  pub aged_is : (l : List ℕ) → byte h 1 < held.clocks → byte h 0 ≡ 7 → l ≡ set r.clocks (byte h 1) (get_or r.clocks (byte h 1) 0 + (r.n + r.d)) → clocked r l ≡ effect h held r
  aged_is l there e k = ap (clocked r) k ∙ sym (effect_at 7 e ∙ clock_there (get_or r.clocks (byte h 1) 0 + (r.n + r.d)) there)

  pub zero_is : (l : List ℕ) → byte h 1 < held.clocks → byte h 0 ≡ 8 → l ≡ set r.clocks (byte h 1) 0 → clocked r l ≡ effect h held r
  zero_is l there e k = ap (clocked r) k ∙ sym (effect_at 8 e ∙ clock_there 0 there)

  pub enter_is : (t : Bool) → byte h 0 ≡ 9 → r.taken ≡ t → entered r (cond t r.goes (byte h 3)) ≡ effect h held r
  enter_is t e f = sym (effect_at 9 e ∙ ap (λ (b : Bool). entered r (cond b r.goes (byte h 3))) f)

  pub trial_is : (x : Trial) → byte h 0 ≡ 10 → x ≡ new_trial → trying r x ≡ effect h held r
  trial_is x e f = ap (trying r) f ∙ sym (effect_at 10 e)

  pub clock_tried_is : (x : Trial) (k : ℕ) → 11 ≤ byte h 0 → byte h 0 ≤ 12 → x ≡ clock_tried h r.tried k → k ≡ clock_at (take held.clocks r.clocks) (byte h 1)
      → trying r x ≡ effect h held r
  clock_tried_is x k a b f g = eleven (from 11 (byte h 0) a)
    where
      eleven : (byte h 0 ≡ 11) ⊎ (12 ≤ byte h 0) → trying r x ≡ effect h held r
      eleven (inl e) = ap (trying r) (f ∙ rw (eq-eqb (byte h 0) 11 e, g)) ∙ sym (effect_at 11 e)
      eleven (inr l) = ap (trying r) (f ∙ rw (ne_eqb (byte h 0) 11 (λ e. omega arith), g)) ∙ sym (effect_at 12 (omega arith))

  pub value_tried_is : (x : Trial) (z : ℤ) → 13 ≤ byte h 0 → byte h 0 ≤ 14 → x ≡ value_tried h r.tried z → z ≡ value_at (take held.variables r.values) (byte h 1)
      → trying r x ≡ effect h held r
  value_tried_is x z a b f g = thirteen (from 13 (byte h 0) a)
    where
      thirteen : (byte h 0 ≡ 13) ⊎ (14 ≤ byte h 0) → trying r x ≡ effect h held r
      thirteen (inl e) = ap (trying r) (f ∙ rw (eq-eqb (byte h 0) 13 e, g)) ∙ sym (effect_at 13 e)
      thirteen (inr l) = ap (trying r) (f ∙ rw (ne_eqb (byte h 0) 13 (λ e. omega arith), g)) ∙ sym (effect_at 14 (omega arith))

  pub budget_is : (x : Trial) → byte h 0 ≡ 18 → x ≡ met_by r.tried (spans_by r.tried (word h 2)) → trying r x ≡ effect h held r
  budget_is x e f = ap (trying r) f ∙ sym (effect_at 18 e)

  pub keep_is : (k : Kept) → byte h 0 ≡ 15 → k ≡ kept_by r.tried (byte h 3) r.kept → keeping r k ≡ effect h held r
  keep_is k e f = ap (keeping r) f ∙ sym (effect_at 15 e)

  -- ## In the words of the definitions

  module _ (fits : 4 ≤ length h) where
    abbrev clock : ℕ
    clock = clock_at (take held.clocks r.clocks) (byte h 1)

    abbrev value : ℤ
    value = value_at (take held.variables r.values) (byte h 1)

    by_variable : (x : ℤ) → 1 ≤ byte h 0 → byte h 0 ≤ 2 → (byte h 1 < held.variables → Executed h held r (valued r (set r.values (byte h 1) x)))
        → Executed h held r (value_set h held r x)
    by_variable x a b f = go (ltb (byte h 1) held.variables) refl
      where
        go : (t : Bool) → ltb (byte h 1) held.variables ≡ t → Executed h held r (cond t (valued r (set r.values (byte h 1) x)) r)
        go true e = f (ltb-true (byte h 1) held.variables e)
        go false e = values_past h held r fits a b (ltb-false (byte h 1) held.variables e)

    by_clock : (x : ℕ) → 7 ≤ byte h 0 → byte h 0 ≤ 8 → (byte h 1 < held.clocks → Executed h held r (clocked r (set r.clocks (byte h 1) x)))
        → Executed h held r (clock_set h held r x)
    by_clock x a b f = go (ltb (byte h 1) held.clocks) refl
      where
        go : (t : Bool) → ltb (byte h 1) held.clocks ≡ t → Executed h held r (cond t (clocked r (set r.clocks (byte h 1) x)) r)
        go true e = f (ltb-true (byte h 1) held.clocks e)
        go false e = clocks_past h held r fits a b (ltb-false (byte h 1) held.clocks e)

    by_message : byte h 0 ≡ 9 → Executed h held r (entered r (cond r.taken r.goes (byte h 3)))
    by_message e = go r.taken refl
      where
        go : (t : Bool) → r.taken ≡ t → Executed h held r (entered r (cond t r.goes (byte h 3)))
        go true f = enters_paired h held r fits e f
        go false f = enters h held r fits e f

    -- a trial's op, by its distance from 0A
    by_trial : (k : ℕ) → byte h 0 ≡ ten k → k < 9 → (k ≡ 6 → ⊥) → (k ≡ 7 → ⊥) → Executed h held r (get_or (effects h held r) (ten k) r)
    by_trial zero e l a b = trial_new h held r fits new_trial e refl
    by_trial (suc zero) e l a b = trial_low h held r fits (raised_to r.tried (word h 2) clock) e refl
    by_trial (suc (suc zero)) e l a b = trial_high h held r fits (lowered_to r.tried (word h 2) clock) e (lowered_is r.tried (word h 2) clock)
    by_trial (suc (suc (suc zero))) e l a b = trial_data_low h held r fits (met_by r.tried (le_z (complement (word h 2)) value)) e refl
    by_trial (suc (suc (suc (suc zero)))) e l a b = trial_data_high h held r fits (met_by r.tried (le_z value (complement (word h 2)))) e refl
    by_trial (suc (suc (suc (suc (suc zero))))) e l a b = trial_kept h held r fits (kept_by r.tried (byte h 3) r.kept) e (kept_is r.tried (byte h 3) r.kept)
    by_trial (suc (suc (suc (suc (suc (suc zero)))))) e l a b = absurd (a refl)
    by_trial (suc (suc (suc (suc (suc (suc (suc zero))))))) e l a b = absurd (b refl)
    by_trial (suc (suc (suc (suc (suc (suc (suc (suc zero)))))))) e l a b = trial_budget h held r fits (met_by r.tried (spans_by r.tried (word h 2))) e (spanned_is r.tried (word h 2))
    by_trial (suc (suc (suc (suc (suc (suc (suc (suc (suc k))))))))) e l a b = absurd (omega arith)

    by_op : (k : ℕ) → byte h 0 ≡ k → k < 19 → (k ≡ 16 → ⊥) → (k ≡ 17 → ⊥) → Executed h held r (get_or (effects h held r) k r)
    by_op zero e l a b = slept h held r fits e
    by_op (suc zero) e l a b =
        let z = complement (word h 2) in
        by_variable z (omega arith) (omega arith) (λ there. value_set_is h held r fits (set r.values (byte h 1) z) there e refl)
    by_op (suc (suc zero)) e l a b =
        let x = get_or r.values (byte h 1) (pos 0) +ℤ complement (word h 2) in
        by_variable x (omega arith) (omega arith) (λ there. value_added h held r fits (set r.values (byte h 1) x) there e refl)
    by_op (suc (suc (suc zero))) e l a b = idle h held r fits (omega arith) (omega arith)
    by_op (suc (suc (suc (suc zero)))) e l a b = idle h held r fits (omega arith) (omega arith)
    by_op (suc (suc (suc (suc (suc zero))))) e l a b = idle h held r fits (omega arith) (omega arith)
    by_op (suc (suc (suc (suc (suc (suc zero)))))) e l a b = idle h held r fits (omega arith) (omega arith)
    by_op (suc (suc (suc (suc (suc (suc (suc zero))))))) e l a b =
        let x = get_or r.clocks (byte h 1) 0 + (r.n + r.d) in
        by_clock x (omega arith) (omega arith) (λ there. clock_ages h held r fits (set r.clocks (byte h 1) x) there e refl)
    by_op (suc (suc (suc (suc (suc (suc (suc (suc zero)))))))) e l a b =
        by_clock 0 (omega arith) (omega arith) (λ there. (clock_zero h held r fits (set r.clocks (byte h 1) 0) there e refl).0)
    by_op (suc (suc (suc (suc (suc (suc (suc (suc (suc zero))))))))) e l a b = by_message e
    by_op (suc (suc (suc (suc (suc (suc (suc (suc (suc (suc k)))))))))) e l a b = by_trial k e (omega arith) (λ q. a (omega arith)) (λ q. b (omega arith))

    pub executes : byte h 0 < 19 → (byte h 0 ≡ 16 → ⊥) → (byte h 0 ≡ 17 → ⊥) → Executed h held r (effect h held r)
    executes l a b = by_op (byte h 0) refl l a b

    pub tries : (x : Trial) → byte h 0 < 16 → trying r x ≡ effect h held r → Tried h held r x
    tries x l e = subst (Executed h held r) (sym e) (executes (omega arith) (λ q. omega arith) (λ q. omega arith))

    pub clock_tries : (x y : Trial) (k : ℕ) → 11 ≤ byte h 0 → byte h 0 ≤ 12 → y ≡ clock_tried h x k → x ≡ r.tried → k ≡ clock → Tried h held r y
    clock_tries x y k a b e f g = tries y (omega arith) (clock_tried_is y k a b (e ∙ ap (λ (z : Trial). clock_tried h z k) f) g)

    pub value_tries : (x y : Trial) (z : ℤ) → 13 ≤ byte h 0 → byte h 0 ≤ 14 → y ≡ value_tried h x z → x ≡ r.tried → z ≡ value → Tried h held r y
    value_tries x y z a b e f g = tries y (omega arith) (value_tried_is y z a b (e ∙ ap (λ (w : Trial). value_tried h w z) f) g)

  -- how far it grows
  clock_grows : (x : ℕ) → x ≤ get_or r.clocks (byte h 1) 0 + 131070 → Grown r (clock_set h held r x)
  clock_grows x l = go (ltb (byte h 1) held.clocks)
    where
      go : (t : Bool) → Grown r (cond t (clocked r (set r.clocks (byte h 1) x)) r)
      go true = clock_grown r (clocked r (set r.clocks (byte h 1) x)) (byte h 1) x refl refl refl l
      go false = still r r refl refl refl

  value_grows : (x : ℤ) → Grown r (value_set h held r x)
  value_grows x = go (ltb (byte h 1) held.variables)
    where
      go : (t : Bool) → Grown r (cond t (valued r (set r.values (byte h 1) x)) r)
      go true = still r (valued r (set r.values (byte h 1) x)) refl refl refl
      go false = still r r refl refl refl

  pub effect_grows : r.n ≤ 65535 → r.d ≤ 65535 → Grown r (effect h held r)
  effect_grows n d = go (byte h 0)
    where
      trial_grows : (k : ℕ) → Grown r (get_or (effects h held r) (ten k) r)
      trial_grows zero = still r _ refl refl refl
      trial_grows (suc zero) = still r _ refl refl refl
      trial_grows (suc (suc zero)) = still r _ refl refl refl
      trial_grows (suc (suc (suc zero))) = still r _ refl refl refl
      trial_grows (suc (suc (suc (suc zero)))) = still r _ refl refl refl
      trial_grows (suc (suc (suc (suc (suc zero))))) = still r _ refl refl refl
      trial_grows (suc (suc (suc (suc (suc (suc zero)))))) = still r r refl refl refl
      trial_grows (suc (suc (suc (suc (suc (suc (suc zero))))))) = still r r refl refl refl
      trial_grows (suc (suc (suc (suc (suc (suc (suc (suc zero)))))))) = still r _ refl refl refl
      trial_grows (suc (suc (suc (suc (suc (suc (suc (suc (suc k))))))))) = still r r refl refl refl

      go : (k : ℕ) → Grown r (get_or (effects h held r) k r)
      go zero = sleep_grown r _ refl refl refl
      go (suc zero) = value_grows (complement (word h 2))
      go (suc (suc zero)) = value_grows (get_or r.values (byte h 1) (pos 0) +ℤ complement (word h 2))
      go (suc (suc (suc zero))) = still r r refl refl refl
      go (suc (suc (suc (suc zero)))) = still r r refl refl refl
      go (suc (suc (suc (suc (suc zero))))) = still r r refl refl refl
      go (suc (suc (suc (suc (suc (suc zero)))))) = still r r refl refl refl
      go (suc (suc (suc (suc (suc (suc (suc zero))))))) = clock_grows (get_or r.clocks (byte h 1) 0 + (r.n + r.d)) (omega arith)
      go (suc (suc (suc (suc (suc (suc (suc (suc zero)))))))) = clock_grows 0 (omega arith)
      go (suc (suc (suc (suc (suc (suc (suc (suc (suc zero))))))))) = still r _ refl refl refl
      go (suc (suc (suc (suc (suc (suc (suc (suc (suc (suc k)))))))))) = trial_grows k

-- ## Any statement

module _ (p : List ℕ) (r : Node) where
  -- an edge is kept, or none is
  pub taken_some : r.kept.some ≡ true → edge_taken p r ≡ passing r (block_place p (byte p 2 + r.kept.edge)) (r.t + r.d + r.kept.ready) (r.kept.end - r.kept.ready)
  taken_some e = rw e

  pub taken_none : r.kept.some ≡ false → edge_taken p r ≡ r
  taken_none e = rw e

module _ (p : List ℕ) (held : Counts) (r : Node) where
  -- the op at the program counter
  abbrev op : ℕ
  op = op_in (drop r.pc p)

  pub after_none : op ≡ 255 → after p held r ≡ r
  after_none o = rw (eq-eqb op 255 o)

  pub after_take : op ≡ 16 → after p held r ≡ edge_taken p r
  after_take o = rw (ne_eqb op 255 (λ e. omega arith), eq-eqb op 16 o)

  pub after_choose : op ≡ 17 → after p held r ≡ block_chosen p r
  after_choose o = rw (ne_eqb op 255 (λ e. omega arith), ne_eqb op 16 (λ e. omega arith), eq-eqb op 17 o)

  pub after_on : op < 19 → (op ≡ 16 → ⊥) → (op ≡ 17 → ⊥) → after p held r ≡ effect (drop r.pc p) held (onward p r)
  after_on l a b = rw (ne_eqb op 255 (λ e. omega arith), ne_eqb op 16 a, ne_eqb op 17 b)

  -- h are the bytes from the program counter on
  pub after_by : (h : List ℕ) → h ≡ drop r.pc p → op < 19 → (op ≡ 16 → ⊥) → (op ≡ 17 → ⊥) → (long : ℕ) → long ≡ statement_length h → (q : Node) → q ≡ effect h held (moved r (r.pc + long)) → q ≡ after p held r
  after_by h there l a b long e q f =
      f
      ∙ ap (λ (n : ℕ). effect h held (moved r (r.pc + n))) e
      ∙ ap (λ (bs : List ℕ). effect bs held (moved r (r.pc + statement_length bs))) there
      ∙ sym (after_on l a b)

  -- one of these, always
  data Case : Type 0 where
    nowhere : op ≡ 255 → Case
    taking : op ≡ 16 → Case
    choosing : op ≡ 17 → Case
    on : Opens (drop r.pc p) op → (op ≡ 16 → ⊥) → (op ≡ 17 → ⊥) → Case

  case_is : Case
  case_is = go (op_is (drop r.pc p))
    where
      ends : Opens (drop r.pc p) op → Dec (op ≡ 16) → Dec (op ≡ 17) → Case
      ends o (yes e) d = taking e
      ends o (no a) (yes e) = choosing e
      ends o (no a) (no b) = on o a b

      go : Op (drop r.pc p) → Case
      go (absent a s) = nowhere a
      go (present o f) = ends (subst (Opens (drop r.pc p)) (sym f) o) (ℕ_discrete op 16) (ℕ_discrete op 17)

  -- The view of the registers is what the definition of a finished statement says, a take with nothing kept apart: the run does not allow that
  -- one, and the definition leads nowhere there.
  pub after_is : (op ≡ 16 → r.kept.some ≡ true) → node_of p held (after p held r) ≡ finish p (node_of p held r) (rest_at p r.pc)
  after_is some = go case_is
    where
      go : Case → node_of p held (after p held r) ≡ finish p (node_of p held r) (rest_at p r.pc)
      go (nowhere o) = ap (node_of p held) (after_none o) ∙ finish_none p held r o
      go (taking o) =
          let k = r.kept in
          ap (node_of p held) (after_take o ∙ taken_some p r (some o))
          ∙ take_some p held r (block_place p (byte p 2 + k.edge)) (r.t + r.d + k.ready) (k.end - k.ready) o (some o) refl refl refl
      go (choosing o) = ap (node_of p held) (after_choose o) ∙ choose_goes p held r (block_place p r.location) o refl
      go (on o a b) =
          ap (node_of p held) (after_on o.low a b)
          ∙ finish_on p held r (drop r.pc p) refl op refl o.low a b (statement_length (drop r.pc p)) refl (effect (drop r.pc p) held (onward p r))
          (executes (drop r.pc p) held (onward p r) o.fits (omega (arith, o.first, o.low)) (λ e. a (sym o.first ∙ e)) (λ e. b (sym o.first ∙ e)))

  pub after_grows : r.n ≤ 65535 → r.d ≤ 65535 → r.kept.ready ≤ 65535 → Grown r (after p held r)
  after_grows n d k = go case_is
    where
      kept : (t : Bool) → Grown r (cond t (passing r (block_place p (byte p 2 + r.kept.edge)) (r.t + r.d + r.kept.ready) (r.kept.end - r.kept.ready)) r)
      kept true = take_grown r _ d k refl refl refl
      kept false = still r r refl refl refl

      go : Case → Grown r (after p held r)
      go (nowhere o) = rw (after_none o) (still r r refl refl refl)
      go (taking o) = rw (after_take o) (kept r.kept.some)
      go (choosing o) = rw (after_choose o) (still r (block_chosen p r) refl refl refl)
      go (on o a b) = rw (after_on o.low a b) (moved_grown _ r _ (effect_grows (drop r.pc p) held (onward p r) n d))
