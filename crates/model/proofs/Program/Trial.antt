-- A trial: its statements, one after the other, keep an edge exactly if it is a candidate that beats what is kept, with its window. Assumes nothing.
use mathlib.Core.Path.{◌≡◌, refl, ap, ◌∙◌}
use mathlib.Core.Logic.{◌⊎◌, inl, inr, ⊎_elim}
use mathlib.Core.Bool.{Bool, true, false, cond, ◌&&◌, and-false}
use mathlib.Core.List.{List, [], ◌∷◌, ◌++◌}
use mathlib.Core.Option.{Option, none, some}
use Prim.Native.Nat.{ℕ, ◌+◌, suc, pred, ◌-◌, min, max}
use native.Mathlib.Omega.{arith}
use borrow.Author.Tests.{leb-true, leb-false, le-ltb}
use lib.Dec.{leb, ltb, eqb, leb-suc-suc}
use lib.IntN.{ℤ}
use lib.Signed.{le_z}
use Rattle.model.specs.declared.Location.{Location}
use Rattle.model.specs.declared.ClockGuard.{ClockGuard}
use Rattle.model.specs.declared.DataGuard.{DataGuard}
use Rattle.model.specs.Table.{Arc}
use Rattle.model.specs.Window.{meets_budget, Pick, clock_at, value_at, ready_of, past_of, data_holds, candidate, window_of, better}
use Rattle.model.specs.Program.{Statement, sleep, set_to, add_to, done, send, listen, age, reset, enter, trial, low, high, data_low, data_high, keep, budget, take_edge, choose, clock_tests, data_tests, budget_test, trial_of}
use Rattle.model.specs.Machine.{Trial, no_trial, raised, lowered, met, keeps, spans}
use Rattle.model.proofs.Basics.Bools.{and_is}

-- what a trial's statements change: the trial, and what is kept
pub record Mind : Type 0 where
  pub tried : Trial
  pub kept : Option Pick

-- the two together
abbrev pub mind : Trial → Option Pick → Mind
mind x k = record { tried = x; kept = k }

-- a conjunction that is false: one part is
one_fails : (a b : Bool) → a && b ≡ false → (a ≡ false) ⊎ (b ≡ false)
one_fails true b e = inr e
one_fails false b e = inl refl

regroup : (g a b d : Bool) → g && a && b && d ≡ g && (a && b && d)
regroup true a b d = refl
regroup false a b d = refl

idle : (g : Bool) → g ≡ g && true
idle true = refl
idle false = refl

module _ (xs : List ℕ) (vs : List ℤ) where
  -- what one statement does to them, with clocks xs and values vs
  abbrev pub judge : Mind → Statement → Mind
  judge m sleep = m
  judge m (set_to v k) = m
  judge m (add_to v k) = m
  judge m done = m
  judge m (send k) = m
  judge m (listen qs) = m
  judge m (age i) = m
  judge m (reset i) = m
  judge m (enter l) = m
  judge m trial = mind no_trial m.kept
  judge m (low i k) = mind (raised m.tried k (clock_at xs i)) m.kept
  judge m (high i k) = mind (lowered m.tried k (clock_at xs i)) m.kept
  judge m (data_low v k) = mind (met m.tried (le_z k (value_at vs v))) m.kept
  judge m (data_high v k) = mind (met m.tried (le_z (value_at vs v) k)) m.kept
  judge m (keep e) = mind m.tried (keeps m.tried e m.tried.end m.kept)
  judge m (budget k) = mind (met m.tried (spans m.tried k m.tried.end)) m.kept
  judge m take_edge = m
  judge m choose = m

  -- what several do, in order
  abbrev pub judges : Mind → List Statement → Mind
  judges m [] = m
  judges m (s ∷ ss) = judges (judge m s) ss

  -- two lists of statements, one after the other
  pub judges_append : (m : Mind) (ss ts : List Statement) → judges m (ss ++ ts) ≡ judges (judges m ss) ts
  judges_append m [] ts = refl
  judges_append m (s ∷ ss) ts = judges_append (judge m s) ss ts

  -- ## Clock bounds

  -- a trial stands for the window from delay r up to, and without, delay p
  record Stands (x : Trial) (r p : ℕ) : Type 0 where
    from : x.ready ≡ r
    last : ℕ
    is : x.end ≡ some last
    good : x.good ≡ true → suc last ≡ p
    bad : x.good ≡ false → p ≡ 0

  -- the window in the order of the statements
  ready_l : List ClockGuard → ℕ → ℕ
  ready_l [] r = r
  ready_l (g ∷ gs) r = ready_l gs (max r (g.low - clock_at xs g.clock))

  past_l : List ClockGuard → ℕ → ℕ
  past_l [] p = p
  past_l (g ∷ gs) p = past_l gs (cond (eqb g.high 65535) p (min p (suc g.high - clock_at xs g.clock)))

  -- "low raises it to k − clock"
  raises : (x : Trial) (r p k c : ℕ) → Stands x r p → Stands (raised x k c) (max r (k - c)) p
  raises x r p k c s = record { from = ap (λ (n : ℕ). max n (k - c)) s.from; last = s.last; is = s.is; good = s.good; bad = s.bad }

  -- "high lowers the trial's end to k − clock": where that is negative the trial has failed, and no delay is left
  lowers : (x : Trial) (r p k c : ℕ) → Stands x r p → Stands (lowered x k c) r (min p (suc k - c))
  lowers x r p k c s =
      record {
        from = s.from;
        last = min s.last (k - c);
        is = rw s.is;
        good = λ h. let q = (and_is x.good (leb c k)).0 h in omega (arith, s.good q.0, leb-true c k q.1);
        bad = λ h. ⊎_elim (λ q. omega (arith, s.bad q)) (λ q. omega (arith, leb-false c k q)) (one_fails x.good (leb c k) h);
      }

  -- the clock bounds of an edge, statement by statement
  clocks_judge : (gs : List ClockGuard) (x : Trial) (k : Option Pick) (r p : ℕ) → Stands x r p
      → (y : Trial) × (judges (mind x k) (clock_tests gs) ≡ mind y k) × Stands y (ready_l gs r) (past_l gs p)
  unfolding ready_l past_l
  clocks_judge [] x k r p s = (x, refl, s)
  clocks_judge (g ∷ gs) x k r p s = go (λ y q t. clocks_judge gs y k _ q t) (eqb g.high 65535)
    where
      x₁ : Trial
      x₁ = raised x g.low (clock_at xs g.clock)

      r₁ : ℕ
      r₁ = max r (g.low - clock_at xs g.clock)

      s₁ : Stands x₁ r₁ p
      s₁ = raises x r p g.low (clock_at xs g.clock) s

      go : ((y : Trial) (q : ℕ) → Stands y r₁ q → (z : Trial) × (judges (mind y k) (clock_tests gs) ≡ mind z k) × Stands z (ready_l gs r₁) (past_l gs q)) → (t : Bool)
          → (z : Trial) × (judges (mind x₁ k) (cond t (clock_tests gs) (high g.clock g.high ∷ clock_tests gs)) ≡ mind z k)
          × Stands z (ready_l gs r₁) (past_l gs (cond t p (min p (suc g.high - clock_at xs g.clock))))
      go ih true = ih x₁ p s₁
      go ih false =
          ih (lowered x₁ g.high (clock_at xs g.clock)) (min p (suc g.high - clock_at xs g.clock))
          (lowers x₁ r₁ p g.high (clock_at xs g.clock) s₁)

  -- in the order of the statements or from the list's end, it is the same window
  ready_max : (gs : List ClockGuard) (r c : ℕ) → ready_l gs (max r c) ≡ max c (ready_l gs r)
  unfolding ready_l
  ready_max [] r c = omega arith
  ready_max (g ∷ gs) r c =
      let e : max (max r c) (g.low - clock_at xs g.clock) ≡ max (max r (g.low - clock_at xs g.clock)) c = omega arith in
      ap (ready_l gs) e ∙ ready_max gs (max r (g.low - clock_at xs g.clock)) c

  ready_same : (gs : List ClockGuard) → ready_l gs 0 ≡ ready_of gs xs
  unfolding ready_l
  ready_same [] = refl
  ready_same (g ∷ gs) = ready_max gs 0 (g.low - clock_at xs g.clock) ∙ ap (max (g.low - clock_at xs g.clock)) (ready_same gs)

  past_min : (gs : List ClockGuard) (p c : ℕ) → past_l gs (min p c) ≡ min c (past_l gs p)
  unfolding past_l
  past_min [] p c = omega arith
  past_min (g ∷ gs) p c = go (λ q. past_min gs q c) (eqb g.high 65535)
    where
      h : ℕ
      h = suc g.high - clock_at xs g.clock

      go : ((q : ℕ) → past_l gs (min q c) ≡ min c (past_l gs q)) → (t : Bool)
          → past_l gs (cond t (min p c) (min (min p c) h)) ≡ min c (past_l gs (cond t p (min p h)))
      go ih true = ih p
      go ih false = let e : min (min p c) h ≡ min (min p h) c = omega arith in ap (past_l gs) e ∙ ih (min p h)

  past_same : (l : Location) (gs : List ClockGuard) → past_l gs (suc l.bound - clock_at xs l.clock) ≡ past_of l gs xs
  unfolding past_l
  past_same l [] = refl
  past_same l (g ∷ gs) = go (past_same l gs) (eqb g.high 65535)
    where
      p : ℕ
      p = suc l.bound - clock_at xs l.clock

      h : ℕ
      h = suc g.high - clock_at xs g.clock

      go : past_l gs p ≡ past_of l gs xs → (t : Bool) → past_l gs (cond t p (min p h)) ≡ cond t (past_of l gs xs) (min h (past_of l gs xs))
      go ih true = ih
      go ih false = past_min gs p h ∙ ap (min h) ih

  -- ## Data bounds and the keep

  abbrev with_good : Trial → Option Pick → Bool → Mind
  with_good x k g = mind (record { ready = x.ready; end = x.end; good = g }) k

  -- the data bounds of an edge: one that fails, fails the trial
  data_judge : (gs : List DataGuard) (x : Trial) (k : Option Pick) → judges (mind x k) (data_tests gs) ≡ mind (met x (data_holds gs vs)) k
  data_judge [] x k = ap (with_good x k) (idle x.good)
  data_judge (g ∷ gs) x k = data_judge gs (met (met x (le_z g.low (value_at vs g.variable))) (le_z (value_at vs g.variable) g.high)) k
      ∙ ap (with_good x k) (regroup x.good (le_z g.low (value_at vs g.variable)) (le_z (value_at vs g.variable) g.high) (data_holds gs vs))

  -- whether the window is as long as the budget, as statement 12 asks
  as_long : Option ℕ → Trial → Bool
  as_long none x = true
  as_long (some b) x = spans x b x.end

  -- the budget of an edge: a window that is shorter fails the trial
  budget_judge : (o : Option ℕ) (x : Trial) (k : Option Pick) → judges (mind x k) (budget_test o) ≡ mind (met x (as_long o x)) k
  unfolding as_long
  budget_judge none x k = ap (with_good x k) (idle x.good)
  budget_judge (some b) x k = refl

  -- "Keep applies the candidate rule."
  keep_judge : (x : Trial) (D : Bool) (o : Option ℕ) (e r p : ℕ) (k : Option Pick) → Stands x r p
      → keeps (met (met x D) (as_long o (met x D))) e x.end k ≡ cond (D && (ltb (suc r) p && meets_budget o r p)) (better k (record { edge = e; ready = r; end = pred p })) k
  unfolding as_long
  keep_judge x D none e r p k s = rw (s.is, s.from) (go x.good refl)
    where
      regroup2 : (d w : Bool) → d && true && w ≡ d && (w && true)
      regroup2 true true = refl
      regroup2 true false = refl
      regroup2 false w = refl

      go : (g : Bool) → x.good ≡ g
          → cond (g && D && true && ltb r s.last) (better k (record { edge = e; ready = r; end = s.last })) k
          ≡ cond (D && (ltb (suc r) p && true)) (better k (record { edge = e; ready = r; end = pred p })) k
      go true q = let h : suc s.last ≡ p = s.good q in rw (← h, leb-suc-suc (suc r) s.last) (ap (λ t. cond t (better k (record { edge = e; ready = r; end = s.last })) k) (regroup2 D (ltb r s.last)))
      go false q = rw (s.bad q, le-ltb (suc r) 0 (omega arith), and-false D)
  keep_judge x D (some b) e r p k s = rw (s.is, s.from) (go x.good refl)
    where
      regroup2 : (d z w : Bool) → d && z && w ≡ d && (w && z)
      regroup2 true true true = refl
      regroup2 true true false = refl
      regroup2 true false true = refl
      regroup2 true false false = refl
      regroup2 false z w = refl

      go : (g : Bool) → x.good ≡ g
          → cond (g && D && leb (r + b) s.last && ltb r s.last) (better k (record { edge = e; ready = r; end = s.last })) k
          ≡ cond (D && (ltb (suc r) p && ltb (r + b) p)) (better k (record { edge = e; ready = r; end = pred p })) k
      go true q =
          let h : suc s.last ≡ p = s.good q in
          rw (← h, leb-suc-suc (suc r) s.last, leb-suc-suc (r + b) s.last) (ap (λ t. cond t (better k (record { edge = e; ready = r; end = s.last })) k) (regroup2 D (leb (r + b) s.last) (ltb r s.last)))
      go false q = rw (s.bad q, le-ltb (suc r) 0 (omega arith), and-false D)

  -- ## The trial of one edge

  -- whatever was tried before it: afterwards that edge is kept exactly if it is a candidate and beats what was kept
  pub trial_judge : (l : Location) (e : ℕ) (a : Arc) (x : Trial) (k : Option Pick)
      → (y : Trial) × (judges (mind x k) (trial_of l e a) ≡ mind y (cond (candidate l a xs vs) (better k (window_of l e a xs)) k))
  trial_judge l e a x k = (met (met y D) (as_long a.budget (met y D)), path)
    where
      D : Bool
      D = data_holds a.data_guards vs

      x₀ : Trial
      x₀ = lowered no_trial l.bound (clock_at xs l.clock)

      first : Stands x₀ 0 (suc l.bound - clock_at xs l.clock)
      first =
          record {
            from = refl;
            last = l.bound - clock_at xs l.clock;
            is = refl;
            good = λ h. omega (arith, leb-true (clock_at xs l.clock) l.bound h);
            bad = λ h. omega (arith, leb-false (clock_at xs l.clock) l.bound h);
          }

      c : (y : Trial) × (judges (mind x₀ k) (clock_tests a.clock_guards) ≡ mind y k)
          × Stands y (ready_l a.clock_guards 0) (past_l a.clock_guards (suc l.bound - clock_at xs l.clock))
      c = clocks_judge a.clock_guards x₀ k 0 (suc l.bound - clock_at xs l.clock) first

      y : Trial
      y = c.0

      st : Stands y (ready_of a.clock_guards xs) (past_of l a.clock_guards xs)
      st = rw (ready_same a.clock_guards, past_same l a.clock_guards) at c.2

      path : judges (mind x k) (trial_of l e a) ≡ mind (met (met y D) (as_long a.budget (met y D))) (cond (candidate l a xs vs) (better k (window_of l e a xs)) k)
      path =
          judges_append (mind x₀ k) (clock_tests a.clock_guards) (data_tests a.data_guards ++ (budget_test a.budget ++ (keep e ∷ [])))
          ∙ (ap (λ (m : Mind). judges m (data_tests a.data_guards ++ (budget_test a.budget ++ (keep e ∷ [])))) c.1
          ∙ (judges_append (mind y k) (data_tests a.data_guards) (budget_test a.budget ++ (keep e ∷ []))
          ∙ (ap (λ (m : Mind). judges m (budget_test a.budget ++ (keep e ∷ []))) (data_judge a.data_guards y k)
          ∙ (judges_append (mind (met y D) k) (budget_test a.budget) (keep e ∷ [])
          ∙ (ap (λ (m : Mind). judge m (keep e)) (budget_judge a.budget (met y D) k)
          ∙ ap (mind (met (met y D) (as_long a.budget (met y D)))) (keep_judge y D a.budget e (ready_of a.clock_guards xs) (past_of l a.clock_guards xs) k st))))))
