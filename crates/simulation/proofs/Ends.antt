-- A simulated run is the run of its choices, and that ends at the horizon or late. Assumes nothing.
use mathlib.Core.Path.{◌≡◌, refl, sym, ap, subst, ◌∙◌}
use mathlib.Core.Logic.{◌⊎◌, inl, inr, by_cases}
use mathlib.Core.Bool.{Bool, true, false, cond}
use mathlib.Core.List.{List, [], ◌∷◌}
use Prim.Native.Nat.{ℕ, zero, suc, ◌+◌, ◌-◌, ◌*◌, ◌≤◌, ◌<◌}
use native.Mathlib.Omega.{arith}
use native.Mathlib.Decide.{ℕ_discrete}
use borrow.Author.Tests.{ltb-true, ltb-false, lt-ltb, le-leb, ne_eqb}
use lib.Dec.{ltb, eqb}
use lib.ListN.{length}
use Rattle.model.specs.Table.{Read}
use Rattle.model.specs.Schedule.{Passage}
use Rattle.model.specs.Machine.{Node}
use Rattle.model.specs.Run.{Setting, setting_to, Run, Stand, sleeping, sending, listening, finishing, adding, working, taking, elsewhere, nowhere, stand_of, node_of, offset_of, own_tick, awake, window_end, Outcome, forbidden, on, over, ticked, continue, finishes, due, some_due, late_nodes, after_tick, choose1, run_from}
use Rattle.model.proofs.Basics.Bools.{clash, and_is}
use Rattle.model.proofs.Run.Tied.{Given}
use Rattle.model.proofs.Run.Tick.{Live, Leads, no, onward, arrives, breaks, due_some, due_zero}
use Rattle.model.proofs.Run.Send.{choice_leads}
use Rattle.model.proofs.Run.Together.{same_clock}
use Rattle.model.proofs.Progress.Move.{choice_falls}
use Rattle.model.proofs.Progress.Tick.{tick_is}
use Rattle.model.proofs.Progress.Run.{left}
use Rattle.simulation.specs.Simulated.{Span, waits, Trying, until_of, Trial, next_turn, anew, went, tried, attempt, passed, after, try_from}

-- a node that waits for its work is not due
waits_free : (g : Setting) (own now until : ℕ) (r : Node) (x : Stand) → waits now until x ≡ true → due g own r x ≡ false
waits_free g own now until r sleeping e = clash e
waits_free g own now until r (sending k) e = refl
waits_free g own now until r (listening qs) e = clash e
waits_free g own now until r finishing e = refl
waits_free g own now until r (adding v z) e = refl
waits_free g own now until r working e = refl
waits_free g own now until r taking e = refl
waits_free g own now until r elsewhere e = refl
waits_free g own now until r nowhere e = refl

-- nor is one that cannot be chosen
stuck : (u : Run) (t : Bool) → cond t (on u) forbidden ≡ forbidden → t ≡ false
stuck u true e = let z : ◌≡◌ {A = ℕ} 0 1 = cc in absurd (omega arith)
stuck u false e = refl

refused_free : (g : Setting) (s : Run) (c : ℕ) (x : Stand) → finishes g s c x ≡ forbidden → due g (own_tick g c s.tick) (node_of s c) x ≡ false
refused_free g s c sleeping e = stuck _ (eqb (own_tick g c s.tick) (node_of s c).t) e
refused_free g s c (sending k) e = refl
refused_free g s c (listening qs) e = stuck _ (eqb (own_tick g c s.tick) (window_end (node_of s c))) e
refused_free g s c finishing e = refl
refused_free g s c (adding v z) e = refl
refused_free g s c working e = refl
refused_free g s c taking e = refl
refused_free g s c elsewhere e = refl
refused_free g s c nowhere e = refl

abbrev pub Fine : ℕ → Type 0
Fine e = (e ≡ 0) ⊎ (e ≡ 2)

module _ {t : Read} {H : ℕ} {S : List Passage} (G : Given t H S []) (w : Span) where
  abbrev g : Setting
  g = setting_to t H S

  -- where nobody has moved, those who had their turn are not due
  abbrev Rested : Trying → Type 0
  Rested y = y.moved ≡ false → (c : ℕ) → c < y.turn → due g (own_tick g c y.state.tick) (node_of y.state c) (stand_of (node_of y.state c)) ≡ false

  -- how many turns are left at most
  abbrev pub turns_left : Trying → ℕ
  turns_left y = left G y.state * 19 + cond y.moved 9 0 + (8 - y.turn)

  abbrev Goal : ℕ → Trying → Type 0
  Goal n z = Fine (run_from g (try_from g w n z).choices z.state).end

  abbrev Known : ℕ → Type 0
  Known n = (z : Trying) → Live G z.state → Rested z → turns_left z ≤ n → Goal n z

  -- the next one has its turn
  turned : (n : ℕ) → Known n → (y : Trying) → Live G y.state → Rested y → turns_left y ≤ suc n → y.turn < 8
      → due g (own_tick g y.turn y.state.tick) (node_of y.state y.turn) (stand_of (node_of y.state y.turn)) ≡ false → Goal n (next_turn y)
  turned n ih y k r l h d =
      ih (next_turn y) k
      (λ m c u. by_cases (ℕ_discrete c y.turn)
      (λ e. subst (λ i. due g (own_tick g i y.state.tick) (node_of y.state i) (stand_of (node_of y.state i)) ≡ false) (sym e) d)
      (λ e. r m c (omega arith)))
      (omega arith)

  -- a node that went on
  moved_on : (n : ℕ) → Known n → (y : Trying) (u : Run) → Live G u → left G u < left G y.state → turns_left y ≤ suc n → y.turn < 8 → Goal n (went g w y u)
  moved_on n ih y u k f l h = ih (went g w y u) k (λ m. clash (sym m)) (omega arith)

  -- some tick can pass where nobody is due
  free_tick : (s : Run) → Live G s → ((c : ℕ) → c < length s.nodes → due g (own_tick g c s.tick) (node_of s c) (stand_of (node_of s c)) ≡ false) → choose1 g s 255 ≡ forbidden → ⊥
  unfolding choose1
  free_tick s k f e = go (some_due g s.tick 0 s.nodes) refl e
    where
      after' : (l : List ℕ) → after_tick g (ticked s) l ≡ forbidden → ⊥
      after' (c ∷ cs) q = let z : ◌≡◌ {A = ℕ} 0 1 = cc in omega arith
      after' [] q = last (eqb (suc s.tick) g.horizon) q
        where
          last : (b : Bool) → cond b (over (ticked s) 0 255) (on (ticked s)) ≡ forbidden → ⊥
          last true q = let z : ◌≡◌ {A = ℕ} 0 1 = cc in omega arith
          last false q = let z : ◌≡◌ {A = ℕ} 0 1 = cc in omega arith

      go : (b : Bool) → some_due g s.tick 0 s.nodes ≡ b → cond b forbidden (after_tick g (ticked s) (late_nodes g (suc s.tick) 0 s.nodes)) ≡ forbidden → ⊥
      go true d q =
          let x = due_some g s.tick 0 s.nodes d in
          let y = (and_is (awake g x.0 s.tick) (due g (own_tick g x.0 s.tick) (node_of s x.0) (stand_of (node_of s x.0)))).0 (sym (due_zero G k x.0) ∙ x.2) in
          clash (sym (f x.0 x.1) ∙ y.1)
      go false d q = after' (late_nodes g (suc s.tick) 0 s.nodes) q

  -- The law. From every such state, with turns enough, the choices' run ends at the horizon or late.
  pub ends_well : (n : ℕ) → Known n
  unfolding try_from run_from choose1
  ends_well zero y k r l = absurd (omega (arith, k.below))
  ends_well (suc n) y k r l = go (λ z. ends_well n z) (ltb y.turn (length y.state.nodes)) refl
    where
      s : Run
      s = y.state

      f : Trying → Trial
      f z = try_from g w n z

      Ends : Trial → Type 0
      Ends r = Fine (run_from g r.choices y.state).end

      few : length y.state.nodes ≤ 8
      few = omega (arith, k.tied.full, G.limits.most_components)

      node : Known n → y.turn < length y.state.nodes → (o : Outcome) → choose1 g y.state y.turn ≡ o → Leads G y.state y.turn o → Ends (tried g w y o (λ z. try_from g w n z))
      node ih h forbidden e no = turned n ih y k r l (omega (arith, few)) (refused_free g y.state y.turn (stand_of (node_of y.state y.turn))
          (rw (ne_eqb y.turn 255 (λ q. omega (arith, few, q)), lt-ltb y.turn (length y.state.nodes) h, le-leb (offset_of g y.turn) y.state.tick (omega (arith, same_clock t H S y.turn (suc (offset_of g y.turn))))) at e))
      node ih h (on u) e (onward v m a b aw) =
          let q = choice_falls G k.tied y.turn (omega (arith, k.tied.full)) v e in
          let c : v.tick ≡ y.state.tick = b ∙ ap (λ (x : Bool). cond x (suc y.state.tick) y.state.tick) (ne_eqb y.turn 255 (λ z. omega (arith, few, z))) in
          subst Fine (sym (ap (λ (o : Outcome). (continue y.state o (λ z. run_from g (try_from g w n (went g w y v)).choices z)).end) e))
          (moved_on n ih y v m (omega (arith, c)) l (omega (arith, few)))
      node ih h (over u x z) e (arrives q a b) = absurd (omega (arith, few, q))
      node ih h (over u x z) e (breaks c q a) = absurd (omega (arith, few, q))

      tick : Known n → length y.state.nodes ≤ y.turn → y.moved ≡ false → (o : Outcome) → choose1 g y.state 255 ≡ o → Leads G y.state 255 o → Ends (passed g w y o (λ z. try_from g w n z))
      tick ih h m forbidden e no = absurd (free_tick y.state k (λ c u. r m c (omega arith)) e)
      tick ih h m (on u) e (onward v a b c aw) =
          subst Fine (sym (ap (λ (o : Outcome). (continue y.state o (λ z. run_from g (try_from g w n (anew y v)).choices z)).end) e))
          (ih (anew y v) a (λ q i j. absurd (omega arith))
          (let z = tick_is t H S [] y.state v e in subst (λ (x : Run). left G x * 19 + 0 + (8 - 0) ≤ n) (sym z) (let b' = k.below in omega (arith, few))))
      tick ih h m (over u x z) e (arrives q a b) = inl (ap (λ (o : Outcome). (continue y.state o (λ z. run_from g [] z)).end) e)
      tick ih h m (over u x z) e (breaks c q a) = inr (ap (λ (o : Outcome). (continue y.state o (λ z. run_from g [] z)).end) e)

      rest : Known n → length y.state.nodes ≤ y.turn → (b : Bool) → y.moved ≡ b → Ends (cond b (try_from g w n (anew y y.state)) (passed g w y (choose1 g y.state 255) (λ z. try_from g w n z)))
      rest ih h true m = ih (anew y y.state) k (λ q i j. absurd (omega arith)) (let z = ap {B = ℕ} (λ (b : Bool). cond b 9 0) m in omega (arith, z, few))
      rest ih h false m = tick ih h m (choose1 g y.state 255) refl (choice_leads G k 255)

      wait : Known n → y.turn < length y.state.nodes → (b : Bool) → waits y.state.tick (until_of y y.turn) (stand_of (node_of y.state y.turn)) ≡ b
          → Ends (cond b (try_from g w n (next_turn y)) (tried g w y (choose1 g y.state y.turn) (λ z. try_from g w n z)))
      wait ih h true q = turned n ih y k r l (omega (arith, few)) (waits_free g (own_tick g y.turn y.state.tick) y.state.tick (until_of y y.turn) (node_of y.state y.turn) (stand_of (node_of y.state y.turn)) q)
      wait ih h false q = node ih h (choose1 g y.state y.turn) refl (choice_leads G k y.turn)

      go : Known n → (b : Bool) → ltb y.turn (length y.state.nodes) ≡ b → Ends (cond b (attempt g w y (λ z. try_from g w n z)) (after g w y (λ z. try_from g w n z)))
      go ih true e = wait ih (ltb-true y.turn (length y.state.nodes) e) (waits y.state.tick (until_of y y.turn) (stand_of (node_of y.state y.turn))) refl
      go ih false e = rest ih (ltb-false y.turn (length y.state.nodes) e) y.moved refl
