-- One turn of a simulated run, and many ticks at which nobody moves: for the code, which never has the list of choices. Assumes nothing.
use mathlib.Core.Path.{◌≡◌, refl, sym, ap, ap₂, subst, ◌∙◌}
use mathlib.Core.Logic.{inl, inr}
use mathlib.Core.Bool.{Bool, true, false, cond}
use mathlib.Core.List.{[]}
use Prim.Native.Nat.{ℕ, zero, suc, ◌+◌, ◌*◌, ◌≤◌, ◌<◌}
use native.Mathlib.Nat.{suc-mul}
use native.Mathlib.Omega.{arith}
use borrow.Author.Tests.{lt-ltb, le-ltb}
use lib.ListN.{length}
use Rattle.model.specs.Run.{Setting, Run, stand_of, node_of, Outcome, forbidden, on, over, Result, ends, continue, choose1, run_from}
use Rattle.simulation.specs.Simulated.{Span, waits, Trying, until_of, Trial, next_turn, anew, went, tried, attempt, Stuck, passed, after, try_from}

module _ (g : Setting) (w : Span) where
  -- what a simulated run comes to, with so many turns left
  abbrev pub result : ℕ → Trying → Result
  result m y = run_from g (try_from g w m y).choices y.state

  abbrev pub drawn : ℕ → Trying → ℕ
  drawn m y = (try_from g w m y).draw

  -- the same run, the same draws
  pub record Same (m : ℕ) (y : Trying) (k : ℕ) (z : Trying) : Type 0 where
    pub run : result m y ≡ result k z
    pub draw : drawn m y ≡ drawn k z

  pub same_refl : {m : ℕ} {y : Trying} → Same m y m y
  same_refl = record { run = refl; draw = refl }

  pub same_then : {m k n : ℕ} {x y z : Trying} → Same m x k y → Same k y n z → Same m x n z
  same_then a b = record { run = a.run ∙ b.run; draw = a.draw ∙ b.draw }

  module _ (m : ℕ) (y : Trying) where
    -- it is a node's turn
    module _ (h : y.turn < length y.state.nodes) where
      node_turn : try_from g w (suc m) y ≡ attempt g w y (λ z. try_from g w m z)
      unfolding try_from
      node_turn = rw (lt-ltb y.turn (length y.state.nodes) h)

      -- it waits for its work
      pub turn_waits : waits y.state.tick (until_of y y.turn) (stand_of (node_of y.state y.turn)) ≡ true → Same (suc m) y m (next_turn y)
      turn_waits e =
          let q : try_from g w (suc m) y ≡ try_from g w m (next_turn y) = node_turn ∙ rw e in
          record { run = ap (λ (t : Trial). run_from g t.choices y.state) q; draw = ap (λ (t : Trial). t.draw) q }

      module _ (e : waits y.state.tick (until_of y y.turn) (stand_of (node_of y.state y.turn)) ≡ false) where
        tries : {o : Outcome} → choose1 g y.state y.turn ≡ o → try_from g w (suc m) y ≡ tried g w y o (λ z. try_from g w m z)
        tries c = node_turn ∙ rw e (ap (λ (o : Outcome). tried g w y o (λ z. try_from g w m z)) c)

        -- it may not finish its statement
        pub turn_refused : choose1 g y.state y.turn ≡ forbidden → Same (suc m) y m (next_turn y)
        turn_refused c =
            let q = tries c in
            record { run = ap (λ (t : Trial). run_from g t.choices y.state) q; draw = ap (λ (t : Trial). t.draw) q }

        -- it finishes it
        pub turn_taken : {u : Run} → choose1 g y.state y.turn ≡ on u → Same (suc m) y m (went g w y u)
        unfolding run_from
        turn_taken {u} c =
            let q = tries c in
            record {
              run =
                  ap (λ (t : Trial). run_from g t.choices y.state) q
                  ∙ ap (λ (o : Outcome). continue y.state o (λ z. run_from g (try_from g w m (went g w y u)).choices z)) c;
              draw = ap (λ (t : Trial). t.draw) q;
            }

    -- all have had their turn
    module _ (h : length y.state.nodes ≤ y.turn) where
      last_turn : try_from g w (suc m) y ≡ after g w y (λ z. try_from g w m z)
      unfolding try_from
      last_turn = rw (le-ltb y.turn (length y.state.nodes) h)

      -- one has moved: once more
      pub turn_anew : y.moved ≡ true → Same (suc m) y m (anew y y.state)
      turn_anew e =
          let q : try_from g w (suc m) y ≡ try_from g w m (anew y y.state) = last_turn ∙ rw e in
          record { run = ap (λ (t : Trial). run_from g t.choices y.state) q; draw = ap (λ (t : Trial). t.draw) q }

      module _ (e : y.moved ≡ false) where
        ticks : {o : Outcome} → choose1 g y.state 255 ≡ o → try_from g w (suc m) y ≡ passed g w y o (λ z. try_from g w m z)
        ticks c =
            last_turn
            ∙ (ap (λ (b : Bool). cond b (try_from g w m (anew y y.state)) (passed g w y (choose1 g y.state 255) (λ z. try_from g w m z))) e
            ∙ ap (λ (o : Outcome). passed g w y o (λ z. try_from g w m z)) c)

        -- the tick passes
        pub tick_passes : {u : Run} → choose1 g y.state 255 ≡ on u → Same (suc m) y m (anew y u)
        unfolding run_from
        tick_passes {u} c =
            let q = ticks c in
            record {
              run =
                  ap (λ (t : Trial). run_from g t.choices y.state) q
                  ∙ ap (λ (o : Outcome). continue y.state o (λ z. run_from g (try_from g w m (anew y u)).choices z)) c;
              draw = ap (λ (t : Trial). t.draw) q;
            }

        -- the run ends with it
        pub tick_ends : {u : Run} {k n : ℕ} → choose1 g y.state 255 ≡ over u k n → (result (suc m) y ≡ ends u k n) × (drawn (suc m) y ≡ y.draw)
        unfolding run_from
        tick_ends {u} {k} {n} c =
            let q = ticks c in (
              ap (λ (t : Trial). run_from g t.choices y.state) q ∙ ap (λ (o : Outcome). continue y.state o (λ z. run_from g [] z)) c,
              ap (λ (t : Trial). t.draw) q,
            )

        -- it is not allowed (which never comes up in a run of an accepted table: `Ends.free_tick`)
        pub tick_refused : choose1 g y.state 255 ≡ forbidden → (result (suc m) y ≡ ends y.state 1 255) × (drawn (suc m) y ≡ y.draw)
        unfolding run_from
        tick_refused c =
            let q = ticks c in
            (ap (λ (t : Trial). run_from g t.choices y.state) q, ap (λ (t : Trial). t.draw) q)

  -- no turn is left
  pub turns_over : (y : Trying) → (result 0 y ≡ ends y.state 1 255) × (drawn 0 y ≡ y.draw)
  unfolding try_from run_from
  turns_over y = (refl, refl)

  -- ## A round in which nobody moves

  -- whose turn it is, with that number
  abbrev pub at_turn : Trying → ℕ → Trying
  at_turn y k = record { state = y.state; until = y.until; draw = y.draw; turn = k; moved = y.moved }

  pub stuck_turn : (m : ℕ) (y : Trying) → y.turn < length y.state.nodes → Stuck g w y y.turn → Same (suc m) y m (next_turn y)
  stuck_turn m y h (inl e) = turn_waits m y h e
  stuck_turn m y h (inr c) = go (waits y.state.tick (until_of y y.turn) (stand_of (node_of y.state y.turn))) refl
    where
      go : (b : Bool) → waits y.state.tick (until_of y y.turn) (stand_of (node_of y.state y.turn)) ≡ b → Same (suc m) y m (next_turn y)
      go true e = turn_waits m y h e
      go false e = turn_refused m y h e c

  -- so many turns in vain
  pub stuck_turns : (n m : ℕ) (y : Trying) → y.turn + n ≤ length y.state.nodes → ((c : ℕ) → y.turn ≤ c → c < y.turn + n → Stuck g w y c) → Same (n + m) y m (at_turn y (y.turn + n))
  stuck_turns zero m y h f =
      let a : 0 + m ≡ m = omega arith in
      let b : y.turn ≡ y.turn + 0 = omega arith in
      subst (λ (k : ℕ). Same k y m (at_turn y (y.turn + 0))) (sym a) (subst (λ (k : ℕ). Same m y m (at_turn y k)) b same_refl)
  stuck_turns (suc n) m y h f =
      let first = stuck_turn (n + m) y (omega arith) (f y.turn (omega arith) (omega arith)) in
      let rest = stuck_turns n m (next_turn y) (omega arith) (λ c i j. f c (omega arith) (omega arith)) in
      let a : suc (n + m) ≡ suc n + m = omega arith in
      let b : suc y.turn + n ≡ y.turn + suc n = omega arith in
      subst (λ (k : ℕ). Same k y m (at_turn y (y.turn + suc n))) a (subst (λ (k : ℕ). Same (suc (n + m)) y m (at_turn y k)) b (same_then first rest))

  -- a tick, and a round in vain after it: all have had their turn again
  pub idle_tick : (m : ℕ) (y : Trying) {u : Run} → length y.state.nodes ≤ y.turn → y.moved ≡ false → choose1 g y.state 255 ≡ on u → length u.nodes ≡ length y.state.nodes
      → ((c : ℕ) → c < length u.nodes → Stuck g w (anew y u) c) → Same (suc (length u.nodes + m)) y m (at_turn (anew y u) (length u.nodes))
  idle_tick m y {u} t e c s f =
      let first = tick_passes (length u.nodes + m) y t e c in
      let rest = stuck_turns (length u.nodes) m (anew y u) (omega arith) (λ i a b. f i (omega arith)) in
      let b : 0 + length u.nodes ≡ length u.nodes = omega arith in
      same_then first (subst (λ (k : ℕ). Same (length u.nodes + m) (anew y u) m (at_turn (anew y u) k)) b rest)

  -- ## Many ticks

  -- so many ticks later, nothing else done
  abbrev pub later : Run → ℕ → Run
  later s j = record { tick = s.tick + j; used = s.used + j; nodes = s.nodes; observations = s.observations; previous = s.previous; works = s.works }

  later_none : (s : Run) → s ≡ later s 0
  later_none s =
      ap₂ (λ (a b : ℕ). record { tick = a; used = b; nodes = s.nodes; observations = s.observations; previous = s.previous; works = s.works })
      (let e : s.tick ≡ s.tick + 0 = omega arith in e)
      (let e : s.used ≡ s.used + 0 = omega arith in e)

  -- all have had their turn, so many ticks later
  abbrev pub rested : Trying → ℕ → Trying
  rested y j = at_turn (anew y (later y.state j)) (length y.state.nodes)

  -- ticks at each of which nobody moves, passed at once
  pub idle_ticks : (j m : ℕ) (y : Trying) → length y.state.nodes ≤ y.turn → y.moved ≡ false
      → ((i : ℕ) → i ≤ j → choose1 g (later y.state i) 255 ≡ on (later y.state (suc i)))
      → ((i : ℕ) → i ≤ j → (c : ℕ) → c < length y.state.nodes → Stuck g w (anew y (later y.state (suc i))) c)
      → Same (suc j * suc (length y.state.nodes) + m) y m (rested y (suc j))
  idle_ticks zero m y t e ticks stuck =
      let n = length y.state.nodes in
      let a : suc (n + m) ≡ suc 0 * suc n + m = omega arith in
      subst (λ (k : ℕ). Same k y m (rested y 1)) a (idle_tick m y t e (ap (λ (s : Run). choose1 g s 255) (later_none y.state) ∙ ticks 0 (omega arith)) refl (stuck 0 (omega arith)))
  idle_ticks (suc j) m y t e ticks stuck =
      let n = length y.state.nodes in
      let first = idle_ticks j (suc (n + m)) y t e (λ i h. ticks i (omega arith)) (λ i h. stuck i (omega arith)) in
      let rest = idle_tick m (rested y (suc j)) (omega arith) refl (ticks (suc j) (omega arith)) refl (stuck (suc j) (omega arith)) in
      let a : suc j * suc n + suc (n + m) ≡ suc (suc j) * suc n + m = lemma (suc j) n m in
      subst (λ (k : ℕ). Same k y m (rested y (suc (suc j)))) a (same_then first rest)
    where
      lemma : (j n m : ℕ) → j * suc n + suc (n + m) ≡ suc j * suc n + m
      lemma j n m = omega (arith, suc-mul j (suc n))
