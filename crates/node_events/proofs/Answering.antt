-- A call that is not answered "fine", in the words of the run; and the whole call. Assumes nothing.
use mathlib.Core.Path.{◌≡◌, refl, sym, ap, subst, ◌∙◌}
use mathlib.Core.Bool.{Bool, true, false, cond, ◌&&◌, not}
use mathlib.Core.List.{List, [], ◌∷◌}
use mathlib.Core.Logic.{◌⊎◌, inl, inr}
use Prim.Native.Nat.{ℕ, ◌+◌, ◌≤◌, ◌<◌}
use native.Mathlib.Omega.{arith}
use borrow.Author.Tests.{lt-ltb, leb-true, ne_eqb, eqb-true, ltb-true}
use lib.Dec.{leb, ltb, eqb}
use lib.ListN.{length, drop}
use Rattle.model.specs.Network.{one}
use Rattle.model.specs.Run.{Setting, own_tick, previous_finish, Run, on, forbidden, observes, moved, finished, choose1, Stand, sleeping, stand_of, stand_at, names, window_end}
use Rattle.model.specs.Run.{late as late-in}
use Rattle.model.proofs.Basics.Bools.{and_is}
use Rattle.node.specs.declared.Counts.{Counts}
use Rattle.node.specs.declared.Node.{Node}
use Rattle.node.specs.Views.{node_of, rest_at}
use Rattle.stand.proofs.ByOp.{Sort, sleeps, works, adds, ends, sends, listens, takes, between, lost, sort_is}
use Rattle.lent_node.specs.Step.{highest}
use Rattle.lent_node.proofs.Laws.{listens as listens_at}
use Rattle.node_events.specs.declared.Running.{Running}
use Rattle.node_events.specs.Events.{fine, early, unexpected, late, op_of, hears, awaits, opens, closes, saying, counts_of, answering, going, moved_by, finished_by, happened_of}
use Rattle.node_events.specs.Ties.{Holds}
use Rattle.node_events.specs.Told.{Delivered, channel_of, Woke, WorkDone, NoWorkDone, Sends, Receives, NothingCame, NotAllowed, Missed, Told}
use Rattle.node_events.proofs.Tied.{by_stand}
use Rattle.node_events.proofs.Telling.{woke_so, work_done_so, no_work_done_so, nothing_came_so, delivered}

-- ## The wrong tick

module _ (p : List ℕ) (what channel tick : ℕ) (x : Running) where
  abbrev said : ℕ
  said = saying p what channel tick x.registers

  abbrev q : Node
  q = moved_by p (counts_of x) what channel x.registers

  abbrev f : ℕ
  f = finished_by what tick x

  -- a node that is not late yet says what the event's tick says
  says_so : (x.answer ≡ late → ⊥) → (happened_of p what channel tick x).answer ≡ saying p what channel tick x.registers
  says_so n = ap (λ (b : Bool). (cond b x (cond (eqb said 0) (going x q f) (answering x said))).answer) (ne_eqb x.answer 3 n) ∙ go (eqb said 0) refl
    where
      go : (b : Bool) → eqb said 0 ≡ b → (cond b (going x q f) (answering x said)).answer ≡ said
      go true e = sym (eqb-true said 0 e)
      go false e = refl

  -- what is not answered "fine" leaves the node as it is
  stays_so : ((happened_of p what channel tick x).answer ≡ fine → ⊥) → happened_of p what channel tick x ≡ answering x (happened_of p what channel tick x).answer
  stays_so n = go (eqb x.answer 3) (eqb said 0) n
    where
      go : (a b : Bool) → ((cond a x (cond b (going x q f) (answering x said))).answer ≡ fine → ⊥) → cond a x (cond b (going x q f) (answering x said)) ≡ answering x (cond a x (cond b (going x q f) (answering x said))).answer
      go true b n = refl
      go false true n = absurd (n refl)
      go false false n = refl

module _ (p : List ℕ) (what channel tick : ℕ) (r : Node) where
  -- early is before the window and late after it, and the node waits for the event
  too_soon : saying p what channel tick r ≡ early → (awaits p what channel r ≡ true) × (tick < opens what r)
  too_soon = go (awaits p what channel r) (ltb tick (opens what r)) (ltb (closes what r) tick) refl refl
    where
      go : (a b c : Bool) → awaits p what channel r ≡ a → ltb tick (opens what r) ≡ b → ◌≡◌ {A = ℕ} (cond a (cond b early (cond c late fine)) unexpected) early
          → (awaits p what channel r ≡ true) × (tick < opens what r)
      go false b c ea eb e = absurd (omega arith)
      go true true c ea eb e = (ea, ltb-true tick (opens what r) eb)
      go true false true ea eb e = absurd (omega arith)
      go true false false ea eb e = absurd (omega arith)

  too-late : saying p what channel tick r ≡ late → (awaits p what channel r ≡ true) × (closes what r < tick)
  too-late = go (awaits p what channel r) (ltb tick (opens what r)) (ltb (closes what r) tick) refl refl
    where
      go : (a b c : Bool) → awaits p what channel r ≡ a → ltb (closes what r) tick ≡ c → ◌≡◌ {A = ℕ} (cond a (cond b early (cond c late fine)) unexpected) late
          → (awaits p what channel r ≡ true) × (closes what r < tick)
      go false b c ea ec e = absurd (omega arith)
      go true true c ea ec e = absurd (omega arith)
      go true false true ea ec e = (ea, ltb-true (closes what r) tick ec)
      go true false false ea ec e = absurd (omega arith)

  -- what it stands at
  waits_at : awaits p what channel r ≡ true
      → cond (eqb what 0) (eqb (op_of p r) 0) (cond (eqb what 1) (leb 1 (op_of p r) && leb (op_of p r) 3) (cond (eqb what 2) (eqb (op_of p r) 4) (cond (eqb what 3) (hears p channel r) (eqb what 4 && eqb (op_of p r) 5))))
      ≡ true
  waits_at e =
      let rest = cond (eqb what 0) (eqb (op_of p r) 0) (cond (eqb what 1) (leb 1 (op_of p r) && leb (op_of p r) 3) (cond (eqb what 2) (eqb (op_of p r) 4) (cond (eqb what 3) (hears p channel r) (eqb what 4 && eqb (op_of p r) 5)))) in
      ((and_is (leb (length p) 65535) rest).0 ((and_is (leb r.t highest) (leb (length p) 65535 && rest)).0 e).1).1

  at-work : (what ≡ 0 → ⊥) → awaits p what channel r ≡ true → (1 ≤ op_of p r) × (op_of p r ≤ 5)
  at-work n e = go (eqb what 1) (eqb what 2) (eqb what 3) (eqb what 4) (rw (ne_eqb what 0 n) at (waits_at e))
    where
      go : (a b c d : Bool) → cond a (leb 1 (op_of p r) && leb (op_of p r) 3) (cond b (eqb (op_of p r) 4) (cond c (hears p channel r) (d && eqb (op_of p r) 5))) ≡ true → (1 ≤ op_of p r) × (op_of p r ≤ 5)
      go true b c d e =
          let w = (and_is (leb 1 (op_of p r)) (leb (op_of p r) 3)).0 e in
          let l = leb-true 1 (op_of p r) w.0 in
          let m = leb-true (op_of p r) 3 w.1 in
          (l, omega arith)
      go false true c d e = let o = eqb-true (op_of p r) 4 e in (omega arith, omega arith)
      go false false true d e =
          let o = listens_at p channel r ((and_is (names channel (stand_at (rest_at p r.pc))) (not r.taken)).0 e).0 in
          (omega arith, omega arith)
      go false false false d e = let o = eqb-true (op_of p r) 5 ((and_is d (eqb (op_of p r) 5)).0 e).1 in (omega arith, omega arith)

module _ (g : Setting) (c : ℕ) (p : List ℕ) (k : Counts) (s : Run) (r : Node) (h : Holds g c p k s r) where
  -- "sleep unless the tick is t"
  sleep_forbidden : op_of p r ≡ 0 → (own_tick g c s.tick ≡ r.t → ⊥) → choose1 g s c ≡ forbidden
  sleep_forbidden o n = go (sort_is p r.pc (op_of p r) refl)
    where
      go : Sort (drop r.pc p) (op_of p r) (stand_of (node_of p k r)) → choose1 g s c ≡ forbidden
      go (sleeps a d) =
          by_stand g c p k s r h sleeping d
          ∙ ap (λ (b : Bool). cond b (on (moved s c (finished g s c) (observes c (own_tick g c s.tick) (Rattle.model.specs.Run.node_of s c) ∷ []) (previous_finish g c s.works ∷ []) [])) forbidden)
          (ap (λ (v : Rattle.model.specs.Machine.Node). eqb (own_tick g c s.tick) v.t) h.node ∙ ne_eqb (own_tick g c s.tick) r.t n)
      go (works a d) = absurd (omega arith)
      go (adds a d) = absurd (omega arith)
      go (ends a d) = absurd (omega arith)
      go (sends a d) = absurd (omega arith)
      go (listens a d) = absurd (omega arith)
      go (takes a d) = absurd (omega arith)
      go (between a b j d) = absurd (omega arith)
      go (lost a d) = absurd (omega arith)

  -- "a listen unless its window ends now"
  listen_forbidden : op_of p r ≡ 5 → (own_tick g c s.tick ≡ r.t + r.d → ⊥) → choose1 g s c ≡ forbidden
  listen_forbidden o n = go (sort_is p r.pc (op_of p r) refl)
    where
      go : Sort (drop r.pc p) (op_of p r) (stand_of (node_of p k r)) → choose1 g s c ≡ forbidden
      go (listens a d) =
          by_stand g c p k s r h _ d
          ∙ ap (λ (b : Bool). cond b (on (moved s c (finished g s c) [] [] (one c s.tick ∷ []))) forbidden)
          (ap (λ (v : Rattle.model.specs.Machine.Node). eqb (own_tick g c s.tick) (window_end v)) h.node ∙ ne_eqb (own_tick g c s.tick) (r.t + r.d) n)
      go (sleeps a d) = absurd (omega arith)
      go (works a d) = absurd (omega arith)
      go (adds a d) = absurd (omega arith)
      go (ends a d) = absurd (omega arith)
      go (sends a d) = absurd (omega arith)
      go (takes a d) = absurd (omega arith)
      go (between a b j d) = absurd (omega arith)
      go (lost a d) = absurd (omega arith)

  -- a work past its window's end
  work_late : (tick : ℕ) → 1 ≤ op_of p r → op_of p r ≤ 5 → r.t + r.d < tick → late-in g tick c (Rattle.model.specs.Run.node_of s c) (stand_of (Rattle.model.specs.Run.node_of s c)) ≡ true
  work_late tick l m n = ap (λ (v : Rattle.model.specs.Machine.Node). late-in g tick c v (stand_of v)) h.node ∙ go (sort_is p r.pc (op_of p r) refl)
    where
      by : (w : Stand) → stand_of (node_of p k r) ≡ w → late-in g tick c (node_of p k r) w ≡ true → late-in g tick c (node_of p k r) (stand_of (node_of p k r)) ≡ true
      by w e d = ap (late-in g tick c (node_of p k r)) e ∙ d

      past : ltb (r.t + r.d) tick ≡ true
      past = lt-ltb (r.t + r.d) tick n

      go : Sort (drop r.pc p) (op_of p r) (stand_of (node_of p k r)) → late-in g tick c (node_of p k r) (stand_of (node_of p k r)) ≡ true
      go (sleeps a d) = absurd (omega arith)
      go (works a d) = by _ d past
      go (adds a d) = by _ d past
      go (ends a d) = by _ d past
      go (sends a d) = by _ d past
      go (listens a d) = by _ d past
      go (takes a d) = absurd (omega arith)
      go (between a b j d) = absurd (omega arith)
      go (lost a d) = absurd (omega arith)

-- ## The whole call

module _ (p : List ℕ) (channel tick : ℕ) (x : Running) where
  off_sleep : (y : ℕ) → y ≡ saying p 0 channel tick x.registers → (y ≡ early) ⊎ (y ≡ late) → (op_of p x.registers ≡ 0) × (tick ≡ x.registers.t → ⊥)
  off_sleep y e (inl q) =
      let w = too_soon p 0 channel tick x.registers (sym e ∙ q) in
      (eqb-true (op_of p x.registers) 0 (waits_at p 0 channel tick x.registers w.0), λ z. not_now w.1 z)
    where
      not_now : tick < x.registers.t → tick ≡ x.registers.t → ⊥
      not_now l z = omega arith
  off_sleep y e (inr q) =
      let w = too-late p 0 channel tick x.registers (sym e ∙ q) in
      (eqb-true (op_of p x.registers) 0 (waits_at p 0 channel tick x.registers w.0), λ z. not_now w.1 z)
    where
      not_now : x.registers.t < tick → tick ≡ x.registers.t → ⊥
      not_now l z = omega arith

  off_listen : (y : ℕ) → y ≡ saying p 4 channel tick x.registers → (y ≡ early) ⊎ (y ≡ late) → (op_of p x.registers ≡ 5) × (tick ≡ x.registers.t + x.registers.d → ⊥)
  off_listen y e (inl q) =
      let w = too_soon p 4 channel tick x.registers (sym e ∙ q) in
      (eqb-true (op_of p x.registers) 5 (waits_at p 4 channel tick x.registers w.0), λ z. not_now w.1 z)
    where
      not_now : tick < x.registers.t + x.registers.d → tick ≡ x.registers.t + x.registers.d → ⊥
      not_now l z = omega arith
  off_listen y e (inr q) =
      let w = too-late p 4 channel tick x.registers (sym e ∙ q) in
      (eqb-true (op_of p x.registers) 5 (waits_at p 4 channel tick x.registers w.0), λ z. not_now w.1 z)
    where
      not_now : x.registers.t + x.registers.d < tick → tick ≡ x.registers.t + x.registers.d → ⊥
      not_now l z = omega arith

  not_allowed_so : (what : ℕ) → (what ≡ 0) ⊎ (what ≡ 4) → (x.answer ≡ late → ⊥)
      → ((happened_of p what channel tick x).answer ≡ early) ⊎ ((happened_of p what channel tick x).answer ≡ late) → NotAllowed p tick x (happened_of p what channel tick x)
  not_allowed_so what (inl e) n q g c s b t =
      let a = subst (λ (w : ℕ). ((happened_of p w channel tick x).answer ≡ early) ⊎ ((happened_of p w channel tick x).answer ≡ late)) e q in
      let w = off_sleep (happened_of p 0 channel tick x).answer (says_so p 0 channel tick x n) a in
      sleep_forbidden g c p (counts_of x) s x.registers b.holds w.0 (λ z. w.1 (sym t ∙ z))
  not_allowed_so what (inr e) n q g c s b t =
      let a = subst (λ (w : ℕ). ((happened_of p w channel tick x).answer ≡ early) ⊎ ((happened_of p w channel tick x).answer ≡ late)) e q in
      let w = off_listen (happened_of p 4 channel tick x).answer (says_so p 4 channel tick x n) a in
      listen_forbidden g c p (counts_of x) s x.registers b.holds w.0 (λ z. w.1 (sym t ∙ z))

  missed_so : (what : ℕ) → (what ≡ 0 → ⊥) → (x.answer ≡ late → ⊥) → (happened_of p what channel tick x).answer ≡ late → Missed p tick x (happened_of p what channel tick x)
  missed_so what z n q g c s b t =
      let w = too-late p what channel tick x.registers (sym (says_so p what channel tick x n) ∙ q) in
      let o = at-work p what channel tick x.registers z w.0 in
      work_late g c p (counts_of x) s x.registers b.holds tick o.0 o.1 (rw (ne_eqb what 0 z) at w.1)

  sends_so : (happened_of p 2 channel tick x).answer ≡ fine → Sends p tick x (happened_of p 2 channel tick x)
  sends_so e f g c s b t i is to p' x' b' e' =
      subst (λ (n : ℕ). Delivered g c i (channel_of p x) p p' s (happened_of p 2 channel n x) (happened_of p' 3 (channel_of p x) (own_tick g i s.tick) x')) t
      (delivered x x' b b' channel (channel_of p x) is refl to f (subst (λ (n : ℕ). (happened_of p 2 channel n x).answer ≡ fine) (sym t) e) e')

  receives_so : (happened_of p 3 channel tick x).answer ≡ fine → Receives p tick x (happened_of p 3 channel tick x) channel
  receives_so e g i s b t c is to p' x' b' fits on-m e' =
      subst (λ (n : ℕ). Delivered g c i channel p' p s (happened_of p' 2 channel (own_tick g c s.tick) x') (happened_of p 3 channel n x)) t
      (delivered x' x b' b channel channel is on-m to fits e' (subst (λ (n : ℕ). (happened_of p 3 channel n x).answer ≡ fine) (sym t) e))

  -- by event
  pub told_so : (what : ℕ) → Told p what channel tick x (happened_of p what channel tick x)
  told_so what =
      record {
        woke = λ e. subst (λ (w : ℕ). (happened_of p w channel tick x).answer ≡ fine → Woke p tick x (happened_of p w channel tick x)) (sym e) (woke_so p channel tick x);
        work_done = λ e. subst (λ (w : ℕ). (happened_of p w channel tick x).answer ≡ fine → WorkDone p tick x (happened_of p w channel tick x)) (sym e) (work_done_so p channel tick x);
        no_work_done = λ e. subst (λ (w : ℕ). (happened_of p w channel tick x).answer ≡ fine → NoWorkDone p tick x (happened_of p w channel tick x)) (sym e) (no_work_done_so p channel tick x);
        sends = λ e. subst (λ (w : ℕ). (happened_of p w channel tick x).answer ≡ fine → Sends p tick x (happened_of p w channel tick x)) (sym e) sends_so;
        receives = λ e. subst (λ (w : ℕ). (happened_of p w channel tick x).answer ≡ fine → Receives p tick x (happened_of p w channel tick x) channel) (sym e) receives_so;
        nothing_came = λ e. subst (λ (w : ℕ). (happened_of p w channel tick x).answer ≡ fine → NothingCame p tick x (happened_of p w channel tick x)) (sym e) (nothing_came_so p channel tick x);
        not-allowed = not_allowed_so what;
        missed = missed_so what;
        stays = stays_so p what channel tick x;
      }
