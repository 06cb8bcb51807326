-- The whole schedule: its messages are put in when all passages are listed. Assumes nothing.
use mathlib.Core.Path.{◌≡◌, refl, sym, ap, subst, ◌∙◌}
use mathlib.Core.List.{List, ◌∷◌, map}
use Prim.Native.Nat.{ℕ, zero, suc, ◌-◌, ◌<◌}
use native.Mathlib.Omega.{arith}
use lib.ListN.{length, length-map}
use Rattle.model.specs.declared.Verdict.{Verdict}
use Rattle.model.specs.declared.Verdict.TheVariants.{Accepted, Refused}
use Rattle.model.specs.Lists.{Answer, accepted, refused, ◌after◌}
use Rattle.model.specs.Table.{size}
use Rattle.model.specs.Places.{read_of}
use Rattle.model.specs.Schedule.{Passage, message_in, with_message, go_on, finished, schedule, light}
use Rattle.model.specs.Checks.{limit, checked, accepted_schedule}
use Rattle.model.specs.Calls.{verdict_of}
use Rattle.model.proofs.Checks.Heard.{checked_is}
use Rattle.table.proofs.Answered.{verdict_accepted}
use Rattle.rows.specs.Rows.{num, row_passage, rows_from, rows_of, RowsPlaced, Told, MessagesPut}
use Rattle.rows.proofs.Grown.{put_placed, rows_finished}
use Rattle.schedule.specs.declared.Scheduled.{Scheduled}
use Rattle.schedule.specs.Filled.{Filled, schedule_of, accepted_schedule_in}
use Rattle.schedule.specs.Going.{fresh, begun, unfinished, Listed}
use Rattle.schedule.proofs.Bare.{finished_bare, checked_light}

-- rows keep no clocks and variables
rows_light : (l : List ℕ) (i n : ℕ) → rows_from l i n ≡ map light (rows_from l i n)
unfolding rows_from
rows_light l i zero = refl
rows_light l i (suc n) = ap (λ vs. row_passage l i ∷ vs) (rows_light l (suc i) n)

-- one after the other
after_after : {A B D : Type 0} (a : Answer A) (f : A → Answer B) (g : B → Answer D) → (a after λ x. f x after g) ≡ ((a after f) after g)
after_after (accepted a) f g = refl
after_after (refused k c) f g = refl

module _ (bs : List ℕ) where
  -- the schedule is what the loops list, finished
  schedule_is : schedule_of bs ≡ (unfinished bs after λ ws. accepted (finished (read_of bs).table (read_of bs).horizon ws))
  unfolding schedule
  schedule_is =
      after_after (begun bs) (λ vs. go_on (read_of bs).table (read_of bs).horizon (limit - size (read_of bs).table) (fresh vs))
      (λ ws. accepted (finished (read_of bs).table (read_of bs).horizon ws))

  -- a refusal
  pub filled_refused : {a : Answer (List Passage)} (r : Scheduled) (l : List ℕ) (k c : ℕ) → a ≡ refused k c → r.verdict ≡ Refused k c → r.count ≡ 0 → Filled bs a r l
  filled_refused {a} r l k c e v z =
      record {
        verdict = v ∙ sym (ap verdict_of e);
        count = λ S q. (let z : ◌≡◌ {A = ℕ} 0 1 = cc in absurd (omega arith));
        rows = λ S q. (let z : ◌≡◌ {A = ℕ} 0 1 = cc in absurd (omega arith));
        placed = λ S q. (let z : ◌≡◌ {A = ℕ} 0 1 = cc in absurd (omega arith));
        none = λ k c q. z;
      }

  -- 8 or 9 at tick 0
  pub begun_refused : {v : Verdict} {k c : ℕ} (l : List ℕ) → v ≡ verdict_of (begun bs) → v ≡ Refused k c → Filled bs (schedule_of bs) (record { verdict = Refused k c; count = 0 }) l
  unfolding schedule
  begun_refused {v} {k} {c} l p q = go (begun bs) refl (sym p ∙ q)
    where
      go : (a : Answer (List Passage)) → begun bs ≡ a → verdict_of a ≡ Refused k c → Filled bs (schedule_of bs) (record { verdict = Refused k c; count = 0 }) l
      go (accepted vs) e f = let z : ◌≡◌ {A = ℕ} 0 1 = cc in absurd (omega arith)
      go (refused m d) e f =
          filled_refused (record { verdict = Refused k c; count = 0 }) l m d
          (schedule_is ∙ ap (λ a. (a after λ vs. go_on (read_of bs).table (read_of bs).horizon (limit - size (read_of bs).table) (fresh vs)) after λ ws. accepted (finished (read_of bs).table (read_of bs).horizon ws)) e)
          (sym f) refl

  -- accepted passages with their messages
  filled_accepted : {a : Answer (List Passage)} (r : Scheduled) (l : List ℕ) (S : List Passage) → a ≡ accepted S → r.verdict ≡ Accepted → r.count ≡ length S
      → rows_of l r.count ≡ map light S → RowsPlaced bs l r.count → Filled bs a r l
  filled_accepted {a} r l S e v n rows p =
      record {
        verdict = v ∙ sym (ap verdict_of e);
        count = λ W q. n ∙ ap length (same_list q);
        rows = λ W q. ap (rows_of l) (sym (n ∙ ap length (same_list q))) ∙ rows ∙ ap (map light) (same_list q);
        placed = λ W q. subst (RowsPlaced bs l) (n ∙ ap length (same_list q)) p;
        none = λ k c q. (let z : ◌≡◌ {A = ℕ} 0 1 = cc in absurd (omega arith));
      }
    where
      same_list : {W : List Passage} → a ≡ accepted W → S ≡ W
      same_list q = cc

  -- the rows that end before the horizon have their messages
  pub told_at : {a : Answer (List Passage)} (r : Scheduled) (l : List ℕ) (H : ℕ) → H ≡ (read_of bs).horizon → Listed bs a r l
      → (i : ℕ) → i < r.count → num l i 5 < H → Told bs H l r.count i
  told_at r l H h g = subst (λ k. (i : ℕ) → i < r.count → num l i 5 < k → Told bs k l r.count i) (sym h) g.told

  -- the loops end, and the messages are put in
  pub filled_put : (r : Scheduled) (l l' : List ℕ) (H : ℕ) → H ≡ (read_of bs).horizon → Listed bs (unfinished bs) r l → MessagesPut bs H r.count l l' → Filled bs (schedule_of bs) r l'
  unfolding finished
  filled_put r l l' H h g p = go (unfinished bs) refl
    where
      go : (a : Answer (List Passage)) → unfinished bs ≡ a → Filled bs (schedule_of bs) r l'
      go (refused k c) e =
          filled_refused r l' k c (schedule_is ∙ ap (λ a. a after λ ws. accepted (finished (read_of bs).table (read_of bs).horizon ws)) e) (g.verdict ∙ ap verdict_of e) (g.none k c e)
      go (accepted ws) e =
          let S = finished (read_of bs).table (read_of bs).horizon ws in
          filled_accepted r l' S (schedule_is ∙ ap (λ a. a after λ ws. accepted (finished (read_of bs).table (read_of bs).horizon ws)) e) (g.verdict ∙ ap verdict_of e)
          (g.count ws e ∙ sym (length-map ws (λ v. with_message v (message_in (read_of bs).table (read_of bs).horizon ws v))))
          (rows_light l' 0 r.count ∙ ap (map light) (rows_finished bs H r.count l l' p)
          ∙ sym (finished_bare (read_of bs).table H (rows_of l r.count)) ∙ ap (finished (read_of bs).table H) (g.rows ws e) ∙ finished_bare (read_of bs).table H ws
          ∙ ap (λ k. map light (finished (read_of bs).table k ws)) h)
          (put_placed bs H r.count l l' p g.placed)

-- ## Checks 10 to 12

module _ (bs : List ℕ) (r : Scheduled) (l : List ℕ) (f : Filled bs (schedule_of bs) r l) where
  -- 7 to 9
  pub plan_refused : (G : ℕ) {k c : ℕ} → r.verdict ≡ Refused k c → Filled bs (accepted_schedule_in G bs) r l
  unfolding accepted_schedule
  plan_refused G {k} {c} v = go (schedule_of bs) refl
    where
      go : (a : Answer (List Passage)) → schedule_of bs ≡ a → Filled bs (accepted_schedule_in G bs) r l
      go (accepted S) e = let q : Accepted ≡ Refused k c = sym (f.verdict ∙ ap verdict_of e) ∙ v in let z : ◌≡◌ {A = ℕ} 0 1 = cc in absurd (omega arith)
      go (refused m d) e =
          filled_refused bs r l m d (ap (λ a. a after λ S. checked G (read_of bs).table (read_of bs).horizon S) e) (f.verdict ∙ ap verdict_of e) (f.none m d e)

  module _ (v : r.verdict ≡ Accepted) where
    -- what was accepted
    pub was : (S : List Passage) × (schedule_of bs ≡ accepted S)
    was = verdict_accepted (schedule_of bs) (sym f.verdict ∙ v)

    -- the rows to check
    pub rows_placed : RowsPlaced bs l r.count
    rows_placed = subst (RowsPlaced bs l) (sym (f.count was.0 was.1)) (f.placed was.0 was.1)

    module _ (G H : ℕ) (h : H ≡ (read_of bs).horizon) (w : Verdict) (e : w ≡ verdict_of (checked G (read_of bs).table H (rows_of l r.count))) where
      -- the verdict is that of the passages
      verdict_is : w ≡ verdict_of (checked G (read_of bs).table (read_of bs).horizon was.0)
      verdict_is =
          e ∙ ap (λ k. verdict_of (checked G (read_of bs).table k (rows_of l r.count))) h
          ∙ ap (λ vs. verdict_of (checked G (read_of bs).table (read_of bs).horizon vs)) (ap (rows_of l) (f.count was.0 was.1) ∙ f.rows was.0 was.1)
          ∙ checked_light G (read_of bs).table (read_of bs).horizon was.0

      plan_is : accepted_schedule_in G bs ≡ checked G (read_of bs).table (read_of bs).horizon was.0
      unfolding accepted_schedule
      plan_is = ap (λ a. a after λ S. checked G (read_of bs).table (read_of bs).horizon S) was.1

      -- 10 to 12
      pub plan_faulty : {k c : ℕ} → w ≡ Refused k c → Filled bs (accepted_schedule_in G bs) (record { verdict = Refused k c; count = 0 }) l
      plan_faulty {k} {c} q = go (checked G (read_of bs).table (read_of bs).horizon was.0) refl
        where
          go : (a : Answer (List Passage)) → checked G (read_of bs).table (read_of bs).horizon was.0 ≡ a → Filled bs (accepted_schedule_in G bs) (record { verdict = Refused k c; count = 0 }) l
          go (accepted S) p = let x : Accepted ≡ Refused k c = sym (verdict_is ∙ ap verdict_of p) ∙ q in let z : ◌≡◌ {A = ℕ} 0 1 = cc in absurd (omega arith)
          go (refused m d) p = filled_refused bs (record { verdict = Refused k c; count = 0 }) l m d (plan_is ∙ p) (sym q ∙ verdict_is ∙ ap verdict_of p) refl

      -- all passed
      pub plan_accepted : w ≡ Accepted → Filled bs (accepted_schedule_in G bs) r l
      plan_accepted q = go (checked G (read_of bs).table (read_of bs).horizon was.0) refl
        where
          go : (a : Answer (List Passage)) → checked G (read_of bs).table (read_of bs).horizon was.0 ≡ a → Filled bs (accepted_schedule_in G bs) r l
          go (refused m d) p = let x : Accepted ≡ Refused m d = sym q ∙ verdict_is ∙ ap verdict_of p in let z : ◌≡◌ {A = ℕ} 0 1 = cc in absurd (omega arith)
          go (accepted S) p =
              let s : was.0 ≡ S = ((checked_is G (read_of bs).table (read_of bs).horizon was.0 S).0 p).0 in
              subst (λ a. Filled bs a r l) (was.1 ∙ ap accepted s ∙ sym (plan_is ∙ p)) f
