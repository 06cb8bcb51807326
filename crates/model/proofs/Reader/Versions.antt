-- A table of version 1 gets what document 01 gave it: verdict, schedule, program, run and meetings; and the chart of that schedule. The verdict is
-- document 01's with 15 to 17 read as 11 (document 02, wish 3). Tables of versions 1 and 2 are read as before wish 8, and have the program that they
-- had. Assumes nothing.
use mathlib.Core.Path.{◌≡◌, refl, sym, ap, ap₂, subst, ◌∙◌}
use mathlib.Core.Bool.{Bool, true, false, cond, ◌&&◌, not}
use mathlib.Core.List.{List, [], ◌∷◌, ◌++◌, map}
use mathlib.Core.Option.{Option, none, some}
use Prim.Native.Nat.{ℕ, zero, suc, ◌+◌, ◌*◌, ◌<◌}
use native.Mathlib.Omega.{arith}
use borrow.Author.Tests.{eq-eqb, le-leb, lt-leb}
use lib.Dec.{leb, ltb, eqb}
use lib.ListN.{length, drop, get_or, replicate}
use Rattle.model.specs.Lists.{All, empty, more, any, only, below, first, each, Answer, accepted, refused, ◌after◌}
use Rattle.model.specs.Table.{Component, Table, Read, band_of, location_of}
use Rattle.model.specs.Limits.{InLimits}
use Rattle.model.specs.Reader.{header_at, byte, word, read_components, length_fine, count_fine, body_start, bands_at, bands_fine, version_fine, read_with, read_table}
use Rattle.model.specs.Schedule.{Passage, others, schedule}
use Rattle.model.specs.Checks.{near, disturb, is_send, is_receive, meets, collides, may_hear, heard_well, unheard, two, crowded, limit, checked, accepted_schedule, accepted_schedule_of}
use Rattle.model.specs.Program.{Statement, take_edge, location_block, edge_block, blocks, node_body, node_bytes, program_bytes}
use Rattle.model.specs.Run.{setting_of, run, observation_width}
use Rattle.model.specs.Calls.{verdict_of, schedule_with, bytes_with, accepted_schedule_in, check_call, schedule_call, program_in, translate_call, not_run, ran, run_with, run_planned, run_read, run_call}
use Rattle.model.specs.Meetings.{sends_met, listeners_met, sends_heard, with_met, concerned, concerned_at, list_or, meetings_in, meetings_call}
use Rattle.model.specs.Chart.{chart, chart_in, chart_call}
use Rattle.model.specs.Hearings.{merged, merged_verdict, merged_call, merged_run, merged_meetings}
use Rattle.model.specs.Versions.{read_with01, read_table01, read_table12, share_tick, meets01, may_hear01, heard_well01, unheard01, crowded01, collides01, checked01, accepted_schedule_of01, location_block12, blocks12, node_body12, node_bytes12, program_bytes12, program_bytes01, check_call01, schedule_call01, translate_call01, chart_call01, run_with01, run_read01, run_call01, concerned01, meetings_in01, meetings_call01}
use Rattle.model.proofs.Basics.Bools.{and_is}
use Rattle.model.proofs.Reader.Bands.{zeros_small}
use Rattle.model.proofs.Reader.Parts.{after_ok, cond_accepted, accepted_same}
use Rattle.model.proofs.Basics.Members.{first_some}
use Rattle.model.proofs.Checks.Heard.{send_is}
use Rattle.model.proofs.Checks.Numbers.{UpTo, read_up_to}
use Rattle.model.proofs.Checks.Merged.{as_below, merged_faults, schedule_merged, read_merged, verdict_merged, schedule_call_merged, bytes_call_merged, made_merged}
use Rattle.model.proofs.Reader.Limits.{read_limits}
use Rattle.model.proofs.Schedule.Budgets.{Bare, no_budgets, same_trials}

-- ## Equal questions

-- what is done after equal answers
after_same : {A B : Type 0} (a : Answer A) (f g : A → Answer B) → ((x : A) → a ≡ accepted x → f x ≡ g x) → (a after f) ≡ (a after g)
after_same (accepted x) f g h = h x refl
after_same (refused n c) f g h = refl

-- what each of a list becomes
map_same : {A B : Type 0} (f g : A → B) → ((x : A) → f x ≡ g x) → (xs : List A) → map f xs ≡ map g xs
map_same f g h [] = refl
map_same f g h (x ∷ xs) = ap₂ ◌∷◌ (h x) (map_same f g h xs)

-- an equal test of each passage
module _ (p q : Passage → Bool) (f : (o : Passage) → p o ≡ q o) where
  any_same : (l : List Passage) → any p l ≡ any q l
  any_same [] = refl
  any_same (o ∷ l) = rw (f o, any_same l)

  only_same : (l : List Passage) → only p l ≡ only q l
  only_same [] = refl
  only_same (o ∷ l) = rw (f o, only_same l)

  first_same : (l : List Passage) → first p l ≡ first q l
  first_same [] = refl
  first_same (o ∷ l) = rw (f o, first_same l)

-- ## The questions of 10 to 12 at the spread 0

share_same : (v w : Passage) → near 0 v w ≡ share_tick v w
share_same v w =
    let a : w.end + 0 ≡ w.end = omega arith in
    let b : v.end + 0 ≡ v.end = omega arith in
    rw (a, b)

module _ (T : Table) (H : ℕ) (S : List Passage) where
  hear_same : (r s : Passage) → may_hear 0 T r s ≡ may_hear01 T r s
  hear_same r s = rw (share_same r s)

  well_same : (s : Passage) (l : List Passage) → heard_well 0 s l ≡ heard_well01 s l
  well_same s [] = refl
  well_same s (r ∷ []) =
      let a : r.ready + 0 ≡ r.ready = omega arith in
      let b : s.end + 0 ≡ s.end = omega arith in
      rw (a, b)
  well_same s (r ∷ q ∷ rs) = refl

  listeners_same : (s : Passage) → listeners_met 0 T S s ≡ only (λ r. may_hear01 T r s) S
  listeners_same s = only_same (λ r. may_hear 0 T r s) (λ r. may_hear01 T r s) (λ r. hear_same r s) S

  sends_same : (r : Passage) → sends_heard 0 T H S r ≡ only (λ s. is_send T H s && may_hear01 T r s) S
  sends_same r = only_same (λ s. is_send T H s && may_hear 0 T r s) (λ s. is_send T H s && may_hear01 T r s) (λ s. ap (λ (b : Bool). is_send T H s && b) (hear_same r s)) S

  -- 11 and 12 ask what they asked
  pub same_unheard : first (unheard 0 T H S) S ≡ first (unheard01 T H S) S
  same_unheard =
      first_same (unheard 0 T H S) (unheard01 T H S)
      (λ s. ap (λ (b : Bool). is_send T H s && not b) (well_same s (listeners_met 0 T S s) ∙ ap (heard_well01 s) (listeners_same s))) S

  pub same_crowded : first (crowded 0 T H S) S ≡ first (crowded01 T H S) S
  same_crowded = first_same (crowded 0 T H S) (crowded01 T H S) (λ r. ap (λ (l : List Passage). is_receive T r && two l) (sends_same r)) S

-- ## The reader

module _ (bs : List ℕ) (one : byte bs 0 ≡ 1) where
  -- no bands stand behind the header, and all are 0
  no_bands : (body_start bs ≡ 7) × (bands_at bs ≡ replicate (byte bs 4) 0)
  no_bands = let f : leb 2 (byte bs 0) ≡ false = rw one in (rw f (omega arith), rw f)

  -- 3 asks nothing more
  no-question : length_fine bs ≡ true → bands_fine bs ≡ true
  no-question e =
      let l = (and_is (leb 7 (length bs) && leb (length bs) 8192) (eqb (word bs 1) (length bs))).0 e in
      let m = (and_is (leb 7 (length bs)) (leb (length bs) 8192)).0 l.0 in
      rw (no_bands.0, no_bands.1, m.0) (zeros_small (byte bs 4))

  -- bytes that begin with 1 are read, or refused, as document 01 says
  pub same_reading : read_table bs ≡ read_table01 bs
  unfolding read_table read_table01
  same_reading =
      let hd : header_at bs ≡ record { channels = byte bs 4; budgets = false } = rw one in
      let v : version_fine bs ≡ true = rw one in
      let f : eqb (byte bs 0) 1 ≡ true = rw one in
      rw (v, f, hd) (go (length_fine bs) refl)
    where
      told : (l : List Component) → accepted (read_with bs l) ≡ accepted (read_with01 bs l)
      told l = ap accepted (rw one)

      counted : (t : Bool)
          → cond (t && true) (read_components (record { channels = byte bs 4; budgets = false }) (byte bs 3) 0 (drop 7 bs) after λ l. accepted (read_with bs l)) (refused 3 255)
          ≡ cond t (read_components (record { channels = byte bs 4; budgets = false }) (byte bs 3) 0 (drop 7 bs) after λ l. accepted (read_with01 bs l)) (refused 3 255)
      counted true = after_same (read_components (record { channels = byte bs 4; budgets = false }) (byte bs 3) 0 (drop 7 bs)) (λ l. accepted (read_with bs l)) (λ l. accepted (read_with01 bs l)) (λ l e. told l)
      counted false = refl

      go : (t : Bool) → length_fine bs ≡ t
          → cond t (cond (count_fine bs && bands_fine bs) (read_components (record { channels = byte bs 4; budgets = false }) (byte bs 3) 0 (drop (body_start bs) bs) after λ l. accepted (read_with bs l)) (refused 3 255)) (refused 2 255)
          ≡ cond t (cond (count_fine bs) (read_components (record { channels = byte bs 4; budgets = false }) (byte bs 3) 0 (drop 7 bs) after λ l. accepted (read_with01 bs l)) (refused 3 255)) (refused 2 255)
      go false e = refl
      go true e = rw (no-question e, no_bands.0) (counted (count_fine bs))

-- bytes that begin with 0, 1 or 2 are read, or refused, as before wish 8
pub same_reading_12 : (bs : List ℕ) → byte bs 0 < 3 → read_table bs ≡ read_table12 bs
unfolding read_table read_table12
same_reading_12 bs h =
    let none : leb 3 (byte bs 0) ≡ false = lt-leb 3 (byte bs 0) h in
    let most : leb (byte bs 0) 3 ≡ true = le-leb (byte bs 0) 3 (omega arith) in
    let most12 : leb (byte bs 0) 2 ≡ true = le-leb (byte bs 0) 2 (omega arith) in
    rw (none, most, most12)

-- the version of what is read is the first byte
read_version : (bs : List ℕ) (t : Read) → read_table bs ≡ accepted t → t.version ≡ byte bs 0
unfolding read_table
read_version bs t e =
    let first = cond_accepted (version_fine bs) _ 1 255 e in
    let second = cond_accepted (length_fine bs) _ 2 255 first.1 in
    let third = cond_accepted (count_fine bs && bands_fine bs) _ 3 255 second.1 in
    let k = after_ok (read_components (header_at bs) (byte bs 3) 0 (drop (body_start bs) bs)) _ third.1 in
    sym (ap (λ (u : Read). u.version) (accepted_same k.2))

-- ## Check 10 and the schedule

zero_band : (n k : ℕ) → ◌≡◌ {A = ℕ} (get_or (replicate n 0) k 0) 0
zero_band zero k = refl
zero_band (suc n) zero = refl
zero_band (suc n) (suc k) = zero_band n k

module _ (t : Read) (h : InLimits t) (one : t.version ≡ 1) where
  -- any two sends disturb each other
  pub all_disturb : (H : ℕ) (s o : Passage) → is_send t.table H s ≡ true → is_send t.table H o ≡ true → disturb t.table s o ≡ true
  all_disturb H s o a b =
      let j = (send_is t.table H s).0 a in
      let k = (send_is t.table H o).0 b in
      let z : t.table.bands ≡ replicate t.table.channels 0 = h.bands.first (omega (arith, one)) in
      let zero_at : (i : ℕ) → band_of t.table i ≡ 0 = λ i. ap (λ l. get_or l i 0) z ∙ zero_band t.table.channels i in
      rw (j.1, k.1) (eq-eqb (band_of t.table j.0) (band_of t.table k.0) (zero_at j.0 ∙ sym (zero_at k.0)))

  -- a send meets those that it met
  same_meets : (H : ℕ) (s : Passage) → is_send t.table H s ≡ true → (o : Passage) → meets 0 t.table H s o ≡ meets01 t.table H s o
  same_meets H s e o = pick (is_send t.table H o) refl
    where
      drop_true : (b : Bool) → (b && true && share_tick s o) ≡ (b && share_tick s o)
      drop_true true = refl
      drop_true false = refl

      pick : (b : Bool) → is_send t.table H o ≡ b → (b && others o s && disturb t.table s o && near 0 s o) ≡ (b && others o s && share_tick s o)
      pick true f = rw (all_disturb H s o e f, share_same s o) (drop_true (others o s))
      pick false f = refl

  -- so check 10 asks what it asked
  pub same_collides : (H : ℕ) (S : List Passage) (s : Passage) → collides 0 t.table H S s ≡ collides01 t.table H S s
  same_collides H S s = go (is_send t.table H s) refl
    where
      go : (b : Bool) → is_send t.table H s ≡ b → (b && any (meets 0 t.table H s) S) ≡ (b && any (meets01 t.table H s) S)
      go true e = any_same (meets 0 t.table H s) (meets01 t.table H s) (same_meets H s e) S
      go false e = refl

  pub same_first : (H : ℕ) (S : List Passage) → first (collides 0 t.table H S) S ≡ first (collides01 t.table H S) S
  same_first H S = first_same (collides 0 t.table H S) (collides01 t.table H S) (same_collides H S) S

  -- 10 to 12 answer what they answered
  pub same_checked : (H : ℕ) (S : List Passage) → merged (checked 0 t.table H S) ≡ checked01 t.table H S
  unfolding checked checked01
  same_checked H S =
      rw (same_first H S) (merged_faults 0 t.table H S (first (collides01 t.table H S) S) ∙ rw (same_unheard t.table H S, same_crowded t.table H S))

  -- 7 to 12 answer what they answered, with the schedule
  pub same_schedule : merged (accepted_schedule_of t) ≡ accepted_schedule_of01 t
  same_schedule = schedule_merged t (checked01 t.table t.horizon) (same_checked t.horizon)

  -- and the windows that met are those that did
  pub same_concerned : (H : ℕ) (S : List Passage) → concerned 0 t.table H S ≡ concerned01 t.table H S
  unfolding concerned concerned01
  same_concerned H S = rw (same_first H S, same_unheard t.table H S, same_crowded t.table H S) (met (first (collides01 t.table H S) S) (same_first H S))
    where
      T : Table
      T = t.table

      two_sends : List Passage
      two_sends = with_met (λ r. only (λ s. is_send T H s && may_hear01 T r s) S) (first (crowded01 T H S) S) []

      with_same : (p q : Passage → List Passage) (o : Option Passage) (further : List Passage) → ((v : Passage) → p v ≡ q v) → with_met p o further ≡ with_met q o further
      with_same p q none further h = refl
      with_same p q (some v) further h = ap (λ (l : List Passage). v ∷ l) (h v)

      heard : with_met (listeners_met 0 T S) (first (unheard01 T H S) S) (with_met (sends_heard 0 T H S) (first (crowded01 T H S) S) [])
          ≡ with_met (λ s. only (λ r. may_hear01 T r s) S) (first (unheard01 T H S) S) two_sends
      heard =
          ap (with_met (listeners_met 0 T S) (first (unheard01 T H S) S)) (with_same (sends_heard 0 T H S) _ (first (crowded01 T H S) S) [] (sends_same T H S))
          ∙ with_same (listeners_met 0 T S) _ (first (unheard01 T H S) S) two_sends (listeners_same T H S)

      met : (o : Option Passage) → first (collides 0 T H S) S ≡ o
          → with_met (sends_met 0 T H S) o (with_met (listeners_met 0 T S) (first (unheard01 T H S) S) (with_met (sends_heard 0 T H S) (first (crowded01 T H S) S) []))
          ≡ with_met (λ s. only (meets01 T H s) S) o (with_met (λ s. only (λ r. may_hear01 T r s) S) (first (unheard01 T H S) S) two_sends)
      met none e = heard
      met (some v) e =
          let h = first_some (collides 0 T H S) S e in
          let sends = (and_is (is_send T H v) (any (meets 0 T H v) S)).0 h.1 in
          ap (λ (l : List Passage). v ∷ l) (only_same (meets 0 T H v) (meets01 T H v) (same_meets H v sends.0) S)

-- ## The program

-- a component whose edges have no budget has the blocks that it had
module _ (C : Component) (bare : Bare C.arcs) where
  same_blocks : blocks C ≡ blocks12 C
  unfolding blocks blocks12 location_block location_block12
  same_blocks = ap (λ (f : List (List Statement)). f ++ map (edge_block C) (below (length C.arcs))) (map_same _ _ (λ here. ap (λ (l : List Statement). l ++ (take_edge ∷ [])) (same_trials (location_of C here) here 0 bare)) (below (length C.locations)))

  same_node : node_bytes C ≡ node_bytes12 C
  unfolding node_bytes node_bytes12 node_body node_body12
  same_node = rw same_blocks

same_nodes : {Cs : List Component} → All (λ C. Bare C.arcs) Cs → each node_bytes Cs ≡ each node_bytes12 Cs
unfolding each
same_nodes empty = refl
same_nodes (more {x = C} b bs) = ap₂ ◌++◌ (same_node C b) (same_nodes bs)

-- a program of versions 1 and 2 is that of the earlier rule
pub same_program_12 : (t : Read) → InLimits t → t.version < 3 → program_bytes t ≡ program_bytes12 t
unfolding program_bytes program_bytes12
same_program_12 t h v = rw (same_nodes (no_budgets t h v))

-- one of version 1 is document 01's
pub same_program : (t : Read) → InLimits t → t.version ≡ 1 → program_bytes t ≡ program_bytes01 t
unfolding program_bytes12 program_bytes01
same_program t h one = same_program_12 t h (omega (arith, one)) ∙ rw one

-- ## The calls

module _ (bs : List ℕ) (one : byte bs 0 ≡ 1) where
  -- what is read is in the limits, of version 1
  known : (t : Read) → read_table01 bs ≡ accepted t → InLimits t × (t.version ≡ 1)
  known t e = let r = same_reading bs one ∙ e in (read_limits bs t r, read_version bs t r ∙ one)

  -- what is done with the table read
  read_same : {A : Type 0} (f g : Read → Answer A) → ((t : Read) → InLimits t → t.version ≡ 1 → f t ≡ g t) → (read_table bs after f) ≡ (read_table01 bs after g)
  read_same {A} f g h =
      ap (λ (a : Answer Read). a after f) (same_reading bs one) ∙ after_same (read_table01 bs) f g (λ t e. let k = known t e in h t k.0 k.1)

  -- and with its verdict
  answer_same : {A : Type 0} (f g : Read → Answer A) → ((t : Read) → InLimits t → t.version ≡ 1 → merged (f t) ≡ g t)
      → merged (read_table bs after f) ≡ (read_table01 bs after g)
  answer_same {A} f g h =
      read_merged bs f (λ t. merged (f t)) (λ t e. refl) ∙ read_same (λ t. merged (f t)) g h

  pub same_check : merged_verdict (check_call bs) ≡ check_call01 bs
  unfolding check_call accepted_schedule_in check_call01
  same_check = verdict_merged (read_table bs after accepted_schedule_of) ∙ ap verdict_of (answer_same accepted_schedule_of accepted_schedule_of01 same_schedule)

  pub same_schedule_call : (lent : List ℕ) → merged_call (schedule_call bs lent) ≡ schedule_call01 bs lent
  unfolding schedule_call accepted_schedule_in schedule_call01
  same_schedule_call lent =
      schedule_call_merged lent (read_table bs after accepted_schedule_of)
      ∙ ap (schedule_with lent) (answer_same accepted_schedule_of accepted_schedule_of01 same_schedule)

  pub same_translate : (lent : List ℕ) → merged_call (translate_call bs lent) ≡ translate_call01 bs lent
  unfolding translate_call translate_call01
  same_translate lent =
      bytes_call_merged lent (program_in bs)
      ∙ ap (bytes_with lent)
      (answer_same (λ t. accepted_schedule_of t after λ S. accepted (program_bytes t)) (λ t. accepted_schedule_of01 t after λ S. accepted (program_bytes01 t))
      (λ t h v. made_merged (accepted_schedule_of t) (λ S. program_bytes t) ∙ rw (same_schedule t h v, same_program t h v)))

  pub same_chart : (lent : List ℕ) → merged_call (chart_call bs lent) ≡ chart_call01 bs lent
  unfolding chart_call chart_call01
  same_chart lent =
      bytes_call_merged lent (chart_in bs)
      ∙ ap (bytes_with lent)
      (answer_same (λ t. accepted_schedule_of t after λ S. accepted (chart t.table t.horizon S))
      (λ t. accepted_schedule_of01 t after λ S. accepted (chart t.table t.horizon S))
      (λ t h v. made_merged (accepted_schedule_of t) (chart t.table t.horizon) ∙ rw (same_schedule t h v)))

  pub same_meetings : (lent : List ℕ) → merged_meetings (meetings_call bs lent) ≡ meetings_call01 bs lent
  unfolding meetings_call meetings_in meetings_call01
  same_meetings lent =
      let m : meetings_in bs ≡ meetings_in01 bs = ap list_or (read_same (concerned_at 0) (λ t. schedule limit t.table t.horizon after λ S. accepted (concerned01 t.table t.horizon S)) (λ t h v.
      after_same (schedule limit t.table t.horizon) (λ S. accepted (concerned 0 t.table t.horizon S)) (λ S. accepted (concerned01 t.table t.horizon S)) (λ S e.
      ap accepted (same_concerned t h v t.horizon S)))) in
      rw (same_check, m)

  pub same_run : (choices lent : List ℕ) → merged_run (run_call bs choices lent) ≡ run_call01 bs choices lent
  unfolding run_call run_call01
  same_run choices lent = rw (same_reading bs one) (read (read_table01 bs) known few)
    where
      few : UpTo 6 (read_table01 bs)
      few = subst (UpTo 6) (same_reading bs one) (read_up_to bs)

      -- a run's answer is no refusal of a table but by 13 and 14
      with_run : (t : Read) (S : List Passage) → merged_run (run_with t S choices lent) ≡ run_with t S choices lent
      with_run t S = go (ltb (length lent) (length S * observation_width)) (ltb 1000000 (length choices))
        where
          go : (a b : Bool)
              → merged_run (cond a (not_run 13 255 lent) (cond b (not_run 14 255 lent) (ran (run (setting_of t S) choices) lent)))
              ≡ cond a (not_run 13 255 lent) (cond b (not_run 14 255 lent) (ran (run (setting_of t S) choices) lent))
          go true b = refl
          go false true = refl
          go false false = refl

      scheduled : (t : Read) (a : Answer (List Passage)) → InLimits t → t.version ≡ 1 → merged_run (run_planned t a choices lent) ≡ run_with01 t choices lent (merged a)
      scheduled t (accepted S) h v = with_run t S ∙ rw (same_program t h v)
      scheduled t (refused n c) h v = refl

      read : (a : Answer Read) → ((t : Read) → a ≡ accepted t → InLimits t × (t.version ≡ 1)) → UpTo 6 a → merged_run (run_read a choices lent) ≡ run_read01 choices lent a
      read (accepted t) h u = let k = h t refl in scheduled t (accepted_schedule_of t) k.0 k.1 ∙ ap (run_with01 t choices lent) (same_schedule t k.0 k.1)
      read (refused n c) h u = ap (λ (m : ℕ). not_run m c lent) (as_below n (omega (arith, u)))
