-- One pair more is answered. Assumes nothing.
use mathlib.Core.Path.{◌≡◌, refl, sym, ap, subst, ◌∙◌}
use mathlib.Core.Bool.{Bool, true, false, cond}
use mathlib.Core.List.{List, [], ◌∷◌, ◌++◌, append_assoc, append-nil}
use Prim.Native.Nat.{ℕ, ◌+◌, ◌*◌, ◌/◌, ◌≤◌, ◌<◌}
use native.Mathlib.Omega.{arith}
use borrow.Author.Tests.{ltb-true, ltb-false}
use lib.Dec.{ltb}
use lib.ListN.{length, get_or, drop, length-append}
use lib.Seq.{sets}
use Rattle.model.specs.Lists.{each, snoc, be16}
use Rattle.model.specs.Table.{Read, size}
use Rattle.model.specs.Places.{read_of}
use Rattle.model.specs.Schedule.{Passage}
use Rattle.model.specs.Checks.{limit, passage_at}
use Rattle.model.specs.Chains.{IsSchedule}
use Rattle.model.specs.Reasons.{askable, passage_number}
use Rattle.model.specs.Positions.{Asked, asked, bad_pair, window_byte, position_bytes, entered_by, passages_read}
use Rattle.model.proofs.Basics.Bools.{and_is}
use Rattle.model.proofs.Schedule.Passages.{never_falls}
use Rattle.model.proofs.Schedule.Reasoned.{Named, named}
use Rattle.model.proofs.Schedule.Positioned.{read_is, last_named}
use Rattle.rows.specs.Rows.{num, rows_of}
use Rattle.schedule.specs.Filled.{AcceptedRows}
use Rattle.schedule.proofs.Accepted.{is_schedule}
use Rattle.schedule.proofs.Fields.{laid_more, laid_all}
use Rattle.positions.specs.Walks.{Last, ReadUpTo, Walkable}
use Rattle.positions.proofs.Asking.{asked_next, asked_done, asked_length}
use Rattle.positions.proofs.Lighter.{row_component, row_entry, bytes_are, entered_rows}

-- ## A good pair

-- the pair at the front can be asked, its tick is not below the one before, and those behind it are fine
pub front_fine : (t : Read) (before : ℕ) (q : Asked) (qs : List Asked) → bad_pair t before (q ∷ qs) ≡ 0
    → (q.component < size t.table) × (q.tick < t.horizon) × (before ≤ q.tick) × (bad_pair t q.tick qs ≡ 0)
front_fine t before q qs e = go (askable t q.component q.tick) refl (ltb q.tick before) refl e
  where
    go : (a : Bool) → askable t q.component q.tick ≡ a → (o : Bool) → ltb q.tick before ≡ o
        → (let order : ℕ = cond o 24 (bad_pair t q.tick qs) in let all : ℕ = cond a order 21 in all) ≡ 0
        → (q.component < size t.table) × (q.tick < t.horizon) × (before ≤ q.tick) × (bad_pair t q.tick qs ≡ 0)
    go true a false o z =
        let h = (and_is (ltb q.component (size t.table)) (ltb q.tick t.horizon)).0 a in
        (ltb-true _ _ h.0, ltb-true _ _ h.1, ltb-false _ _ o, z)
    go true a true o z = absurd (omega arith)
    go false a o p z = absurd (omega arith)

-- ## The rows read

-- to a later tick the same rows were read
pub until : {l latest : List ℕ} {n k before tick : ℕ} → before ≤ tick → ReadUpTo l n latest k before → ReadUpTo l n latest k tick
until h r =
    record { few = r.few; fits = r.fits; within = r.within; small = r.small; entered = λ i m. omega (arith, r.entered i m); last = r.last }

-- at first none was
pub nothing_read : (bs l latest : List ℕ) (n : ℕ) → AcceptedRows bs l n → size (read_of bs).table ≤ 8 → ReadUpTo l n latest 0 0
nothing_read bs l latest n p s =
    record {
      few = p.placed.few;
      fits = p.placed.fits;
      within = omega arith;
      small = λ i h. omega (arith, (p.placed.row i h).present);
      entered = λ i h. absurd (omega arith);
      last = λ i h. absurd (omega arith);
    }

module _ (bs l latest : List ℕ) (n k : ℕ) (p : AcceptedRows bs l n) (q : Asked) (there : q.component < size (read_of bs).table) (early : q.tick < (read_of bs).horizon)
    (r : ReadUpTo l n latest k q.tick) (stops : k < n → q.tick < num l k 3) where
  abbrev S : List Passage
  S = p.passages

  law : IsSchedule limit (read_of bs).table (read_of bs).horizon S
  law = is_schedule bs l n p

  abbrev number : ℕ
  number = passage_number S q.component q.tick

  further : k < length S → q.tick < (passage_at S k).entry.tick
  further h = let m : k < n = omega (arith, p.count) in omega (arith, stops m, row_entry bs l n p k m)

  -- the passage named was read
  was_read : number < k
  was_read =
      let w = named law q.component q.tick there early in
      go w (ltb number k) refl
    where
      go : Named S q.component q.tick number → (b : Bool) → ltb number k ≡ b → number < k
      go w true e = ltb-true number k e
      go w false e =
          let h : k ≤ number = ltb-false number k e in
          absurd (omega (arith, further (omega (arith, w.there)), never_falls law k number h w.there, w.entered))

  -- it is the row kept of the component
  pub kept_row : get_or latest q.component 0 ≡ number
  kept_row =
      let w = named law q.component q.tick there early in
      let m : number < n = omega (arith, was_read, r.within) in
      let c : num l number 0 ≡ q.component = row_component bs l n p number m ∙ w.component in
      let x = subst (λ d. Last l k d (get_or latest d 0)) c (r.last number was_read) in
      let i : get_or latest q.component 0 < n = omega (arith, x.there, r.within) in
      last_named law q.component q.tick (get_or latest q.component 0) k there early x.there (omega (arith, r.within, p.count))
      (sym (row_component bs l n p (get_or latest q.component 0) i) ∙ x.component)
      (omega (arith, r.entered (get_or latest q.component 0) x.there, row_entry bs l n p (get_or latest q.component 0) i))
      (λ j a b e. x.after j a b (row_component bs l n p j (omega (arith, r.within)) ∙ e)) further

  pub row_there : get_or latest q.component 0 < n
  row_there = omega (arith, kept_row, was_read, r.within)

  -- so many passages were entered by the tick
  pub count_read : k ≡ length (entered_by q.tick (rows_of l n))
  count_read =
      sym (entered_rows bs l n p q.tick
      ∙ read_is law q.tick k (omega (arith, r.within, p.count)) (λ i h. omega (arith, r.entered i h, row_entry bs l n p i (omega (arith, r.within)))) further)

-- ## Three bytes a pair

-- the last of them decides how many passages are read
read_snoc : (S : List Passage) (qs : List Asked) (q : Asked) → passages_read S (snoc qs q) ≡ length (entered_by q.tick S)
read_snoc S [] q = refl
read_snoc S (r ∷ []) q = refl
read_snoc S (r ∷ s ∷ qs) q = read_snoc S (s ∷ qs) q

-- k pairs were answered, the last one at a tick
pub record Going (l : List ℕ) (n : ℕ) (pairs out : List ℕ) (latest : List ℕ) (read k : ℕ) (after : List ℕ) : Type 0 where
  pub able : Walkable l n (asked pairs)
  pub done : List Asked
  pub last : ℕ
  pub split : asked pairs ≡ done ++ asked (drop (k * 2) pairs)
  pub count : k ≡ length done
  pub fine : bad_pair (read_of able.table) last (asked (drop (k * 2) pairs)) ≡ 0
  pub walk : ReadUpTo l n latest read last
  pub counted : read ≡ passages_read (rows_of l n) done
  pub laid : after ≡ sets out 0 (each (position_bytes (rows_of l n)) done)

-- none was
pub start : (l : List ℕ) (n : ℕ) (pairs out latest : List ℕ) → Walkable l n (asked pairs) → Going l n pairs out latest 0 0 out
unfolding each
start l n pairs out latest w =
    record {
      able = w;
      done = [];
      last = 0;
      split = refl;
      count = refl;
      fine = w.fine;
      walk = nothing_read w.table l latest n w.rows w.components;
      counted = refl;
      laid = refl;
    }

module _ (l : List ℕ) (n : ℕ) (pairs out latest : List ℕ) (read k : ℕ) (after : List ℕ) (g : Going l n pairs out latest read k after) where
  module _ (h : k < length pairs / 2) where
    abbrev q : Asked
    q = record { component = get_or pairs (k * 2) 0; tick = get_or pairs (k * 2 + 1) 0 }

    next : asked (drop (k * 2) pairs) ≡ q ∷ asked (drop (k * 2 + 2) pairs)
    next = asked_next pairs (k * 2) (omega arith)

    front : (q.component < size (read_of g.able.table).table) × (q.tick < (read_of g.able.table).horizon) × (g.last ≤ q.tick)
        × (bad_pair (read_of g.able.table) q.tick (asked (drop (k * 2 + 2) pairs)) ≡ 0)
    front = front_fine (read_of g.able.table) g.last q (asked (drop (k * 2 + 2) pairs)) (ap (bad_pair (read_of g.able.table) g.last) (sym next) ∙ g.fine)

    pub small_component : get_or pairs (k * 2) 0 < 8
    small_component = omega (arith, front.0, g.able.components)

    pub read_further : ReadUpTo l n latest read (get_or pairs (k * 2 + 1) 0)
    read_further = until front.2 g.walk

    -- it has room
    pub has_room : length (asked pairs) * 3 ≤ length out → k * 3 + 3 ≤ length out
    has_room r = omega (arith, asked_length pairs)

    module _ (latest₁ : List ℕ) (read₁ : ℕ) (r : ReadUpTo l n latest₁ read₁ (get_or pairs (k * 2 + 1) 0)) (stops : read₁ < n → get_or pairs (k * 2 + 1) 0 < num l read₁ 3) where
      pub row_within : get_or latest₁ (get_or pairs (k * 2) 0) 0 < n
      row_within = row_there g.able.table l latest₁ n read₁ g.able.rows q front.0 front.1 r stops

      pub turn : (row window : ℕ) (after₁ : List ℕ) → row ≡ get_or latest₁ (get_or pairs (k * 2) 0) 0 → window ≡ window_byte (get_or pairs (k * 2 + 1) 0) (num l row 4)
          → after₁ ≡ sets after (k * 3) (be16 row ++ (window ∷ [])) → Going l n pairs out latest₁ read₁ (k + 1) after₁
      turn row window after₁ e w s =
          let P = rows_of l n in
          let f = position_bytes P in
          let is : row ≡ passage_number g.able.rows.passages q.component q.tick = e ∙ kept_row g.able.table l latest₁ n read₁ g.able.rows q front.0 front.1 r stops in
          let bytes : be16 row ++ (window ∷ []) ≡ f q = ap (λ (m : ℕ). be16 row ++ (m ∷ [])) w ∙ bytes_are g.able.table l n g.able.rows q row (omega (arith, e, row_within)) is in
          let further : k * 2 + 2 ≡ (k + 1) * 2 = omega arith in
          record {
            able = g.able;
            done = snoc g.done q;
            last = q.tick;
            split = g.split ∙ ap (λ (x : List Asked). g.done ++ x) next ∙ sym (append_assoc g.done (q ∷ []) (asked (drop (k * 2 + 2) pairs))) ∙ ap (λ (m : ℕ). snoc g.done q ++ asked (drop m pairs)) further;
            count = omega (arith, g.count, length-append g.done (q ∷ []));
            fine = subst (λ (m : ℕ). bad_pair (read_of g.able.table) q.tick (asked (drop m pairs)) ≡ 0) further front.3;
            walk = r;
            counted = count_read g.able.table l latest₁ n read₁ g.able.rows q front.0 front.1 r stops ∙ sym (read_snoc P g.done q);
            laid = laid_more f 3 (λ q. refl) g.done q k out after after₁ g.count g.laid (s ∙ ap (sets after (k * 3)) bytes);
          }

  -- behind the last one
  module _ (h : length pairs / 2 ≤ k) where
    all_done : asked pairs ≡ g.done
    all_done = g.split ∙ ap (λ (x : List Asked). g.done ++ x) (asked_done pairs (k * 2) (omega arith)) ∙ append-nil g.done

    pub read_all : read ≡ passages_read (rows_of l n) (asked pairs)
    read_all = g.counted ∙ ap (passages_read (rows_of l n)) (sym all_done)

    pub all_laid : length (asked pairs) * 3 ≤ length out → after ≡ each (position_bytes (rows_of l n)) (asked pairs) ++ drop (length (asked pairs) * 3) out
    all_laid r =
        let f = position_bytes (rows_of l n) in
        g.laid ∙ ap (λ (x : List Asked). sets out 0 (each f x)) (sym all_done) ∙ laid_all f 3 (λ q. refl) (asked pairs) (length (asked pairs)) out refl r
