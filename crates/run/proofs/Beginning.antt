-- One node at its program's start. Assumes nothing.
use mathlib.Core.Path.{◌≡◌, refl, ap, subst, ◌∙◌}
use mathlib.Core.Bool.{Bool, true, false, cond}
use mathlib.Core.List.{List, []}
use Prim.Native.Nat.{ℕ, zero, suc, ◌+◌, ◌-◌, ◌*◌, ◌%◌, ◌≤◌, ◌<◌, zero-le}
use native.Mathlib.Omega.{arith}
use lib.Dec.{leb, ltb}
use lib.IntN.{ℤ}
use mir.Syntax.{w8}
use mir.Val.{Fits}
use lib.ListN.{length, get_or, set, take, drop}
use Rattle.model.specs.Reader.{byte, word}
use Rattle.model.specs.Schedule.{own}
use Rattle.model.specs.Checks.{passage_at}
use Rattle.model.specs.Program.{Range, no_part, part_from, part_of}
use Rattle.model.specs.Machine.{start_node, part_bytes}
use Rattle.model.specs.Run.{no_work}
use Rattle.model.proofs.Schedule.Own.{all_then}
use Rattle.rows.specs.Rows.{num, rows_from, rows_of}
use Rattle.program.specs.declared.Span.{Span}
use Rattle.program.specs.Part.{Spans}
use Rattle.program.proofs.Parting.{cut}
use Rattle.node.specs.declared.Counts.{Counts}
use Rattle.node.specs.declared.Node.{Node}
use Rattle.node.specs.Views.{node_of, Held, Within}
use Rattle.node.specs.After.{start_of}
use Rattle.stand.proofs.Start.{starts}
use Rattle.registers.specs.Words.{word_in, node_in, part_in, held_in, Eight, SameNode}
use Rattle.registers.proofs.Frames.{put_there, put_beside, put_length, put_others, same_trans}
use Rattle.machine.specs.Running.{RowIs}
use Rattle.machine.specs.Chosen.{Inside, NodePut}
use Rattle.run.specs.Ends.{WordsPut, NodeStarted}

-- ## The words beside its registers

module _ (l : List ℕ) (c start long clocks variables row wake : ℕ) {l₁ l₂ l₃ l₄ l₅ l₆ l₇ : List ℕ} (h : 256 ≤ length l) (few : c < 8) (e₁ : l₁ ≡ set l (c * 32 + 21) start)
    (e₂ : l₂ ≡ set l₁ (c * 32 + 22) long) (e₃ : l₃ ≡ set l₂ (c * 32 + 23) clocks) (e₄ : l₄ ≡ set l₃ (c * 32 + 24) variables)
    (e₅ : l₅ ≡ set l₄ (c * 32 + 25) row) (e₆ : l₆ ≡ set l₅ (c * 32 + 28) wake) (e₇ : l₇ ≡ set l₆ (c * 32 + 29) no_work) where
  h₁ : 256 ≤ length l₁
  h₁ = omega (arith, put_length l c 21 start e₁)

  h₂ : 256 ≤ length l₂
  h₂ = omega (arith, h₁, put_length l₁ c 22 long e₂)

  h₃ : 256 ≤ length l₃
  h₃ = omega (arith, h₂, put_length l₂ c 23 clocks e₃)

  h₄ : 256 ≤ length l₄
  h₄ = omega (arith, h₃, put_length l₃ c 24 variables e₄)

  h₅ : 256 ≤ length l₅
  h₅ = omega (arith, h₄, put_length l₄ c 25 row e₅)

  h₆ : 256 ≤ length l₆
  h₆ = omega (arith, h₅, put_length l₅ c 28 wake e₆)

  -- what the words put later leave
  last : (k : ℕ) → k < 29 → word_in l₇ c k ≡ word_in l₆ c k
  last k d = put_beside l₆ c 29 no_work e₇ k (λ p. omega arith)

  last₀ : (k : ℕ) → k < 26 → word_in l₇ c k ≡ word_in l₅ c k
  last₀ k d = last k (omega arith) ∙ put_beside l₅ c 28 wake e₆ k (λ p. omega arith)

  last₁ : (k : ℕ) → k < 25 → word_in l₇ c k ≡ word_in l₄ c k
  last₁ k d = last₀ k (omega arith) ∙ put_beside l₄ c 25 row e₅ k (λ p. omega arith)

  last₂ : (k : ℕ) → k < 24 → word_in l₇ c k ≡ word_in l₃ c k
  last₂ k d = last₁ k (omega arith) ∙ put_beside l₃ c 24 variables e₄ k (λ p. omega arith)

  last₃ : (k : ℕ) → k < 23 → word_in l₇ c k ≡ word_in l₂ c k
  last₃ k d = last₂ k (omega arith) ∙ put_beside l₂ c 23 clocks e₃ k (λ p. omega arith)

  last₄ : (k : ℕ) → k < 22 → word_in l₇ c k ≡ word_in l₁ c k
  last₄ k d = last₃ k (omega arith) ∙ put_beside l₁ c 22 long e₂ k (λ p. omega arith)

  -- the other nodes
  apart : (i : ℕ) → (i ≡ c → ⊥) → SameNode l [] l₇ [] i
  apart i d =
      same_trans (put_others l c 21 start e₁ [] i d (omega arith))
      (same_trans (put_others l₁ c 22 long e₂ [] i d (omega arith))
      (same_trans (put_others l₂ c 23 clocks e₃ [] i d (omega arith))
      (same_trans (put_others l₃ c 24 variables e₄ [] i d (omega arith)) (same_trans (put_others l₄ c 25 row e₅ [] i d (omega arith)) (same_trans (put_others l₅ c 28 wake e₆ [] i d (omega arith)) (put_others l₆ c 29 no_work e₇ [] i d (omega arith)))))))

  pub words_put : WordsPut l c start long clocks variables row wake l₇
  words_put =
      record {
        begins = last₄ 21 (omega arith) ∙ put_there l c 21 start e₁ h few (omega arith);
        lasts = last₃ 22 (omega arith) ∙ put_there l₁ c 22 long e₂ h₁ few (omega arith);
        ages = last₂ 23 (omega arith) ∙ put_there l₂ c 23 clocks e₃ h₂ few (omega arith);
        holds = last₁ 24 (omega arith) ∙ put_there l₃ c 24 variables e₄ h₃ few (omega arith);
        passes = last₀ 25 (omega arith) ∙ put_there l₄ c 25 row e₅ h₄ few (omega arith);
        wakes = last 28 (omega arith) ∙ put_there l₅ c 28 wake e₆ h₅ few (omega arith);
        finish = put_there l₆ c 29 no_work e₇ h₆ few (omega arith);
        others = λ i k d b. (apart i d).words k b;
        same =
            put_length l₆ c 29 no_work e₇ ∙ put_length l₅ c 28 wake e₆ ∙ put_length l₄ c 25 row e₅ ∙ put_length l₃ c 24 variables e₄ ∙ put_length l₂ c 23 clocks e₃ ∙ put_length l₁ c 22 long e₂
            ∙ put_length l c 21 start e₁;
      }

-- ## Its part

-- a part's length is a number of two bytes
either_short : (t : Bool) (r s : Range) → r.long ≤ 65535 → s.long ≤ 65535 → (cond t r s).long ≤ 65535
either_short true r s h k = h
either_short false r s h k = k

from_short : (bs : List ℕ) → ((i : ℕ) → byte bs i < 256) → (at c : ℕ) → (part_from bs at c).long ≤ 65535
unfolding part_from
from_short bs b at zero =
    either_short (leb (at + 2) (length bs)) _ no_part
    (either_short (leb (at + word bs at) (length bs)) (record { start = at; long = word bs at }) no_part (omega (arith, b at, b (suc at))) zero-le) zero-le
from_short bs b at (suc c) =
    either_short (leb (at + 2) (length bs)) _ no_part
    (either_short (leb (at + word bs at) (length bs)) (part_from bs (at + word bs at) c) no_part (from_short bs b (at + word bs at) c) zero-le) zero-le

part_short : (bs : List ℕ) → ((i : ℕ) → byte bs i < 256) → (c : ℕ) → (part_of bs c).long ≤ 65535
unfolding part_of
part_short bs b c =
    either_short (leb 6 (length bs)) _ no_part (either_short (ltb c (byte bs 3)) (part_from bs 6 c) no_part (from_short bs b 6 c) zero-le) zero-le

-- ## Its row

-- n rows, each with its component
rows_long : (rows : List ℕ) (i n : ℕ) → length (rows_from rows i n) ≡ n
unfolding rows_from
rows_long rows i zero = refl
rows_long rows i (suc n) = ap suc (rows_long rows (suc i) n)

row_there : (rows : List ℕ) (i n r : ℕ) → r < n → (passage_at (rows_from rows i n) r).component ≡ num rows (i + r) 0
unfolding rows_from
row_there rows i zero r h = absurd (omega arith)
row_there rows i (suc n) zero h = let e : i ≡ i + 0 = omega arith in ap (λ (k : ℕ). num rows k 0) e
row_there rows i (suc n) (suc r) h =
    let e : suc i + r ≡ i + suc r = omega arith in
    row_there rows (suc i) n r (omega arith) ∙ ap (λ (k : ℕ). num rows k 0) e

-- the first row of component c
first_row : (rows : List ℕ) (n c r : ℕ) → r ≤ n → own c (drop r (rows_of rows n)) ≡ own c (drop 0 (rows_of rows n)) → (r < n → num rows r 0 ≡ c) → RowIs (rows_of rows n) c 0 r
first_row rows n c r h e t =
    record {
      among = omega (arith, rows_long rows 0 n);
      rest = e;
      there =
          λ k.
          let d : r < n = omega (arith, rows_long rows 0 n) in
          let z : 0 + r ≡ r = omega arith in
          row_there rows 0 n r d ∙ ap (λ (j : ℕ). num rows j 0) z ∙ t d;
    }

-- ## The node

-- what has not grown has not grown beyond m
further : {m : ℕ} {q : Node} → Within 0 q → Within m q
further w = record { t = omega (arith, w.t); clocks = all_then (λ x h. omega arith) w.clocks; sleeps = omega (arith, w.sleeps) }

module _ (program : List ℕ) (b : (i : ℕ) → Fits w8 (get_or program i 0)) {c : ℕ} {s : Span} (at : Spans program s (part_of program c)) {l l₁ : List ℕ} {clocks variables r wake : ℕ}
    (w : WordsPut l c s.start s.long clocks variables r wake l₁) where
  -- its part lies in the program
  pub put_inside : Inside program l₁ c
  put_inside =
      record {
        inside = rw (w.begins, w.lasts) at.fits;
        short = rw (w.lasts, at.long) (part_short program (λ i. omega (arith, b i)) c);
      }

  pub put_eight : {v : List ℤ} → Eight l v → Eight l₁ v
  put_eight g = record { words = omega (arith, w.same, g.words); values = g.values }

  -- the registers at the start of the part as it is lent
  abbrev pub Begun : Node → Type 0
  Begun q = q ≡ start_of (take (s.start + s.long - s.start) (drop s.start program))

  -- no register has grown
  pub begun_within : {m : ℕ} {q : Node} → Begun q → Within m q
  begun_within {q = q} e = further (starts (take (s.start + s.long - s.start) (drop s.start program)) q e).1

  pub put_wake : wake ≤ 1000 → word_in l₁ c 28 ≤ 1000
  put_wake h = rw w.wakes h

  module _ (rows : List ℕ) (n : ℕ) (few : clocks ≤ 4) (small : variables ≤ 4) (soon : wake ≤ 1000) {q : Node}
      (begun : Begun q)
      (first : (r ≤ n) × (own c (drop r (rows_of rows n)) ≡ own c (drop 0 (rows_of rows n))) × (r < n → num rows r 0 ≡ c))
      {v : List ℤ} {l' : List ℕ} {v' : List ℤ} (x : NodePut program rows n l₁ v c q l' v') where
    abbrev held : Counts
    held = record { clocks = clocks; variables = variables }

    fits : Held held
    fits = record { clocks = few; variables = small }

    held_is : held_in l' c ≡ held
    held_is =
        let d : clocks % 256 ≡ clocks = omega arith in
        let e : variables % 256 ≡ variables = omega arith in
        rw (x.beside 23 (omega arith) (omega arith), x.beside 24 (omega arith) (omega arith), w.ages, w.holds, d, e)

    part_is : part_in program l' c ≡ part_bytes program c
    part_is = rw (x.beside 21 (omega arith) (omega arith), x.beside 22 (omega arith) (omega arith), w.begins, w.lasts, at.start, at.long)

    begins : node_of (part_bytes program c) held q ≡ start_node (part_bytes program c) clocks variables
    begins =
        subst (λ (p : List ℕ). node_of p held q ≡ start_node p clocks variables) (cut program s at)
        ((starts (take (s.start + s.long - s.start) (drop s.start program)) q begun).0 held fits)

    row_is : RowIs (rows_of rows n) c (node_in l' v' c).sleeps (word_in l' c 25)
    row_is =
        let z : q.sleeps ≡ 0 = ap (λ (y : Node). y.sleeps) begun in
        let e : (node_in l' v' c).sleeps ≡ 0 = ap (λ (y : Node). y.sleeps) x.node ∙ z in
        rw (e, x.beside 25 (omega arith) (omega arith), w.passes) (first_row rows n c r first.0 first.1 first.2)

    pub node_started : NodeStarted program rows n clocks variables wake l v c l' v'
    node_started =
        record {
          stands =
              record {
                inside = rw (x.beside 21 (omega arith) (omega arith), x.beside 22 (omega arith) (omega arith)) put_inside.inside;
                short = rw (x.beside 22 (omega arith) (omega arith)) put_inside.short;
                part = part_is;
                held = rw held_is fits;
                within = rw x.node (begun_within begun);
                row = row_is;
                wakes = rw x.wakes (put_wake soon);
                due = x.due;
                last = x.last;
              };
          view =
              ap (λ (p : List ℕ). node_of p (held_in l' c) (node_in l' v' c)) part_is
              ∙ ap (λ (k : Counts). node_of (part_bytes program c) k (node_in l' v' c)) held_is
              ∙ ap (node_of (part_bytes program c) held) x.node
              ∙ begins;
          counts = ap (λ (k : Counts). record { clocks = k.clocks; variables = k.variables }) held_is;
          wakes = x.wakes ∙ w.wakes;
          finish = x.finish ∙ w.finish;
          others = λ i d. same_trans (record { words = λ k h. w.others i k d h; values = λ k h. refl }) (x.others i d);
          eight = x.eight;
        }
