-- The tests before a step, and what follows from them. Assumes nothing.
use mathlib.Core.Path.{◌≡◌, refl, sym, ap, ◌∙◌}
use mathlib.Core.Bool.{Bool, true, false, ◌&&◌}
use mathlib.Core.List.{List, [], ◌∷◌}
use Prim.Native.Nat.{ℕ, ◌≤◌, ◌<◌}
use native.Mathlib.Omega.{arith}
use borrow.Author.Tests.{leb-true, le-leb, lt-leb, eq-eqb, ne_eqb}
use lib.Dec.{leb}
use lib.IntN.{◌+ℤ◌}
use lib.ListN.{length, get_or, take, drop}
use Rattle.model.specs.Lists.{all, All, empty, more}
use Rattle.model.specs.Reader.{byte, word, complement}
use Rattle.model.specs.Window.{value_at, in_range}
use Rattle.model.specs.Run.{stand_of}
use Rattle.model.proofs.Basics.Bools.{and_is}
use Rattle.node.specs.declared.Counts.{Counts}
use Rattle.node.specs.declared.Node.{Node}
use Rattle.node.specs.Views.{node_of, Held, Within, Addable, op_in}
use Rattle.node.specs.After.{after}
use Rattle.stand.specs.Stands.{may_finish}
use Rattle.stand.proofs.ByOp.{stand-at}
use Rattle.lent_node.specs.Step.{places_fit, highest, registers_fit, adds_fit, may_step, stepped_of}

and_true : (a : Bool) → a && true ≡ a
and_true true = refl
and_true false = refl

-- a test of each of four
pub all_four : (f : ℕ → Bool) (l : List ℕ) → length l ≡ 4 → (f (get_or l 0 0) && f (get_or l 1 0)) && (f (get_or l 2 0) && f (get_or l 3 0)) ≡ all f l
all_four f [] e = absurd (omega arith)
all_four f (a ∷ []) e = absurd (omega arith)
all_four f (a ∷ b ∷ []) e = absurd (omega arith)
all_four f (a ∷ b ∷ c ∷ []) e = absurd (omega arith)
all_four f (a ∷ b ∷ c ∷ d ∷ []) e = go (f a) (f b) (f c) (f d)
  where
    go : (x y z w : Bool) → (x && y) && (z && w) ≡ x && (y && (z && (w && true)))
    go true true true w = sym (and_true w)
    go true true false w = refl
    go true false z w = refl
    go false y z w = refl
all_four f (a ∷ b ∷ c ∷ d ∷ x ∷ l) e = absurd (omega arith)

-- the tests of the registers, two by two
pub two_by_two : (r : Node) → length r.clocks ≡ 4 → {low high times clocks b : Bool} → low ≡ leb (get_or r.clocks 0 0) highest && leb (get_or r.clocks 1 0) highest
    → high ≡ leb (get_or r.clocks 2 0) highest && leb (get_or r.clocks 3 0) highest → times ≡ leb r.t highest && leb r.sleeps highest → clocks ≡ low && high
    → b ≡ times && clocks → b ≡ registers_fit r
two_by_two r four l h t c b = b ∙ rw (t, c, l, h) (ap (λ (y : Bool). (leb r.t highest && leb r.sleeps highest) && y) (all_four (λ x. leb x highest) r.clocks four))

-- what the tests of all say of each
all_within : (m : ℕ) (l : List ℕ) → all (λ x. leb x m) l ≡ true → All (λ x. x ≤ m) l
all_within m [] e = empty
all_within m (x ∷ l) e =
    let h = (and_is (leb x m) (all (λ y. leb y m) l)).0 e in
    more {x = x} (leb-true x m h.0) (all_within m l h.1)

pub held : (k : Counts) → places_fit k ≡ true → Held k
held k e =
    let h = (and_is (leb k.clocks 4) (leb k.variables 4)).0 e in
    record { clocks = leb-true k.clocks 4 h.0; variables = leb-true k.variables 4 h.1 }

pub within : (r : Node) → registers_fit r ≡ true → Within 4000000000000000000 r
within r e =
    let h = (and_is (leb r.t highest && leb r.sleeps highest) (all (λ x. leb x highest) r.clocks)).0 e in
    let k = (and_is (leb r.t highest) (leb r.sleeps highest)).0 h.0 in
    record { t = leb-true r.t highest k.0; clocks = all_within highest r.clocks h.1; sleeps = leb-true r.sleeps highest k.1 }

addable : (p : List ℕ) (k : Counts) (r : Node) → adds_fit (drop r.pc p) k r ≡ true → Addable (drop r.pc p) k r
addable p k r e = record { fits = λ o. rw (eq-eqb (op_in (drop r.pc p)) 2 o) at e }

-- an addition is tested, and nothing else is
in-range : (p : List ℕ) (k : Counts) (r : Node) → op_in (drop r.pc p) ≡ 2
    → in_range (value_at (take k.variables r.values) (byte (drop r.pc p) 1) +ℤ complement (word (drop r.pc p) 2)) ≡ adds_fit (drop r.pc p) k r
in-range p k r o = rw (eq-eqb (op_in (drop r.pc p)) 2 o)

out_of_it : (p : List ℕ) (k : Counts) (r : Node) → (op_in (drop r.pc p) ≡ 2 → ⊥) → true ≡ adds_fit (drop r.pc p) k r
out_of_it p k r o = rw (ne_eqb (op_in (drop r.pc p)) 2 o)

module _ (p : List ℕ) (k : Counts) (r : Node) where
  -- the tests, one after the other
  pub too_long : 65535 < length p → false ≡ may_step p k r
  too_long h = rw (lt-leb (length p) 65535 h)

  module _ (l : length p ≤ 65535) where
    pub no_places : places_fit k ≡ false → false ≡ may_step p k r
    no_places e = rw (le-leb (length p) 65535 l, e)

    module _ (h : places_fit k ≡ true) where
      pub no_room : registers_fit r ≡ false → false ≡ may_step p k r
      no_room e = rw (le-leb (length p) 65535 l, h, e)

      module _ (w : registers_fit r ≡ true) where
        the_last : adds_fit (drop r.pc p) k r ≡ may_step p k r
        the_last = rw (le-leb (length p) 65535 l, h, w)

        pub an_addition : {op : ℕ} (b : Bool) → op ≡ op_in (drop r.pc p) → op ≡ 2 → b ≡ may_finish 0 (node_of p k r) (stand_of (node_of p k r)) → b ≡ may_step p k r
        an_addition b e o f = f ∙ ap (may_finish 0 (node_of p k r)) (stand-at p r.pc e 2 o) ∙ in-range p k r (sym e ∙ o) ∙ the_last

        pub no_addition : {op : ℕ} → op ≡ op_in (drop r.pc p) → (op ≡ 2 → ⊥) → true ≡ may_step p k r
        no_addition e o = out_of_it p k r (λ g. o (e ∙ g)) ∙ the_last

  -- what they say together
  pub may : may_step p k r ≡ true → (length p ≤ 65535) × Held k × Within 4000000000000000000 r × Addable (drop r.pc p) k r
  may e =
      let a = (and_is (leb (length p) 65535 && places_fit k && registers_fit r) (adds_fit (drop r.pc p) k r)).0 e in
      let b = (and_is (leb (length p) 65535 && places_fit k) (registers_fit r)).0 a.0 in
      let c = (and_is (leb (length p) 65535) (places_fit k)).0 b.0 in
      (leb-true (length p) 65535 c.0, held k c.1, within r b.1, addable p k r a.1)

  -- the step is taken
  pub taken : (q : Node) → may_step p k r ≡ true → q ≡ after p k r → q ≡ stepped_of p k r
  taken q e n = n ∙ rw e

  -- or not
  pub left_out : may_step p k r ≡ false → r ≡ stepped_of p k r
  left_out e = rw e
