-- `trial_run::offset_list::read_offsets` meets its contract. Assumes nothing.
use Rattle.std.proofs.Common.{◌≡◌, ◌∙◌, List, [], ◌∷◌, ℕ, eqb, Bool, true, false, ◌&&◌, refl}
use Rattle.std.proofs.Math.Bool.{and-true}
use lib.Pointwise.{pointwise}
use Rattle.trial_run.specs.OffsetList.{is_dash}
use Rattle.trial_run.proofs.Parts.{no_numbers, by_dash, by_numbers}
use Rattle.trial_run.proofs.offset_list.read_offsets.Goals as goal

alone : (word dash : List ℕ) → dash ≡ 45 ∷ [] → pointwise eqb word dash ≡ is_dash word
alone [] dash e = rw e refl
alone (b ∷ []) dash e = rw e (and-true (eqb b 45))
alone (b ∷ d ∷ bs) dash e = rw e (go (eqb b 45))
  where
    go : (t : Bool) → (t && false) ≡ false
    go true = refl
    go false = refl

pub returns-then-eq : goal.returns-then-eq
returns-then-eq c =
    let a = c.args in
    by_dash a.word.now c.eq.result (c.eq.ensures ∙ alone a.word.now c.as_slice.result.now c.as_slice.ensures) c.if-eq.true (no_numbers a.list.now)

pub returns : goal.returns
returns c =
    let a = c.args in
    by_numbers a.word.now c.eq.result (c.eq.ensures ∙ alone a.word.now c.as_slice.result.now c.as_slice.ensures) c.if-eq.false c.read_numbers.ensures
