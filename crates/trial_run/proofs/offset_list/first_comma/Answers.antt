-- `trial_run::offset_list::first_comma` meets its contract. Assumes nothing.
use Rattle.std.proofs.Common.{◌≡◌, ◌≢◌, ◌≤◌, ◌<◌, ℕ, List, length, Option, None, Some, MatchOption, arith, tests, rules}
use Rattle.std.specs.List.{AllWithin, HoldsAt}
use Rattle.std.specs.Option.{unwrap_or}
use Rattle.std.proofs.lemmas.Iterator.{IsFirst-from_position, YieldsList-from_slice}
use Rattle.trial_run.specs.OffsetList.{parts_of, split_at}
use Rattle.trial_run.proofs.Parts.{split}
use Rattle.trial_run.proofs.offset_list.first_comma.Goals as goal

parted : (word : List ℕ) (r : Option ℕ)
    → MatchOption r (AllWithin (λ x. x ≢ 44) word 0 (length word)) (λ i. (i < length word) × HoldsAt (λ x. x ≡ 44) word i × AllWithin (λ x. x ≢ 44) word 0 i)
    → (unwrap_or r (length word) ≤ length word) × (parts_of word ≡ split_at (unwrap_or r (length word)) word)
parted word None none = (omega arith, split word (length word) (omega arith) (λ k l. none k 0 (omega arith) l) (λ l. absurd (omega arith)))
parted word (Some i) (within, here, before) = (omega arith, split word i (omega arith) (λ k l. before k 0 (omega arith) l) (λ _. here 0))

pub returns : goal.returns
returns c =
    let word = c.args.word.now in
    rw c.unwrap_or.ensures
    (parted word _ (IsFirst-from_position _ _ _ (λ x. x ≡ 44) (λ x. x ≢ 44) c.position.ensures.ran (YieldsList-from_slice word cc) (λ x q k. search (rules, tests)) (λ x q k. search (rules, tests))))
