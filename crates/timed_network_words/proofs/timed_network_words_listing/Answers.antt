-- `timed_network_words::timed_network_words_listing` meets its contract. Assumes nothing.
use mathlib.Core.Path.{refl, ap, subst, ◌∙◌}
use Prim.Native.Nat.{ℕ, ◌≤◌, ◌<◌}
use native.Mathlib.Nat.{zero-add}
use lib.ListN.{length}
use Rattle.listing_text.specs.ListingText.{listing_text}
use Rattle.timed_network_words.proofs.Laying.{too_long, fits, worded}
use borrow.Author.Rules.{rules}
use Rattle.timed_network_words.proofs.timed_network_words_listing.Goals as goal

-- counted, and written
pub returns-then-size-out : goal.returns-then-size-out
returns-then-size-out c =
    let a = c.args in
    let long = c.put_listing-size.ensures.next ∙ zero-add _ in
    let holds = subst (λ (k : ℕ). k ≤ length a.out.now) long c.if-size-out.true in
    worded (ap listing_text c.listed-bytes.ensures.0) (fits _ a.out.now _ long holds refl c.put_listing.ensures)

-- counted alone
pub returns : goal.returns
returns c =
    let a = c.args in
    let long = c.put_listing-size.ensures.next ∙ zero-add _ in
    let few = subst (λ (k : ℕ). length a.out.now < k) long c.if-size-out.false in
    worded (ap listing_text c.listed-bytes.ensures.0) (too_long _ a.out.now _ long few refl)
