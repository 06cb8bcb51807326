-- What is printed, from what was asked. Assumes nothing.
use mathlib.Core.Path.{◌≡◌, sym, ap, ◌∙◌}
use mathlib.Core.List.{List}
use Prim.Native.Nat.{ℕ}
use Rattle.model.specs.Lists.{Answer, accepted, refused}
use Rattle.model.specs.Reasons.{Asked, asked}
use Rattle.refusal_text.specs.RefusalText.{refusal_text}
use Rattle.reason_text.specs.ReasonText.{reasons_text, printed_reasons}

pub printed : (bs : List ℕ) (c k : ℕ) (a : Answer Asked) {words : List ℕ} → asked bs c k ≡ a → words ≡ reasons_text a → words ≡ printed_reasons bs c k
unfolding printed_reasons
printed bs c k a e q = q ∙ sym (ap reasons_text e)
