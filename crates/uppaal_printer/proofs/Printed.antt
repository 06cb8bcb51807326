-- What is printed, from what the call answers. Assumes nothing.
use mathlib.Core.Path.{◌≡◌, refl, sym, ap, ◌∙◌}
use mathlib.Core.Bool.{Bool, true, false, cond}
use mathlib.Core.List.{List, ◌++◌}
use Prim.Native.Nat.{ℕ, ◌≤◌}
use native.Mathlib.Omega.{arith}
use borrow.Author.Tests.{leb-true}
use lib.Dec.{leb}
use lib.ListN.{length, take, drop}
use lib.Seq.{take-append_seam}
use Rattle.model.specs.declared.Verdict.TheVariants.{Accepted, Refused}
use Rattle.model.specs.Lists.{Answer, accepted, refused}
use Rattle.model.specs.Calls.{Call, refusing, bytes_with}
use Rattle.text.specs.Words.{refusal_line}
use Rattle.uppaal.specs.UppaalCall.{uppaal_in, uppaal_call}
use Rattle.uppaal_printer.specs.PrintedText.{text_or, printed_text}

module _ (bs lent : List ℕ) where
  abbrev laid_if : List ℕ → Bool → Call
  laid_if text t = cond t (record { verdict = Accepted; size = length text; lent = text ++ drop (length text) lent }) (refusing 13 255 lent)

  -- no more is written than there is room for
  pub size_fits : (uppaal_call bs lent).size ≤ length lent
  unfolding uppaal_call
  size_fits = go (uppaal_in bs)
    where
      fitting : (text : List ℕ) (t : Bool) → leb (length text) (length lent) ≡ t → (laid_if text t).size ≤ length lent
      fitting text true q = leb-true (length text) (length lent) q
      fitting text false q = omega arith

      go : (a : Answer (List ℕ)) → (bytes_with lent a).size ≤ length lent
      go (accepted text) = fitting text (leb (length text) (length lent)) refl
      go (refused n c) = omega arith

  -- accepted: what was written is what is printed
  pub printed-text : (uppaal_call bs lent).verdict ≡ Accepted → take (uppaal_call bs lent).size (uppaal_call bs lent).lent ≡ printed_text (length lent) bs
  unfolding uppaal_call printed_text
  printed-text = go (uppaal_in bs)
    where
      fitting : (text : List ℕ) (t : Bool) → (laid_if text t).verdict ≡ Accepted → take (laid_if text t).size (laid_if text t).lent ≡ cond t text (refusal_line 13 255)
      fitting text true e = take-append_seam text (drop (length text) lent)
      fitting text false e = let z : ◌≡◌ {A = ℕ} 0 1 = cc in absurd (omega arith)

      go : (a : Answer (List ℕ)) → (bytes_with lent a).verdict ≡ Accepted → take (bytes_with lent a).size (bytes_with lent a).lent ≡ text_or (length lent) a
      go (accepted text) e = fitting text (leb (length text) (length lent)) e
      go (refused n c) e = let z : ◌≡◌ {A = ℕ} 0 1 = cc in absurd (omega arith)

  -- refused
  pub printed_refusal : (n c : ℕ) → (uppaal_call bs lent).verdict ≡ Refused n c → refusal_line n c ≡ printed_text (length lent) bs
  unfolding uppaal_call printed_text
  printed_refusal n c = go (uppaal_in bs)
    where
      fitting : (text : List ℕ) (t : Bool) → (laid_if text t).verdict ≡ Refused n c → refusal_line n c ≡ cond t text (refusal_line 13 255)
      fitting text true e = let z : ◌≡◌ {A = ℕ} 0 1 = cc in absurd (omega arith)
      fitting text false e = let x : 13 ≡ n = cc in let y : 255 ≡ c = cc in rw (← x, ← y)

      go : (a : Answer (List ℕ)) → (bytes_with lent a).verdict ≡ Refused n c → refusal_line n c ≡ text_or (length lent) a
      go (accepted text) e = fitting text (leb (length text) (length lent)) e
      go (refused m d) e = let x : m ≡ n = cc in let y : d ≡ c = cc in rw (x, y)
